-- Lemmas about the passes of a store when it is opened.
use Rattle.std.proofs.Common.{◌≡◌, ℕ, ◌+◌, ◌-◌, ◌<◌, zero, suc, List, [], ◌∷◌, length, map, Some, slice_get, refl, sym, ap, subst, ◌∙◌}
use Rattle.std.proofs.Common.{arith}
use Rattle.std.proofs.lemmas.Option.{slice_get_within}
use Rattle.lrup_model.specs.Formula.{Cnf}
use Rattle.lrup_model.specs.Layout.{LayoutValue, IsStream, row_words}
use Rattle.lrup_model.specs.Pass.{IsFair}
use Rattle.idwords.specs.declared.row.Row.{Row}
use Rattle.idwords.specs.Seats.{SeatValue, opening_seat}
use Rattle.idwords.specs.Spelling.{LieWithin, spelling_of}
use Rattle.clause_store.specs.Passes.{StoreValue, PassValue, store_of, IsOpened, AreOf}
use Rattle.clause_store.specs.internal.AtRest.{IsAtRest, pass_value}

pub slice_get-map : {A B : Type 0} (f : A → B) (xs : List A) (k : ℕ) (x : A) → slice_get xs k ≡ Some x → slice_get (map f xs) k ≡ Some (f x)
slice_get-map f [] k x here = absurd (cc)
slice_get-map f (y ∷ xs) zero x here = let same : y ≡ x = cc in ap (λ z. Some (f z)) same
slice_get-map f (y ∷ xs) (suc k) x here = slice_get-map f xs k x here

one_pass : (a b : PassValue) → Some a ≡ Some b → a ≡ b
one_pass a b same = cc

one_seat : (a b : SeatValue) → Some a ≡ Some b → a ≡ b
one_seat a b same = cc

-- if each seat's pass belongs to the store, all passes belong to the store
are_of : (store : StoreValue) (seats : List SeatValue)
    → ((k : ℕ) (seat : SeatValue) → slice_get seats k ≡ Some seat → store_of (pass_value seat) ≡ store) → AreOf store (map pass_value seats)
are_of store [] each = tt
are_of store (seat ∷ seats) each = (each 0 seat refl, are_of store seats (λ k other here. each (suc k) other here))

-- the seats that the row gives out at the opening
module _ (row : Row) (f : Cnf) (p : LayoutValue) (seats : List SeatValue) (count : length seats ≡ p.streams)
    (given : (s : ℕ) → IsStream p s → slice_get seats (s - 1) ≡ Some (opening_seat row f p s)) where
  -- the seat at index k is the opening seat of stream k + 1
  seat_at : (k : ℕ) (seat : SeatValue) → slice_get seats k ≡ Some seat → IsStream p (k + 1) × (seat ≡ opening_seat row f p (k + 1))
  seat_at k seat here =
      let below : k < length seats = slice_get_within seats k seat here in
      let stream : IsStream p (k + 1) = (omega arith, omega arith) in
      let same : k + 1 - 1 ≡ k = omega arith in (
        stream,
        one_seat seat (opening_seat row f p (k + 1)) (sym here ∙ ap (λ (n : ℕ). slice_get seats n) (sym same) ∙ given (k + 1) stream),
      )

  pub at_rest : ((s : ℕ) → IsStream p s → IsFair (opening_seat row f p s).view) → LieWithin (row_words p) (spelling_of f p [])
      → (k : ℕ) (seat : SeatValue) → slice_get seats k ≡ Some seat → IsAtRest seat (k + 1)
  at_rest fair within k seat here =
      let at = seat_at k seat here in
      let rest : IsAtRest (opening_seat row f p (k + 1)) (k + 1) = record {
        fair = fair (k + 1) at.0;
        stream_is = refl;
        draft = refl;
        within = within;
      } in
      subst (λ (s : SeatValue). IsAtRest s (k + 1)) (sym at.1) rest

  pub opened_pass : ((s : ℕ) → IsStream p s → IsFair (opening_seat row f p s).view) → (s : ℕ) (pass : PassValue) → IsStream p s
      → slice_get (map pass_value seats) (s - 1) ≡ Some pass → IsOpened (record { row = row; layout = p }) f s pass
  opened_pass fair s pass stream here =
      let own : PassValue = pass_value (opening_seat row f p s) in
      let opened : IsOpened (record { row = row; layout = p }) f s own =
      record { store = refl; caller = refl; seen = refl; mine = refl; fair = fair s stream } in
      let there : Some own ≡ Some pass = sym (slice_get-map pass_value seats (s - 1) (opening_seat row f p s) (given s stream)) ∙ here in
      subst (λ (q : PassValue). IsOpened (record { row = row; layout = p }) f s q) (one_pass own pass there) opened

  pub opened_passes : AreOf (record { row = row; layout = p }) (map pass_value seats)
  opened_passes = are_of (record { row = row; layout = p }) seats
      (λ k seat here. ap (λ (s : SeatValue). store_of (pass_value s)) (seat_at k seat here).1)
