-- Lemmas about the literals of a clip that a pass knows.
use Rattle.std.proofs.Common.{◌≡◌, ℕ, ℤ, ◌+◌, ◌*◌, ◌/◌, ◌%◌, ◌<◌, zero, suc, [], ◌∷◌, length, Option, None, Some, slice_get, refl, sym, ap}
use Rattle.std.proofs.Common.{subst, ◌∙◌, arith}
use Rattle.std.specs.List.{AllByRecursion}
use Rattle.lrup_model.specs.Literal.{IsLiteral, IsCode, code_of, max_variable}
use Rattle.lrup_model.specs.lemmas.CodeLemmas.{IsCode-code_of, code_of-injective}
use Rattle.lrup_model.specs.Clause.{Clause}
use Rattle.lrup_model.specs.Layout.{row_words}
use Rattle.lrup_model.specs.CallerView.{ClipValue, StoredClause, IsKnown, clip_clause}
use Rattle.lrup_model.specs.Pass.{View, IsFair, stored_in, pass_caller_view}
use Rattle.lrup_model.specs.lemmas.PassLemmas.{fair_follows}
use Rattle.idwords.specs.Words.{start_of, word_state, half_of, ShowsStored}
use Rattle.idwords.specs.Seats.{SeatValue}
use Rattle.idwords.specs.Spelling.{LieWithin}
use Rattle.idwords.specs.RowCalls.{IsText}
use Rattle.clause_store.specs.Passes.{PassValue}
use Rattle.clause_store.specs.internal.AtRest.{IsAtRest, pass_value}

-- the start that an identity's word shows is below 2^32
start_shown : (v : View) (id word : ℕ) (o : Option StoredClause) → stored_in v.spelt id ≡ o → ShowsStored o word → 0 < word_state word
    → LieWithin (row_words v.caller.layout) v.spelt → IsFair v → start_of word < 4294967296
start_shown v id word None here shows some within fair = absurd (omega arith)
start_shown v id word (Some stored) here shows some within fair = omega (arith, within id stored here, shows.3, fair.caller.layout.row)

pub start_read : (v : View) (id word : ℕ) → ShowsStored (stored_in v.spelt id) word → 0 < word_state word
    → LieWithin (row_words v.caller.layout) v.spelt → IsFair v → start_of word < 4294967296
start_read v id word shows some within fair = start_shown v id word (stored_in v.spelt id) refl shows some within fair

-- a clause has a literal at each index below its length
literal_at : (vars : ℕ) (c : Clause) (k : ℕ) → k < length c → AllByRecursion (IsLiteral vars) c
    → (l : ℤ) × (slice_get c k ≡ Some l) × IsLiteral vars l
literal_at vars [] k below all = absurd (omega arith)
literal_at vars (x ∷ c) zero below all = (x, refl, all.0)
literal_at vars (x ∷ c) (suc k) below all = literal_at vars c k (omega arith) all.1

module _ (v : View) (clip : ClipValue) (k place : ℕ) (known : IsKnown (pass_caller_view v) clip) (below : k < clip.len)
    (lies : place ≡ clip.start + k / 2) where
  abbrev stored : StoredClause
  stored = record { start = clip.start; literals = clip_clause (pass_caller_view v) clip }

  -- the index is inside the row
  place_within : LieWithin (row_words v.caller.layout) v.spelt → place < row_words v.caller.layout
  place_within within = omega (arith, within clip.id stored known.stored, known.len, lies)

  -- the clause has a literal k, and half k % 2 of the word at index `place` is this literal's code
  literal_of : IsFair v → (word : ℕ) → IsText v.spelt place word
      → (l : ℤ) × (slice_get (clip_clause (pass_caller_view v) clip) k ≡ Some l) × (half_of (k % 2) word ≡ code_of l)
      × IsCode max_variable (half_of (k % 2) word)
  literal_of fair word text =
      let derived = (fair_follows v fair).each clip.id stored known.stored in
      let at = literal_at v.caller.formula.vars (clip_clause (pass_caller_view v) clip) k (omega (arith, known.len)) derived.0.literals in
      let is : half_of (k % 2) word ≡ code_of at.0 = text clip.id k stored at.0 known.stored at.1 lies in
      let code = IsCode-code_of max_variable at.0 (at.2.0, omega (arith, at.2.1, fair.caller.formula.vars)) in
      (at.0, at.1, is, (omega (arith, code.0), omega (arith, code.1)))

  -- a literal whose code is in half k % 2 of this word is literal k of the clause
  literal_is : IsFair v → (word : ℕ) (l : ℤ) → IsText v.spelt place word → code_of l ≡ half_of (k % 2) word
      → slice_get (clip_clause (pass_caller_view v) clip) k ≡ Some l
  literal_is fair word l text code =
      let one = literal_of fair word text in
      one.1 ∙ ap Some (code_of-injective one.0 l (sym one.2 ∙ sym code))

-- a pass whose seat is at rest finds literal k in the word that `Store::literal` reads
module _ (seat : SeatValue) (stream : ℕ) (p : PassValue) (clip : ClipValue) (k place : ℕ) (rests : IsAtRest seat stream)
    (same : pass_value seat ≡ p)
    (known : IsKnown (pass_caller_view p.view) clip) (lies : place ≡ clip.start + k / 2) (below : k < clip.len) where
  abbrev here : seat.view ≡ p.view
  here = ap (λ (q : PassValue). q.view) same

  abbrev known_here : IsKnown (pass_caller_view seat.view) clip
  known_here = subst (λ (v : View). IsKnown (pass_caller_view v) clip) (sym here) known

  pub place_read : place < row_words seat.view.caller.layout
  place_read = place_within seat.view clip k place known_here below lies rests.within

  pub code_read : (word : ℕ) → IsText seat.view.spelt place word → IsCode max_variable (half_of (k % 2) word)
  code_read word text = (literal_of seat.view clip k place known_here below lies rests.fair word text).3

  pub literal_read : (word : ℕ) (l : ℤ) → IsText seat.view.spelt place word → code_of l ≡ half_of (k % 2) word
      → slice_get (clip_clause (pass_caller_view p.view) clip) k ≡ Some l
  literal_read word l text code =
      subst (λ (v : View). slice_get (clip_clause (pass_caller_view v) clip) k ≡ Some l) here
      (literal_is seat.view clip k place known_here below lies rests.fair word l text code)

-- a pass whose seat is at rest finds literal `2 * i + half` in this half of word `i`, which
-- `Store::pair` reads
module _ (seat : SeatValue) (stream : ℕ) (p : PassValue) (clip : ClipValue) (i half place : ℕ) (rests : IsAtRest seat stream)
    (same : pass_value seat ≡ p)
    (known : IsKnown (pass_caller_view p.view) clip) (lies : place ≡ clip.start + i) (is_half : half < 2)
    (below : 2 * i + half < clip.len) where
  abbrev in_word : place ≡ clip.start + (2 * i + half) / 2
  in_word = omega (arith, lies, is_half)

  abbrev in_half : (2 * i + half) % 2 ≡ half
  in_half = omega (arith, is_half)

  pub pair_place : place < row_words seat.view.caller.layout
  pair_place = place_read seat stream p clip (2 * i + half) place rests same known in_word below

  pub pair_code : (word : ℕ) → IsText seat.view.spelt place word → IsCode max_variable (half_of half word)
  pair_code word text =
      subst (λ h. IsCode max_variable (half_of h word)) in_half
      (code_read seat stream p clip (2 * i + half) place rests same known in_word below word text)

  pub pair_literal : (word : ℕ) (l : ℤ) → IsText seat.view.spelt place word → code_of l ≡ half_of half word
      → slice_get (clip_clause (pass_caller_view p.view) clip) (2 * i + half) ≡ Some l
  pair_literal word l text code =
      literal_read seat stream p clip (2 * i + half) place rests same known in_word below word l text
      (subst (λ h. code_of l ≡ half_of h word) (sym in_half) code)
