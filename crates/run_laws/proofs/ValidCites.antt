-- What valid proofs cite, and whether they add the empty clause.
use Rattle.std.proofs.Common.{◌≡◌, ◌⊎◌, ◌<◌, ℕ, ℤ, zero, suc, Bool, true, false, List, [], ◌∷◌, length, Some, inl, inr, refl, sym, subst}
use Rattle.std.proofs.Common.{◌∙◌, arith, append-nil, eqb, eq-eqb, ne_eqb}
use Rattle.std.specs.Prelude.{IsTrue, ◌||◌, ◌==◌, slice_index_or}
use Rattle.std.specs.List.{AllByRecursion, AllZip, Any, list_any, flat_map}
use Rattle.std.proofs.lemmas.Bool.{cases_eq, cond-false, true≢false}
use Rattle.std.proofs.Math.Dec.{eqb-suc-zero}
use Rattle.lrup_model.specs.Clause.{Clause}
use Rattle.lrup_model.specs.Distinct.{distinct}
use Rattle.lrup_model.specs.Formula.{Cnf}
use Rattle.lrup_model.specs.lemmas.HistoryLemmas.{formula_owned, one_owner}
use Rattle.lrup_model.specs.Layout.{LayoutValue, Owns, owner}
use Rattle.lrup_model.specs.declared.layout.Owner.TheVariants as owners
use Rattle.lrup_text.specs.Laws.{EmptyCut}
use Rattle.lrup_text.specs.Lines.{StreamLine, Addition, Deletion, Import, line_text}
use Rattle.stream_check.specs.Laws.{cited_by}
use Rattle.stream_check.specs.StreamContext.{additions_of, is_among}
use Rattle.stream_check.specs.Closed.{IsOwnedWithin}
use Rattle.run_laws.specs.Groups.{one}
use Rattle.run_laws.specs.Valid.{Database, first_database, after_line, AddsEmpty}
use Rattle.run_laws.specs.ValidLaws.{ValidCiteWithin, ValidEmpty}
use Rattle.run_laws.proofs.ValidLines.{AreValid, alone_valid, left}
use Rattle.run_laws.proofs.ValidLemmas.{is_first}

-- What is cited

-- each clause of the database has an identity of the formula or of the stream
abbrev AreNear : LayoutValue → ℕ → Database → Type 0
AreNear p s base = (id : ℕ) (d : Clause) → base.clauses id ≡ Some d → IsOwnedWithin p (one s) id

owned_near : (p : LayoutValue) (s id : ℕ) → Owns p s id → IsOwnedWithin p (one s) id
owned_near p s id owns t theirs = eq-eqb t s (one_owner p t s id theirs owns)

formulas_near : (p : LayoutValue) (s id : ℕ) → owner p id ≡ owners.Formula → IsOwnedWithin p (one s) id
formulas_near p s id is t theirs = absurd (let no : owners.Formula ≡ owners.Stream t = sym is ∙ theirs in cc)

named_near : (p : LayoutValue) (s : ℕ) (base : Database) (hints : List ℕ) (ds : List Clause) → AreNear p s base
    → AllZip (λ h d. base.clauses h ≡ Some d) hints ds → AllByRecursion (IsOwnedWithin p (one s)) hints
named_near p s base [] [] near named = tt
named_near p s base [] (d ∷ ds) near named = absurd named
named_near p s base (h ∷ hints) [] near named = absurd named
named_near p s base (h ∷ hints) (d ∷ ds) near named = (near h d named.0, named_near p s base hints ds near named.1)

lines_near : (f : Cnf) (p : LayoutValue) (s : ℕ) (lines : List StreamLine) (base : Database) → AreNear p s base → AreValid p s base lines
    → AllByRecursion (λ line. AllByRecursion (IsOwnedWithin p (one s)) (cited_by line)) lines
lines_near f p s [] base near valid = tt
lines_near f p s (Addition id lits hints ∷ lines) base near valid = (
  named_near p s base hints valid.0.clauses near valid.0.named,
  lines_near f p s lines (after_line base (Addition id lits hints))
      (λ j d is. elim (cases_eq j id) [
        | inl same ↦ owned_near p s j (subst (Owns p s) (sym same) valid.0.owns)
        | inr other ↦ near j d (sym (cond-false (eqb j id) (Some (distinct lits)) (base.clauses j) (ne_eqb j id other)) ∙ is)
      ]) valid.1,
)
lines_near f p s (Deletion lead ids ∷ lines) base near valid = (
  tt,
  lines_near f p s lines (after_line base (Deletion lead ids)) (λ j d is. near j d (left (is_among ids j) (base.clauses j) d is).1) valid.1,
)
lines_near f p s (Import id lits ∷ lines) base near valid =
    ((near id valid.0.clause valid.0.named.0, tt), lines_near f p s lines base near valid.1)

pub valid_cite_within : EmptyCut → ValidCiteWithin
valid_cite_within empty_cut f p s bytes lines fits valid = record {
  lines = lines;
  rest = [];
  cut = record { bytes = valid.text ∙ sym (append-nil (flat_map line_text lines)); each = valid.fits; last = empty_cut.last };
  within = lines_near f p s lines (first_database f p)
      (λ id d is. let at = is_first f p id d is in formulas_near p s id
      (formula_owned p id at.positive (omega (arith, at.within, fits.clauses))))
      (alone_valid p s lines (λ t. first_database f p) valid.valid);
}

-- The empty clause

some_here : {X : Type 0} (P : X → Type 0) (x : X) (xs : List X) → P x → Any P (x ∷ xs)
some_here P x xs holds = (0, x, omega arith, refl, holds)

some_later : {X : Type 0} (P : X → Type 0) (x : X) (xs : List X) → Any P xs → Any P (x ∷ xs)
some_later P x xs some = (suc some.0, some.1, omega (arith, some.2), some.3, some.4)

some_of : {X : Type 0} (P : X → Type 0) (x : X) (xs : List X) (k : ℕ) (y : X) → k < suc (length xs) → slice_index_or (x ∷ xs) k y ≡ y → P y
    → P x ⊎ Any P xs
some_of P x xs zero y within at holds = inl (subst P (sym at) holds)
some_of P x xs (suc k) y within at holds = inr (k, y, omega (arith, within), at, holds)

none_of : {X : Type 0} (P : X → Type 0) → Any P [] → ⊥
none_of P some = omega (arith, some.2)

is_empty : (lits : List ℤ) → IsTrue (length (distinct lits) == 0) → lits ≡ []
is_empty [] test = refl
is_empty (l ∷ lits) test = absurd (true≢false (sym test ∙ eqb-suc-zero _))

are_empty : (lits : List ℤ) → lits ≡ [] → IsTrue (length (distinct lits) == 0)
are_empty lits is = subst (λ (ls : List ℤ). IsTrue (length (distinct ls) == 0)) (sym is) refl

or_cases : (a b : Bool) → IsTrue (a || b) → IsTrue a ⊎ IsTrue b
or_cases true b is = inl refl
or_cases false b is = inr is

or_left : (a b : Bool) → IsTrue a → IsTrue (a || b)
or_left true b is = refl
or_left false b is = absurd (true≢false (sym is))

or_right : (a b : Bool) → IsTrue b → IsTrue (a || b)
or_right true b is = refl
or_right false b is = is

abbrev HasEmpty : List StreamLine → Type 0
HasEmpty lines = IsTrue (list_any (λ addition. length addition.1 == 0) (additions_of lines))

to_some : (lines : List StreamLine) → HasEmpty lines → Any AddsEmpty lines
to_some [] test = absurd (true≢false (sym test))
to_some (Addition id lits hints ∷ lines) test =
    elim (or_cases (length (distinct lits) == 0) (list_any (λ addition. length addition.1 == 0) (additions_of lines)) test) [
      | inl here ↦ some_here AddsEmpty (Addition id lits hints) lines (is_empty lits here)
      | inr later ↦ some_later AddsEmpty (Addition id lits hints) lines (to_some lines later)
    ]
to_some (Deletion lead ids ∷ lines) test = some_later AddsEmpty (Deletion lead ids) lines (to_some lines test)
to_some (Import id lits ∷ lines) test = some_later AddsEmpty (Import id lits) lines (to_some lines test)

from_some : (lines : List StreamLine) → Any AddsEmpty lines → HasEmpty lines
from_some [] some = absurd (none_of AddsEmpty some)
from_some (Addition id lits hints ∷ lines) some =
    elim (some_of AddsEmpty (Addition id lits hints) lines some.0 some.1 some.2 some.3 some.4) [
      | inl here ↦
          or_left (length (distinct lits) == 0) (list_any (λ addition. length addition.1 == 0) (additions_of lines)) (are_empty lits here)
      | inr later ↦ or_right (length (distinct lits) == 0) (list_any (λ addition. length addition.1 == 0) (additions_of lines))
          (from_some lines later)
    ]
from_some (Deletion lead ids ∷ lines) some = elim (some_of AddsEmpty (Deletion lead ids) lines some.0 some.1 some.2 some.3 some.4) [
  | inl here ↦ absurd here
  | inr later ↦ from_some lines later
]
from_some (Import id lits ∷ lines) some = elim (some_of AddsEmpty (Import id lits) lines some.0 some.1 some.2 some.3 some.4) [
  | inl here ↦ absurd here
  | inr later ↦ from_some lines later
]

pub valid_empty : ValidEmpty
valid_empty run_params s lines = (to_some lines, from_some lines)
