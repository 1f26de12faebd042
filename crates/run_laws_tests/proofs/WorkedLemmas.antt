-- Lemmas for the worked example.
use Rattle.std.proofs.Common.{◌≡◌, ◌<◌, ℕ, zero, suc, pos, negsuc, List, [], ◌∷◌, ◌++◌, append_assoc, Some, refl, sym, ap, ◌∙◌, subst, inl}
use Rattle.std.proofs.Common.{inr, arith}
use Rattle.std.specs.Prelude.{neg_ℤ, codes, slice_index_or}
use Rattle.std.specs.Fmt.{digits}
use Rattle.std.specs.List.{AllByRecursion, AllZip, Any, flat_map}
use Rattle.lrup_model.specs.Clause.{Clause, Has, IsTautology}
use Rattle.lrup_model.specs.Propagation.{Accepts, IsConflict, IsUnit}
use Rattle.lrup_text.specs.Laws.{EmptyPending, OneFirstLine}
use Rattle.lrup_text.specs.Lines.{StreamLine, Addition, IsWithinLimits, line_text}
use Rattle.stream_check.specs.Imports.{IsValidImport}
use Rattle.run_laws.specs.Valid.{AddsEmpty, IsValidRefutation, IsValidProof}
use Rattle.run_laws.specs.Together.{IsValidOrder}
use Rattle.lrup_model.specs.Layout.{Owns}
use Rattle.lrup_model.specs.declared.layout.Owner.TheVariants as owners
use Rattle.run_laws_tests.specs.Worked.{at_first, one_stream, two_streams, refutation, shared}
use Rattle.test_support.specs.Worked.{four, first, second, third, fourth, unit}
use Rattle.test_support.specs.lemmas.WorkedLemmas.{two_not_one, signs, unit_is_proper, unit_fits, empty_fits, swapped}
use Rattle.test_support.specs.lemmas.WorkedLemmas.{unit_is_shown, empty_is_shown, third_is_unit, fourth_is_conflict}

-- The hints in reverse order

second_is_unit : IsUnit unit second (negsuc 0)
second_is_unit = record {
  here = inl refl;
  not_false = λ h. elim h [ inl e ↦ signs 2 0 e | inr none ↦ none ];
  not_true = λ h. elim h [ inl e ↦ two_not_one e | inr none ↦ none ];
  others = λ k h. elim h [ inl e ↦ inl (sym e) | inr there ↦ inr there ];
}

first_is_conflict : IsConflict (pos 2 ∷ pos 1 ∷ []) first
first_is_conflict = swapped (pos 1) (pos 2)

pub unit_is_shown_swapped : Accepts unit (second ∷ first ∷ [])
unit_is_shown_swapped = (unit_is_proper, (negsuc 0, second_is_unit, first_is_conflict))

-- The negative unit clause

pub negated_is_proper : IsTautology (negsuc 1 ∷ []) → ⊥
negated_is_proper t = elim t.1 [
  | inl here ↦ elim t.2 [ inl beside ↦ signs 2 1 (ap neg_ℤ here ∙ sym beside) | inr none ↦ none ]
  | inr none ↦ none
]

pub negated_is_shown : Accepts (negsuc 1 ∷ []) (third ∷ fourth ∷ [])
negated_is_shown = (negated_is_proper, (pos 1, third_is_unit, fourth_is_conflict))

-- Lines that aren't valid

pub one_is_no_conflict : (ds : List Clause) → AllZip (λ h d. at_first.clauses h ≡ Some d) (1 ∷ []) ds → Accepts unit ds → ⊥
one_is_no_conflict [] named shown = named
one_is_no_conflict (d ∷ []) named shown =
    let same : first ≡ d = let is : Some first ≡ Some d = named.0 in cc in
    let has : Has unit (pos 1) = shown.1 (pos 1) (subst (λ (x : Clause). Has x (pos 1)) same (inl refl)) in
    elim has [ inl e ↦ two_not_one e | inr none ↦ none ]
one_is_no_conflict (d ∷ e ∷ ds) named shown = named.1

pub unit_differs : IsValidImport one_stream 1 (AllZip (λ h d. at_first.clauses h ≡ Some d)) 1 unit → ⊥
unit_differs valid =
    let same : first ≡ valid.clause = let is : Some first ≡ Some valid.clause = valid.named.0 in cc in
    let has : Has unit (pos 1) = (valid.same (pos 1)).0 (subst (λ (x : Clause). Has x (pos 1)) same (inl refl)) in
    elim has [ inl e ↦ two_not_one e | inr none ↦ none ]

-- the formula has identity 1, so stream 1 doesn't own it
pub one_is_the_formulas : Owns one_stream 1 1 → ⊥
one_is_the_formulas owns = let no : owners.Formula ≡ owners.Stream 1 = owns in cc

pub no_minus_one : IsValidImport one_stream 1 (AllZip (λ h d. at_first.clauses h ≡ Some d)) 1 (pos 1 ∷ pos 2 ∷ negsuc 0 ∷ []) → ⊥
no_minus_one valid =
    let same : first ≡ valid.clause = let is : Some first ≡ Some valid.clause = valid.named.0 in cc in
    let has : Has first (negsuc 0) =
    subst (λ (x : Clause). Has x (negsuc 0)) (sym same) ((valid.same (negsuc 0)).1 (inr (inr (inl refl)))) in
    elim has [ inl e ↦ signs 1 0 e | inr more ↦ elim more [ inl e ↦ signs 2 0 e | inr none ↦ none ] ]

-- the first line of the refutation doesn't add the empty clause
pub adds_no_empty : (k : ℕ) (line : StreamLine) → k < 1 → slice_index_or (Addition 5 unit (1 ∷ 2 ∷ []) ∷ []) k line ≡ line
    → AddsEmpty line → ⊥
adds_no_empty zero line within at empty = let none : unit ≡ [] = subst AddsEmpty (sym at) empty in cc
adds_no_empty (suc k) line within at empty = omega (arith, within)

-- Whole streams

pub refutation_is_valid : IsValidProof four one_stream 1 (codes "5 2 0 1 2 0\n6 0 5 3 4 0\n") refutation
unfolding digits
refutation_is_valid = record {
  text = refl;
  fits = (unit_fits 5 (omega arith, omega arith), (empty_fits 6 (omega arith, omega arith), tt));
  valid = (
    record {
      owns = refl;
      above = omega arith;
      literals = (omega arith, tt);
      room = omega arith;
      clauses = first ∷ second ∷ [];
      named = (refl, (refl, tt));
      shown = unit_is_shown;
    },
    (
      record {
        owns = refl;
        above = omega arith;
        literals = tt;
        room = omega arith;
        clauses = unit ∷ third ∷ fourth ∷ [];
        named = (refl, (refl, (refl, tt)));
        shown = empty_is_shown;
      },
      tt,
    ),
  );
}

-- the refutation is valid, whatever comes after it
pub begins_and_refutes : (more : List ℕ) → IsValidRefutation four one_stream 1 (codes "5 2 0 1 2 0\n6 0 5 3 4 0\n" ++ more)
begins_and_refutes more = record {
  proof = codes "5 2 0 1 2 0\n6 0 5 3 4 0\n";
  more = more;
  begins = refl;
  lines = refutation;
  valid = refutation_is_valid;
  empty = (1, Addition 6 [] (5 ∷ 3 ∷ 4 ∷ []), omega arith, refl, refl);
}

-- if the text of the first line begins with whole lines, none of these adds the empty clause
pub no_empty_begins : OneFirstLine → EmptyPending → (lines : List StreamLine) (more : List ℕ) → AllByRecursion IsWithinLimits lines
    → codes "5 2 0 1 2 0\n" ≡ flat_map line_text lines ++ more → Any AddsEmpty lines → ⊥
unfolding digits
no_empty_begins first empty [] more fits is some = omega (arith, some.2)
no_empty_begins first empty (line ∷ []) more fits is some =
    let known = Addition 5 unit (1 ∷ 2 ∷ []) in
    let same = first known line [] (flat_map line_text [] ++ more) (unit_fits 5 (omega arith, omega arith)) fits.0
    (is ∙ append_assoc (line_text line) [] more) in
    let only : Any AddsEmpty (known ∷ []) = subst (λ (l : StreamLine). Any AddsEmpty (l ∷ [])) (sym same.0) some in
    adds_no_empty only.0 only.1 only.2 only.3 only.4
no_empty_begins first empty (line ∷ other ∷ lines) more fits is some =
    let known = Addition 5 unit (1 ∷ 2 ∷ []) in
    let same = first known line [] (flat_map line_text (other ∷ lines) ++ more) (unit_fits 5 (omega arith, omega arith)) fits.0
    (is ∙ append_assoc (line_text line) (flat_map line_text (other ∷ lines)) more) in
    empty.whole other (flat_map line_text lines ++ more) fits.1.0 (same.1 ∙ append_assoc (line_text other) (flat_map line_text lines) more)

five_is_the_first_stream's : Owns two_streams 2 5 → ⊥
five_is_the_first_stream's owns = let no : owners.Stream 1 ≡ owners.Stream 2 = owns in cc

pub shared_is_valid : IsValidOrder four two_streams shared
shared_is_valid = record {
  streams = ((omega arith, omega arith), ((omega arith, omega arith), ((omega arith, omega arith), ((omega arith, omega arith), tt))));
  fits = (
    unit_fits 5 (omega arith, omega arith),
    (
      ((omega arith, omega arith), record { count = omega arith; each = ((omega arith, omega arith), tt) }),
      (
        empty_fits 6 (omega arith, omega arith),
        (((omega arith, omega arith), record { count = omega arith; each = ((omega arith, omega arith), tt) }), tt),
      ),
    ),
  );
  valid = (
    record {
      owns = refl;
      above = omega arith;
      literals = (omega arith, tt);
      room = omega arith;
      clauses = first ∷ second ∷ [];
      named = (refl, (refl, tt));
      shown = unit_is_shown;
    },
    (
      record {
        identity = (omega arith, omega arith);
        other = five_is_the_first_stream's;
        literals = (omega arith, tt);
        clause = unit;
        named = (refl, tt);
        same = λ l. ((λ h. h), (λ h. h));
      },
      (
        record {
          owns = refl;
          above = omega arith;
          literals = tt;
          room = omega arith;
          clauses = unit ∷ third ∷ fourth ∷ [];
          named = (refl, (refl, (refl, tt)));
          shown = empty_is_shown;
        },
        (record { there = (refl, tt); once = (refl, tt) }, tt),
      ),
    ),
  );
}
