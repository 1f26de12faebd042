-- Lemmas for the worked example.
use Rattle.std.proofs.Common.{◌≡◌, ℕ, [], ◌∷◌, List, Ok, Err, refl, inr, arith}
use Rattle.lrup_model.specs.Event.{History, vacant, live}
use Rattle.lrup_model.specs.Layout.{IsIdentity, Owns}
use Rattle.lrup_model.specs.declared.layout.Owner.TheVariants as owners
use Rattle.test_support.specs.Worked.{first, second, unit}
use Rattle.test_support.specs.lemmas.WorkedLemmas.{unit_is_proper}
use Rattle.lrup_text.specs.Lines.{Addition}
use Rattle.stream_check.specs.declared.fault.Fault.{Fault}
use Rattle.stream_check.specs.declared.fault.Fault.TheVariants as faults
use Rattle.stream_check.specs.Verdicts.{Bad}
use Rattle.stream_check.specs.Lookup.{LooksUp}
use Rattle.stream_check.specs.Additions.{FailsHints}
use Rattle.stream_check.specs.Judging.{JudgesLine}
use Rattle.stream_check_tests.specs.Worked.{two_streams, first_stream, at_start, first_found, second_found, six_vacant}

-- look-ups that find the first two clauses, and one that finds nothing
pub first_looked : LooksUp first_stream at_start.is_dropped 1 (first_found ∷ []) (Ok first)
first_looked = inr (refl, live first, refl, refl)

pub second_looked : LooksUp first_stream at_start.is_dropped 2 (second_found ∷ []) (Ok second)
second_looked = inr (refl, live second, refl, refl)

pub six_looked : LooksUp first_stream at_start.is_dropped 6 (six_vacant ∷ six_vacant ∷ []) (Err (faults.Missing 6))
six_looked = inr (refl, vacant, (1, omega arith, (λ last. refl), refl), refl)

-- the unit clause under 5 violates no condition that is tested before its hints
pub unit_fails : (hints : List ℕ) (es : History) (fault : Fault) → FailsHints first_stream at_start.is_dropped unit hints es fault
    → JudgesLine first_stream at_start (Addition 5 unit hints) es (Bad 0 fault)
unit_fails hints es fault fails =
    (refl, inr ((refl, omega arith), inr ((omega arith, tt), inr (unit_is_proper, inr (omega arith, fails)))))

-- stream 1 may import the formula's clause 1, and the clause that stream 2 may add under 6
pub one_is_the_formulas : IsIdentity two_streams 1 × (Owns two_streams 1 1 → ⊥)
one_is_the_formulas = ((omega arith, omega arith), (λ owns. let no : owners.Formula ≡ owners.Stream 1 = owns in cc))

pub six_is_anothers : IsIdentity two_streams 6 × (Owns two_streams 1 6 → ⊥)
six_is_anothers = ((omega arith, omega arith), (λ owns. let no : owners.Stream 2 ≡ owners.Stream 1 = owns in cc))
