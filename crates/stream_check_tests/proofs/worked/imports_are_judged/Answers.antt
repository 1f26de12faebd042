use Rattle.std.proofs.Common.{◌≡◌, [], ◌∷◌, pos, negsuc, inl, inr, refl, arith}
use Rattle.test_support.specs.Worked.{first}
use Rattle.stream_check_tests.proofs.WorkedLemmas.{first_looked, one_is_the_formulas, six_is_anothers, six_looked}
use Rattle.stream_check_tests.specs.Worked.{first_found}
use Rattle.test_support.specs.lemmas.WorkedLemmas.{same_first}
use Rattle.stream_check_tests.proofs.worked.imports_are_judged.Goals as goal

pub returns-clause-good : goal.returns-clause-good
returns-clause-good c = record {
  identity = one_is_the_formulas.0;
  other = one_is_the_formulas.1;
  literals = (omega arith, (omega arith, (omega arith, tt)));
  clause = first;
  named = (first_found ∷ [], [], refl, first_looked, refl);
  same = same_first;
}

-- the import lacks the literal 1
pub returns-clause-differs : goal.returns-clause-differs
returns-clause-differs c = (
  refl,
  inr (
    one_is_the_formulas,
    inr (
      (omega arith, tt),
      inr (
        first,
        first_looked,
        (λ same. elim ((same (pos 1)).0 (inl refl)) [ inl e ↦ let f : pos 2 ≡ pos 1 = e in cc | inr none ↦ none ]),
        refl,
      ),
    ),
  ),
)

-- the import lacks the literal 2
pub returns-clause-tautology : goal.returns-clause-tautology
returns-clause-tautology c = (
  refl,
  inr (
    one_is_the_formulas,
    inr (
      (omega arith, (omega arith, tt)),
      inr (
        first,
        first_looked,
        (λ same. elim ((same (pos 2)).0 (inr (inl refl))) [
          | inl e ↦ let f : pos 1 ≡ pos 2 = e in cc
          | inr more ↦ elim more [ inl e ↦ let f : negsuc 0 ≡ pos 2 = e in cc | inr none ↦ none ]
        ]),
        refl,
      ),
    ),
  ),
)

pub returns-clause-missing : goal.returns-clause-missing
returns-clause-missing c = (refl, inr (six_is_anothers, inr ((omega arith, tt), inl six_looked)))
