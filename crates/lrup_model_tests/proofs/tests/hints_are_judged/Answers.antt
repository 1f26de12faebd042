use Rattle.std.proofs.Common.{◌≡◌, ℤ, pos, negsuc, neg_ℤ, nat_abs, [], ◌∷◌, refl, sym, ap, ◌∙◌, inl, inr, arith}
use Rattle.lrup_model.specs.Propagation.{IsUnit}
use Rattle.test_support.specs.Worked.{second, third, unit}
use Rattle.test_support.specs.lemmas.WorkedLemmas.{two_not_one, signs, unit_is_proper, first_is_unit, second_is_conflict, swapped}
use Rattle.lrup_model_tests.proofs.tests.hints_are_judged.Goals as goal

minus_two_not_minus_one : negsuc 1 ≡ negsuc 0 → ⊥
minus_two_not_minus_one e = let same : 2 ≡ 1 = ap nat_abs e in omega (arith, same)

unit_is_unit : IsUnit [] unit (pos 2)
unit_is_unit = record {
  here = inl refl;
  not_false = λ h. h;
  not_true = λ h. h;
  others = λ k h. elim h [ inl e ↦ inl (sym e) | inr none ↦ absurd none ];
}

third_is_unit : IsUnit (negsuc 1 ∷ []) third (pos 1)
third_is_unit = record {
  here = inl refl;
  not_false = λ h. elim h [ inl e ↦ signs 1 1 (sym e) | inr none ↦ none ];
  not_true = λ h. elim h [ inl e ↦ minus_two_not_minus_one e | inr none ↦ none ];
  others = λ k h. elim h [ inl e ↦ inl (sym e) | inr there ↦ inr there ];
}

pub returns-clause-shown : goal.returns-clause-shown
returns-clause-shown c = (unit_is_proper, (pos 1, first_is_unit, second_is_conflict))

pub returns-clause-empty : goal.returns-clause-empty
returns-clause-empty c = (λ t. t.1, (pos 2, unit_is_unit, (pos 1, third_is_unit, swapped (negsuc 0) (negsuc 1))))

pub returns-clause-not_unit : goal.returns-clause-not_unit
returns-clause-not_unit c =
    λ accepts.
    let left : ℤ = accepts.1.0 in
    let is : IsUnit unit second left = accepts.1.1 in
    elim is.here [
      | inl e ↦ elim (accepts.1.2 (negsuc 1) (inr (inl refl))) [
        | inl f ↦ signs 2 1 f
        | inr there ↦ elim there [
          | inl f ↦ signs 1 1 (ap neg_ℤ e ∙ f)
          | inr none ↦ none
        ]
      ]
      | inr there ↦ is.not_false there
    ]

pub returns-clause-no_conflict : goal.returns-clause-no_conflict
returns-clause-no_conflict c = λ accepts. elim (accepts.1 (pos 1) (inl refl)) [ inl e ↦ two_not_one e | inr none ↦ none ]

pub returns-clause-tautology : goal.returns-clause-tautology
returns-clause-tautology c = λ accepts. accepts.0 (pos 1, inl refl, inr (inl refl))
