-- Lemmas about the example formula, and about hints and lines for it.
use Rattle.std.specs.Prelude.{◌↔◌, ◌≡◌, ℕ, ℤ, pos, negsuc, neg_ℤ, nat_abs, [], ◌∷◌}
use Rattle.std.proofs.Common.{refl, sym, ap, ◌∙◌, inl, inr, arith}
use Rattle.lrup_model.specs.Clause.{Has, IsTautology}
use Rattle.lrup_model.specs.Formula.{IsCnf}
use Rattle.lrup_model.specs.Propagation.{Accepts, IsConflict, IsUnit}
use Rattle.lrup_text.specs.Lines.{Addition, IsStreamNumber, IsWithinLimits}
use Rattle.test_support.specs.Worked.{first, second, third, fourth, four, unit}

pub two_not_one : pos 2 ≡ pos 1 → ⊥
two_not_one e = let same : 2 ≡ 1 = ap nat_abs e in omega (arith, same)

pub signs : (m n : ℕ) → pos m ≡ negsuc n → ⊥
signs m n e = cc

pub unit_is_proper : IsTautology unit → ⊥
unit_is_proper t = elim t.1 [
  | inl here ↦ elim t.2 [ inl beside ↦ signs 2 1 (beside ∙ ap neg_ℤ (sym here)) | inr none ↦ none ]
  | inr none ↦ none
]

pub first_is_unit : IsUnit unit first (pos 1)
first_is_unit = record {
  here = inl refl;
  not_false = λ h. elim h [ inl e ↦ two_not_one e | inr none ↦ none ];
  not_true = λ h. elim h [ inl e ↦ signs 2 0 e | inr none ↦ none ];
  others = λ k h. elim h [ inl e ↦ inl (sym e) | inr there ↦ inr there ];
}

-- the order of two literals doesn't matter
pub swapped : (x y l : ℤ) → Has (x ∷ y ∷ []) l → Has (y ∷ x ∷ []) l
swapped x y l h = elim h [ inl e ↦ inr (inl e) | inr there ↦ elim there [ inl e ↦ inl e | inr none ↦ absurd none ] ]

pub second_is_conflict : IsConflict (pos 2 ∷ negsuc 0 ∷ []) second
second_is_conflict = swapped (negsuc 0) (pos 2)

-- the first clause with its literals in another order, one of them twice
pub same_first : (l : ℤ) → Has first l ↔ Has (pos 2 ∷ pos 1 ∷ pos 2 ∷ []) l
same_first l = (
  λ h. elim h [ inl one ↦ inr (inl one) | inr more ↦ elim more [ inl two ↦ inl two | inr none ↦ absurd none ] ],
  λ h. elim h [
    | inl two ↦ inr (inl two)
    | inr more ↦ elim more [ inl one ↦ inl one | inr rest ↦ elim rest [ inl two ↦ inr (inl two) | inr none ↦ absurd none ] ]
  ],
)

-- the first two clauses show the unit clause
pub unit_is_shown : Accepts unit (first ∷ second ∷ [])
unit_is_shown = (unit_is_proper, (pos 1, first_is_unit, second_is_conflict))

-- The empty clause

unit_is_unit : IsUnit [] unit (pos 2)
unit_is_unit = record {
  here = inl refl;
  not_false = λ h. h;
  not_true = λ h. h;
  others = λ k h. elim h [ inl e ↦ inl (sym e) | inr none ↦ absurd none ];
}

pub third_is_unit : IsUnit (negsuc 1 ∷ []) third (pos 1)
third_is_unit = record {
  here = inl refl;
  not_false = λ h. elim h [ inl e ↦ signs 1 1 (sym e) | inr none ↦ none ];
  not_true = λ h. elim h [ inl e ↦ (let no : negsuc 1 ≡ negsuc 0 = e in cc) | inr none ↦ none ];
  others = λ k h. elim h [ inl e ↦ inl (sym e) | inr there ↦ inr there ];
}

pub fourth_is_conflict : IsConflict (negsuc 1 ∷ negsuc 0 ∷ []) fourth
fourth_is_conflict = swapped (negsuc 0) (negsuc 1)

pub empty_is_shown : Accepts [] (unit ∷ third ∷ fourth ∷ [])
empty_is_shown = ((λ t. t.1), (pos 2, unit_is_unit, (pos 1, third_is_unit, fourth_is_conflict)))

-- Lines

pub unit_fits : (id : ℕ) → IsStreamNumber id → IsWithinLimits (Addition id unit (1 ∷ 2 ∷ []))
unit_fits id is = (
  is,
  record { count = omega arith; each = ((omega arith, omega arith), tt) },
  record { count = omega arith; each = ((omega arith, omega arith), ((omega arith, omega arith), tt)) },
)

pub empty_fits : (id : ℕ) → IsStreamNumber id → IsWithinLimits (Addition id [] (5 ∷ 3 ∷ 4 ∷ []))
empty_fits id is = (
  is,
  record { count = omega arith; each = tt },
  record { count = omega arith; each = ((omega arith, omega arith), ((omega arith, omega arith), ((omega arith, omega arith), tt))) },
)

-- The formula

pub four_is_cnf : IsCnf four
four_is_cnf = record {
  vars = omega arith;
  count = omega arith;
  clauses = (
    (
      record {
        literals = ((omega arith, omega arith), ((omega arith, omega arith), tt));
        each_once = ((λ h. elim h [ inl e ↦ two_not_one e | inr none ↦ none ]), ((λ h. h), tt));
      },
      omega arith,
    ),
    (
      (
        record {
          literals = ((omega arith, omega arith), ((omega arith, omega arith), tt));
          each_once = ((λ h. elim h [ inl e ↦ signs 2 0 e | inr none ↦ none ]), ((λ h. h), tt));
        },
        omega arith,
      ),
      (
        (
          record {
            literals = ((omega arith, omega arith), ((omega arith, omega arith), tt));
            each_once = ((λ h. elim h [ inl e ↦ signs 1 1 (sym e) | inr none ↦ none ]), ((λ h. h), tt));
          },
          omega arith,
        ),
        (
          (
            record {
              literals = ((omega arith, omega arith), ((omega arith, omega arith), tt));
              each_once = ((λ h. elim h [ inl e ↦ (let no : negsuc 1 ≡ negsuc 0 = e in cc) | inr none ↦ none ]), ((λ h. h), tt));
            },
            omega arith,
          ),
          tt,
        ),
      ),
    ),
  );
}
