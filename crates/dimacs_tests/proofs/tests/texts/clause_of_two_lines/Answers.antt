use Rattle.std.proofs.Common.{◌≡◌, pos, [], ◌∷◌, codes}
use Rattle.std.proofs.lemmas.Result.{IfOk-weaker}
use Rattle.lrup_model.specs.Formula.{Cnf}
use Rattle.dimacs.specs.FormulaText.{IsFormulaText}
use Rattle.dimacs_tests.proofs.tests.texts.clause_of_two_lines.Goals as goal

pub returns : goal.returns
returns c =
    IfOk-weaker c.parse.result (IsFormulaText (codes "p cnf 2 1\n1\n2 0\n")) (λ (f : Cnf). f ≡ record {
      vars = 2;
      clauses = (pos 1 ∷ pos 2 ∷ []) ∷ [];
    }) (λ f h. (c.a_clause_ends_at_its_zero.ensures.lines f).0 h) c.parse.ensures.formula
