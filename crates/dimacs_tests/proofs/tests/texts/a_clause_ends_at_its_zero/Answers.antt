use Rattle.std.proofs.Common.{codes, sym, subst}
use Rattle.dimacs.specs.FormulaText.{IsFormulaText}
use Rattle.dimacs_tests.proofs.TextLemmas.{text_of_two_lines, text_of_comment}
use Rattle.dimacs_tests.proofs.tests.texts.a_clause_ends_at_its_zero.Goals as goal

pub returns : goal.returns
returns c =
    let one = c.one_formula.ensures in
    record {
      lines = λ f. (λ h. one _ f _ h text_of_two_lines, λ e. subst (IsFormulaText (codes "p cnf 2 1\n1\n2 0\n")) (sym e) text_of_two_lines);
      comment =
          λ f. (λ h. one _ f _ h text_of_comment, λ e. subst (IsFormulaText (codes "p cnf 2 1\n1\nc 1 0\n2 0\n")) (sym e) text_of_comment);
    }
