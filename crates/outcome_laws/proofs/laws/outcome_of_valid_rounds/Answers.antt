use Rattle.outcome_laws.proofs.RoundLemmas.{outcome_of_valid_rounds as lemma}
use Rattle.outcome_laws.proofs.laws.outcome_of_valid_rounds.Goals as goal

pub returns : goal.returns
returns g c = lemma c.one_formula.ensures c.formula_or_fault.ensures c.empty_cube_reported.ensures
    c.one_command_line.ensures c.valid_reported.ensures c.valid_begins.ensures c.valid_empty.ensures _
