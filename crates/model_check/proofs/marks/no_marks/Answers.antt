use Rattle.model_check.proofs.MarkLemmas.{none_marked}
use Rattle.model_check.proofs.marks.no_marks.Goals as goal

pub returns-clause-none : goal.returns-clause-none
returns-clause-none c = none_marked c.in_ok-marks.marks.items _ (c.in_ok-marks.ensures.items_if_clones_equal (λ y h. h))
