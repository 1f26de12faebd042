use Rattle.std.proofs.Common.{arith, false}
use Rattle.model_check.proofs.MarkLemmas.{mark_read}
use Rattle.model_check.proofs.marks.is_marked.Goals as goal

pub returns-in-Some : goal.returns-in-Some
returns-in-Some c =
    mark_read c.args.marks.now c.args.l c.code.result c.in-Some.mark.now c.code.ensures.code
    (c.in-Some.ensures.lookup.4 (omega arith) false)

pub returns-in-None : goal.returns-in-None
returns-in-None c =
    mark_read c.args.marks.now c.args.l c.code.result false c.code.ensures.code (c.in-None.ensures.lookup.4 (omega arith) false)
