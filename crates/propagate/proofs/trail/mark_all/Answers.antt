use Rattle.std.proofs.Common.{rules}
use Rattle.propagate.proofs.TakenLemmas.{marked-read_next}
use Rattle.propagate.proofs.trail.mark_all.Goals as goal

pub loop-lit-preserved : goal.loop-lit-preserved
loop-lit-preserved c = record {
  marked = marked-read_next c.args.marks.now c.loop-lit.marks c.args.literals.now c.loop-lit.lit-index c.code.result c.lit-item.result
      c.loop-lit-test.true c.lit-item.is c.code.ensures.code c.requires c.loop-lit.invariant.count c.loop-lit.invariant.marked;
  count = search rules;
}
