use Rattle.std.proofs.lemmas.List.{take_all}
use Rattle.propagate.proofs.MarkLemmas.{cleared-next, marked_before}
use Rattle.propagate.proofs.trail.unmark.Goals as goal

pub loop-lit-preserved : goal.loop-lit-preserved
loop-lit-preserved c = record {
  cleared = cleared-next c.loop-lit.marks c.args.literals.now c.loop-lit.lit-index c.code.result c.lit-item.result c.loop-lit-test.true
      c.lit-item.is c.code.ensures.code c.loop-lit.invariant.cleared;
  others = λ k h. c.loop-lit.invariant.others k (marked_before c.loop-lit.marks c.code.result k h);
}

pub returns-clause-cleared : goal.returns-clause-cleared
returns-clause-cleared c =
    λ l h. c.loop-lit.invariant.cleared l (rw (take_all c.loop-lit.lit-index c.args.literals.now c.loop-lit-test.false) h)
