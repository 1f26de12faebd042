use Rattle.std.proofs.Common.{rules}
use Rattle.propagate.proofs.TakenLemmas.{unmarked-read, marked-read}
use Rattle.propagate.proofs.trail.any_marked.Goals as goal

pub returns-then-marks-code : goal.returns-then-marks-code
returns-then-marks-code c = (
  (λ _. marked-read c.args.marks.now c.args.literals.now c.loop-lit.lit-index c.code.result c.lit-item.result c.loop-lit-test.true
      c.lit-item.is c.code.ensures.code c.if-marks-code.true),
  (λ _. search rules),
)

pub loop-lit-preserved : goal.loop-lit-preserved
loop-lit-preserved c = record {
  none = unmarked-read c.args.marks.now c.args.literals.now c.loop-lit.lit-index c.code.result c.lit-item.result c.loop-lit-test.true
      c.lit-item.is c.code.ensures.code c.if-marks-code.false c.loop-lit.invariant.none;
}
