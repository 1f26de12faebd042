use Rattle.std.proofs.Common.{refl}
use Rattle.std.proofs.lemmas.Bool.{false≢true}
use Rattle.model_check.specs.internal.Marks.{HasMark}
use Rattle.model_check.proofs.EvaluationLemmas.{has_read, all_more, none_of}
use Rattle.model_check.proofs.evaluation.has_one.Goals as goal

pub returns-then-is_marked : goal.returns-then-is_marked
returns-then-is_marked c =
    λ literals marks.
    let l = c.l-item.result in
    let here = has_read c.args.clause.now c.loop-l.l-index l c.loop-l-test.true c.l-item.is in
    (λ _. (l, here, (marks l).0 (c.if-is_marked.ensures.0 refl)), λ _. refl)

pub loop-l-preserved : goal.loop-l-preserved
loop-l-preserved c =
    all_more (λ x. ¬ HasMark c.args.marks.now x) c.args.clause.now c.loop-l.l-index c.l-item.result c.loop-l-test.true c.l-item.is
    c.loop-l.invariant (λ h. false≢true (c.if-is_marked.ensures.1 h))

pub returns : goal.returns
returns c =
    λ literals marks. (
      λ f. absurd (false≢true f),
      λ one. absurd (none_of c.args.marks.now literals c.args.clause.now c.loop-l.l-index c.loop-l-test.false c.loop-l.invariant marks one),
    )
