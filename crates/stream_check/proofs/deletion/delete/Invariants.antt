use Rattle.std.proofs.Common.{◌≡◌, ◌+◌, ◌++◌, ℕ, List, [], take}
use Rattle.std.specs.List.{AllByRecursion}
use Rattle.lrup_model.specs.Event.{History}
use Rattle.stream_check.specs.StreamContext.{is_among, capped}
use Rattle.stream_check.specs.Verdicts.{LineVerdict}
use Rattle.stream_check.specs.Deletions.{JudgesDeletion, IsRetire}
use Rattle.stream_check.specs.internal.Checking.{AreDropped}
use Rattle.stream_check.specs.internal.CheckerInside.{KeepsLines, deleted_at}
use Rattle.stream_check.proofs.deletion.delete.Given as goal

abbrev pub invariant-loop-id : goal.invariant-loop-id
invariant-loop-id g l =
    let earlier = take l.id-index l.ids in
    let old = l.initial.state in
    record {
      kept : KeepsLines old l.state;
      count : deleted_at l.state ≡ capped (deleted_at old + l.id-index);
      dropped : AreDropped old.params old.dropped.ids earlier l.state.dropped.ids;
      deleted : (es : History) × g.M.ClauseMap.moves l.initial.map l.map es × AllByRecursion IsRetire es
          × ((more : List ℕ) (rest : History) (v : LineVerdict)
          → JudgesDeletion old.params (is_among old.dropped.ids) earlier more rest v
          → JudgesDeletion old.params (is_among old.dropped.ids) [] (earlier ++ more) (es ++ rest) v);
    }
