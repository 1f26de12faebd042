-- What a stream dropped, derived from what its threads found.
use Rattle.std.proofs.Common.{◌≡◌, ℕ, List, [], Option, Some, None, refl, sym, subst}
use Rattle.lrup_model.specs.Event.{History}
use Rattle.lrup_text.specs.declared.device.StreamEnd.{StreamEnd}
use Rattle.stream_check.specs.declared.report.Ending.{Ending}
use Rattle.stream_check.specs.declared.report.Report.{Report}
use Rattle.stream_check.specs.Checker.{checker_state, state_by}
use Rattle.stream_check.specs.CheckerValue.{report_of_tally, CheckerValue}
use Rattle.stream_check.specs.Reaching.{ReachesState}
use Rattle.stream_check.specs.DroppedIdsValue.{DroppedIdsValue}
use Rattle.stream_check.specs.StreamParams.{StreamParams}
use Rattle.stream_check.specs.Stopping.{IsFullAtMemory}
use Rattle.stream_threads.specs.Judged.{DropsBy, ending_with}
use Rattle.stream_check.specs.Dropping.{HasDropped}
use Rattle.stream_check.specs.lemmas.DroppingLemmas.{going_drops, stopped_drops}

checker_drops : (c : StreamParams) (v : CheckerValue) (room : ℕ) (bytes : List ℕ) (blocks : List History) (end : StreamEnd)
    (ending : Option Ending) → v.ending ≡ ending → ReachesState c bytes blocks (checker_state v room)
    → IsFullAtMemory (ending_with ending end v) v.dropped
    → HasDropped c bytes blocks (report_of_tally v.tally (ending_with ending end v)) v.dropped
checker_drops c v room bytes blocks end None is reaches full = going_drops c v room bytes blocks end is reaches
checker_drops c v room bytes blocks end (Some ending) is reaches full =
    stopped_drops ending c bytes blocks v.tally v.dropped
    (subst (λ (e : Option Ending). ReachesState c bytes blocks (state_by v room e)) is reaches).1 full

-- a stream dropped what its threads' result says
pub job_drops : (v : CheckerValue) (room : ℕ) (bytes : List ℕ) (blocks : List History) (report : Report) (dropped : DroppedIdsValue)
    → ReachesState v.params [] [] (checker_state v room) → DropsBy v room bytes blocks dropped report
    → HasDropped v.params bytes blocks report dropped
job_drops v room bytes blocks report dropped fresh d =
    let ending = ending_with d.last.ending d.end d.last in
    let full : IsFullAtMemory ending d.last.dropped = subst (IsFullAtMemory ending) d.are
    (subst (λ (r : Report). IsFullAtMemory r.ending dropped) d.reports d.full) in
    subst (λ (r : Report). HasDropped v.params bytes blocks r dropped) (sym d.reports)
    (subst (HasDropped v.params bytes blocks (report_of_tally d.last.tally ending)) (sym d.are)
    (checker_drops v.params d.last d.free bytes blocks d.end d.last.ending refl (d.left [] [] fresh) full))
