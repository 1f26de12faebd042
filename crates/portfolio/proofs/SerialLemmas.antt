-- A run on one thread, derived from what its streams left.
use Rattle.std.proofs.Common.{◌≡◌, ◌∙◌, true, List, refl, sym, ap}
use Rattle.lrup_model.specs.Formula.{Cnf}
use Rattle.lrup_model.specs.Plain.{Plain, plain_state}
use Rattle.lrup_model.specs.State.{state}
use Rattle.lrup_text.specs.ReadOut.{SourceView}
use Rattle.stream_check.specs.declared.report.Report.{Report}
use Rattle.stream_check.specs.DroppedIdsValue.{DroppedIdsValue}
use Rattle.stream_check.specs.Judging.{joined}
use Rattle.stream_check.specs.Streams.{RunParamsValue, blocks_of, events_in}
use Rattle.stream_check.specs.lemmas.DroppingLemmas.{dropped_more}
use Rattle.stream_turns.specs.Results.{AreCheckedInTurn}
use Rattle.run_laws.specs.lemmas.OwnLemmas.{ordered_judged, own-blocks}
use Rattle.run_outcome.specs.Histories.{IsRunOf, TakeTurns}

-- streams that were checked in turn make a run, and the map holds what its history leaves
pub run_in_turn : {S : Type 0} (view : SourceView S) (f : Cnf) (run_params : RunParamsValue) (firsts lasts : List S)
    (reports : List Report) (dropped : List DroppedIdsValue) (m : Plain)
    → AreCheckedInTurn view f run_params firsts lasts reports dropped m
    → (ran : IsRunOf view f run_params firsts lasts reports dropped) × (plain_state m ≡ state f ran.run.history)
    × TakeTurns f run_params ran.run.history ran.run.streams reports
run_in_turn view f run_params firsts lasts reports dropped m checked =
    let order = checked.ordered.order in (
      record {
        run = record {
          streams = checked.streams;
          match_inputs = checked.match_inputs;
          count = order.count;
          history = events_in order.blocks;
          legal = order.legal;
          judged = ordered_judged run_params (λ s. true) (λ s. true) order.blocks 1 checked.streams reports order.within order.judged;
        };
        read = checked.read;
        have_dropped = dropped_more run_params (λ s events. events ≡ blocks_of s order.blocks) _
            (λ s events is. own-blocks run_params.layout (λ t. true) s order.blocks order.within ∙ ap joined (sym is)) 1 checked.streams
            reports dropped checked.have_dropped;
      },
      checked.clauses,
      (checked.ordered, refl),
    )
