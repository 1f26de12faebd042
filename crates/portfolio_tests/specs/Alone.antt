-- A stream beside a neighbour: its bytes, and its report in two runs (this project's own).
use Rattle.std.specs.Prelude.{◌≡◌, ◌==◌, ◌↔◌, ℕ, Bool, IsTrue, List, [], codes, false, length}
use Rattle.std.specs.List.{list_any}
use Rattle.lrup_model.specs.Layout.{LayoutValue}
use Rattle.lrup_model.specs.Event.{published}
use Rattle.lrup_model.specs.History.{IsLegal}
use Rattle.stream_check.specs.DroppedIdsValue.{DroppedIdsValue}
use Rattle.stream_check.specs.Excuses.{OutOfMemory, IsExcused}
use Rattle.stream_check.specs.declared.report.Report.{Report}
use Rattle.lrup_text.specs.declared.device.StreamEnd.TheVariants as stream_ends
use Rattle.run_outcome.specs.Outcomes.{OptionsValue, layout_of, run_params_of}
use Rattle.run_outcome.specs.declared.outcome.Verdict.{Verdict}
use Rattle.run_outcome.specs.declared.outcome.Verdict.TheVariants.{Unsatisfiable}
use Rattle.stream_check.specs.Closed.{CiteWithin, IsOfStream}
use Rattle.stream_check.specs.Streams.{Block, RunParamsValue, events_in}
use Rattle.run_laws.specs.Groups.{IsReportAlone, one}
use Rattle.test_support.specs.Worked.{four}

-- the first stream's bytes
abbrev pub first_bytes : List ℕ
first_bytes = codes "5 2 0 1 2 0\n7 0 5 3 4 0\n"

-- the program's default options
abbrev pub usual : OptionsValue
usual = record { tries = 1000; lines = 65536; room = 1048576 }

-- the layout and the parameters of two streams over the four clauses, without assumptions
abbrev pub layout_of_two : LayoutValue
layout_of_two = layout_of usual four 2

abbrev pub two_terms : RunParamsValue
two_terms = run_params_of usual [] four 2

-- if stream 1 has these bytes and then ends, this is the only report that it may have on its own
pub record IsOnlyReport (bytes : List ℕ) (report : Report) : Type 0 where
  pub alone : IsReportAlone four two_terms 1 bytes stream_ends.Ended report
  pub only : (other : Report) → IsReportAlone four two_terms 1 bytes stream_ends.Ended other
      → other ≡ report

-- stream 1's report is the only one possible if the stream has these bytes and cites no other
-- stream's clauses, no read of it failed, and memory didn't run out
abbrev pub HasOnlyReport : List ℕ → List Report → List Bool → Type 0
HasOnlyReport bytes reports failed = CiteWithin layout_of_two (one 1) bytes → (report : Report)
    → IsOfStream reports 1 report → IsOfStream failed 1 false → ¬ IsExcused OutOfMemory report
    → IsOnlyReport bytes report

-- if a report says that memory ran out, its stream has no room for another dropped identity
abbrev pub AreFullAtMemory : List Report → List DroppedIdsValue → Type 0
AreFullAtMemory reports all = (s : ℕ) (report : Report) (dropped : DroppedIdsValue)
    → IsOfStream reports s report → IsOfStream all s dropped → IsExcused OutOfMemory report
    → dropped.spare ≡ 0

-- some legal history of whole lines publishes the empty clause exactly if this verdict is
-- 'unsatisfiable'
pub record HasOrder (verdict : Verdict) : Type 0 where
  pub lines : List Block
  pub legal : IsLegal four layout_of_two (events_in lines)
  pub says : (verdict ≡ Unsatisfiable) ↔ IsTrue
      (list_any (λ entry. length entry.1 == 0) (published (events_in lines)))
