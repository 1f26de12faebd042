-- The stream at an index of the list.
use Rattle.std.proofs.Common.{ℕ, ◌-◌, ◌<◌, ◌≤◌, Bool, List, length, inl, inr, arith}
use Rattle.std.specs.Prelude.{IsTrue}
use Rattle.std.proofs.lemmas.Option.{slice_get_cases}
use Rattle.lrup_model.specs.Event.{History, own}
use Rattle.stream_check.specs.declared.report.Report.{Report}
use Rattle.stream_check.specs.Streams.{Stream, RunParamsValue, stream_params}
use Rattle.stream_check.specs.lemmas.EachLemmas.{each_at, each_more}
use Rattle.stream_check.specs.lemmas.StreamLemmas.{IsJudgedBy}
use Rattle.stream_check.specs.SequentialConsistency.{AreJudgedIn}
use Rattle.stream_check.specs.Closed.{IsOfStream}

pub has_place : {X : Type 0} (xs : List X) (s : ℕ) → 0 < s → s ≤ length xs → (x : X) × IsOfStream xs s x
has_place xs s first last =
    elim (slice_get_cases xs (s - 1)).1 [
      | inl has ↦ (has.0, (first, has.2))
      | inr past ↦ absurd (omega (arith, past.0, first, last))
    ]

-- Judged streams

-- stream s of the set is judged by its own events
pub judged_at : (run_params : RunParamsValue) (set : ℕ → Bool) (h : History) (streams : List Stream) (reports : List Report)
    → AreJudgedIn run_params set h 1 streams reports
    → (s : ℕ) (stream : Stream) (report : Report) → IsTrue (set s) → IsOfStream streams s stream → IsOfStream reports s report
    → IsJudgedBy (stream_params run_params s) stream (own h s) report
judged_at run_params set h streams reports judged s stream report member at says =
    each_at _ streams reports judged s stream report at says member

-- if the streams of a set are judged, so are the streams of a subset
pub judged_fewer : (run_params : RunParamsValue) (all set : ℕ → Bool) (h : History) → ((s : ℕ) → IsTrue (set s) → IsTrue (all s))
    → (s : ℕ) (streams : List Stream) (reports : List Report) → AreJudgedIn run_params all h s streams reports
    → AreJudgedIn run_params set h s streams reports
judged_fewer run_params all set h sub s streams reports judged =
    each_more s streams reports judged (λ t stream report j member. j (sub t member))
