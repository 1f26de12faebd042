-- What is observed of readers, and two runs of one stream.
use Rattle.std.proofs.Common.{◌≡◌, ℕ, ◌-◌, Bool, true, false, Option, List, [], ◌++◌, Some, None, inl, inr, refl, sym, ap, subst, ◌∙◌}
use Rattle.std.proofs.Common.{append_assoc}
use Rattle.std.proofs.Common.{append-nil, arith}
use Rattle.std.specs.Prelude.{IfSome, IsSome, MatchOption}
use Rattle.std.specs.List.{AllZip}
use Rattle.std.specs.Io.KnownBytes.{Consumes}
use Rattle.std.proofs.lemmas.Option.{slice_get_within}
use Rattle.lrup_model.specs.Formula.{Cnf}
use Rattle.lrup_model.specs.Layout.{LayoutValue, Fits}
use Rattle.lrup_model.specs.Event.{History}
use Rattle.lrup_model.specs.History.{IsLegal}
use Rattle.lrup_text.specs.ReadOut.{EndsSo}
use Rattle.lrup_text.specs.declared.device.StreamEnd.{StreamEnd}
use Rattle.lrup_text.specs.declared.device.StreamEnd.TheVariants as stream_ends
use Rattle.stream_check.specs.declared.report.Report.{Report}
use Rattle.stream_check.specs.StreamParams.{StreamParams}
use Rattle.stream_check.specs.Judging.{JudgesBlocks, Judges}
use Rattle.stream_check.specs.Excuses.{CutOff, OutOfMemory, ReadFailed, IsExcused}
use Rattle.stream_check.specs.Laws.{AloneDecides, DecidedBeforeFailure}
use Rattle.stream_check.specs.Streams.{Stream, InputObservation, MatchesInput, RunParamsValue, stream_params}
use Rattle.stream_check.specs.Closed.{IsOfStream, CiteWithin, IsClosed}
use Rattle.stream_check.specs.lemmas.StreamLemmas.{observed_from, observed_begins, same_at, judged_count}
use Rattle.run_laws.specs.Groups.{one, IsGroup, IsRun, NoneExcused}
use Rattle.run_laws.specs.GroupLaws.{BeginningsWithin, ReadersClosed, ClosedIsGroup, AloneHasOneReport, RunIsolated}
use Rattle.run_laws.specs.GroupLaws.{MatchIsReading, SameReadingAgrees, SameBytesAgree}
use Rattle.run_laws.proofs.Places.{has_place, judged_at, judged_fewer}
use Rattle.run_laws.specs.lemmas.ReportLemmas.{only}
use Rattle.run_laws.proofs.AloneLemmas.{ReadsTo, me, own-one}

-- What is observed of a reader

-- what is observed of the reader of stream s
pub observed_at : (observed : List InputObservation) (streams : List Stream) (s : ℕ) (observation : InputObservation) (stream : Stream)
    → AllZip MatchesInput observed streams → IsOfStream observed s observation → IsOfStream streams s stream
    → MatchesInput observation stream
observed_at observed streams s observation stream match_inputs here at =
    let was = observed_from observed streams (s - 1) stream match_inputs at.1 in
    rw (same_at observed s was.observation observation (here.0, was.at) here) at was.matches_input

observed_within : BeginningsWithin → (p : LayoutValue) (set : ℕ → Bool) (observation : InputObservation) (whole : List ℕ) (stream : Stream)
    → MatchesInput observation stream → observation.entry ≡ Some whole → CiteWithin p set whole → CiteWithin p set stream.bytes
observed_within law p set observation whole stream observed entry cites =
    let front = observed_begins observation whole stream observed entry in
    law p set stream.bytes front.0 (subst (CiteWithin p set) front.1 cites)

pub readers_closed : BeginningsWithin → ReadersClosed
readers_closed law p set observed streams match_inputs closed s stream member at =
    let was = observed_from observed streams (s - 1) stream match_inputs at.1 in
    let known = closed s was.observation member (at.0, was.at) in
    observed_within law p set was.observation known.0 stream was.matches_input known.1 known.2

-- how the reader ends if the stream has this end, or no known end
abbrev pub EndsWith : Option StreamEnd → Option (List ℕ) → Bool → Type 0
EndsWith its left has_failed = MatchOption its (has_failed ≡ false) (λ end. EndsSo end left has_failed)

observed_reads : (left : Option (List ℕ)) (its : Option StreamEnd) (whole bytes unneeded : List ℕ)
    → Consumes (Some whole) left (bytes ++ unneeded) → EndsWith its left false → (IsSome its → unneeded ≡ [])
    → ReadsTo its bytes whole stream_ends.Ended
observed_reads None its whole bytes unneeded took ends needed = absurd took
observed_reads (Some left) (Some stream_ends.Ended) whole bytes unneeded took ends needed = (
  took ∙ ap (λ l. (bytes ++ unneeded) ++ l) ends.0 ∙ append-nil (bytes ++ unneeded) ∙ ap (λ l. bytes ++ l) (needed refl) ∙ append-nil bytes,
  refl,
)
observed_reads (Some left) (Some stream_ends.Failed) whole bytes unneeded took ends needed = absurd (let no : false ≡ true = ends in cc)
observed_reads (Some left) None whole bytes unneeded took ends needed = (unneeded ++ left, took ∙ append_assoc bytes unneeded left)

pub match_is_reading : MatchIsReading
match_is_reading observed streams s observation stream whole match_inputs here at entry fine =
    let is = observed_at observed streams s observation stream match_inputs here at in
    observed_reads observation.left stream.end whole stream.bytes stream.unneeded (rw entry at is.consumes) (rw fine at is.ends) is.needed

-- A run

-- a closed set of a run's streams is a group, unless memory ran out
closed_group : ClosedIsGroup → (f : Cnf) (run_params : RunParamsValue) (observed : List InputObservation) (reports : List Report)
    → Fits run_params.layout f
    → (run : IsRun f run_params observed reports) (set : ℕ → Bool) → IsClosed run_params.layout set run.streams
    → NoneExcused set OutOfMemory reports
    → IsGroup f run_params set run.streams reports
closed_group law f run_params observed reports fits run set closed memory =
    law f run_params set run.history run.streams reports fits run.count run.legal
    (judged_fewer run_params (λ s. true) set run.history (λ s member. refl) 1 run.streams reports run.judged) closed memory

-- if one stream's report doesn't say that memory ran out, no report in the set of only this stream
-- does
alone_fine : (s : ℕ) (reports : List Report) (report : Report) → IsOfStream reports s report → ¬ IsExcused OutOfMemory report
    → NoneExcused (one s) OutOfMemory reports
alone_fine s reports report says memory t other member there =
    let here = subst (λ n. IsOfStream reports n other) (only s t member) there in
    subst (λ (r : Report). ¬ IsExcused OutOfMemory r) (same_at reports s report other says here) memory

pub run_isolated : ClosedIsGroup → AloneHasOneReport → RunIsolated
run_isolated law alone f run_params observed reports fits run = record {
  groups = closed_group law f run_params observed reports fits run;
  alone = λ s stream report at says closed memory whole end reads other is.
      alone f run_params s whole end is.streams run.streams is.reports reports is.stream stream other report is.alone
      (closed_group law f run_params observed reports fits run (one s) closed (alone_fine s reports report says memory)) is.at at
      is.reads reads
      is.says says;
}

-- Two runs

-- a stream that cites only its own clauses and the formula's is a group of its own, unless memory
-- ran out
run_alone : ClosedIsGroup → (f : Cnf) (run_params : RunParamsValue) (s : ℕ) (observed : List InputObservation) (reports : List Report)
    (stream : Stream) (report : Report) → Fits run_params.layout f → (a : IsRun f run_params observed reports)
    → IsOfStream a.streams s stream → IsOfStream reports s report → CiteWithin run_params.layout (one s) stream.bytes
    → ¬ IsExcused OutOfMemory report
    → IsGroup f run_params (one s) a.streams reports
run_alone law f run_params s observed reports stream report fits a at says cites memory =
    closed_group law f run_params observed reports fits a (one s)
    (λ t other member there.
    let here = subst (λ n. IsOfStream a.streams n other) (only s t member) there in
    subst (λ (x : Stream). CiteWithin run_params.layout (one s) x.bytes) (same_at a.streams s stream other at here) cites)
    (alone_fine s reports report says memory)

reading_within : BeginningsWithin → (p : LayoutValue) (set : ℕ → Bool) (its : Option StreamEnd) (bytes whole : List ℕ) (end : StreamEnd)
    → ReadsTo its bytes whole end → CiteWithin p set whole → CiteWithin p set bytes
reading_within law p set (Some its) bytes whole end is cites = subst (CiteWithin p set) is.0 cites
reading_within law p set None bytes whole end is cites = law p set bytes is.0 (subst (CiteWithin p set) is.1 cites)

pub same_reading_agrees : BeginningsWithin → ClosedIsGroup → AloneHasOneReport → SameReadingAgrees
same_reading_agrees within group alone f run_params s whole end observed other_observed reports other_reports stream other report
    other_report
    fits cites a b at there reads also says too memory none =
    let p = run_params.layout in
    alone f run_params s whole end a.streams b.streams reports other_reports stream other report other_report
    (run_alone group f run_params s observed reports stream report fits a at says
    (reading_within within p (one s) stream.end stream.bytes whole end reads cites) memory)
    (run_alone group f run_params s other_observed other_reports other other_report fits b there too
    (reading_within within p (one s) other.end other.bytes whole end also cites) none)
    at there reads also says too

-- if a report doesn't say that its stream was cut off, it doesn't say that memory ran out
pub fine_memory : (report : Report) → ¬ IsExcused CutOff report → ¬ IsExcused OutOfMemory report
fine_memory report fine memory = fine (memory.0, inl memory.1)

pub fine_failure : (report : Report) → ¬ IsExcused CutOff report → ¬ IsExcused ReadFailed report
fine_failure report fine failed = fine (failed.0, inr failed.1)

pub judged_to : DecidedBeforeFailure → (c : StreamParams) (its : Option StreamEnd) (bytes unneeded whole : List ℕ) (left : Option (List ℕ))
    (has_failed : Bool) (blocks : List History) (report : Report)
    → Consumes (Some whole) left (bytes ++ unneeded) → EndsWith its left has_failed → (IsSome its → unneeded ≡ [])
    → ¬ IsExcused ReadFailed report
    → ((end : StreamEnd) → IfSome its (λ e. e ≡ end) → JudgesBlocks c bytes end blocks report)
    → JudgesBlocks c whole stream_ends.Ended blocks report
judged_to law c its bytes unneeded whole None has_failed blocks report took ends needed machine j = absurd took
judged_to law c (Some stream_ends.Ended) bytes unneeded whole (Some left) has_failed blocks report took ends needed machine j =
    rw (took ∙ ap (λ l. (bytes ++ unneeded) ++ l) ends.0 ∙ append-nil (bytes ++ unneeded) ∙ ap (λ l. bytes ++ l) (needed refl) ∙ append-nil
    bytes) (j stream_ends.Ended refl)
judged_to law c (Some stream_ends.Failed) bytes unneeded whole (Some left) has_failed blocks report took ends needed machine j =
    subst (λ b. JudgesBlocks c b stream_ends.Ended blocks report) (sym (took ∙ append_assoc bytes unneeded left))
    (law c bytes (unneeded ++ left) stream_ends.Ended blocks report machine (j stream_ends.Failed refl))
judged_to law c None bytes unneeded whole (Some left) has_failed blocks report took ends needed machine j =
    subst (λ b. JudgesBlocks c b stream_ends.Ended blocks report) (sym (took ∙ append_assoc bytes unneeded left))
    (law c bytes (unneeded ++ left) stream_ends.Ended blocks report machine (j stream_ends.Failed tt))

-- in a legal history, all these bytes are judged as this report says
pub record IsJudgedWhole (f : Cnf) (run_params : RunParamsValue) (s : ℕ) (whole : List ℕ) (report : Report) : Type 0 where
  pub history : History
  pub legal : IsLegal f run_params.layout history
  pub judges : Judges (stream_params run_params s) whole stream_ends.Ended history report

pub whole_judged : BeginningsWithin → ClosedIsGroup → DecidedBeforeFailure
    → (f : Cnf) (run_params : RunParamsValue) (s : ℕ) (whole : List ℕ) (observed : List InputObservation) (observation : InputObservation)
    (reports : List Report)
    (report : Report)
    → Fits run_params.layout f → CiteWithin run_params.layout (one s) whole → IsRun f run_params observed reports
    → IsOfStream observed s observation → observation.entry ≡ Some whole → IsOfStream reports s report → ¬ IsExcused OutOfMemory report
    → ¬ IsExcused ReadFailed report
    → IsJudgedWhole f run_params s whole report
whole_judged within group decided f run_params s whole observed observation reports report fits cites a here entry says memory machine =
    let many = judged_count run_params (λ t. true) a.history 1 a.streams reports a.judged in
    let last = slice_get_within reports (s - 1) report says.1 in
    let first = says.0 in
    let place = has_place a.streams s first (omega (arith, last, many, first)) in
    let stream = place.0 in
    let is = observed_at observed a.streams s observation stream a.match_inputs here place.1 in
    let g = run_alone group f run_params s observed reports stream report fits a place.1 says
    (observed_within within run_params.layout (one s) observation whole stream is entry cites) memory in
    let j = judged_at run_params (one s) g.history a.streams reports g.judged s stream report (me s) place.1 says in
    record {
      history = g.history;
      legal = g.legal;
      judges = record {
        blocks = j.0;
        events = sym (own-one s g.history g.members) ∙ j.1;
        judges =
            judged_to decided (stream_params run_params s) stream.end stream.bytes stream.unneeded whole observation.left
            observation.has_failed j.0 report (rw entry at is.consumes) is.ends
            is.needed machine j.2;
      };
    }

pub same_bytes_agree : BeginningsWithin → ClosedIsGroup → AloneDecides → DecidedBeforeFailure → SameBytesAgree
same_bytes_agree within group decides decided f run_params s whole observed other_observed observation other_observation reports
    other_reports
    report other_report
    fits cites a b here entry there known says too fine good =
    let mine = whole_judged within group decided f run_params s whole observed observation reports report fits cites a here entry says
    (fine_memory report fine) (fine_failure report fine) in
    let theirs = whole_judged within group decided f run_params s whole other_observed other_observation other_reports other_report fits
    cites b there
    known too (fine_memory other_report good) (fine_failure other_report good) in
    (decides f run_params.layout (stream_params run_params s) whole stream_ends.Ended mine.history theirs.history report
    other_report mine.legal
    theirs.legal mine.judges theirs.judges (fine_memory report fine) (fine_memory other_report good)).1
