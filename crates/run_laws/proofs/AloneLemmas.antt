-- A stream that is a group by itself.
use Rattle.std.proofs.Common.{◌≡◌, ℕ, eqb, Option, None, Some, List, [], ◌∷◌, ◌++◌, refl, sym, ap, subst, ◌∙◌, eq-eqb}
use Rattle.std.specs.Prelude.{IsTrue, IfSome, MatchOption}
use Rattle.std.specs.List.{AllByRecursion}
use Rattle.std.proofs.lemmas.Bool.{cond-true}
use Rattle.lrup_model.specs.Formula.{Cnf}
use Rattle.lrup_model.specs.Event.{History, stream_of, own}
use Rattle.lrup_text.specs.Laws.{EveryCut, BeginningCut}
use Rattle.lrup_model.specs.lemmas.ListLemmas.{All-front}
use Rattle.lrup_text.specs.declared.device.StreamEnd.{StreamEnd}
use Rattle.lrup_text.specs.declared.device.StreamEnd.TheVariants as stream_ends
use Rattle.stream_check.specs.declared.report.Report.{Report}
use Rattle.stream_check.specs.StreamParams.{StreamParams}
use Rattle.stream_check.specs.Judging.{JudgesBlocks, Judges}
use Rattle.stream_check.specs.Laws.{cited_by, FinishedStays, AloneDecides}
use Rattle.stream_check.specs.Streams.{Stream, RunParamsValue, stream_params}
use Rattle.stream_check.specs.Closed.{IsOfStream, IsOwnedWithin}
use Rattle.run_laws.specs.Groups.{one, IsGroup, IsReadingOf}
use Rattle.run_laws.specs.GroupLaws.{AloneHasOneReport, BeginningsWithin}
use Rattle.run_laws.proofs.Places.{judged_at}

-- the bytes that were read, and the end `its` if that is known, fit a stream that has the whole
-- bytes and this end
abbrev pub ReadsTo : Option StreamEnd → List ℕ → List ℕ → StreamEnd → Type 0
ReadsTo its bytes whole end = MatchOption its ((more : List ℕ) × (whole ≡ bytes ++ more)) (λ e. (whole ≡ bytes) × (e ≡ end))

-- if the bytes that were read have this judgement with every possible end, all bytes have it
pub judged_whole : FinishedStays
    → (c : StreamParams) (its : Option StreamEnd) (bytes whole : List ℕ) (end : StreamEnd) (blocks : List History) (report : Report)
    → ReadsTo its bytes whole end → ((other : StreamEnd) → IfSome its (λ e. e ≡ other) → JudgesBlocks c bytes other blocks report)
    → JudgesBlocks c whole end blocks report
judged_whole law c (Some its) bytes whole end blocks report is j = subst (λ b. JudgesBlocks c b end blocks report) (sym is.0) (j end is.1)
judged_whole law c None bytes whole stream_ends.Ended blocks report is j =
    rw is.1 (law c bytes is.0 blocks report (j stream_ends.Ended tt, j stream_ends.Failed tt)).0
judged_whole law c None bytes whole stream_ends.Failed blocks report is j =
    rw is.1 (law c bytes is.0 blocks report (j stream_ends.Ended tt, j stream_ends.Failed tt)).1

pub me : (s : ℕ) → IsTrue (one s s)
me s = eq-eqb s s refl

pub own-one : (s : ℕ) (h : History) → AllByRecursion (λ e. IsTrue (one s (stream_of e))) h → own h s ≡ h
own-one s [] all = refl
own-one s (e ∷ h) all = cond-true (eqb (stream_of e) s) (e ∷ own h s) (own h s) all.0 ∙ ap (λ (k : History). e ∷ k) (own-one s h all.1)

-- a group of one stream judges all bytes of the stream
pub alone_judged : FinishedStays → (f : Cnf) (run_params : RunParamsValue) (s : ℕ) (streams : List Stream) (reports : List Report)
    (whole : List ℕ) (end : StreamEnd) (stream : Stream) (report : Report)
    → (g : IsGroup f run_params (one s) streams reports) → IsOfStream streams s stream → IsReadingOf whole end stream
    → IsOfStream reports s report → Judges (stream_params run_params s) whole end g.history report
alone_judged law f run_params s streams reports whole end stream report g at reads says =
    let j = judged_at run_params (one s) g.history streams reports g.judged s stream report (me s) at says in
    record {
      blocks = j.0;
      events = sym (own-one s g.history g.members) ∙ j.1;
      judges = judged_whole law (stream_params run_params s) stream.end stream.bytes whole end j.0 report reads j.2;
    }

pub alone_has_one_report : FinishedStays → AloneDecides → AloneHasOneReport
alone_has_one_report stays decides f run_params s whole end streams others reports other_reports stream other report other_report
    g h at there
    reads also says too =
    (decides f run_params.layout (stream_params run_params s) whole end g.history h.history report other_report g.legal h.legal
    (alone_judged stays f run_params s streams reports whole end stream report g at reads says)
    (alone_judged stays f run_params s others other_reports whole end other other_report h there also too)
    (g.memory s report (me s) says) (h.memory s other_report (me s) too)).1

-- Prefixes of bytes

pub beginnings_within : EveryCut → BeginningCut → BeginningsWithin
beginnings_within every alike p set bytes more cites =
    let front = every bytes in
    let others = alike bytes more front.0 cites.lines front.1 cites.rest front.2 cites.cut in
    record {
      lines = front.0;
      rest = front.1;
      cut = front.2;
      within = All-front (λ line. AllByRecursion (IsOwnedWithin p set) (cited_by line)) front.0 others.0 (rw others.1 at cites.within);
    }
