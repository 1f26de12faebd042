-- What a checker took, piece by piece, and what the two ends of a ring know together.
use Rattle.std.proofs.Common.{◌≡◌, ◌++◌, ◌∙◌, ◌⊎◌, inl, inr, ℕ, Bool, List, [], ◌∷◌, Option, Some, None, IfSome}
use Rattle.std.proofs.Common.{refl, sym, ap, subst, append_assoc}
use Rattle.lrup_model.specs.Event.{History}
use Rattle.lrup_text.specs.declared.device.StreamEnd.{StreamEnd}
use Rattle.stream_check.specs.declared.report.Ending.{Ending}
use Rattle.stream_check.specs.declared.report.Report.{Report}
use Rattle.stream_check.specs.declared.progress.CheckStatus.{CheckStatus}
use Rattle.stream_check.specs.declared.progress.CheckStatus.TheVariants as statuses
use Rattle.stream_check.specs.Checker.{state_by, checker_state, Extends, FeedsChecker, EndsBy, Ends, ReportsEnd}
use Rattle.stream_check.specs.CheckerValue.{Tally, report_of_tally, CheckerValue}
use Rattle.stream_check.specs.Judging.{JudgesBlocks}
use Rattle.stream_check.specs.Laws.{FinishedStays}
use Rattle.stream_check.specs.Reaching.{CheckerState, Over, ReachesState}
use Rattle.stream_check.specs.Stopping.{IsFullAtMemory}
use Rattle.stream_check.specs.StreamParams.{StreamParams}
use Rattle.stream_check.specs.StreamContext.{is_among}
use Rattle.stream_check.specs.lemmas.StoppingLemmas.{drops_longer}
use Rattle.stream_threads.specs.Judged.{ending_with, JudgesAtMark}
use Rattle.stream_threads.specs.Items.{EndsAtMark, EndsBeforeMark}

pub reaches_append : (c : StreamParams) (one two three : CheckerState) (xs ys : List ℕ) (front back : List History)
    → Extends c one xs front two → Extends c two ys back three → Extends c one (xs ++ ys) (front ++ back) three
reaches_append c one two three xs ys front back first second bytes before left =
    subst (λ (t : List ℕ). ReachesState c t (before ++ (front ++ back)) three) (append_assoc bytes xs ys)
    (subst (λ (bs : List History). ReachesState c ((bytes ++ xs) ++ ys) bs three) (append_assoc before front back)
    (second (bytes ++ xs) (before ++ front) (first bytes before left)))

-- the state of a finished checker is still right after the rest of the bytes
finished_takes : FinishedStays
    → (c : StreamParams) (old : CheckerState) (used rest : List ℕ) (blocks : List History) (v : CheckerValue) (free : ℕ) (ending : Ending)
    → v.ending ≡ Some ending → Extends c old used blocks (checker_state v free)
    → Extends c old (used ++ rest) blocks (checker_state v free)
finished_takes stays c old used rest blocks v free ending is reaches bytes before left =
    let report = report_of_tally v.tally ending in
    let is_dropped : ℕ → Bool = is_among v.dropped.ids in
    let finished : checker_state v free ≡ Over report is_dropped = ap (state_by v free) is in
    let taken = subst (ReachesState c (bytes ++ used) (before ++ blocks)) finished (reaches bytes before left) in
    let all = subst (λ (t : List ℕ). ReachesState c t (before ++ blocks) (Over report is_dropped)) (append_assoc bytes used rest) (
      stays c (bytes ++ used) rest (before ++ blocks) report taken.0,
      drops_longer c (bytes ++ used) rest (before ++ blocks) report is_dropped taken.1,
    ) in
    subst (ReachesState c (bytes ++ (used ++ rest)) (before ++ blocks)) (sym finished) all

-- after a call that ends no line, the whole piece counts as taken
pub stopped_takes : FinishedStays
    → (status : CheckStatus) (old new : CheckerValue) (piece used rest : List ℕ) (c : StreamParams) (state : CheckerState)
    (blocks : List History) (free : ℕ)
    → (status ≡ statuses.Line → ⊥) → FeedsChecker status old new piece used → piece ≡ used ++ rest
    → Extends c state used blocks (checker_state new free) → Extends c state piece blocks (checker_state new free)
stopped_takes stays statuses.Line old new piece used rest c state blocks free other status split reaches = absurd (other refl)
stopped_takes stays statuses.More old new piece used rest c state blocks free other status split reaches =
    subst (λ (t : List ℕ). Extends c state t blocks (checker_state new free)) status.1 reaches
stopped_takes stays statuses.Over old new piece used rest c state blocks free other status split reaches =
    subst (λ (t : List ℕ). Extends c state t blocks (checker_state new free)) (sym split)
    (finished_takes stays c state used rest blocks new free status.0 status.1 reaches)

-- a call that reached the end of the piece, or finished the checker, ended no line
pub no_line : (status : CheckStatus) → (status ≡ statuses.More) ⊎ (status ≡ statuses.Over) → status ≡ statuses.Line → ⊥
no_line status (inl more) line = cc
no_line status (inr finished) line = cc

-- what was taken in two steps, with the same parameters, was taken in one step
pub reaches_more : (c d : StreamParams) (one two three : CheckerState) (xs ys all : List ℕ) (front back : List History) → d ≡ c
    → all ≡ xs ++ ys
    → Extends c one xs front two → Extends d two ys back three → Extends c one all (front ++ back) three
reaches_more c d one two three xs ys all front back same split first second =
    subst (λ (t : List ℕ). Extends c one t (front ++ back) three) (sym split)
    (reaches_append c one two three xs ys front back first (subst (λ (e : StreamParams). Extends e two ys back three) same second))

-- after the end or a failed read, a checker that was finished keeps its ending, and each checker
-- keeps its counts and what it dropped
ends_by : (o : Option Ending) (end : StreamEnd) (v u : CheckerValue) → v.ending ≡ o → EndsBy o end v u
    → (u.ending ≡ Some (ending_with o end v)) × (u.tally ≡ v.tally) × (u.dropped ≡ v.dropped)
ends_by None end v u is ends = (ends.2, ends.1, ends.4)
ends_by (Some ending) end v u is ends =
    (ap (λ (w : CheckerValue). w.ending) ends ∙ is, ap (λ (w : CheckerValue). w.tally) ends, ap (λ (w : CheckerValue). w.dropped) ends)

-- the report of a checker that took all bytes before the mark, and then the mark's end, is a
-- judgement
pub at_mark : (start v u : CheckerValue) (room free : ℕ) (bytes items : List ℕ) (blocks : List History) (end : StreamEnd) (report : Report)
    → EndsAtMark bytes end items → v.params ≡ start.params
    → Extends start.params (checker_state start room) bytes blocks (checker_state v free) → Ends end v u → ReportsEnd end v u
    → IfSome u.ending (λ ending. report ≡ report_of_tally u.tally ending) → IsFullAtMemory report.ending u.dropped
    → JudgesAtMark start room items blocks u.dropped report
at_mark start v u room free bytes items blocks end report marked params left ends reports known full =
    let by = ends_by v.ending end v u refl ends in
    let says = λ (e : Option Ending). IfSome e (λ ending. report ≡ report_of_tally u.tally ending) in
    record {
      bytes = bytes;
      end = end;
      marked = marked;
      dropped = record {
        last = v;
        free = free;
        left = left;
        are = by.2;
        end = end;
        reports = subst says by.0 known ∙ ap (λ (t : Tally). report_of_tally t (ending_with v.ending end v)) by.1;
        full = full;
      };
      judged = λ fresh.
          let reached = subst (λ (c : StreamParams). ReachesState c bytes blocks (checker_state v free)) (sym params) (left [] [] fresh) in
          let judged = reports bytes blocks free reached in
          subst (λ (c : StreamParams). JudgesBlocks c bytes end blocks report) params
          (subst (JudgesBlocks v.params bytes end blocks) (sym (subst says judged.1 known)) judged.2);
    }

-- if nothing was received, there was no mark
pub none_before : EndsBeforeMark []
none_before [] item e = cc
none_before (x ∷ taken) item e = cc
