-- Valid proofs, on their own and in a run.
use Rattle.std.proofs.Common.{◌≡◌, ◌≢◌, ◌<◌, ◌≤◌, ◌+◌, ◌-◌, ℕ, zero, suc, Bool, true, false, cond, List, [], ◌∷◌, ◌++◌, length, Some, None}
use Rattle.std.proofs.Common.{inl, inr, refl, sym, ap, subst, ◌∙◌, arith, append_assoc, append-nil, eq-eqb, ltb, ltb-true, leb, leb-true}
use Rattle.std.specs.Prelude.{IsTrue, slice_get, ◌&&◌}
use Rattle.std.specs.List.{AllByRecursion, flat_map, sum_by}
use Rattle.std.proofs.lemmas.Bool.{cases_eq, true≢false}
use Rattle.std.proofs.lemmas.List.Sums.{sum_by-append}
use Rattle.lrup_model.specs.Clause.{Clause, IsClause}
use Rattle.lrup_model.specs.Entailment.{Follows}
use Rattle.lrup_model.specs.lemmas.EntailmentLemmas.{formula_sound}
use Rattle.lrup_model.specs.Event.{History, stream_of, own, spent, size_of}
use Rattle.lrup_model.specs.Formula.{Cnf, IsCnf, clause_at}
use Rattle.lrup_model.specs.History.{LegalFrom}
use Rattle.lrup_model.specs.lemmas.HistoryLemmas.{formula_owned, opening-formula, opening-owned, own-all, own-none}
use Rattle.lrup_model.specs.Layout.{LayoutValue, Fits, IsStream, last_identity}
use Rattle.lrup_model.specs.lemmas.RunningLemmas.{legal-append, callers-append, spent-sizes}
use Rattle.lrup_model.specs.State.{State, live, opening, run}
use Rattle.lrup_text.specs.Lines.{StreamLine, IsWithinLimits, line_text, Cut}
use Rattle.lrup_text.specs.Laws.{EmptyCut, OneCut}
use Rattle.lrup_text.specs.declared.device.StreamEnd.TheVariants as stream_ends
use Rattle.stream_check.specs.declared.report.Ending.TheVariants as endings
use Rattle.stream_check.specs.declared.report.Report.{Report}
use Rattle.stream_check.specs.CheckerValue.{report_of_tally}
use Rattle.stream_check.specs.Judging.{joined, ending_at, report_of, JudgesBlocks}
use Rattle.stream_check.specs.Laws.{AloneDecides, CountsWithin, DecidedBeforeFailure, EndJudged, FreshLeft, GoodLineTaken}
use Rattle.stream_check.specs.Excuses.{OutOfMemory, IsExcused}
use Rattle.stream_check.specs.Reaching.{GoingState, Going, ReachesState, context_after, tally_after}
use Rattle.stream_check.specs.StreamParams.{StreamParams, ownership_of, is_shared}
use Rattle.stream_check.specs.StreamContext.{context_of, capped, deleted_by}
use Rattle.stream_check.specs.Closed.{IsOfStream}
use Rattle.stream_check.specs.SequentialConsistency.{AreJudgedIn}
use Rattle.stream_check.specs.Streams.{Stream, RunParamsValue, stream_params}
use Rattle.stream_check.specs.lemmas.StreamLemmas.{IsJudgedBy, same_at, judged_out}
use Rattle.run_laws.specs.GroupLaws.{AloneHasOneReport, BeginningsWithin, ClosedIsGroup}
use Rattle.run_laws.specs.Groups.{one}
use Rattle.run_laws.proofs.EmptiedLemmas.{empty_stream, empty_report}
use Rattle.run_laws.specs.lemmas.ReportLemmas.{only}
use Rattle.run_laws.specs.Valid.{Database, first_database, after_line, IsValidProof, valid_report}
use Rattle.run_laws.specs.ValidLaws.{ValidCiteWithin, ValidAccepted, ValidCounted, ValidHasOneReport, ValidReported}
use Rattle.run_laws.proofs.ValidLines.{Agrees, AreValid, Goes, alone_valid, line_goes, neither}
use Rattle.run_laws.proofs.RunLemmas.{IsJudgedWhole, fine_failure, fine_memory, whole_judged}

-- Before the first line

first_there : (b : Bool) (x d : Clause) → cond b (Some x) None ≡ Some d → (b ≡ true) × (x ≡ d)
first_there true x d is = (refl, let it : x ≡ d = cc in it)
first_there false x d is = absurd (let no : None ≡ Some d = is in cc)

both_true : (a b : Bool) → (a && b) ≡ true → (a ≡ true) × (b ≡ true)
both_true true b is = (refl, is)
both_true false b is = absurd (true≢false (sym is))

-- the identity is one of the formula's, and has this clause
pub record IsFirst (f : Cnf) (id : ℕ) (d : Clause) : Type 0 where
  pub positive : 0 < id
  pub within : id ≤ length f.clauses
  pub clause : clause_at f id ≡ d

pub is_first : (f : Cnf) (p : LayoutValue) (id : ℕ) (d : Clause) → (first_database f p).clauses id ≡ Some d → IsFirst f id d
is_first f p id d is =
    let found = first_there (ltb 0 id && leb id (length f.clauses)) (clause_at f id) d is in
    let tests = both_true (ltb 0 id) (leb id (length f.clauses)) found.0 in
    record {
      positive = ltb-true 0 id tests.0;
      within = leb-true id (length f.clauses) tests.1;
      clause = found.1;
    }

pub first_agrees : (f : Cnf) (c : StreamParams) → IsCnf f → Fits c.layout f
    → Agrees f c.layout c.stream (first_database f c.layout) (context_of c []) (opening f)
first_agrees f c cnf fits = record {
  last = refl;
  free = omega arith;
  there = λ id d is. let at = is_first f c.layout id d is in opening-formula f id at.positive at.within ∙ ap live at.clause;
  kept = λ id d is. neither false (is_shared (ownership_of c id)) refl;
  known = λ id d is. let at = is_first f c.layout id d is in
      inl (formula_owned c.layout id at.positive (omega (arith, at.within, fits.clauses)));
  sound = λ id d is. let at = is_first f c.layout id d is in
      subst (λ (x : Clause). IsClause f.vars x × Follows f x) at.clause (formula_sound f id cnf at.positive at.within);
  own = λ id owns. neither false (is_shared (ownership_of c id)) refl;
  unseen = λ id is. neither false (is_shared (ownership_of c id)) refl;
  vacant = λ id owns above. opening-owned f c.layout c.stream id fits owns;
}

-- Line after line

-- these additional blocks are legal here, use no more room than is left, and leave the checker
-- unfinished
record LinesGo (f : Cnf) (c : StreamParams) (base : Database) (m : State) (bytes : List ℕ) (blocks : List History)
    (lines : List StreamLine) : Type 0 where
  more : List History
  legal : LegalFrom f c.layout m (joined more)
  callers : AllByRecursion (λ e. stream_of e ≡ c.stream) (joined more)
  room : sum_by size_of (joined more) ≤ base.free
  going : GoingState
  pending : going.pending ≡ []
  reaches : ReachesState c (bytes ++ flat_map line_text lines) (blocks ++ more) (Going going)

abbrev pub next_going : StreamParams → GoingState → StreamLine → GoingState
next_going c old line = record {
  tally = tally_after c old.tally line;
  context = context_after c old.context line;
  pending = [];
  line = capped (old.line + 1);
}

lines_go : GoodLineTaken → (f : Cnf) (c : StreamParams) → Fits c.layout f → 0 < c.layout.streams
    → (lines : List StreamLine) (base : Database) (m : State) (bytes : List ℕ) (blocks : List History) (old : GoingState)
    → old.pending ≡ [] → Agrees f c.layout c.stream base old.context m → AllByRecursion IsWithinLimits lines
    → AreValid c.layout c.stream base lines → ReachesState c bytes blocks (Going old) → LinesGo f c base m bytes blocks lines
lines_go taken f c fits some [] base m bytes blocks old pending a limits valid reaches = record {
  more = [];
  legal = tt;
  callers = tt;
  room = omega arith;
  going = old;
  pending = pending;
  reaches = rw (append-nil bytes, append-nil blocks) reaches;
}
lines_go taken f c fits some (line ∷ lines) base m bytes blocks old pending a limits valid reaches =
    let goes : Goes f c base old.context m line = line_goes f c base old.context m line fits some a limits.0 valid.0 in
    let new = next_going c old line in
    let left : ReachesState c (bytes ++ line_text line) (blocks ++ goes.block ∷ []) (Going new) =
    taken c bytes (line_text line) blocks goes.block old new line reaches
    (limits.0, ap (λ (p : List ℕ). p ++ line_text line) pending) goes.judged
    (record { tally = refl; context = record { last = refl; free = refl; is_dropped = λ id. refl }; pending = refl; line = refl }) in
    let rest : LinesGo f c (after_line base line) (run m goes.block) (bytes ++ line_text line) (blocks ++ goes.block ∷ []) lines =
    lines_go taken f c fits some lines (after_line base line) (run m goes.block) (bytes ++ line_text line)
    (blocks ++ goes.block ∷ []) new
    refl goes.next limits.1 valid.1 left in
    record {
      more = goes.block ∷ rest.more;
      legal = legal-append f c.layout m goes.block (joined rest.more) goes.legal rest.legal;
      callers = callers-append c.stream goes.block (joined rest.more) goes.callers rest.callers;
      room = omega (arith, sum_by-append size_of goes.block (joined rest.more), goes.room, rest.room);
      going = rest.going;
      pending = rest.pending;
      reaches = rw (append_assoc blocks (goes.block ∷ []) rest.more, append_assoc bytes (line_text line) (flat_map line_text lines))
          at rest.reaches;
    }

-- The whole stream

pub all_others : (s t : ℕ) (h : History) → s ≢ t → AllByRecursion (λ e. stream_of e ≡ s) h → AllByRecursion (λ e. stream_of e ≡ t → ⊥) h
all_others s t [] other all = tt
all_others s t (e ∷ h) other all = (λ same. other (sym all.0 ∙ same), all_others s t h other all.1)

-- if all events of a history are one stream's and use at most its room, no stream uses more room
all_spent : (p : LayoutValue) (s : ℕ) (h : History) → AllByRecursion (λ e. stream_of e ≡ s) h → sum_by size_of h ≤ p.room
    → (t : ℕ) → spent t h ≤ p.room
all_spent p s h callers room t = elim (cases_eq s t) [
  | inl same ↦ subst (λ (n : ℕ). spent n h ≤ p.room) same (omega (arith, spent-sizes s h, ap (sum_by size_of) (own-all s h callers), room))
  | inr other ↦
      let none : own h t ≡ [] = own-none h t (all_others s t h other callers) in
      omega (arith, spent-sizes t h, ap (sum_by size_of) none)
]

-- A list with one element at its end, after copies of another element

padded : {X : Type 0} → ℕ → X → X → List X
padded zero x y = y ∷ []
padded (suc k) x y = x ∷ padded k x y

padded_at : {X : Type 0} (k : ℕ) (x y : X) → slice_get (padded k x y) k ≡ Some y
unfolding padded
padded_at zero x y = refl
padded_at (suc k) x y = padded_at k x y

padded_judged : (run_params : RunParamsValue) (s : ℕ) (h : History) (stream : Stream) (report : Report) (k n : ℕ) → n + k ≡ s
    → IsJudgedBy (stream_params run_params s) stream (own h s) report
    → AreJudgedIn run_params (one s) h n (padded k empty_stream stream) (padded k empty_report report)
unfolding padded
padded_judged run_params s h stream report zero n is judged =
    let here : n ≡ s = omega arith in
    ((λ member. subst (λ (t : ℕ). IsJudgedBy (stream_params run_params t) stream (own h t) report) (sym here) judged), tt)
padded_judged run_params s h stream report (suc k) n is judged = (
  (λ member. absurd (omega (arith, only s n member, is))),
  padded_judged run_params s h stream report k (n + 1) (omega arith) judged,
)

all_members : (s : ℕ) (h : History) → AllByRecursion (λ e. stream_of e ≡ s) h → AllByRecursion (λ e. IsTrue (one s (stream_of e))) h
all_members s [] all = tt
all_members s (e ∷ h) all = (eq-eqb (stream_of e) s all.0, all_members s h all.1)

-- capping a small count doesn't change it
all_counted : (n most : ℕ) → capped (n + 0) ≤ most → most ≤ 268435456 → capped (n + 0) ≡ n
all_counted n most shown few = omega (arith, shown, few)

-- a stream whose lines were all taken, and that has no bytes left, has its valid report
pub ended_report : EndJudged → EmptyCut → OneCut
    → (run_params : RunParamsValue) (s : ℕ) (lines : List StreamLine) (more : List History) (going : GoingState)
    → going.pending ≡ [] → AllByRecursion IsWithinLimits lines
    → ReachesState (stream_params run_params s) (flat_map line_text lines) more (Going going)
    → JudgesBlocks (stream_params run_params s) (flat_map line_text lines) stream_ends.Ended more (valid_report run_params s lines)
ended_report ends empty_cut one_cut run_params s lines more going pending limits reaches =
    let c = stream_params run_params s in
    let texts = flat_map line_text lines in
    let cut : Cut texts lines [] = record { bytes = sym (append-nil texts); each = limits; last = empty_cut.last } in
    let same = one_cut texts reaches.lines lines going.pending [] reaches.cut cut in
    let says : report_of_tally going.tally (ending_at stream_ends.Ended going.pending going.line) ≡ valid_report run_params s lines =
    ap (λ (p : List ℕ). report_of_tally going.tally (ending_at stream_ends.Ended p going.line)) pending
    ∙ reaches.tally endings.Ended
    ∙ ap (λ (ls : List StreamLine). report_of c ls 0 endings.Ended) same.0 in
    subst (JudgesBlocks c texts stream_ends.Ended more) says (ends c texts more going stream_ends.Ended reaches)

module _ (taken : GoodLineTaken) (fresh : FreshLeft) (ends : EndJudged)
    (empty_cut : EmptyCut) (one_cut : OneCut) where
  -- in a legal history of only the stream's own calls, the stream has its valid report
  pub valid_judged : (f : Cnf) (run_params : RunParamsValue) (s : ℕ) (bytes : List ℕ) (lines : List StreamLine)
      → IsCnf f → Fits run_params.layout f → IsStream run_params.layout s → IsValidProof f run_params.layout s bytes lines
      → (j : IsJudgedWhole f run_params s bytes (valid_report run_params s lines)) × AllByRecursion (λ e. stream_of e ≡ s) j.history
  valid_judged f run_params s bytes lines cnf fits stream valid =
      let c = stream_params run_params s in
      let first : GoingState = record {
        tally = record { added = 0; deleted = 0; empty = false; within = false };
        context = context_of c [];
        pending = [];
        line = 1;
      } in
      let left : ReachesState c [] [] (Going first) = fresh c first (record {
        tally = refl;
        context = record { last = refl; free = refl; is_dropped = λ id. refl };
        pending = refl;
        line = refl;
      }) in
      let on : LinesGo f c (first_database f run_params.layout) (opening f) [] [] lines =
      lines_go taken f c fits (omega (arith, stream.0, stream.1)) lines (first_database f run_params.layout)
      (opening f) [] [] first refl
      (first_agrees f c cnf fits) valid.fits
      (alone_valid run_params.layout s lines (λ t. first_database f run_params.layout) valid.valid) left in
      let texts = flat_map line_text lines in
      let whole : JudgesBlocks c texts stream_ends.Ended on.more (valid_report run_params s lines) =
      ended_report ends empty_cut one_cut run_params s lines on.more on.going on.pending valid.fits on.reaches in (
        record {
          history = joined on.more;
          legal = record { events = on.legal; room = all_spent run_params.layout s (joined on.more) on.callers on.room };
          judges = record {
            blocks = on.more;
            events = refl;
            judges = rw valid.text whole;
          };
        },
        on.callers,
      )

  -- A stream on its own

  pub valid_accepted : ValidAccepted
  valid_accepted f run_params s bytes lines cnf fits stream valid =
      let j = valid_judged f run_params s bytes lines cnf fits stream valid in
      let report = valid_report run_params s lines in
      let its : Stream = record { bytes = bytes; unneeded = []; end = Some stream_ends.Ended } in
      let at = padded_at (s - 1) empty_stream its in
      let says = padded_at (s - 1) empty_report report in
      record {
        streams = padded (s - 1) empty_stream its;
        reports = padded (s - 1) empty_report report;
        stream = its;
        alone = record {
          history = j.0.history;
          members = all_members s j.0.history j.1;
          legal = j.0.legal;
          judged = padded_judged run_params s j.0.history its report (s - 1) 1 (omega (arith, stream.0)) (
            j.0.judges.blocks,
            own-all s j.0.history j.1 ∙ j.0.judges.events,
            judged_out (stream_params run_params s) bytes [] stream_ends.Ended j.0.judges.blocks report j.0.judges.judges,
          );
          memory = λ t other member there.
              let here = subst (λ (n : ℕ). IsOfStream (padded (s - 1) empty_report report) n other) (only s t member) there in
              let same : report ≡ other = same_at (padded (s - 1) empty_report report) s report other (stream.0, says) here in
              subst (λ (r : Report). ¬ IsExcused OutOfMemory r) same (λ memory. let no :
              endings.Ended ≡ endings.Memory memory.0 = memory.1 in cc);
        };
        at = (stream.0, at);
        reads = (refl, refl);
        says = (stream.0, says);
      }

  -- What is counted

  pub valid_counted : CountsWithin → ValidCounted
  valid_counted within f run_params s bytes lines cnf layout fits stream valid =
      let j = valid_judged f run_params s bytes lines cnf fits stream valid in
      let report = valid_report run_params s lines in
      let few = within f (stream_params run_params s) j.0.history bytes stream_ends.Ended j.0.judges.blocks report j.0.legal
      (own-all s j.0.history j.1 ∙ j.0.judges.events) j.0.judges.judges in
      all_counted (sum_by (λ line. length (deleted_by line)) lines) (last_identity run_params.layout) few.1 (omega (arith, layout.row))

  -- In a run

  pub valid_reported : ValidCiteWithin → BeginningsWithin → ClosedIsGroup → AloneDecides → DecidedBeforeFailure → ValidReported
  valid_reported within begins group decides decided f run_params s bytes lines observed observation reports report cnf fits stream valid
      run here entry
      says fine =
      let mine = valid_judged f run_params s bytes lines cnf fits stream valid in
      let theirs = whole_judged begins group decided f run_params s bytes observed observation reports report fits
      (within f run_params.layout s bytes lines fits valid) run here entry says (fine_memory report fine) (fine_failure report fine) in
      (decides f run_params.layout (stream_params run_params s) bytes stream_ends.Ended theirs.history mine.0.history report
      (valid_report run_params s lines)
      theirs.legal mine.0.legal theirs.judges mine.0.judges (fine_memory report fine) (λ m. let no :
      endings.Ended ≡ endings.Memory m.0 = m.1 in cc)).1

pub valid_has_one_report : ValidAccepted → AloneHasOneReport → ValidHasOneReport
valid_has_one_report accepted law f run_params s bytes lines report cnf fits stream valid other =
    let mine = accepted f run_params s bytes lines cnf fits stream valid in
    law f run_params s bytes stream_ends.Ended other.streams mine.streams other.reports mine.reports other.stream mine.stream
    report (valid_report run_params s lines) other.alone mine.alone other.at mine.at other.reads mine.reads other.says mine.says
