-- Laws of judging, each of which is the contract of a function in `src/laws.rt`, and the
-- definitions that they need.
use Rattle.std.specs.Prelude.{◌≡◌, ◌≢◌, ◌↔◌, ◌≤◌, ◌<◌, ◌^◌, ◌-◌, ◌++◌, ℕ, ℤ, Bool, IsTrue, List, [], ◌∷◌, map}
use Rattle.std.specs.List.{AllByRecursion, Any}
use Rattle.lrup_model.specs.Cube.{CubeValue, Within}
use Rattle.lrup_model.specs.Formula.{Cnf}
use Rattle.lrup_model.specs.Entailment.{Follows}
use Rattle.lrup_model.specs.Layout.{LayoutValue, Fits, Owns, last_identity}
use Rattle.lrup_model.specs.State.{State, opening}
use Rattle.lrup_model.specs.History.{LegalFrom, IsLegal}
use Rattle.lrup_model.specs.Event as events
use Rattle.lrup_model.specs.Event.{Event, History, stream_of, own}
use Rattle.lrup_model.specs.CallerView.{CallerView}
use Rattle.lrup_model.specs.Plain.{Plain, plain_caller_view, PlainMoves}
use Rattle.lrup_text.specs.Lines.{StreamLine, Addition, Deletion, Import, Cut, LineText}
use Rattle.lrup_text.specs.declared.device.StreamEnd.{StreamEnd}
use Rattle.lrup_text.specs.declared.device.StreamEnd.TheVariants as stream_ends
use Rattle.stream_check.specs.declared.report.Report.{Report}
use Rattle.stream_check.specs.StreamParams.{StreamParams}
use Rattle.stream_check.specs.Excuses.{OutOfMemory, ReadFailed, IsExcused}
use Rattle.stream_check.specs.Judging.{JudgesLine, joined, ending_at, JudgesBlocks, Judges}
use Rattle.stream_check.specs.Forks.{NeverFork}
use Rattle.lrup_model.specs.Distinct.{distinct}
use Rattle.stream_check.specs.StreamContext.{StreamContext, additions_of}
use Rattle.stream_check.specs.Stopping.{StopsAtLine, DropsUntilStop}
use Rattle.stream_check.specs.Additions.{JudgesAddition}
use Rattle.stream_check.specs.Reducing.{reduced, AreEarly, TriesAgain}
use Rattle.stream_check.specs.Finding.{FindsSound}
use Rattle.stream_check.specs.Verdicts.{LineVerdict, Good}
use Rattle.stream_check.specs.Reaching.{GoingState, Going, JudgesBothEnds, ReachesState, IsFresh, TakesLine}
use Rattle.stream_check.specs.CheckerValue.{report_of_tally, CheckerValue}
use Rattle.stream_check.specs.Checker.{IsNew, IsReadyAt}

-- What a checker holds, step by step

-- a fresh state is reached before any bytes and blocks
abbrev pub FreshLeft : Type 0
FreshLeft = (c : StreamParams) (now : GoingState) → IsFresh c now → ReachesState c [] [] (Going now)

-- one more good line, with its block of events, leads to the state after that line
abbrev pub GoodLineTaken : Type 0
GoodLineTaken = (c : StreamParams) (bytes piece : List ℕ) (blocks : List History) (block : History)
    (old new : GoingState) (line : StreamLine)
    → ReachesState c bytes blocks (Going old) → LineText line (old.pending ++ piece)
    → JudgesLine c old.context line block Good → TakesLine c old line new
    → ReachesState c (bytes ++ piece) (blocks ++ block ∷ []) (Going new)

-- at the end of the stream, or if a read fails, the report made from the checker's counts is right
abbrev pub EndJudged : Type 0
EndJudged = (c : StreamParams) (bytes : List ℕ) (blocks : List History) (old : GoingState)
    (end : StreamEnd)
    → ReachesState c bytes blocks (Going old)
    → JudgesBlocks c bytes end blocks
    (report_of_tally old.tally (ending_at end old.pending old.line))

-- a report that is right for both ends stays right for any further bytes
abbrev pub FinishedStays : Type 0
FinishedStays = (c : StreamParams) (bytes more : List ℕ) (blocks : List History) (report : Report)
    → JudgesBothEnds c bytes blocks report → JudgesBothEnds c (bytes ++ more) blocks report

-- a report that doesn't mention the failed read was decided before it: the report is right for
-- either end and for any further bytes
abbrev pub DecidedBeforeFailure : Type 0
DecidedBeforeFailure =
    (c : StreamParams) (bytes more : List ℕ) (end : StreamEnd) (blocks : List History)
    (report : Report)
    → ¬ IsExcused ReadFailed report → JudgesBlocks c bytes stream_ends.Failed blocks report
    → JudgesBlocks c (bytes ++ more) end blocks report

-- the report of a stream that a line stopped determines what the stream dropped, if the report's
-- numbers are below 2^64 - 1
abbrev pub DroppedOnce : Type 0
DroppedOnce =
    (c : StreamParams) (bytes : List ℕ) (blocks others : List History) (report : Report)
    (is_dropped other : ℕ → Bool) (line : ℕ)
    → StopsAtLine report.ending line → line < 2 ^ 64 - 1 → report.deleted < 2 ^ 64 - 1
    → DropsUntilStop c bytes blocks report is_dropped → DropsUntilStop c bytes others report other
    → (id : ℕ) → is_dropped id ≡ other id

-- When a checker can be fed

-- a new checker can be fed, given a view of its stream at the opening of a run
abbrev pub ReadyNew : Type 0
ReadyNew = (f : Cnf) (layout : LayoutValue) (cube : CubeValue) (stream tries : ℕ) (v : CheckerValue)
    (p : CallerView)
    → IsNew layout cube stream tries v → Fits layout f
    → p.caller ≡ record { formula = f; layout = layout; stream = stream }
    → ((id : ℕ) → Owns layout stream id → p.own id ≡ opening f id)
    → IsReadyAt v p

-- if a checker can be fed, given its stream's view of the one-thread map, it can still be fed after
-- another stream's calls
abbrev pub ReadyBeside : Type 0
ReadyBeside = (v : CheckerValue) (old new : Plain) (t : ℕ) (es : History)
    → IsReadyAt v (plain_caller_view old v.params.stream) → PlainMoves old new t es
    → t ≢ v.params.stream
    → IsReadyAt v (plain_caller_view new v.params.stream)

-- One report

-- a stream's bytes, end and events allow at most one report and one list of blocks, unless memory
-- ran out
abbrev pub OneReport : Type 0
OneReport = (c : StreamParams) (bytes : List ℕ) (end : StreamEnd) (blocks others : List History)
    (report other : Report)
    → joined blocks ≡ joined others
    → JudgesBlocks c bytes end blocks report → JudgesBlocks c bytes end others other
    → ¬ IsExcused OutOfMemory report → ¬ IsExcused OutOfMemory other
    → (blocks ≡ others) × (report ≡ other)

-- replies decide: if the events of two judgements never fork, the blocks and the reports are equal
abbrev pub RepliesDecide : Type 0
RepliesDecide = (c : StreamParams) (bytes : List ℕ) (end : StreamEnd) (blocks others : List History)
    (report other : Report)
    → NeverFork (joined blocks) (joined others)
    → JudgesBlocks c bytes end blocks report → JudgesBlocks c bytes end others other
    → ¬ IsExcused OutOfMemory report → ¬ IsExcused OutOfMemory other
    → (blocks ≡ others) × (report ≡ other)

-- both lists are empty or neither is; and if their first blocks, with any events after each, never
-- fork, these two blocks are equal
abbrev pub GoAlike : List History → List History → Type 0
GoAlike [] [] = Unit {0}
GoAlike [] (other ∷ others) = ⊥
GoAlike (block ∷ blocks) [] = ⊥
GoAlike (block ∷ blocks) (other ∷ others) =
    (later others_later : History) → NeverFork (block ++ later) (other ++ others_later)
    → block ≡ other

-- if a stream is judged twice, and both lists of blocks begin alike, the lists continue alike
abbrev pub BlocksGoAlike : Type 0
BlocksGoAlike = (c : StreamParams) (bytes : List ℕ) (end : StreamEnd)
    (before blocks others : List History) (report other : Report)
    → JudgesBlocks c bytes end (before ++ blocks) report
    → JudgesBlocks c bytes end (before ++ others) other
    → ¬ IsExcused OutOfMemory report → ¬ IsExcused OutOfMemory other
    → GoAlike blocks others

-- legal histories never fork
abbrev pub LegalNeverFork : Type 0
LegalNeverFork = (f : Cnf) (p : LayoutValue) (m : State) (g h : History) → LegalFrom f p m g
    → LegalFrom f p m h → NeverFork g h

-- a stream on its own has only one report, which is the same for all legal histories
abbrev pub AloneDecides : Type 0
AloneDecides = (f : Cnf) (p : LayoutValue) (c : StreamParams) (bytes : List ℕ) (end : StreamEnd)
    (g h : History) (report other : Report)
    → IsLegal f p g → IsLegal f p h
    → Judges c bytes end g report → Judges c bytes end h other
    → ¬ IsExcused OutOfMemory report → ¬ IsExcused OutOfMemory other
    → (g ≡ h) × (report ≡ other)

-- Good additions

-- the clause of a good addition follows from the formula if the clauses that its events find do
abbrev pub GoodFollows : Type 0
GoodFollows =
    (f : Cnf) (c : StreamParams) (st : StreamContext) (id : ℕ) (lits : List ℤ) (hints : List ℕ)
    (es : History)
    → JudgesAddition c st id lits hints es Good → AllByRecursion (FindsSound f) es
    → Follows f (distinct lits)

-- The events of a line

-- before a line's last event there are only fetches, and retires with the reply Done
abbrev pub EarlyEvents : Type 0
EarlyEvents = (c : StreamParams) (st : StreamContext) (line : StreamLine) (es : History)
    (v : LineVerdict) → JudgesLine c st line es v → AreEarly es

-- in a line, a vacant fetch is the last event, or the next event fetches the same identity again
abbrev pub VacantTriesAgain : Type 0
VacantTriesAgain = (c : StreamParams) (st : StreamContext) (line : StreamLine) (es : History)
    (v : LineVerdict) → JudgesLine c st line es v → TriesAgain es

-- a report stays right if the blocks lose the vacant fetches of hints that were found later
abbrev pub ReducedStream : Type 0
ReducedStream = (c : StreamParams) (bytes : List ℕ) (end : StreamEnd) (blocks : List History)
    (report : Report)
    → JudgesBlocks c bytes end blocks report → JudgesBlocks c bytes end (map reduced blocks) report

-- What lines cite

-- each identity that a line may fetch, including the stream's own and the formula's: the hints of
-- an addition, and the identity of an import; a deletion fetches none
abbrev pub cited_by : StreamLine → List ℕ
cited_by (Addition id lits hints) = hints
cited_by (Deletion lead ids) = []
cited_by (Import id lits) = id ∷ []

-- if the event is a fetch, its identity passes the test
abbrev pub FetchesOnly : (ℕ → Bool) → Event → Type 0
FetchesOnly p (events.fetch s id r) = IsTrue (p id)
FetchesOnly p (events.publish s id c r) = Unit {0}
FetchesOnly p (events.retire s id r) = Unit {0}

-- a stream fetches only identities that its lines cite: if all identities that the lines cite pass
-- a test, so do all that the stream fetches
abbrev pub CitedFetched : Type 0
CitedFetched = (c : StreamParams) (bytes : List ℕ) (end : StreamEnd) (blocks : List History)
    (report : Report) (all : List StreamLine) (rest : List ℕ) (p : ℕ → Bool)
    → JudgesBlocks c bytes end blocks report → Cut bytes all rest
    → AllByRecursion (λ line. AllByRecursion (λ h. IsTrue (p h)) (cited_by line)) all
    → AllByRecursion (FetchesOnly p) (joined blocks)

-- Cubes

-- the report says 'within' exactly if a good addition's clause is within the cube
abbrev pub WithinReported : Type 0
WithinReported = (c : StreamParams) (bytes : List ℕ) (end : StreamEnd) (blocks : List History)
    (report : Report)
    → (j : JudgesBlocks c bytes end blocks report) → IsTrue report.within
    ↔ Any (λ addition. Within addition.1 c.cube) (additions_of j.lines)

-- with the empty cube, the report says 'within' exactly if it says 'empty'
abbrev pub EmptyCubeReported : Type 0
EmptyCubeReported = (c : StreamParams) (bytes : List ℕ) (end : StreamEnd) (blocks : List History)
    (report : Report)
    → c.cube ≡ [] → JudgesBlocks c bytes end blocks report → report.within ≡ report.empty

-- Counts

-- In a legal history a stream neither adds more clauses nor deletes more identities than there are
-- identities.
abbrev pub CountsWithin : Type 0
CountsWithin = (f : Cnf) (c : StreamParams) (h : History) (bytes : List ℕ) (end : StreamEnd)
    (blocks : List History) (report : Report)
    → IsLegal f c.layout h → own h c.stream ≡ joined blocks
    → JudgesBlocks c bytes end blocks report
    → (report.added ≤ last_identity c.layout) × (report.deleted ≤ last_identity c.layout)
