-- Laws of the order of lines. Each is the contract of a function in a module of laws.
use Rattle.std.specs.Prelude.{◌≡◌, ℕ, Bool, true, IsTrue, List, length}
use Rattle.std.specs.List.{AllByRecursion}
use Rattle.lrup_model.specs.Formula.{Cnf}
use Rattle.lrup_model.specs.Layout.{LayoutValue, Fits, IsStream}
use Rattle.lrup_model.specs.Event as events
use Rattle.lrup_model.specs.Event.{Event, History, own}
use Rattle.lrup_model.specs.History.{IsLegal}
use Rattle.lrup_model.specs.Laws.{FindsWithin}
use Rattle.lrup_text.specs.Lines.{StreamLine, Cut}
use Rattle.lrup_text.specs.declared.device.StreamEnd.{StreamEnd}
use Rattle.stream_check.specs.declared.report.Report.{Report}
use Rattle.stream_check.specs.StreamParams.{StreamParams}
use Rattle.stream_check.specs.StreamContext.{deleted_by}
use Rattle.stream_check.specs.Judging.{joined, JudgesBlocks}
use Rattle.stream_check.specs.Streams.{Stream, Block, events_in, InputObservation, RunParamsValue, IsOrdered}
use Rattle.stream_check.specs.SequentialConsistency.{AreJudgedIn}
use Rattle.stream_check.specs.Closed.{IsClosed}
use Rattle.run_laws.specs.Groups.{IsRun}
use Rattle.run_laws.specs.Lines.{IsLineBlock, IsOrder}
use Rattle.run_laws.specs.Premises.{FoundStays, MeetsUnretired, KeepShared}
use Rattle.run_laws.specs.Serializable.{ComeToVerdict, IsSerializable}

-- The lines of a stream

-- each block by which a stream is judged has the form of a line's events
abbrev pub JudgedBlocks : Type 0
JudgedBlocks = (c : StreamParams) (bytes : List ℕ) (end : StreamEnd) (blocks : List History)
    (report : Report)
    → JudgesBlocks c bytes end blocks report → AllByRecursion IsLineBlock blocks

-- if the event is a retire, its identity passes the test
abbrev pub RetiresOnly : (ℕ → Bool) → Event → Type 0
RetiresOnly p (events.fetch s id r) = Unit {0}
RetiresOnly p (events.publish s id c r) = Unit {0}
RetiresOnly p (events.retire s id r) = IsTrue (p id)

-- A stream retires only identities that its lines delete: if all identities that the lines delete
-- pass a test, so do all that the stream retires.
abbrev pub DeletedRetired : Type 0
DeletedRetired = (c : StreamParams) (bytes : List ℕ) (end : StreamEnd) (blocks : List History)
    (report : Report)
    (all : List StreamLine) (rest : List ℕ) (p : ℕ → Bool)
    → JudgesBlocks c bytes end blocks report → Cut bytes all rest
    → AllByRecursion (λ line. AllByRecursion (λ id. IsTrue (p id)) (deleted_by line)) all
    → AllByRecursion (RetiresOnly p) (joined blocks)

-- An order of lines

-- If the streams of a set find no clause of a stream outside the set, and no clause that one of
-- them finds live and doesn't own is retired in the end, their lines have an order.
abbrev pub LinesOrdered : Type 0
LinesOrdered = (f : Cnf) (p : LayoutValue) (set : ℕ → Bool) (h : History) (blocks : ℕ
    → List History)
    → Fits p f → IsLegal f p h → AllByRecursion (FindsWithin p set) h
    → ((s : ℕ) → IsStream p s → IsTrue (set s) → own h s ≡ joined (blocks s))
    → ((s : ℕ) → IsStream p s → IsTrue (set s) → AllByRecursion IsLineBlock (blocks s))
    → FoundStays f p set h
    → (order : List Block) × IsOrder f p set blocks order

-- If one legal history judges a closed set of streams, and no clause that one of them finds live
-- and doesn't own is retired in the end, their reports have an order of lines.
abbrev pub ClosedOrdered : Type 0
ClosedOrdered = (f : Cnf) (run_params : RunParamsValue) (set : ℕ → Bool) (h : History)
    (streams : List Stream) (reports : List Report)
    → Fits run_params.layout f → length streams ≡ run_params.layout.streams
    → IsLegal f run_params.layout h → AreJudgedIn run_params set h 1 streams reports
    → IsClosed run_params.layout set streams → FoundStays f run_params.layout set h
    → IsOrdered f run_params set streams reports

-- all streams together are a closed set
abbrev pub AllClosed : Type 0
AllClosed = (p : LayoutValue) (streams : List Stream) → IsClosed p (λ s. true) streams

-- If no clause that a stream finds live and doesn't own is retired in the end, the reports of all
-- streams have an order of lines with the verdict of the reports: some report says that its stream
-- added the empty clause exactly if the order publishes the empty clause, and the same holds for
-- clauses within the cube.
abbrev pub AllOrdered : Type 0
AllOrdered = (f : Cnf) (run_params : RunParamsValue) (h : History)
    (streams : List Stream) (reports : List Report)
    → Fits run_params.layout f → length streams ≡ run_params.layout.streams
    → IsLegal f run_params.layout h → AreJudgedIn run_params (λ s. true) h 1 streams reports
    → FoundStays f run_params.layout (λ s. true) h
    → (order : IsOrdered f run_params (λ s. true) streams reports)
    × ComeToVerdict run_params.cube (events_in order.blocks) reports

-- The premise of these laws

-- if the history retires no identity that a stream of the set found, live or retired, and doesn't
-- own, then each clause that a stream of the set found live and doesn't own stays live
abbrev pub OwnersAloneSuffices : Type 0
OwnersAloneSuffices = (f : Cnf) (p : LayoutValue) (set : ℕ → Bool) (h : History)
    → ((s : ℕ) → IsStream p s → IsTrue (set s) → AllByRecursion (MeetsUnretired p h) (own h s))
    → FoundStays f p set h

-- if no stream of a closed set deletes a clause of its own that another stream of the set cites,
-- each clause that a stream of the set found live and doesn't own stays live
abbrev pub SharedStays : Type 0
SharedStays =
    (f : Cnf) (run_params : RunParamsValue) (set : ℕ → Bool) (h : History) (streams : List Stream)
    (reports : List Report)
    → Fits run_params.layout f → length streams ≡ run_params.layout.streams
    → IsLegal f run_params.layout h → AreJudgedIn run_params set h 1 streams reports
    → IsClosed run_params.layout set streams → KeepShared run_params.layout set streams
    → FoundStays f run_params.layout set h

-- Runs

-- the lines of every run are serializable
abbrev pub RunSerializable : Type 0
RunSerializable = (f : Cnf) (run_params : RunParamsValue) (observed : List InputObservation)
    (reports : List Report)
    → Fits run_params.layout f → (run : IsRun f run_params observed reports) → IsSerializable run
