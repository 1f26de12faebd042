-- What a checker holds, and what it takes from a piece of its stream (this project's own).
use Rattle.std.specs.Prelude.{◌≡◌, ◌⊎◌, ◌≤◌, ◌++◌, ℕ, List, [], ◌∷◌, length, Option, Some, None}
use Rattle.lrup_model.specs.Cube.{CubeValue}
use Rattle.lrup_model.specs.Event.{History}
use Rattle.lrup_model.specs.Layout.{LayoutValue}
use Rattle.lrup_model.specs.CallerView.{CallerView, IsVacantAbove}
use Rattle.lrup_text.specs.declared.LineFault.{LineFault}
use Rattle.lrup_text.specs.Lines.{StreamLine, Cut, LineText}
use Rattle.lrup_text.specs.Faults.{IsRefused}
use Rattle.lrup_text.specs.declared.device.StreamEnd.{StreamEnd}
use Rattle.stream_check.specs.declared.fault.Fault.TheVariants as faults
use Rattle.stream_check.specs.declared.report.Ending.{Ending}
use Rattle.stream_check.specs.declared.report.Ending.TheVariants as endings
use Rattle.stream_check.specs.declared.progress.CheckStatus.{CheckStatus}
use Rattle.stream_check.specs.declared.progress.CheckStatus.TheVariants as statuses
use Rattle.stream_check.specs.StreamParams.{StreamParams}
use Rattle.stream_check.specs.StreamContext.{is_among}
use Rattle.stream_check.specs.Judging.{ending_at, JudgesBlocks}
use Rattle.stream_check.specs.Reaching.{GoingState, CheckerState, Going, Over, ReachesState}
use Rattle.stream_check.specs.CheckerValue.{report_of_tally, CheckerValue}

abbrev pub going_of : CheckerValue → ℕ → GoingState
going_of checker free = record {
  tally = checker.tally;
  context = record { last = checker.last; free = free; is_dropped = is_among checker.dropped.ids };
  pending = checker.pending;
  line = checker.line;
}

abbrev pub state_by : CheckerValue → ℕ → Option Ending → CheckerState
state_by checker free None = Going (going_of checker free)
state_by checker free (Some ending) =
    Over (report_of_tally checker.tally ending) (is_among checker.dropped.ids)

-- the state of a checker whose stream has this much room left
abbrev pub checker_state : CheckerValue → ℕ → CheckerState
checker_state checker free = state_by checker free checker.ending

-- the view belongs to this stream and this layout
pub record IsViewOf (params : StreamParams) (view : CallerView) : Type 0 where
  pub layout : view.caller.layout ≡ params.layout
  pub stream : view.caller.stream ≡ params.stream

-- What a checker requires of a view: it belongs to the checker's stream, and the stream's own
-- identities above the last one that was added are vacant.
pub record IsReadyAt (checker : CheckerValue) (view : CallerView) : Type 0 where
  pub at : IsViewOf checker.params view
  pub vacant : IsVacantAbove view checker.last

-- If some bytes and blocks led to the old state, then with these further bytes and blocks they lead
-- to the new one.
abbrev pub Extends : StreamParams → CheckerState → List ℕ → List History → CheckerState → Type 0
Extends params old used blocks new = (bytes : List ℕ) (before : List History)
    → ReachesState params bytes before old
    → ReachesState params (bytes ++ used) (before ++ blocks) new

-- How many blocks of events a call adds: one if it ends a good line, none if it ends no line, at
-- most one if it finishes the checker.
abbrev pub AreBlocksOf : CheckStatus → List History → Type 0
AreBlocksOf statuses.Line blocks = length blocks ≡ 1
AreBlocksOf statuses.More blocks = blocks ≡ []
AreBlocksOf statuses.Over blocks = length blocks ≤ 1

-- The text that finished the checker: a whole line, or a text with which no line begins, up to the
-- byte that decided this.
abbrev pub StopsAt : Ending → List ℕ → Type 0
StopsAt ending text =
    ((line : StreamLine) × LineText line text)
    ⊎ ((number : ℕ) × (fault : LineFault) × (ending ≡ endings.Bad number (faults.Text fault))
    × IsRefused text fault)

-- The result for the bytes that were used: they end a line, they end no line, or the checker is
-- finished.
abbrev pub FeedsChecker : CheckStatus → CheckerValue → CheckerValue → List ℕ → List ℕ → Type 0
FeedsChecker statuses.Line old new piece used =
    (new.ending ≡ None) × (new.pending ≡ [])
    × ((bytes : List ℕ) (lines : List StreamLine) → Cut bytes lines old.pending
    → (line : StreamLine) × Cut (bytes ++ used) (lines ++ line ∷ []) [])
FeedsChecker statuses.More old new piece used =
    (new.ending ≡ None) × (used ≡ piece) × (new.pending ≡ old.pending ++ piece)
    × ((bytes : List ℕ) (lines : List StreamLine) → Cut bytes lines old.pending
    → Cut (bytes ++ used) lines new.pending)
FeedsChecker statuses.Over old new piece used =
    (ending : Ending) × (new.ending ≡ Some ending)
    × (old.ending ≡ None → StopsAt ending (old.pending ++ used))

-- a finished checker takes nothing and doesn't change
abbrev pub StaysFinished : CheckerValue → CheckerValue → List ℕ → Type 0
StaysFinished old new used = (ending : Ending) → old.ending ≡ Some ending
    → (new ≡ old) × (used ≡ [])

-- the checker is new: it has these parameters, and has taken no bytes
pub record IsNew (layout : LayoutValue) (cube : CubeValue) (stream tries : ℕ)
    (checker : CheckerValue) : Type 0 where
  pub params : checker.params
      ≡ record { layout = layout; cube = cube; stream = stream; tries = tries }
  pub last : checker.last ≡ layout.clauses
  pub retired : checker.retired ≡ 0
  pub ending : checker.ending ≡ None
  pub left : ReachesState checker.params [] [] (checker_state checker layout.room)

abbrev pub EndsBy : Option Ending → StreamEnd → CheckerValue → CheckerValue → Type 0
EndsBy None end old new =
    (new.params ≡ old.params) × (new.tally ≡ old.tally)
    × (new.ending ≡ Some (ending_at end old.pending old.line)) × (new.last ≡ old.last)
    × (new.dropped ≡ old.dropped)
EndsBy (Some ending) end old new = new ≡ old

-- The end of the stream, or a failed read, finishes the checker; a checker that was finished stays
-- unchanged.
abbrev pub Ends : StreamEnd → CheckerValue → CheckerValue → Type 0
Ends end old new = EndsBy old.ending end old new

-- If some bytes and blocks led to the old checker, the new report is right for them and this end.
abbrev pub ReportsEnd : StreamEnd → CheckerValue → CheckerValue → Type 0
ReportsEnd end old new =
    (bytes : List ℕ) (blocks : List History) (free : ℕ)
    → ReachesState old.params bytes blocks (checker_state old free)
    → (ending : Ending) × (new.ending ≡ Some ending)
    × JudgesBlocks old.params bytes end blocks (report_of_tally new.tally ending)
