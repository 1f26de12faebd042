-- A checker after a line (this project's own).
use Rattle.std.specs.Prelude.{◌≡◌, ◌+◌, ◌++◌, ℕ, List, [], length, None, Result, Ok, Err}
use Rattle.lrup_model.specs.Event.{History}
use Rattle.lrup_model.specs.CallerView.{CallerView, IsVacantAbove}
use Rattle.lrup_text.specs.Lines.{StreamLine, Deletion}
use Rattle.stream_check.specs.declared.report.Ending.{Ending}
use Rattle.stream_check.specs.declared.report.Ending.TheVariants as endings
use Rattle.stream_check.specs.declared.line_stop.LineStop.{LineStop}
use Rattle.stream_check.specs.declared.line_stop.LineStop.TheVariants as stops
use Rattle.stream_check.specs.StreamContext.{capped, is_among, deleted_by}
use Rattle.stream_check.specs.Verdicts.{Good, Bad}
use Rattle.stream_check.specs.Deletions.{StopsDeletion}
use Rattle.stream_check.specs.Judging.{JudgesLine}
use Rattle.stream_check.specs.Reaching.{GoingState, TakesLine}
use Rattle.stream_check.specs.Checker.{IsViewOf, going_of}
use Rattle.stream_check.specs.internal.Checking.{AreDropped}
use Rattle.stream_check.specs.internal.CheckerInside.{StreamStateValue, context_at, deleted_at, KeepsLines, value_of}

-- what an unfinished checker holds, if it has read this part of the next line, and this much room
-- is left
abbrev pub hold : StreamStateValue → List ℕ → ℕ → GoingState
hold state pending free = going_of (value_of state pending None) free

-- with this view the next line can be checked
pub record IsReady (state : StreamStateValue) (view : CallerView) : Type 0 where
  pub at : IsViewOf state.params view
  pub vacant : IsVacantAbove view state.last

-- these further identities were deleted, the shared ones among them were dropped, and nothing else
-- was counted
pub record DeletesMore (old new : StreamStateValue) (ids : List ℕ) : Type 0 where
  pub kept : KeepsLines old new
  pub deleted : deleted_at new ≡ capped (deleted_at old + length ids)
  pub dropped : AreDropped old.params old.dropped.ids ids new.dropped.ids

-- how a line with these events changes the state and the room, and what the result is
abbrev pub TakesBy : StreamStateValue → ℕ → StreamStateValue → ℕ → StreamLine → History
    → Result (Unit {0}) LineStop → Type 0
TakesBy old free new left line history (Ok _) =
    JudgesLine old.params (context_at old free) line history Good
    × ((read : List ℕ) → TakesLine old.params (hold old read free) line (hold new [] left))
TakesBy old free new left line history (Err (stops.Bad fault)) =
    (ids later : List ℕ) × (deleted_by line ≡ ids ++ later)
    × JudgesLine old.params (context_at old free) line history (Bad (length ids) fault)
    × DeletesMore old new ids
TakesBy old free new left line history (Err stops.Memory) =
    (lead : ℕ) × (ids earlier : List ℕ) × (line ≡ Deletion lead ids)
    × StopsDeletion old.params (is_among old.dropped.ids) ids history earlier
    × DeletesMore old new earlier

-- the ending, if this line stopped the stream
abbrev pub ending_of : ℕ → LineStop → Ending
ending_of line (stops.Bad fault) = endings.Bad line fault
ending_of line stops.Memory = endings.Memory line
