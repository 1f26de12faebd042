-- The states of a checker, and the state to which the bytes so far lead, with the blocks of events
-- of their lines (this project's own).
use Rattle.std.specs.Prelude.{◌≡◌, ◌==◌, ◌+◌, ◌-◌, ◌&&◌, ◌||◌, ℕ, Bool, false, List, [], ◌∷◌, length}
use Rattle.std.specs.List.{list_any, sum_by}
use Rattle.lrup_model.specs.Event.{History}
use Rattle.lrup_text.specs.Lines.{StreamLine, Addition, Deletion, Import, Cut, IsPending}
use Rattle.lrup_text.specs.declared.device.StreamEnd.TheVariants as stream_ends
use Rattle.stream_check.specs.declared.report.Ending.{Ending}
use Rattle.stream_check.specs.declared.report.Report.{Report}
use Rattle.stream_check.specs.StreamParams.{StreamParams, ownership_of, is_shared}
use Rattle.stream_check.specs.StreamContext.{StreamContext, context_of, additions_of, is_among, is_within, deleted_by, capped}
use Rattle.stream_check.specs.Judging.{AreGood, report_of, JudgesBlocks}
use Rattle.stream_check.specs.CheckerValue.{Tally, report_of_tally}
use Rattle.stream_check.specs.Stopping.{DropsUntilStop}

-- what an unfinished checker holds: its counts, the context that good lines left, the part of the
-- next line that was read, and that line's number
pub record GoingState : Type 0 where
  pub tally : Tally
  pub context : StreamContext
  pub pending : List ℕ
  pub line : ℕ

-- what an unfinished checker holds; or the report of a finished one, and which identities it
-- dropped
pub data CheckerState : Type 0 where
  Going : GoingState → CheckerState
  Over : (report : Report) (is_dropped : ℕ → Bool) → CheckerState

-- both contexts have the same last identity, room, and dropped identities
pub record SameContext (context other : StreamContext) : Type 0 where
  pub last : context.last ≡ other.last
  pub free : context.free ≡ other.free
  pub is_dropped : (id : ℕ) → context.is_dropped id ≡ other.is_dropped id

-- All lines are good, with these blocks of events, and the rest may still become a line. The
-- checker holds what the lines leave: its counts are those in a report of the lines, with any
-- ending.
pub record ReachesGoing (params : StreamParams) (bytes : List ℕ) (blocks : List History)
    (now : GoingState) : Type 0 where
  pub lines : List StreamLine
  pub cut : Cut bytes lines now.pending
  pub pending : IsPending now.pending
  pub good : AreGood params [] lines blocks
  pub tally : (ending : Ending)
      → report_of_tally now.tally ending ≡ report_of params lines 0 ending
  pub context : SameContext now.context (context_of params lines)
  pub line : now.line ≡ capped (length lines + 1)

-- the report is right for both ends
abbrev pub JudgesBothEnds : StreamParams → List ℕ → List History → Report → Type 0
JudgesBothEnds params bytes blocks report =
    JudgesBlocks params bytes stream_ends.Ended blocks report
    × JudgesBlocks params bytes stream_ends.Failed blocks report

-- The bytes so far, whose lines have these blocks of events, lead to this state of a checker. If
-- the checker is finished, its report is right for both ends of the stream, and the checker has
-- dropped what the lines drop until one of them stops the stream.
abbrev pub ReachesState : StreamParams → List ℕ → List History → CheckerState → Type 0
ReachesState params bytes blocks (Going now) = ReachesGoing params bytes blocks now
ReachesState params bytes blocks (Over report is_dropped) =
    JudgesBothEnds params bytes blocks report
    × DropsUntilStop params bytes blocks report is_dropped

-- One more good line

abbrev pub last_after : ℕ → StreamLine → ℕ
last_after last (Addition id lits hints) = id
last_after last (Deletion lead ids) = last
last_after last (Import id lits) = last

abbrev pub context_after : StreamParams → StreamContext → StreamLine → StreamContext
context_after params context line = record {
  last = last_after context.last line;
  free = context.free - sum_by (λ addition. length addition.1) (additions_of (line ∷ []));
  is_dropped = λ id. context.is_dropped id || is_shared (ownership_of params id)
      && is_among (deleted_by line) id;
}

abbrev pub tally_after : StreamParams → Tally → StreamLine → Tally
tally_after params tally line = record {
  added = tally.added + length (additions_of (line ∷ []));
  deleted = capped (tally.deleted + length (deleted_by line));
  empty = tally.empty || list_any (λ addition. length addition.1 == 0) (additions_of (line ∷ []));
  within = tally.within
      || list_any (λ addition. is_within params.cube addition.1) (additions_of (line ∷ []));
}

-- what a checker holds after one more good line
pub record TakesLine (params : StreamParams) (old : GoingState) (taken : StreamLine)
    (new : GoingState) : Type 0 where
  pub tally : new.tally ≡ tally_after params old.tally taken
  pub context : SameContext new.context (context_after params old.context taken)
  pub pending : new.pending ≡ []
  pub line : new.line ≡ capped (old.line + 1)

-- what a checker holds before the first byte
pub record IsFresh (params : StreamParams) (now : GoingState) : Type 0 where
  pub tally : now.tally ≡ record { added = 0; deleted = 0; empty = false; within = false }
  pub context : SameContext now.context (context_of params [])
  pub pending : now.pending ≡ []
  pub line : now.line ≡ 1
