-- What a stream has dropped when one of its lines stops it (this project's own).
use Rattle.std.specs.Prelude.{◌≡◌, ◌⊎◌, ◌+◌, ◌++◌, ◌||◌, ◌&&◌, ℕ, Bool, List, [], length}
use Rattle.std.specs.List.{AllByRecursion, flat_map, sum_by}
use Rattle.lrup_model.specs.Event.{History}
use Rattle.lrup_text.specs.Lines.{StreamLine, IsWithinLimits, line_text}
use Rattle.stream_check.specs.declared.report.Ending.{Ending}
use Rattle.stream_check.specs.declared.report.Ending.TheVariants as endings
use Rattle.stream_check.specs.declared.report.Report.{Report}
use Rattle.stream_check.specs.DroppedIdsValue.{DroppedIdsValue}
use Rattle.stream_check.specs.StreamParams.{StreamParams, ownership_of, is_shared}
use Rattle.stream_check.specs.StreamContext.{context_of, is_among, deleted_by, capped}
use Rattle.stream_check.specs.Judging.{AreGood}

-- the line with this number is bad, or memory ran out in it
abbrev pub StopsAtLine : Ending → ℕ → Type 0
StopsAtLine endings.Ended number = ⊥
StopsAtLine (endings.Bad line fault) number = line ≡ number
StopsAtLine (endings.ReadFailed line) number = ⊥
StopsAtLine (endings.Memory line) number = line ≡ number

-- If memory ran out, there is no room for another dropped identity.
abbrev pub IsFullAtMemory : Ending → DroppedIdsValue → Type 0
IsFullAtMemory ending dropped = (line : ℕ) → ending ≡ endings.Memory line → dropped.spare ≡ 0

-- What a stream dropped if its report says that a line is bad, or that memory ran out in it: the
-- identities of the formula and of other streams among those that the lines before it delete, and
-- among the first identities that the line itself deletes. The report determines how many lines and
-- identities these are, up to 2^64 - 1: its line number says how many lines come before, and its
-- count says how many of the line's identities come before the one at which the line stopped. If
-- the rest begins with no line, or with a line that deletes nothing, the dropped identities are
-- only those of the lines before. The lines before are good with the first of these blocks of
-- events.
pub record DropsUntilStop (params : StreamParams) (bytes : List ℕ) (blocks : List History)
    (report : Report) (is_dropped : ℕ → Bool) : Type 0 where
  pub lines : List StreamLine
  pub rest : List ℕ
  pub front : List History
  pub back : List History
  pub split : blocks ≡ front ++ back
  pub text : bytes ≡ flat_map line_text lines ++ rest
  pub fits : AllByRecursion IsWithinLimits lines
  pub good : AreGood params [] lines front
  pub number : StopsAtLine report.ending (capped (length lines + 1))
  pub ids : List ℕ
  pub are_first : (ids ≡ [])
      ⊎ ((line : StreamLine) × IsWithinLimits line × (later more : List ℕ)
      × (rest ≡ line_text line ++ more) × (deleted_by line ≡ ids ++ later))
  pub count : report.deleted
      ≡ capped (sum_by (λ line. length (deleted_by line)) lines + length ids)
  pub drops : (id : ℕ) → is_dropped id ≡ ((context_of params lines).is_dropped id
      || is_shared (ownership_of params id) && is_among ids id)
