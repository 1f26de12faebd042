-- The form of a line's events, and an order of lines (this project's own).
use Rattle.std.specs.Prelude.{◌≡◌, ℕ, Bool, IsTrue, List, [], ◌∷◌, map}
use Rattle.std.specs.List.{AllByRecursion}
use Rattle.lrup_model.specs.Formula.{Cnf}
use Rattle.lrup_model.specs.Layout.{LayoutValue, IsStream}
use Rattle.lrup_model.specs.Event.{History}
use Rattle.lrup_model.specs.History.{IsLegal}
use Rattle.stream_check.specs.Deletions.{IsRetire}
use Rattle.stream_check.specs.Reducing.{AreEarly, TriesAgain, reduced}
use Rattle.stream_check.specs.Streams.{Block, blocks_of, events_in, IsBlockWithin}

-- after a retire there are only retires
abbrev pub RetiresLast : History → Type 0
RetiresLast [] = Unit {0}
RetiresLast (event ∷ history) =
    (IsRetire event → AllByRecursion IsRetire history) × RetiresLast history

-- The events have the form of a line's events: before the last event there are only fetches, and
-- retires with Done; what a fetch doesn't find is fetched again, or the line ends; and after a
-- retire there are only retires.
pub record IsLineBlock (history : History) : Type 0 where
  pub early : AreEarly history
  pub again : TriesAgain history
  pub apart : RetiresLast history

-- An order of the lines of a set of streams, whose blocks of events are `blocks`: a legal history
-- of whole lines, with the lines of each stream in the stream's order, and without a line's vacant
-- fetches of identities that the line found later.
pub record IsOrder (formula : Cnf) (layout : LayoutValue) (set : ℕ → Bool)
    (blocks : ℕ → List History) (order : List Block) : Type 0 where
  pub within : AllByRecursion (IsBlockWithin layout set) order
  pub legal : IsLegal formula layout (events_in order)
  pub lines : (s : ℕ) → IsStream layout s → IsTrue (set s)
      → blocks_of s order ≡ map reduced (blocks s)
