-- Laws of passes that meet in turn.
use Rattle.std.specs.Prelude.{◌≡◌, List, []}
use Rattle.lrup_model.specs.Pass.{View, IsFair, PassMoves, SyncInTurn, AreSynced, AllSaw}

-- If a pass meets all others in turn, and then all of them again, all passes have seen exactly what
-- that pass had seen after it had met each of them once.
abbrev pub SyncTwice : Type 0
SyncTwice = (u v w : View) (xs ys zs : List View) → SyncInTurn u xs v ys → SyncInTurn v ys w zs
    → (w.seen ≡ v.seen) × AllSaw w.seen zs

-- While a pass meets others in turn, none of these passes makes a call. Afterwards each of the
-- others is fair, and the pass is fair if it was before.
abbrev pub MeetingKeeps : Type 0
MeetingKeeps = (u v : View) (xs ys : List View) → SyncInTurn u xs v ys → PassMoves u v []
    × AreSynced xs ys × (IsFair u → IsFair v)
