-- What the streams of a set may share, so that their lines have an order (this project's own).
use Rattle.std.specs.Prelude.{◌≡◌, ◌≢◌, ◌⊎◌, ℕ, Bool, IsTrue, List, [], ◌∷◌}
use Rattle.std.specs.List.{AllByRecursion, list_any}
use Rattle.lrup_model.specs.Formula.{Cnf}
use Rattle.lrup_model.specs.Layout.{LayoutValue, IsStream, Owns}
use Rattle.lrup_model.specs.Event as events
use Rattle.lrup_model.specs.Event.{Event, History, own}
use Rattle.lrup_model.specs.State.{State, IsRetired, state}
use Rattle.lrup_model.specs.Laws.{IsFound}
use Rattle.lrup_model.specs.declared.clause_map.Retired.TheVariants as retiring
use Rattle.lrup_text.specs.Lines.{StreamLine, Cut}
use Rattle.stream_check.specs.StreamContext.{is_among, deleted_by}
use Rattle.stream_check.specs.Laws.{cited_by}
use Rattle.stream_check.specs.Streams.{Stream}
use Rattle.stream_check.specs.Closed.{IsOfStream}

-- Judged by the last state

-- if the event found a live identity that isn't the stream's own, the identity isn't retired in
-- this state
abbrev pub FindsKept : LayoutValue → State → Event → Type 0
FindsKept layout final (events.fetch s id (events.live clause)) =
    ¬ Owns layout s id → ¬ IsRetired (final id)
FindsKept layout final _ = Unit {0}

-- What a stream of the set found live and doesn't own is not retired after the history.
abbrev pub FoundStays : Cnf → LayoutValue → (ℕ → Bool) → History → Type 0
FoundStays formula layout set history =
    (s : ℕ) → IsStream layout s → IsTrue (set s)
    → AllByRecursion (FindsKept layout (state formula history)) (own history s)

-- Judged by the events

-- the event retires the identity
abbrev pub IsRetireOf : ℕ → Event → Type 0
IsRetireOf id (events.fetch s j reply) = ⊥
IsRetireOf id (events.publish s j clause reply) = ⊥
IsRetireOf id (events.retire s j retiring.Done) = j ≡ id
IsRetireOf id (events.retire s j retiring.NotLive) = ⊥

-- the history retires the identity
abbrev pub HistoryRetires : History → ℕ → Type 0
HistoryRetires [] id = ⊥
HistoryRetires (event ∷ history) id = IsRetireOf id event ⊎ HistoryRetires history id

-- if the event found an identity, live or retired, that isn't the stream's own, the history doesn't
-- retire it
abbrev pub MeetsUnretired : LayoutValue → History → Event → Type 0
MeetsUnretired layout history (events.fetch s id reply) =
    IsFound reply → ¬ Owns layout s id → ¬ HistoryRetires history id
MeetsUnretired layout history _ = Unit {0}

-- Judged by the texts

-- one of the lines cites the identity
abbrev pub cites : List StreamLine → ℕ → Bool
cites lines id = list_any (λ line. is_among (cited_by line) id) lines

-- one of the lines deletes the identity
abbrev pub deletes : List StreamLine → ℕ → Bool
deletes lines id = list_any (λ line. is_among (deleted_by line) id) lines

-- one of the lines in the bytes cites the identity
abbrev pub Cites : List ℕ → ℕ → Type 0
Cites bytes id =
    (lines : List StreamLine) × (rest : List ℕ) × Cut bytes lines rest × IsTrue (cites lines id)

-- one of the lines in the bytes deletes the identity
abbrev pub SomeLineDeletes : List ℕ → ℕ → Type 0
SomeLineDeletes bytes id =
    (lines : List StreamLine) × (rest : List ℕ) × Cut bytes lines rest × IsTrue (deletes lines id)

-- No stream of the set deletes an identity of its own that a line of another stream of the set
-- cites.
abbrev pub KeepShared : LayoutValue → (ℕ → Bool) → List Stream → Type 0
KeepShared layout set streams =
    (s t id : ℕ) (citing deleting : Stream) → s ≢ t → IsTrue (set s) → IsTrue (set t)
    → IsOfStream streams s citing → IsOfStream streams t deleting → Owns layout t id
    → Cites citing.bytes id → ¬ SomeLineDeletes deleting.bytes id
