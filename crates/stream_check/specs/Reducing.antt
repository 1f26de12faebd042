-- The history of a line without unsuccessful retries (this project's own).
use Rattle.std.specs.Prelude.{◌≡◌, ◌&&◌, Bool, true, false, not, ℕ, [], ◌∷◌, if◌then◌else◌}
use Rattle.std.specs.List.{list_all}
use Rattle.lrup_model.specs.Event as events
use Rattle.lrup_model.specs.Event.{Event, History}
use Rattle.lrup_model.specs.declared.clause_map.Retired.TheVariants as retiring

-- a fetch that found nothing
abbrev pub is_vacant : Event → Bool
is_vacant (events.fetch s id events.vacant) = true
is_vacant (events.fetch s id (events.live clause)) = false
is_vacant (events.fetch s id events.retired) = false
is_vacant (events.publish s id clause reply) = false
is_vacant (events.retire s id reply) = false

-- A line's events without the vacant fetches that come before an event of another kind. The vacant
-- fetches of a hint that stays missing are the line's last events, and are kept.
abbrev pub reduced : History → History
reduced [] = []
reduced (event ∷ history) =
    if is_vacant event && not (list_all is_vacant history) then reduced history
    else event ∷ reduced history

-- the event may come before another event of its line: a fetch, or a retire with the reply Done
abbrev pub IsEarly : Event → Type 0
IsEarly (events.fetch s id reply) = Unit {0}
IsEarly (events.publish s id clause reply) = ⊥
IsEarly (events.retire s id retiring.Done) = Unit {0}
IsEarly (events.retire s id retiring.NotLive) = ⊥

-- each event but the last one may come before another event
abbrev pub AreEarly : History → Type 0
AreEarly [] = Unit {0}
AreEarly (event ∷ []) = Unit {0}
AreEarly (event ∷ next ∷ later) = IsEarly event × AreEarly (next ∷ later)

-- there are no events, or the first one fetches this identity
abbrev pub StartsWithFetchOf : ℕ → History → Type 0
StartsWithFetchOf id [] = Unit {0}
StartsWithFetchOf id (events.fetch s j reply ∷ history) = j ≡ id
StartsWithFetchOf id (events.publish s j clause reply ∷ history) = ⊥
StartsWithFetchOf id (events.retire s j reply ∷ history) = ⊥

-- after each vacant fetch, its identity is fetched again or nothing follows
abbrev pub TriesAgain : History → Type 0
TriesAgain [] = Unit {0}
TriesAgain (events.fetch s id events.vacant ∷ history) =
    StartsWithFetchOf id history × TriesAgain history
TriesAgain (events.fetch s id (events.live clause) ∷ history) = TriesAgain history
TriesAgain (events.fetch s id events.retired ∷ history) = TriesAgain history
TriesAgain (events.publish s id clause reply ∷ history) = TriesAgain history
TriesAgain (events.retire s id reply ∷ history) = TriesAgain history
