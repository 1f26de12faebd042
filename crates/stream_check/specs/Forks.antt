-- Two lists of events in which the same call after the same events always has the same reply (this
-- project's own).
use Rattle.std.specs.Prelude.{◌≡◌, [], ◌∷◌}
use Rattle.lrup_model.specs.Event.{Event, History, fetch, publish, retire}

-- the same call by the same stream, with any replies
abbrev pub IsSameCall : Event → Event → Type 0
IsSameCall (fetch s id reply) (fetch t other other_reply) = (s ≡ t) × (id ≡ other)
IsSameCall (publish s id clause reply) (publish t other other_clause other_reply) =
    (s ≡ t) × (id ≡ other) × (clause ≡ other_clause)
IsSameCall (retire s id reply) (retire t other other_reply) = (s ≡ t) × (id ≡ other)
IsSameCall _ _ = ⊥

-- where the lists first differ, the calls differ, or one list has ended
abbrev pub NeverFork : History → History → Type 0
NeverFork [] others = Unit {0}
NeverFork (event ∷ history) [] = Unit {0}
NeverFork (event ∷ history) (other ∷ others) =
    (IsSameCall event other → event ≡ other) × (event ≡ other → NeverFork history others)
