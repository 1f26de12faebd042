-- Events of the clause map, one for each call of fetch, publish and retire, and histories, which
-- are lists of events (this project's own). In an event, a clause is a list of literals in the
-- order in which the map stores them; the list is read as a set.
use Rattle.std.specs.Prelude.{◌==◌, ℕ, List, [], ◌∷◌, length}
use Rattle.std.specs.List.{filter, sum_by}
use Rattle.lrup_model.specs.Clause.{Clause}
use Rattle.lrup_model.specs.declared.clause_map.Published.{Published}
use Rattle.lrup_model.specs.declared.clause_map.Published.TheVariants as publishing
use Rattle.lrup_model.specs.declared.clause_map.Retired.{Retired}

-- the reply to a fetch
pub data Reply : Type 0 where
  vacant : Reply
  live : Clause → Reply
  retired : Reply

-- a call of fetch, publish or retire: the stream that calls, the identity, the clause of a publish,
-- and the reply
pub data Event : Type 0 where
  fetch : ℕ → ℕ → Reply → Event
  publish : ℕ → ℕ → Clause → Published → Event
  retire : ℕ → ℕ → Retired → Event

-- events, in the order in which they occurred
abbrev pub History : Type 0
History = List Event

-- the stream that made the call
abbrev pub stream_of : Event → ℕ
stream_of (fetch s id reply) = s
stream_of (publish s id clause reply) = s
stream_of (retire s id reply) = s

-- the events of one stream, in order
abbrev pub own : History → ℕ → History
own history s = filter (λ event. stream_of event == s) history

-- the identity and the clause of each event that published a clause, in order
abbrev pub published : History → List (ℕ × Clause)
published [] = []
published (fetch s id reply ∷ history) = published history
published (publish s id clause publishing.Done ∷ history) = (id, clause) ∷ published history
published (publish s id clause publishing.Taken ∷ history) = published history
published (retire s id reply ∷ history) = published history

-- the number of literals in the clauses that a stream published with the reply `Done`
abbrev pub spent : ℕ → History → ℕ
spent s history = sum_by (λ entry. length entry.1) (published (own history s))

-- how much of its stream's room an event uses, in literals
abbrev pub size_of : Event → ℕ
size_of (fetch s id reply) = 0
size_of (publish s id clause publishing.Done) = length clause
size_of (publish s id clause publishing.Taken) = 0
size_of (retire s id reply) = 0
