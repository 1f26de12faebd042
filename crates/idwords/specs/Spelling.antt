-- Where in the row, and with which literals, the clauses of a history are stored (this project's
-- own): first the formula's clauses, one after the other, then each stream's clauses in the
-- stream's room, in the order in which they were published. Each clause begins in a new word.
use Rattle.std.specs.Prelude.{◌≡◌, ◌≤◌, ◌+◌, ◌-◌, ◌*◌, ◌++◌, ℕ, List, [], ◌∷◌, length, Some}
use Rattle.std.specs.List.{sum_by}
use Rattle.lrup_model.specs.Clause.{Clause}
use Rattle.lrup_model.specs.Formula.{Cnf}
use Rattle.lrup_model.specs.Layout.{LayoutValue, last_identity}
use Rattle.lrup_model.specs.Event as events
use Rattle.lrup_model.specs.Event.{Event, History, own, size_of}
use Rattle.lrup_model.specs.CallerView.{StoredClause}
use Rattle.lrup_model.specs.Pass.{Spelling, stored_in}
use Rattle.lrup_model.specs.declared.clause_map.Published.TheVariants as publishing
use Rattle.idwords.specs.Words.{words_for}

-- this clause, under this identity, stored at this index
abbrev pub spelling : ℕ → ℕ → Clause → Spelling
spelling id start clause = record { id = id; stored = record { start = start; literals = clause } }

-- clauses one after the other, from this identity and this index on
abbrev pub clauses_spelling : ℕ → ℕ → List Clause → List Spelling
clauses_spelling id start [] = []
clauses_spelling id start (clause ∷ clauses) =
    spelling id start clause ∷ clauses_spelling (id + 1) (start + words_for (length clause)) clauses

-- the index of the first word of a stream's room
abbrev pub first_place : LayoutValue → ℕ → ℕ
first_place layout s = 1 + last_identity layout + layout.literals + (s - 1) * layout.room

-- how many words of its stream's room an event uses
abbrev pub words_taken : Event → ℕ
words_taken event = words_for (size_of event)

-- the number of words for all clauses that a stream published with the reply `Done`
abbrev pub words_spent : ℕ → History → ℕ
words_spent s history = sum_by words_taken (own history s)

-- the index of the first word of a stream's room after its published clauses
abbrev pub top_after : LayoutValue → ℕ → History → ℕ
top_after layout s history = first_place layout s + words_spent s history

-- the clause that the event publishes, if any, stored at its stream's top
abbrev pub event_spelling : LayoutValue → History → Event → List Spelling
event_spelling layout before (events.fetch s id reply) = []
event_spelling layout before (events.publish s id clause publishing.Done) =
    spelling id (top_after layout s before) clause ∷ []
event_spelling layout before (events.publish s id clause publishing.Taken) = []
event_spelling layout before (events.retire s id reply) = []

-- the clauses that a history stores after an earlier history
abbrev pub added_spelling : LayoutValue → History → History → List Spelling
added_spelling layout before [] = []
added_spelling layout before (event ∷ history) =
    event_spelling layout before event ++ added_spelling layout (before ++ event ∷ []) history

-- all clauses of the formula and of the history
abbrev pub spelling_of : Cnf → LayoutValue → History → List Spelling
spelling_of formula layout history =
    clauses_spelling 1 (1 + last_identity layout) formula.clauses
    ++ added_spelling layout [] history

-- every stored clause is inside a row of this many words
abbrev pub LieWithin : ℕ → List Spelling → Type 0
LieWithin words spellings = (id : ℕ) (stored : StoredClause) → stored_in spellings id ≡ Some stored
    → stored.start + words_for (length stored.literals) ≤ words
