-- How the identity in a hint or an import is looked up, and how many times it is fetched (this
-- project's own).
use Rattle.std.specs.Prelude.{◌≡◌, ◌⊎◌, ◌≤◌, ◌++◌, ℕ, Bool, true, false, List, [], ◌∷◌, replicate, Result, Ok, Err}
use Rattle.lrup_model.specs.Clause.{Clause}
use Rattle.lrup_model.specs.Event.{History, Reply, vacant, live, retired, fetch}
use Rattle.stream_check.specs.declared.fault.Fault.{Fault}
use Rattle.stream_check.specs.declared.fault.Fault.TheVariants as faults
use Rattle.stream_check.specs.declared.params.Ownership.{Ownership}
use Rattle.stream_check.specs.declared.params.Ownership.TheVariants as ownerships
use Rattle.stream_check.specs.StreamParams.{StreamParams, ownership_of}

-- The events are k vacant fetches of one identity and one last fetch; k is at most `most`, and
-- exactly `most` if the last fetch is vacant, too.
abbrev pub FetchesUpTo : ℕ → ℕ → ℕ → History → Reply → Type 0
FetchesUpTo most s id history reply = (k : ℕ) × (k ≤ most) × (reply ≡ vacant → k ≡ most)
    × (history ≡ replicate k (fetch s id vacant) ++ fetch s id reply ∷ [])

-- An identity of the stream or of the formula is fetched once. Another stream's identity is fetched
-- until it isn't vacant or the tries are used up. A number that isn't an identity is never fetched.
abbrev pub FetchesHintAt : Ownership → StreamParams → ℕ → History → Reply → Type 0
FetchesHintAt ownerships.Formula params id history reply = history ≡ fetch params.stream id reply ∷
    []
FetchesHintAt ownerships.Own params id history reply = history ≡ fetch params.stream id reply ∷ []
FetchesHintAt ownerships.Foreign params id history reply =
    FetchesUpTo params.tries params.stream id history reply
FetchesHintAt ownerships.Outside params id history reply = (history ≡ []) × (reply ≡ vacant)

-- The fetches of a hint, or of an import's identity, and the last reply, which counts as vacant if
-- there is no fetch.
abbrev pub FetchesHint : StreamParams → ℕ → History → Reply → Type 0
FetchesHint params id history reply = FetchesHintAt (ownership_of params id) params id history reply

-- what the last reply gives: the clause of a live identity, or the fault of a missing or retired
-- one
abbrev pub answer_of : ℕ → Reply → Result Clause Fault
answer_of id vacant = Err (faults.Missing id)
answer_of id (live clause) = Ok clause
answer_of id retired = Err (faults.Retired id)

-- The result of a look-up: an identity that the stream dropped isn't fetched, and is a fault; for
-- any other identity, the last reply decides.
abbrev pub LooksUp : StreamParams → (ℕ → Bool) → ℕ → History → Result Clause Fault → Type 0
LooksUp params is_dropped id history answer =
    ((is_dropped id ≡ true) × (history ≡ []) × (answer ≡ Err (faults.Dropped id)))
    ⊎ ((is_dropped id ≡ false) × (reply : Reply) × FetchesHint params id history reply
    × (answer ≡ answer_of id reply))

-- looking up the identities in order takes these events, and gives these clauses
abbrev pub AreFound : StreamParams → (ℕ → Bool) → List ℕ → List Clause → History → Type 0
AreFound params is_dropped [] [] history = history ≡ []
AreFound params is_dropped [] (clause ∷ clauses) history = ⊥
AreFound params is_dropped (id ∷ ids) [] history = ⊥
AreFound params is_dropped (id ∷ ids) (clause ∷ clauses) history =
    (asked rest : History) × (history ≡ asked ++ rest)
    × LooksUp params is_dropped id asked (Ok clause)
    × AreFound params is_dropped ids clauses rest
