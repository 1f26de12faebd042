-- Fetches from a clause map, one identity after the other, and what is kept of the replies (this
-- project's own).
use Rattle.std.specs.Prelude.{◌+◌, ℕ, Bool, List, [], ◌∷◌, map, if◌then◌else◌}
use Rattle.lrup_model.specs.Clause.{Clause}
use Rattle.lrup_model.specs.Event.{History, Reply, fetch, vacant, live, retired}
use Rattle.lrup_model.specs.CallerView.{CallerView, ClipValue, clip_clause}

-- a clause, with its identity in the run
pub record Entry : Type 0 where
  pub id : ℕ
  pub clause : Clause

-- a stream's fetches of the identities from id on, one for each reply
abbrev pub fetches : ℕ → ℕ → List Reply → History
fetches s id [] = []
fetches s id (reply ∷ replies) = fetch s id reply ∷ fetches s (id + 1) replies

-- the live and wanted clauses among the replies for the identities from id on, in order
abbrev pub wanted_of : (ℕ → Bool) → ℕ → List Reply → List Entry
wanted_of wants id [] = []
wanted_of wants id (vacant ∷ replies) = wanted_of wants (id + 1) replies
wanted_of wants id (live clause ∷ replies) =
    if wants id then record { id = id; clause = clause } ∷ wanted_of wants (id + 1) replies
    else wanted_of wants (id + 1) replies
wanted_of wants id (retired ∷ replies) = wanted_of wants (id + 1) replies

-- the wanted clauses of a formula, under the identities from 1 on
abbrev pub wanted_clauses : (ℕ → Bool) → List Clause → List Entry
wanted_clauses wants clauses = wanted_of wants 1 (map live clauses)

-- the clause of a clip with its identity
abbrev pub entry_of : CallerView → ClipValue → Entry
entry_of view clip = record { id = clip.id; clause = clip_clause view clip }

-- the clauses of clips with their identities, in order
abbrev pub entries_of : CallerView → List ClipValue → List Entry
entries_of view clips = map (entry_of view) clips

-- the clauses without their identities
abbrev pub clauses_of : List Entry → List Clause
clauses_of entries = map (λ entry. entry.clause) entries
