-- The result of a fetch, as the reply of its event (this project's own).
use Rattle.std.specs.Prelude.{◌≡◌, ◌≤◌, ◌<◌, ℕ, None, Some}
use Rattle.lrup_model.specs.Formula.{clause_at}
use Rattle.lrup_model.specs.Layout.{Owns}
use Rattle.lrup_model.specs.Event.{Reply, vacant, live, retired, fetch}
use Rattle.lrup_model.specs.State.{Answers}
use Rattle.lrup_model.specs.CallerView.{CallerView, StoredClause, clip_clause, IsKnown}
use Rattle.lrup_model.specs.declared.clause_map.Fetched.{Fetched}
use Rattle.lrup_model.specs.declared.clause_map.Fetched.TheVariants as fetched

-- the reply that this result means in the view
abbrev pub reply_of : CallerView → Fetched → Reply
reply_of view fetched.Vacant = vacant
reply_of view (fetched.Live clip) = live (clip_clause view clip)
reply_of view fetched.Retired = retired

-- The result is right in the view: the clip of a live clause is known, a retired clause is stored,
-- and for a vacant identity nothing is stored.
abbrev pub IsFetched : CallerView → ℕ → Fetched → Type 0
IsFetched view id fetched.Vacant = view.spelt id ≡ None
IsFetched view id (fetched.Live clip) = (clip.id ≡ id) × IsKnown view clip
IsFetched view id fetched.Retired = (stored : StoredClause) × (view.spelt id ≡ Some stored)

-- for an identity that the caller's stream owns, the reply matches what the caller's calls left
-- there
abbrev pub AnswersOwn : CallerView → ℕ → Reply → Type 0
AnswersOwn view id reply =
    Owns view.caller.layout view.caller.stream id
    → Answers view.own (fetch view.caller.stream id reply)

-- for an identity of the formula, the reply says that the formula's clause is live
abbrev pub AnswersFormula : CallerView → ℕ → Reply → Type 0
AnswersFormula view id reply =
    0 < id → id ≤ view.caller.layout.clauses → reply ≡ live (clause_at view.caller.formula id)
