-- What a thread state knows after each step that it makes (this project's own).
use Rattle.std.specs.Prelude.{◌≡◌, ◌≢◌, ◌↔◌, ◌+◌, ◌==◌, ◌++◌, ℕ, ℤ, List, [], ◌∷◌, Option, IfSome, length, if◌then◌else◌}
use Rattle.atomic_table.specs.Table.{Step, Me}
use Rattle.lrup_model.specs.Event as events
use Rattle.lrup_model.specs.State.{state, absent, IsLive}
use Rattle.lrup_model.specs.Layout.{row_words}
use Rattle.lrup_model.specs.Pass.{stored_in, SyncViews}
use Rattle.lrup_model.specs.declared.clause_map.Published.{Published}
use Rattle.lrup_model.specs.declared.clause_map.Published.TheVariants as publishing
use Rattle.lrup_model.specs.declared.clause_map.Retired.TheVariants as retiring
use Rattle.lrup_model.specs.Literal.{code_of, max_variable, IsCode}
use Rattle.idwords.specs.Words.{word_state, words_for, pair_of, ShowsStored, reply_in}
use Rattle.idwords.specs.internal.RowWords.{word_of, literal_word}
use Rattle.idwords.specs.Spelling.{LieWithin}
use Rattle.idwords.specs.Seats.{ThreadState}
use Rattle.idwords.specs.internal.Rule.{thread_stream}
use Rattle.idwords.specs.RowCalls.{Calls, IsText}

-- A fetch: the word that was loaded shows the stored clause, and determines the reply.
pub record Looks (id : ℕ) (old : ThreadState) (word : ℕ) (new : ThreadState) : Type 0 where
  pub shows : ShowsStored (stored_in new.view.spelt id) word
  pub calls : Calls old.view new.view
      (events.fetch (thread_stream old) id (reply_in (stored_in new.view.spelt id) word))
  pub top : new.top ≡ old.top
  pub draft : new.draft ≡ old.draft

-- A load that is not an event.
pub record Reads (place : ℕ) (old : ThreadState) (word : ℕ) (new : ThreadState) : Type 0 where
  pub same : new ≡ old
  pub text : IsText old.view.spelt place word

-- the literals of this word, one or two, are added to the draft
abbrev pub Writes : ℕ → ThreadState → ThreadState → Type 0
Writes word old new =
    (l : ℤ) (other : Option ℤ) → IsCode max_variable (code_of l)
    → IfSome other (λ k. IsCode max_variable (code_of k)) → word ≡ literal_word l other
    → new ≡ record old { draft = old.draft ++ pair_of l other }

-- the reply to a publish whose compare-exchange found this word
abbrev pub published_at : ℕ → Published
published_at word = if word == 0 then publishing.Done else publishing.Taken

-- A publish of the draft, which is empty afterwards.
pub record Claims (id : ℕ) (old : ThreadState) (word : ℕ) (new : ThreadState) : Type 0 where
  pub calls : Calls old.view new.view
      (events.publish (thread_stream old) id old.draft (published_at word))
  pub absent : (word ≡ 0) ↔ (state old.view.caller.formula old.view.mine id ≡ absent)
  pub top : new.top ≡ (if word == 0 then old.top + words_for (length old.draft) else old.top)
  pub draft : new.draft ≡ []

-- A retire that finds no live clause.
pub record FindsNone (id : ℕ) (old new : ThreadState) : Type 0 where
  pub calls : Calls old.view new.view (events.retire (thread_stream old) id retiring.NotLive)
  pub none : ¬ IsLive (state old.view.caller.formula old.view.mine id)
  pub top : new.top ≡ old.top
  pub draft : new.draft ≡ old.draft

-- The load of a retire: if the word's state isn't live, the retire ends with this load; if it is
-- live, nothing has happened yet.
pub record Finds (id : ℕ) (old : ThreadState) (word : ℕ) (new : ThreadState) : Type 0 where
  pub own :
      word ≡ word_of (state old.view.caller.formula old.view.mine id) (stored_in old.view.spelt id)
  pub live : word_state word ≡ 1 → new ≡ old
  pub none : word_state word ≢ 1 → FindsNone id old new

-- A retire of a live clause.
pub record Retires (id : ℕ) (old new : ThreadState) : Type 0 where
  pub calls : Calls old.view new.view (events.retire (thread_stream old) id retiring.Done)
  pub live : IsLive (state old.view.caller.formula old.view.mine id)
  pub top : new.top ≡ old.top
  pub draft : new.draft ≡ old.draft

-- Two thread states have met. Their tops and drafts are unchanged.
pub record SyncThreads (old old' new new' : ThreadState) : Type 0 where
  pub meets : SyncViews old.view old'.view new.view new'.view
  pub within : LieWithin (row_words new.view.caller.layout) new.view.spelt
  pub within' : LieWithin (row_words new'.view.caller.layout) new'.view.spelt
  pub top : new.top ≡ old.top
  pub draft : new.draft ≡ old.draft
  pub top' : new'.top ≡ old'.top
  pub draft' : new'.draft ≡ old'.draft

-- a token with one thread state still has one after the step, and R relates the old state to the
-- new state
module _ {S : Type 0} where
  abbrev pub Changes : (ℕ → ThreadState → ℕ → ThreadState → Type 0) → Step S
      → Me S (List ThreadState) → ℕ
      → Me S (List ThreadState) → Type 0
  Changes R step before word after =
      (old : ThreadState) → before.0 ≡ old ∷ []
      → (new : ThreadState) × (after.0 ≡ new ∷ []) × (after.1 ≡ before.1) × R step.word old word new

  -- a token with one thread state still has one after a store, which writes this word
  abbrev pub Stores : Step S → Me S (List ThreadState) → ℕ → Me S (List ThreadState) → Type 0
  Stores step before word after =
      (old : ThreadState) → before.0 ≡ old ∷ []
      → (new : ThreadState) × (after.0 ≡ new ∷ []) × (after.1 ≡ before.1)
      × Writes step.first old new

  -- two thread states of one token meet
  abbrev pub Joined : Step S → Me S (List ThreadState) → ℕ → Me S (List ThreadState) → Type 0
  Joined step before word after =
      (old old' : ThreadState) → before.0 ≡ old ∷ old' ∷ []
      → (new new' : ThreadState) × (after.0 ≡ new ∷ new' ∷ []) × (after.1 ≡ before.1)
      × SyncThreads old old' new new'
