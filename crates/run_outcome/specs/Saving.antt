-- What a run saves (this project's own).
use Rattle.std.specs.Prelude.{◌≡◌, ◌⊎◌, ◌<◌, ◌≤◌, ◌==◌, ◌||◌, ℕ, Bool, not, List, length, vec_len, Option, Result, Err}
use Rattle.std.specs.List.{AllByRecursion, list_any}
use Rattle.clause_store.specs.Passes.{AreOf, views}
use Rattle.lrup_model.specs.Event.{History, Reply}
use Rattle.lrup_model.specs.Formula.{Cnf}
use Rattle.lrup_model.specs.Layout.{Fits, LayoutValue, last_identity}
use Rattle.lrup_model.specs.Plain.{formula_of, plain_state}
use Rattle.lrup_model.specs.State.{State, Answers, state}
use Rattle.stream_check.specs.SequentialConsistency.{HaveOneHistory}
use Rattle.stream_check.specs.DroppedIdsValue.{DroppedIdsValue}
use Rattle.stream_check.specs.StreamContext.{is_among}
use Rattle.checkpoint.specs.Checkpoints.{Saves}
use Rattle.checkpoint.specs.Live.{fetches, wanted_of}
use Rattle.checkpoint.specs.declared.saving.SaveFault.{SaveFault}
use Rattle.checkpoint.specs.declared.saving.SaveFault.TheVariants as faults
use Rattle.run_outcome.specs.declared.saving.Clauses.{Clauses}
use Rattle.run_outcome.specs.declared.saving.Clauses.TheVariants as clauses

-- some stream hasn't dropped the identity, or there are no streams
abbrev pub is_wanted : List DroppedIdsValue → ℕ → Bool
is_wanted dropped id = length dropped == 0 || list_any (λ d. not (is_among d.ids id)) dropped

-- An attempt to save the clauses that are wanted, and that are live in this state of the clause
-- map. The replies are the state's answers to fetches of the identities from 1 on, for any stream.
-- Either all identities were fetched, and the live and wanted clauses were saved, as the result
-- says; or memory ran out before the first write.
pub record SavesState {S : Type 0} (written : S → Option (List ℕ))
    (result : Result (Option Cnf) SaveFault) (slots : State) (layout : LayoutValue)
    (wants : ℕ → Bool)
    (old new : S) : Type 0 where
  pub replies : List Reply
  pub answers : (s : ℕ) → AllByRecursion (Answers slots) (fetches s 1 replies)
  pub saves : (length replies ≤ last_identity layout)
      × ((length replies ≡ last_identity layout)
      × Saves result layout.vars (wanted_of wants 1 replies) (written old) (written new)
      ⊎ (result ≡ Err faults.Memory) × (new ≡ old))

-- the layout of the clauses that a run left
abbrev pub layout_left : Clauses → LayoutValue
layout_left (clauses.Shared store passes) = store.layout
layout_left (clauses.Plain map) = map.layout

-- a run on this formula with this history left these clauses
abbrev pub WereLeftBy : Cnf → History → Clauses → Type 0
WereLeftBy formula history (clauses.Shared store passes) =
    HaveOneHistory formula store.layout history (views passes.items)
WereLeftBy formula history (clauses.Plain map) =
    (formula_of map ≡ formula) × (plain_state map ≡ state formula history)

-- these clauses can be saved
abbrev pub CanBeSaved : Clauses → Type 0
CanBeSaved (clauses.Shared store passes) = AreOf store passes.items × (0 < vec_len passes)
CanBeSaved (clauses.Plain map) = Fits map.layout (formula_of map)
