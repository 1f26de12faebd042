-- Which clauses a round saved, exactly.
use Rattle.std.proofs.Common.{◌≡◌, ◌∙◌, ◌+◌, ℕ, List, ◌∷◌, Bool, true, Option, None}
use Rattle.std.proofs.Common.{Some, Result, Ok, Err, length, sym, ap, subst, inl, inr}
use Rattle.std.proofs.lemmas.Bool.{cond-true}
use Rattle.std.specs.List.{AllByRecursion}
use Rattle.lrup_model.specs.Clause.{Clause}
use Rattle.lrup_model.specs.Cube.{CubeValue}
use Rattle.lrup_model.specs.Event.{History, Reply, fetch, vacant, live, retired}
use Rattle.lrup_model.specs.Formula.{Cnf}
use Rattle.lrup_model.specs.Layout.{LayoutValue, last_identity}
use Rattle.lrup_model.specs.State as states
use Rattle.lrup_model.specs.State.{Answers, IsRetired, State, state}
use Rattle.checkpoint.specs.Live.{fetches, wanted_of}
use Rattle.checkpoint.specs.Printing.{printed}
use Rattle.checkpoint.specs.declared.saving.SaveFault.{SaveFault}
use Rattle.checkpoint.specs.declared.saving.SaveFault.TheVariants as saves
use Rattle.run_outcome.specs.Saving.{is_wanted}
use Rattle.run_outcome.specs.declared.outcome.Verdict.{Verdict}
use Rattle.run_outcome.specs.declared.outcome.Verdict.TheVariants.{Unsatisfiable, UnsatisfiableUnder, Unknown}
use Rattle.stream_check.specs.DroppedIdsValue.{DroppedIdsValue}
use Rattle.command_line.specs.declared.words.CommandLine.{CommandLine}
use Rattle.run_files.specs.Asked.{Text, run_params_by}
use Rattle.run_files.specs.Files.{Effects}
use Rattle.run_files.specs.Paths.{formula_path}
use Rattle.run_files.specs.Saving.{ClosesSink, SavesCheckpoint}
use Rattle.command.specs.Rounds.{CarriesOn, LeavesAtPath, Round}
use Rattle.command.specs.lemmas.SavedLemmas.{created_in}

-- The formula has exactly the wanted clauses that the history leaves live.
pub record IsSaved (f : Cnf) (layout : LayoutValue) (history : History) (dropped : List DroppedIdsValue) (next : Cnf) : Type 0 where
  pub replies : List Reply
  pub answers : (s : ℕ) → AllByRecursion (Answers (state f history)) (fetches s 1 replies)
  pub count : length replies ≡ last_identity layout
  pub is : next ≡ printed layout.vars (wanted_of (is_wanted dropped) 1 replies)

module _ (its : Effects) (f : Cnf) (layout : LayoutValue) (history : History) (dropped : List DroppedIdsValue) where
  abbrev Saves : Result (Option Cnf) SaveFault → its.Output → its.Output → Type 0
  Saves = SavesCheckpoint its f layout history dropped

  saved_by : (result : Result (Option Cnf) SaveFault) (first last : its.Output) (opened after : its.State) (next : Cnf)
      → Saves result first last → ClosesSink its result opened last None (Some next) after → IsSaved f layout history dropped next
  saved_by (Ok made) first last opened after next saving closed = elim saving.exactly.saves.1 [
    | inl all ↦ record {
      replies = saving.exactly.replies;
      answers = saving.exactly.answers;
      count = all.0;
      is = all.1.1 next (sym closed.0);
    }
    | inr none ↦ absurd (let no : Ok made ≡ Err saves.Memory = none.0 in cc)
  ]
  saved_by (Err fault) first last opened after next saving closed = absurd (let no : None ≡ Some fault = closed.0 in cc)

  pub left_saved : (verdict : Verdict) (before after : its.State) (path : Text) (next : Cnf) → verdict ≡ Unknown
      → LeavesAtPath its Saves verdict before (Some path) None (Some next) after → IsSaved f layout history dropped next
  left_saved Unknown before after path next is leaves =
      saved_by leaves.result leaves.first leaves.last leaves.opened after next leaves.saving leaves.closed
  left_saved Unsatisfiable before after path next is leaves = absurd (let no : Unsatisfiable ≡ Unknown = is in cc)
  left_saved UnsatisfiableUnder before after path next is leaves = absurd (let no : UnsatisfiableUnder ≡ Unknown = is in cc)

-- the formula with which a run goes on
pub carried_saved : {its : Effects} {given : CommandLine} {cube : CubeValue} (round : Round its given cube) (next : Cnf)
    → CarriesOn round next
    → IsSaved round.formula (run_params_by given cube round.formula round.sizes).layout round.checked.ran.run.history
    round.checked.dropped next
carried_saved {its} {given} {cube} round next on =
    let layout = (run_params_by given cube round.formula round.sizes).layout in
    let history = round.checked.ran.run.history in
    let dropped = round.checked.dropped in
    let path = formula_path on.folder (round.number + 1) in
    let Leaves : Option Text → Option SaveFault → Option Cnf → Type 0 = λ at unsaved saved.
    LeavesAtPath its (SavesCheckpoint its round.formula layout history dropped) round.verdict round.opened at unsaved saved round.after in
    left_saved its round.formula layout history dropped round.verdict round.opened round.after path next on.verdict
    (subst (λ (n : Option Cnf). Leaves (Some path) None n) on.next_is
    (subst (λ (u : Option SaveFault). Leaves (Some path) u round.next) on.unsaved
    (subst (λ (at : Option Text). Leaves at round.unsaved round.next) (created_in given.next on.folder round.number on.asked)
    round.leaves)))

-- Replies

module _ (slots : State) (wants : ℕ → Bool) where
  -- a live and wanted clause is saved
  pub takes_live : (s id : ℕ) (clause : Clause) (reply : Reply) (replies : List Reply) → slots id ≡ states.live clause → wants id ≡ true
      → Answers slots (fetch s id reply)
      → wanted_of wants id (reply ∷ replies) ≡ record { id = id; clause = clause } ∷ wanted_of wants (id + 1) replies
  takes_live s id clause vacant replies is wanted answers =
      absurd (let no : states.live clause ≡ states.absent = sym is ∙ answers in cc)
  takes_live s id clause (live stored) replies is wanted answers =
      let same : stored ≡ clause = let all : states.live stored ≡ states.live clause = sym answers ∙ is in cc in
      cond-true (wants id) (record { id = id; clause = stored } ∷ wanted_of wants (id + 1) replies)
      (wanted_of wants (id + 1) replies) wanted
      ∙ ap (λ (c : Clause). record { id = id; clause = c } ∷ wanted_of wants (id + 1) replies) same
  takes_live s id clause retired replies is wanted answers = absurd (subst IsRetired is answers)
