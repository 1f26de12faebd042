-- What a status means.
use Rattle.std.proofs.Common.{◌≡◌, ◌∙◌, ◌⊎◌, ℕ, Bool, IsTrue, true, false, List}
use Rattle.std.proofs.Common.{Option, None, Some, inl, inr, refl, sym, subst}
use Rattle.std.specs.Prelude.{◌↔◌}
use Rattle.lrup_model.specs.Formula.{Cnf}
use Rattle.lrup_model.specs.declared.layout.LayoutFault.TheVariants as layouts
use Rattle.run_outcome.specs.declared.outcome.Verdict.{Verdict}
use Rattle.run_outcome.specs.declared.outcome.Verdict.TheVariants.{Unsatisfiable, UnsatisfiableUnder, Unknown}
use Rattle.checkpoint.specs.Checkpoints.{IsCheckpoint}
use Rattle.checkpoint.specs.declared.saving.SaveFault.{SaveFault}
use Rattle.command_line.specs.CommandLine.{AskToSave, checkpoint_of, rounds_of}
use Rattle.command.specs.Commands.{CheckpointEntailed, CheckpointLeftEmpty, ComesLast, SinkChange, report_status}
use Rattle.run_files.specs.Files.{FilesView, IsLeftEmpty, WasReadIn, WasSavedBy}
use Rattle.run_files.specs.Causes.{IsAssumeCause}
use Rattle.run_files.specs.Asked.{Text, assumed_at, created_path, run_params_by}
use Rattle.run_files.specs.Faults.{status_of}
use Rattle.command.specs.Rounds.{EndsWithFault, EndsWithReport, IsCauseIn, LeavesAtPath, ProgramEnds, Round}
use Rattle.run_files.specs.Saving.{SavesCheckpoint}
use Rattle.run_files.specs.declared.fault.CommandFault.{CommandFault}
use Rattle.run_files.specs.declared.fault.CommandFault.TheVariants as faults
use Rattle.command_line.specs.lemmas.NextLemmas.{never_both}
use Rattle.command.specs.lemmas.OneRound.{creates_checkpoint, is_over, were_one}
use Rattle.command.specs.lemmas.SavedLemmas.{kept}

-- a report with status 0 has the verdict 'unsatisfiable'
pub zero_is : (failed : Bool) (unsaved : Option SaveFault) (verdict : Verdict) → report_status failed unsaved verdict ≡ 0
    → verdict ≡ Unsatisfiable
zero_is true unsaved verdict is = absurd (let no : Path ℕ 7 0 = is in cc)
zero_is false (Some fault) verdict is = absurd (let no : Path ℕ 9 0 = is in cc)
zero_is false None Unsatisfiable is = refl
zero_is false None UnsatisfiableUnder is = absurd (let no : Path ℕ 8 0 = is in cc)
zero_is false None Unknown is = absurd (let no : Path ℕ 3 0 = is in cc)

pub eight_is : (failed : Bool) (unsaved : Option SaveFault) (verdict : Verdict) → report_status failed unsaved verdict ≡ 8
    → verdict ≡ UnsatisfiableUnder
eight_is true unsaved verdict is = absurd (let no : Path ℕ 7 8 = is in cc)
eight_is false (Some fault) verdict is = absurd (let no : Path ℕ 9 8 = is in cc)
eight_is false None Unsatisfiable is = absurd (let no : Path ℕ 0 8 = is in cc)
eight_is false None UnsatisfiableUnder is = refl
eight_is false None Unknown is = absurd (let no : Path ℕ 3 8 = is in cc)

written : (failed : Bool) (unsaved : Option SaveFault) (verdict : Verdict) → report_status failed unsaved verdict ≡ 7 → IsTrue failed
written true unsaved verdict is = refl
written false (Some fault) verdict is = absurd (let no : Path ℕ 9 7 = is in cc)
written false None Unsatisfiable is = absurd (let no : Path ℕ 0 7 = is in cc)
written false None UnsatisfiableUnder is = absurd (let no : Path ℕ 8 7 = is in cc)
written false None Unknown is = absurd (let no : Path ℕ 3 7 = is in cc)

has_7 : (failed : Bool) (unsaved : Option SaveFault) (verdict : Verdict) → IsTrue failed → report_status failed unsaved verdict ≡ 7
has_7 true unsaved verdict is = refl
has_7 false unsaved verdict is = absurd (let no : false ≡ true = is in cc)

neither : (n : ℕ) → (n ≡ 3 → ⊥) → (n ≡ 8 → ⊥) → (n ≡ 3) ⊎ (n ≡ 8) → ⊥
neither n not_3 not_8 (inl three) = not_3 three
neither n not_3 not_8 (inr eight) = not_8 eight

-- with status 3 or 8, the checkpoint was saved, and the verdict isn't 'unsatisfiable'
pub open_is : (failed : Bool) (unsaved : Option SaveFault) (verdict : Verdict)
    → (report_status failed unsaved verdict ≡ 3) ⊎ (report_status failed unsaved verdict ≡ 8)
    → (unsaved ≡ None) × (verdict ≡ Unsatisfiable → ⊥)
open_is true unsaved verdict is = absurd (neither 7 (λ e. cc) (λ e. cc) is)
open_is false (Some fault) verdict is = absurd (neither 9 (λ e. cc) (λ e. cc) is)
open_is false None Unsatisfiable is = absurd (neither 0 (λ e. cc) (λ e. cc) is)
open_is false None UnsatisfiableUnder is = (refl, λ no. let never : UnsatisfiableUnder ≡ Unsatisfiable = no in cc)
open_is false None Unknown is = (refl, λ no. let never : Unknown ≡ Unsatisfiable = no in cc)

-- ---- the status of a fault

-- a proof by cases: the statuses that a fault may have
by_status : (P : CommandFault → ℕ → Type 0) → ((n : ℕ) (f : CommandFault) → (n ≡ 2) ⊎ ((n ≡ 4) ⊎ ((n ≡ 5) ⊎ (n ≡ 6))) → P f n)
    → P faults.Unwritten 7 → ((unsaved : SaveFault) → P (faults.NotSaved unsaved) 9) → (fault : CommandFault) → P fault (status_of fault)
by_status P low seven nine (faults.Usage text) = low 2 _ (inl refl)
by_status P low seven nine faults.Unread = low 5 _ (inr (inr (inl refl)))
by_status P low seven nine (faults.Refused fault) = low 4 _ (inr (inl refl))
by_status P low seven nine faults.CubeUnread = low 5 _ (inr (inr (inl refl)))
by_status P low seven nine (faults.CubeRefused fault) = low 4 _ (inr (inl refl))
by_status P low seven nine (faults.NotOpened stream) = low 5 _ (inr (inr (inl refl)))
by_status P low seven nine (faults.Layout layouts.TooManyVariables) = low 4 _ (inr (inl refl))
by_status P low seven nine (faults.Layout layouts.TooManyClauses) = low 4 _ (inr (inl refl))
by_status P low seven nine (faults.Layout layouts.BadStreamCount) = low 2 _ (inl refl)
by_status P low seven nine (faults.Layout layouts.RowTooLong) = low 2 _ (inl refl)
by_status P low seven nine (faults.Spawn stream) = low 6 _ (inr (inr (inr refl)))
by_status P low seven nine (faults.Ring stream) = low 6 _ (inr (inr (inr refl)))
by_status P low seven nine faults.Memory = low 6 _ (inr (inr (inr refl)))
by_status P low seven nine faults.Unwritten = seven
by_status P low seven nine faults.NotCreated = low 5 _ (inr (inr (inl refl)))
by_status P low seven nine (faults.NotSaved fault) = nine fault
by_status P low seven nine faults.TwoCheckpoints = low 2 _ (inl refl)
by_status P low seven nine faults.SizesUnread = low 5 _ (inr (inr (inl refl)))
by_status P low seven nine faults.Sizes = low 2 _ (inl refl)

abbrev IsLow : ℕ → Type 0
IsLow n = (n ≡ 2) ⊎ ((n ≡ 4) ⊎ ((n ≡ 5) ⊎ (n ≡ 6)))

low_not_7 : (n : ℕ) → IsLow n → n ≡ 7 → ⊥
low_not_7 n (inl two) is = let no : Path ℕ 2 7 = sym two ∙ is in cc
low_not_7 n (inr (inl four)) is = let no : Path ℕ 4 7 = sym four ∙ is in cc
low_not_7 n (inr (inr (inl five))) is = let no : Path ℕ 5 7 = sym five ∙ is in cc
low_not_7 n (inr (inr (inr six))) is = let no : Path ℕ 6 7 = sym six ∙ is in cc

-- the statuses of a report that was written
abbrev pub IsOfReport : ℕ → Type 0
IsOfReport status = (status ≡ 0) ⊎ ((status ≡ 3) ⊎ ((status ≡ 8) ⊎ (status ≡ 9)))

not_of_report : (n : ℕ) → (n ≡ 0 → ⊥) → (n ≡ 3 → ⊥) → (n ≡ 8 → ⊥) → (n ≡ 9 → ⊥) → IsOfReport n → ⊥
not_of_report n not_0 not_3 not_8 not_9 (inl is) = not_0 is
not_of_report n not_0 not_3 not_8 not_9 (inr (inl is)) = not_3 is
not_of_report n not_0 not_3 not_8 not_9 (inr (inr (inl is))) = not_8 is
not_of_report n not_0 not_3 not_8 not_9 (inr (inr (inr is))) = not_9 is

low_unreported : (n : ℕ) → IsLow n → IsOfReport n → ⊥
low_unreported n (inl two) is = not_of_report 2 (λ e. cc) (λ e. cc) (λ e. cc) (λ e. cc) (subst IsOfReport two is)
low_unreported n (inr (inl four)) is = not_of_report 4 (λ e. cc) (λ e. cc) (λ e. cc) (λ e. cc) (subst IsOfReport four is)
low_unreported n (inr (inr (inl five))) is = not_of_report 5 (λ e. cc) (λ e. cc) (λ e. cc) (λ e. cc) (subst IsOfReport five is)
low_unreported n (inr (inr (inr six))) is = not_of_report 6 (λ e. cc) (λ e. cc) (λ e. cc) (λ e. cc) (subst IsOfReport six is)

-- only a report that couldn't be written has status 7
seven_is : (fault : CommandFault) → status_of fault ≡ 7 → fault ≡ faults.Unwritten
seven_is fault =
    by_status (λ f n. n ≡ 7 → f ≡ faults.Unwritten) (λ n f low is. absurd (low_not_7 n low is)) (λ is. refl)
    (λ unsaved is. absurd (let no : Path ℕ 9 7 = is in cc)) fault

-- the only fault that has a status of a report is a checkpoint that wasn't saved
unsaved_is : (fault : CommandFault) → IsOfReport (status_of fault) → (unsaved : SaveFault) × (fault ≡ faults.NotSaved unsaved)
unsaved_is fault =
    by_status (λ f n. IsOfReport n → (unsaved : SaveFault) × (f ≡ faults.NotSaved unsaved))
    (λ n f low is. absurd (low_unreported n low is))
    (λ is. absurd (not_of_report 7 (λ e. cc) (λ e. cc) (λ e. cc) (λ e. cc) is)) (λ unsaved is. (unsaved, refl)) fault

-- if a round has no report, the cause is neither `Unwritten` nor `NotSaved`
module _ (files : FilesView) (words : List Text) (after : files.its.State) where
  unassumed : (vars : ℕ) (before : files.its.State) (path : Option Text) → IsAssumeCause files vars before path faults.Unwritten after
      → ⊥
  unassumed vars before None cause = cause
  unassumed vars before (Some path) cause = cause

  never_unwritten : (number : ℕ) → IsCauseIn files words number faults.Unwritten after → ⊥
  never_unwritten number (inl (one, cause)) = elim cause.2 [
    | inl read ↦ read
    | inr later ↦ elim later.3 [
      | inl assume ↦ unassumed later.0.vars later.1 (assumed_at cause.0) assume
      | inr last ↦ elim last.3 [ inl opens ↦ opens | inr start ↦ start.4 ]
    ]
  ]
  never_unwritten number (inr fails) = elim fails.cause.2 [
    | inl sizes ↦ sizes
    | inr sized ↦ elim sized.3 [
      | inl opens ↦ elim opens [ inl first ↦ first | inr others ↦ others.3 ]
      | inr start ↦ start.3
    ]
  ]

  unassumed_9 : (unsaved : SaveFault) (vars : ℕ) (before : files.its.State) (path : Option Text)
      → IsAssumeCause files vars before path (faults.NotSaved unsaved) after → ⊥
  unassumed_9 unsaved vars before None cause = cause
  unassumed_9 unsaved vars before (Some path) cause = cause

  never_unsaved : (unsaved : SaveFault) (number : ℕ) → IsCauseIn files words number (faults.NotSaved unsaved) after → ⊥
  never_unsaved unsaved number (inl (one, cause)) = elim cause.2 [
    | inl read ↦ read
    | inr later ↦ elim later.3 [
      | inl assume ↦ unassumed_9 unsaved later.0.vars later.1 (assumed_at cause.0) assume
      | inr last ↦ elim last.3 [ inl opens ↦ opens | inr start ↦ start.4 ]
    ]
  ]
  never_unsaved unsaved number (inr fails) = elim fails.cause.2 [
    | inl sizes ↦ sizes
    | inr sized ↦ elim sized.3 [
      | inl opens ↦ elim opens [ inl first ↦ first | inr others ↦ others.3 ]
      | inr start ↦ start.3
    ]
  ]

module _ (files : FilesView) (words : List Text) (after : files.its.State) (out err : SinkChange) (status : ℕ) where
  -- a program that ends without a report never has the status of a report
  pub never_reported : EndsWithFault files words after out err status → IsOfReport status → ⊥
  never_reported ends is =
      let fault = unsaved_is ends.fault (subst IsOfReport ends.status_is is) in
      never_unsaved files words after fault.0 ends.number
      (subst (λ (f : CommandFault). IsCauseIn files words ends.number f after) fault.1 ends.cause)

  not_7 : EndsWithFault files words after out err status → status ≡ 7 → ⊥
  not_7 ends is =
      never_unwritten files words after ends.number (subst (λ (f : CommandFault). IsCauseIn files words ends.number f after)
      (seven_is ends.fault (sym ends.status_is ∙ is)) ends.cause)

  -- with a report or with a fault, the status is 7 exactly if the sink failed
  pub all_unwritten : ProgramEnds files words after out err status → IsTrue out.failed ↔ (status ≡ 7)
  all_unwritten (inl report) = (
    (λ failed. report.status_is ∙ has_7 out.failed report.last.unsaved report.last.verdict failed),
    (λ seven. written out.failed report.last.unsaved report.last.verdict (sym report.status_is ∙ seven)),
  )
  all_unwritten (inr fault) = (
    (λ failed. absurd (let no : false ≡ true = sym fault.untouched.failed ∙ failed in cc)),
    (λ seven. absurd (not_7 fault seven)),
  )

-- ---- words that ask for a checkpoint

module _ (files : FilesView) (words : List Text) (after : files.its.State) (out err : SinkChange) (status : ℕ)
    (report : EndsWithReport files words after out err status) (path : Text) (ask : AskToSave words path) where
  abbrev last : Round files.its report.given report.cube
  last = report.last

  asked : checkpoint_of report.given.next ≡ Some path
  asked = report.command_line.said.checkpoint ∙ ask.path_is

  once : rounds_of report.given.next ≡ None
  once = never_both report.given.next path asked

  created : created_path report.given.next last.number ≡ Some path
  created = creates_checkpoint report.given.next path last.number asked

  -- what was done to the files at the end
  comes_last : (Came : Cnf → files.its.State → files.its.State → Type 0) → Came last.formula last.opened last.after
      → ComesLast files.its.opens (WasReadIn files) Came files.first words after
  comes_last Came came =
      let were = were_one once files report.cube last report.before report.were in
      let first = were.rounds in
      record {
        given = report.given;
        command_line = report.command_line;
        bytes = were.is_formula.0;
        formula = were.formula;
        next = were.next;
        read = were.is_formula.1;
        is_text = were.is_formula.2;
        cube = report.cube;
        later = were.later;
        assumed = were.assumed;
        readers = last.readers;
        before = last.opened;
        opened = first.opened.opened;
        came = subst (λ (f : Cnf). Came f last.opened after) first.formula_is
            (subst (λ (s : files.its.State). Came last.formula last.opened s) (sym (is_over once last after report.finished)) came);
      }

  pub report_saved : (status ≡ 3) ⊎ (status ≡ 8)
      → ComesLast files.its.opens (WasReadIn files) (λ formula before after. (saved : List ℕ)
      × WasSavedBy files.its before path saved after × IsCheckpoint formula saved) files.first words after
  report_saved is =
      let unrefuted = open_is out.failed last.unsaved last.verdict (subst (λ (n : ℕ). (n ≡ 3) ⊎ (n ≡ 8)) report.status_is is) in
      let at = kept last path created unrefuted.1 unrefuted.0 in
      comes_last _ (at.bytes, at.saved, at.checkpoint)

  pub report_empty : status ≡ 0
      → ComesLast files.its.opens (WasReadIn files) (λ formula before after.
      IsLeftEmpty files.its.creates files.its.written files.its.discards before path after) files.first words after
  report_empty is =
      let refuted = zero_is out.failed last.unsaved last.verdict (sym report.status_is ∙ is) in
      let Saves = SavesCheckpoint files.its last.formula (run_params_by report.given report.cube last.formula last.sizes).layout
      last.checked.ran.run.history last.checked.dropped in
      let left = subst (λ (o : Option Text). LeavesAtPath files.its Saves last.verdict last.opened o last.unsaved last.next last.after)
      created last.leaves in
      let empty = subst (λ (v : Verdict). LeavesAtPath files.its Saves v last.opened (Some path) last.unsaved last.next last.after)
      refuted left in
      comes_last _ empty.2

module _ (files : FilesView) (words : List Text) (after : files.its.State) (out err : SinkChange) (status : ℕ) where
  -- with status 3 or 8, the checkpoint was saved
  pub all_saved : ProgramEnds files words after out err status
      → CheckpointEntailed files.its.opens (WasReadIn files) (WasSavedBy files.its) files.first words after status
  all_saved (inl report) path ask is = report_saved files words after out err status report path ask is
  all_saved (inr fault) path ask is =
      absurd (never_reported files words after out err status fault
      (elim is [ inl three ↦ inr (inl three) | inr eight ↦ inr (inr (inl eight)) ]))

  -- with status 0, no checkpoint was written
  pub all_empty : ProgramEnds files words after out err status → CheckpointLeftEmpty files words after status
  all_empty (inl report) path ask is = report_empty files words after out err status report path ask is
  all_empty (inr fault) path ask is = absurd (never_reported files words after out err status fault (inl is))
