-- A run that saves a checkpoint, and a run that starts from it.
use Rattle.std.proofs.Common.{◌≡◌, ◌∙◌, ℕ, Bool, true, false, List, [], ◌∷◌, Option, None}
use Rattle.std.proofs.Common.{Some, Result, Ok, Err, refl, sym, ap, subst, inl, inr, arith}
use Rattle.std.specs.Prelude.{◌||◌, codes, nat_eq}
use Rattle.std.specs.Io.KnownBytes.{Appends}
use Rattle.clap.proofs.OnLiterals.{clap_on_literals}
use Rattle.lrup_model.specs.Cube.{CubeValue}
use Rattle.lrup_model.specs.Event.{History}
use Rattle.lrup_model.specs.Formula.{Cnf}
use Rattle.lrup_model.specs.Layout.{LayoutValue}
use Rattle.lrup_model.specs.declared.layout.LayoutFault.TheVariants as layouts
use Rattle.lrup_text.specs.Cubes.{IsCubeText}
use Rattle.lrup_text.specs.ReadOut.{SourceView}
use Rattle.dimacs.specs.FormulaText.{IsFormulaText}
use Rattle.checkpoint.specs.Checkpoints.{IsCheckpoint, IsUnsatisfiableText}
use Rattle.checkpoint.specs.declared.saving.SaveFault.{SaveFault}
use Rattle.run_outcome.specs.declared.outcome.Verdict.{Verdict}
use Rattle.run_outcome.specs.declared.outcome.Verdict.TheVariants.{Unsatisfiable, UnsatisfiableUnder, Unknown}
use Rattle.stream_check.specs.DroppedIdsValue.{DroppedIdsValue}
use Rattle.command_line.specs.CommandLine.{IsCommandLineOf, checkpoint_of, rounds_of}
use Rattle.command_line.specs.declared.words.CommandLine.{CommandLine}
use Rattle.run_files.specs.Asked.{Text, assumed_at, created_path}
use Rattle.run_files.specs.Faults.{status_of}
use Rattle.run_files.specs.Files.{AreAssumed, Effects, FilesView, WasReadIn, WasSavedBy}
use Rattle.run_files.specs.Saving.{ClosesSink, SavesCheckpoint}
use Rattle.run_files.specs.declared.fault.CommandFault.{CommandFault}
use Rattle.run_files.specs.declared.fault.CommandFault.TheVariants as faults
use Rattle.command.specs.Commands.{SinkChange, report_status}
use Rattle.command.specs.Rounds.{EndsWithReport, LeavesAtPath, ProgramEnds, Round, WereRounds}
use Rattle.command.specs.lemmas.OneRound.{creates_checkpoint, is_over, were_one}
use Rattle.outcome_laws.specs.Outcomes.{layout_in}
use Rattle.outcome_laws.specs.Refuting.{AreRuns, IsRunOn, OutcomesRefute, OutcomesRefuteUnder, saved_bytes, saved_in, written_bytes}
use Rattle.command_tests.specs.ExactFiles.{ExactValue, text_or_none}
use Rattle.command_tests.proofs.AgreeLemmas.{path_is}
use Rattle.command_tests.specs.Outcomes.{AreUnsatisfiableTexts, assuming_literals, plain, saving}
use Rattle.command_tests.proofs.ExactLemmas.{exact_view, saved_at}
use Rattle.command_tests.proofs.FirstLemmas.{OneFormula}

-- this status is that of a report
abbrev reported : ℕ → Bool
reported status = nat_eq status 0 || nat_eq status 3 || nat_eq status 8

unreported : (fault : CommandFault) → reported (status_of fault) ≡ false
unreported (faults.Usage text) = refl
unreported faults.Unread = refl
unreported (faults.Refused fault) = refl
unreported faults.CubeUnread = refl
unreported (faults.CubeRefused fault) = refl
unreported (faults.NotOpened stream) = refl
unreported (faults.Layout layouts.TooManyVariables) = refl
unreported (faults.Layout layouts.TooManyClauses) = refl
unreported (faults.Layout layouts.BadStreamCount) = refl
unreported (faults.Layout layouts.RowTooLong) = refl
unreported (faults.Spawn stream) = refl
unreported (faults.Ring stream) = refl
unreported faults.Memory = refl
unreported faults.Unwritten = refl
unreported faults.NotCreated = refl
unreported (faults.NotSaved why) = refl
unreported faults.TwoCheckpoints = refl
unreported faults.SizesUnread = refl
unreported faults.Sizes = refl

-- with such a status there is a report
report_with : (files : FilesView) (words : List Text) (after : files.its.State) (out err : SinkChange) (status : ℕ)
    → reported status ≡ true → ProgramEnds files words after out err status → EndsWithReport files words after out err status
report_with files words after out err status is (inl ends) = ends
report_with files words after out err status is (inr ends) =
    absurd (let no : true ≡ false = sym is ∙ ap reported ends.status_is ∙ unreported ends.fault in cc)

-- with status 3, the clauses were saved if that was asked for, and the verdict is 'unknown'
said_by_three : (failed : Bool) (unsaved : Option SaveFault) (verdict : Verdict) → 3 ≡ report_status failed unsaved verdict
    → (unsaved ≡ None) × (verdict ≡ Unknown)
said_by_three true unsaved verdict is = absurd (omega (arith, is))
said_by_three false (Some why) verdict is = absurd (omega (arith, is))
said_by_three false None Unsatisfiable is = absurd (omega (arith, is))
said_by_three false None UnsatisfiableUnder is = absurd (omega (arith, is))
said_by_three false None Unknown is = (refl, refl)

module _ (its : Effects) (f : Cnf) (layout : LayoutValue) (history : History) (dropped : List DroppedIdsValue) where
  abbrev Saves : Result (Option Cnf) SaveFault → its.Output → its.Output → Type 0
  Saves = SavesCheckpoint its f layout history dropped

  written_by : (result : Result (Option Cnf) SaveFault) (first last : its.Output) (opened after : its.State) (next : Option Cnf)
      (saves : Saves result first last) → ClosesSink its result opened last None next after
      → (bytes : List ℕ) × (written_bytes result first last saves ≡ Some bytes)
      × Appends (its.written first) (its.written last) bytes × its.keeps opened last after × IsCheckpoint f bytes
  written_by (Ok made) first last opened after next saves closed =
      let wrote = saves.checkpoint in (wrote.bytes, refl, wrote.written, closed.1, wrote.checkpoint)
  written_by (Err fault) first last opened after next saves closed = absurd (let no : None ≡ Some fault = closed.0 in cc)

  -- what was saved at the path that the words name
  saved_there : (verdict : Verdict) (before : its.State) (path : Option Text) (unsaved : Option SaveFault) (next : Option Cnf)
      (after : its.State) (leaves : LeavesAtPath its Saves verdict before path unsaved next after) (at : Text)
      → path ≡ Some at → unsaved ≡ None → verdict ≡ Unknown
      → (bytes : List ℕ)
      × (saved_bytes its f layout history dropped verdict before path unsaved next after leaves ≡ Some bytes)
      × WasSavedBy its before at bytes after × IsCheckpoint f bytes
  saved_there Unknown before (Some path) None next after leaves at is saved unknown =
      let wrote = written_by leaves.result leaves.first leaves.last leaves.opened after next leaves.saving leaves.closed in
      let same : path ≡ at = cc in (
        wrote.0,
        wrote.1,
        subst (λ (p : Text). WasSavedBy its before p wrote.0 after) same (record {
          first = leaves.first;
          next = leaves.opened;
          created = leaves.created;
          empty = leaves.empty;
          last = leaves.last;
          wrote = wrote.2;
          kept = wrote.3;
        }),
        wrote.4,
      )
  saved_there Unknown before (Some path) (Some fault) next after leaves at is saved unknown =
      absurd (let no : Some fault ≡ None = saved in cc)
  saved_there Unknown before None unsaved next after leaves at is saved unknown = absurd (let no : None ≡ Some at = is in cc)
  saved_there Unsatisfiable before path unsaved next after leaves at is saved unknown =
      absurd (let no : Unsatisfiable ≡ Unknown = unknown in cc)
  saved_there UnsatisfiableUnder before path unsaved next after leaves at is saved unknown =
      absurd (let no : UnsatisfiableUnder ≡ Unknown = unknown in cc)

saving_names : (given : CommandLine) → IsCommandLineOf saving given
    → (given.formula.now ≡ codes "f") × (checkpoint_of given.next ≡ Some (codes "new")) × (rounds_of given.next ≡ None)
unfolding clap_on_literals
saving_names given is = (path_is (codes "f") given.formula.now is.said.formula, is.said.checkpoint, is.said.rounds)

plain_names : (given : CommandLine) → IsCommandLineOf plain given → given.formula.now ≡ codes "f"
unfolding clap_on_literals
plain_names given is = path_is (codes "f") given.formula.now is.said.formula

literals_names : (given : CommandLine) → IsCommandLineOf assuming_literals given
    → (given.formula.now ≡ codes "f") × (assumed_at given ≡ Some (codes "dir/assumed-literals"))
unfolding clap_on_literals
literals_names given is = (path_is (codes "f") given.formula.now is.said.formula, is.said.assume)

module _ {R W : Type 0} (rest : R → List ℕ) (content : W → List ℕ) (reading : SourceView R) (has_failed : W → Bool) where
  abbrev view : ExactValue → FilesView
  view = exact_view rest content reading has_failed

  -- the text that was read is the files' one
  was_read : (start : ExactValue) (given : CommandLine) (cube : CubeValue) (last : Round (view start).its given cube)
      (before : List (Round (view start).its given cube)) (were : WereRounds (view start) given cube last before)
      → given.formula.now ≡ codes "f" → (were.is_formula.0 ≡ start.formula) × IsFormulaText start.formula were.formula
  was_read start given cube last before were is =
      let same : were.is_formula.0 ≡ start.formula = sym (were.is_formula.1.known start.formula (ap (view start).contents is)) in
      (same, subst (λ (b : List ℕ). IsFormulaText b were.formula) same were.is_formula.2)

  abbrev run_on : (start : ExactValue) (words : List Text) (after : ExactValue) (out err : SinkChange) (status : ℕ)
      (ends : EndsWithReport (view start) words after out err status) → ends.given.formula.now ≡ codes "f" → (bytes : List ℕ)
      → start.formula ≡ bytes → IsRunOn (view start) bytes status
  run_on start words after out err status ends is bytes same = record {
    words = words;
    after = after;
    out = out;
    err = err;
    ends = ends;
    read = (was_read start ends.given ends.cube ends.last ends.before ends.were is).0 ∙ same;
  }

  -- A run ends with status 3 and saves its clauses, and another one reads them.
  module _ (start after others other_after : ExactValue) (out err other_out other_err : SinkChange)
      (first : ProgramEnds (view start) saving after out err 3) (same : others.formula ≡ after.bytes) where
    abbrev ends : EndsWithReport (view start) saving after out err 3
    ends = report_with (view start) saving after out err 3 refl first

    abbrev round : Round (view start).its ends.given ends.cube
    round = ends.last

    -- what the first run saved
    saved : (saved_in round ≡ Some after.bytes) × IsCheckpoint round.formula after.bytes
    saved =
        let names = saving_names ends.given ends.command_line in
        let said = said_by_three out.failed round.unsaved round.verdict ends.status_is in
        let there = saved_there (view start).its round.formula (layout_in round.formula round.sizes) round.checked.ran.run.history
        round.checked.dropped round.verdict round.opened (created_path ends.given.next round.number) round.unsaved round.next round.after
        round.leaves (codes "new") (creates_checkpoint ends.given.next (codes "new") round.number names.1) said.0 said.1 in
        let bytes : there.0 ≡ after.bytes =
        sym (ap (λ (files : ExactValue). files.bytes)
        (is_over names.2 round after ends.finished
        ∙ saved_at rest content reading has_failed round.opened (codes "new") there.0 round.after there.2)) in (
          there.1 ∙ ap (λ (b : List ℕ). Some b) bytes,
          subst (IsCheckpoint round.formula) bytes there.3,
        )

    -- if the other run is a last one, these are runs in sequence
    are_runs : (IsLast : ExactValue → List ℕ → Type 0) → IsLast others after.bytes
        → AreRuns view IsLast start.formula (after.bytes ∷ [])
    are_runs IsLast last = (
      (
        start,
        3,
        run_on start saving after out err 3 ends (saving_names ends.given ends.command_line).0 start.formula refl,
        saved.0,
      ),
      (others, last),
    )

    -- with status 0, the premises of the law hold
    pub two_refute : OutcomesRefute view → ProgramEnds (view others) plain other_after other_out other_err 0
        → IsUnsatisfiableText start.formula
    two_refute refute second =
        let last = report_with (view others) plain other_after other_out other_err 0 refl second in
        refute start.formula (after.bytes ∷ [])
        (are_runs (λ files bytes. IsRunOn (view files) bytes 0)
        (run_on others plain other_after other_out other_err 0 last (plain_names last.given last.command_line) after.bytes same))

    -- with status 8 and a file of assumed literals, those of the other law hold
    pub two_refute_under : OutcomesRefuteUnder view → OneFormula → (assumed : List ℕ) → others.next ≡ Some assumed
        → ProgramEnds (view others) assuming_literals other_after other_out other_err 8 → AreUnsatisfiableTexts assumed start.formula
    two_refute_under refute one_formula assumed literals second =
        let last = report_with (view others) assuming_literals other_after other_out other_err 8 refl second in
        let names = literals_names last.given last.command_line in
        let refuted = refute last.cube start.formula (after.bytes ∷ [])
        (are_runs (λ files bytes. (run : IsRunOn (view files) bytes 8) × (run.ends.cube ≡ last.cube))
        (run_on others assuming_literals other_after other_out other_err 8 last names.0 after.bytes same, refl)) in
        let read : AreAssumed (WasReadIn (view others)) last.were.formula.vars last.were.next (Some (codes "dir/assumed-literals"))
        last.cube last.were.later =
        subst
        (λ (p : Option Text). AreAssumed (WasReadIn (view others)) last.were.formula.vars last.were.next p last.cube last.were.later)
        names.1 last.were.assumed in
        let is_read : assumed ≡ read.0 =
        read.1.known assumed (ap (λ (t : Option (List ℕ)). Some (text_or_none t)) literals) in
        let saves = saving_names ends.given ends.command_line in
        let were = were_one saves.2 (view start) ends.cube round ends.before ends.were in
        let checkpoint = saved.1 in
        let vars : last.were.formula.vars ≡ refuted.0.vars =
        ap (λ (f : Cnf). f.vars)
        (one_formula after.bytes last.were.formula checkpoint.formula
        (subst (λ (b : List ℕ). IsFormulaText b last.were.formula) same
        (was_read others last.given last.cube last.last last.before last.were names.0).1)
        checkpoint.text)
        ∙ checkpoint.entails.vars
        ∙ ap (λ (f : Cnf). f.vars)
        (were.rounds.formula_is
        ∙ one_formula start.formula were.formula refuted.0 (was_read start ends.given ends.cube round [] were saves.0).1 refuted.1) in (
          refuted.0,
          last.cube,
          refuted.1,
          subst (λ (n : ℕ). IsCubeText n assumed last.cube) vars
              (subst (λ (b : List ℕ). IsCubeText last.were.formula.vars b last.cube) (sym is_read) read.2),
          refuted.2,
        )
