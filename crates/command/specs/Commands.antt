-- What a whole run of the program does (this project's own).
use Rattle.std.specs.Io.KnownBytes.{Appends, Keeps}
use Rattle.std.specs.Prelude.{◌++◌, ◌≡◌, ◌⊎◌, Bool, List, None, Option, Some, false, true, ℕ}
use Rattle.lrup_model.specs.Cube.{CubeValue, IsUnsatisfiableUnder}
use Rattle.lrup_model.specs.Entailment.{IsUnsatisfiable}
use Rattle.lrup_model.specs.Formula.{Cnf}
use Rattle.lrup_model.specs.Layout.{IsFault}
use Rattle.lrup_model.specs.declared.layout.LayoutFault.{LayoutFault}
use Rattle.dimacs.specs.FormulaText.{IsFormulaText}
use Rattle.lrup_text.specs.ReadOut.{SourceView}
use Rattle.lrup_text.specs.declared.device.Sink as Sink
use Rattle.stream_check.specs.DroppedIdsValue.{DroppedIdsValue}
use Rattle.stream_check.specs.Streams.{RunParamsValue}
use Rattle.stream_check.specs.declared.report.Report.{Report}
use Rattle.checkpoint.specs.Checkpoints.{IsCheckpoint}
use Rattle.checkpoint.specs.declared.saving.SaveFault.{SaveFault}
use Rattle.run_outcome.specs.Histories.{IsRunOf, RanSo}
use Rattle.run_outcome.specs.Outcomes.{verdict_of}
use Rattle.run_outcome.specs.declared.outcome.Verdict.{Verdict}
use Rattle.run_outcome.specs.declared.outcome.Verdict.TheVariants.{Unknown, Unsatisfiable, UnsatisfiableUnder}
use Rattle.command_line.specs.CommandLine.{AskFor, AskToSave, IsCommandLineOf}
use Rattle.command_line.specs.declared.words.CommandLine.{CommandLine}
use Rattle.run_files.specs.Asked.{Text, assumed_at}
use Rattle.run_files.specs.Faults.{error_text, round_error_text, status_of}
use Rattle.run_files.specs.Files.{AreAssumed, AreOpened, FilesView, IsLeftEmpty, WasReadIn}
use Rattle.run_files.specs.declared.fault.CommandFault.TheVariants as faults

-- The words name a formula, and the bytes read from its file, the first to be opened, are a text of
-- a formula that no assignment satisfies.
abbrev pub NameUnsatisfiable : (F : Type 0) → (F → Text → List ℕ → F → Type 0) → F → List Text
    → Type 0
NameUnsatisfiable F Read first words =
    (formula_path : Text) × (assume : Option Text) × (bytes : List ℕ) × (formula : Cnf)
    × (after : F) × AskFor words formula_path assume × Read first formula_path bytes after
    × IsFormulaText bytes formula × IsUnsatisfiable formula

-- The words name a formula and, if given, a file of assumed literals. These two files, the first to
-- be opened, hold texts of the formula and of the literals, and no assignment satisfies the formula
-- under the literals.
abbrev pub NameUnsatisfiableUnder : (F : Type 0) → (F → Text → List ℕ → F → Type 0) → F
    → List Text → Type 0
NameUnsatisfiableUnder F Read first words =
    (formula_path : Text) × (assume : Option Text) × (bytes : List ℕ) × (formula : Cnf)
    × (cube : CubeValue) × (next last : F) × AskFor words formula_path assume
    × Read first formula_path bytes next
    × IsFormulaText bytes formula × AreAssumed Read formula.vars next assume cube last
    × IsUnsatisfiableUnder formula cube

-- The bytes read from FORMULA, the first file to be opened, are a text of a formula. Then the
-- assumed literals were read, if any, and the streams were opened. `Came formula` describes what
-- was then done to the files.
pub record ComesLast {F R : Type 0} (opens : F → Text → R → F → Type 0)
    (Read : F → Text → List ℕ → F → Type 0) (Came : Cnf → F → F → Type 0) (first : F)
    (words : List Text) (last : F) : Type 0 where
  pub given : CommandLine
  pub command_line : IsCommandLineOf words given
  pub bytes : List ℕ
  pub formula : Cnf
  pub next : F
  pub read : Read first given.formula.now bytes next
  pub is_text : IsFormulaText bytes formula
  pub cube : CubeValue
  pub later : F
  pub assumed : AreAssumed Read formula.vars next (assumed_at given) cube later
  pub readers : List R
  pub before : F
  pub opened : AreOpened opens later given.streams readers before
  pub came : Came formula before last

-- With status 3 or 8, if the words ask for a checkpoint at a path, a checkpoint of the formula was
-- saved there, and nothing was done to the files after that.
abbrev pub CheckpointEntailed : {F R : Type 0} → (F → Text → R → F → Type 0)
    → (F → Text → List ℕ → F → Type 0) → (F → Text → List ℕ → F → Type 0) → F → List Text → F → ℕ
    → Type 0
CheckpointEntailed opens Read Save first words last status =
    (path : Text) → AskToSave words path → (status ≡ 3) ⊎ (status ≡ 8)
    → ComesLast opens Read (λ formula before after. (saved : List ℕ)
    × Save before path saved after × IsCheckpoint formula saved) first words last

-- The reports and the verdict come from one run over the formula's streams. `firsts` are the
-- readers of the streams as they were opened, and `lasts` the readers at the end.
pub record AreChecked {R : Type 0} (reading : SourceView R) (serial : Bool) (formula : Cnf)
    (run_params : RunParamsValue) (firsts : List R) (reports : List Report)
    (verdict : Verdict) : Type 0 where
  pub layout : (fault : LayoutFault) → IsFault run_params.layout fault → ⊥
  pub lasts : List R
  pub dropped : List DroppedIdsValue
  pub ran : IsRunOf reading formula run_params firsts lasts reports dropped
  pub way : RanSo serial formula run_params ran.run.history ran.run.streams reports
  pub is_verdict : verdict ≡ verdict_of reports
  pub sound : verdict ≡ Unsatisfiable → IsUnsatisfiable formula
  pub sound_under : verdict ≡ UnsatisfiableUnder → IsUnsatisfiableUnder formula run_params.cube

-- With status 0, if the words ask for a checkpoint at a path, none was written: its file was
-- created there and discarded before anything was written to it, and nothing was done to the files
-- after that.
abbrev pub CheckpointLeftEmpty : (files : FilesView) → List Text → files.its.State → ℕ → Type 0
CheckpointLeftEmpty files words last status =
    (path : Text) → AskToSave words path → status ≡ 0
    → ComesLast files.its.opens (WasReadIn files) (λ formula before after.
    IsLeftEmpty files.its.creates files.its.written files.its.discards before path after)
    files.first words last

-- The output.

-- a sink: what had been written to it by the start and by the end, and whether it had failed by the
-- end
pub record SinkChange : Type 0 where
  pub before : Option (List ℕ)
  pub after : Option (List ℕ)
  pub failed : Bool

-- the change of a sink, as the contracts of its type see it
abbrev pub change : {W : Type 0} → Sink.Ghosts W → W → W → SinkChange
change its before after = record {
  before = its.written before;
  after = its.written after;
  failed = its.has_failed after;
}

-- the text was written to the sink; or a prefix of it, if the sink failed
abbrev pub TakesUnlessFailed : Bool → Option (List ℕ) → Option (List ℕ) → List ℕ → Type 0
TakesUnlessFailed false before after text = Appends before after text
TakesUnlessFailed true before after text =
    (went rest : List ℕ) × (text ≡ went ++ rest) × Appends before after went

abbrev pub SinkTook : SinkChange → List ℕ → Type 0
SinkTook sink text = TakesUnlessFailed sink.failed sink.before sink.after text

-- nothing was written to the sink, and it hasn't failed
pub record IsUntouched (sink : SinkChange) : Type 0 where
  pub written : Keeps sink.before sink.after
  pub failed : sink.failed ≡ false

abbrev pub verdict_status : Verdict → ℕ
verdict_status Unsatisfiable = 0
verdict_status UnsatisfiableUnder = 8
verdict_status Unknown = 3

-- the status for a report that wasn't written; otherwise, for a checkpoint that wasn't saved;
-- otherwise, for the report's verdict
abbrev pub report_status : Bool → Option SaveFault → Verdict → ℕ
report_status true unsaved verdict = status_of faults.Unwritten
report_status false (Some fault) verdict = status_of (faults.NotSaved fault)
report_status false None verdict = verdict_status verdict

-- the messages on standard error for the round with this number: one if the checkpoint wasn't
-- saved, then one if the report wasn't written
abbrev pub SaysOfRound : ℕ → Bool → Option SaveFault → SinkChange → Type 0
SaysOfRound round true (Some fault) err =
    SinkTook err (round_error_text round (faults.NotSaved fault) ++ error_text faults.Unwritten)
SaysOfRound round true None err = SinkTook err (error_text faults.Unwritten)
SaysOfRound round false (Some fault) err =
    SinkTook err (round_error_text round (faults.NotSaved fault))
SaysOfRound round false None err = IsUntouched err
