-- Facts about the words and the files that follow from what a function has read and run.
use Rattle.std.proofs.Common.{◌∙◌, ◌≡◌, Bool, Err, IfErr, IfOk, IfSome, List, Ok, Option, Result, Some, false}
use Rattle.std.proofs.Common.{inl, inr, refl, rules, subst, sym, ℕ}
use Rattle.std.specs.Prelude.{◌↔◌, IsErrAnd}
use Rattle.lrup_model.specs.Cube.{CubeValue, IsUnsatisfiableUnder}
use Rattle.lrup_model.specs.Entailment.{IsUnsatisfiable}
use Rattle.lrup_model.specs.Formula.{Cnf}
use Rattle.lrup_model.specs.Layout.{IsFault, IsStream, LayoutValue}
use Rattle.lrup_model.specs.declared.layout.LayoutFault.{LayoutFault}
use Rattle.lrup_text.specs.ReadOut.{SourceView}
use Rattle.stream_check.specs.Streams.{RunParamsValue}
use Rattle.run_outcome.specs.RingStops.{StopsAtRing}
use Rattle.run_outcome.specs.declared.outcome.Checked.{Checked}
use Rattle.run_outcome.specs.declared.outcome.RunFault.{RunFault}
use Rattle.run_outcome.specs.declared.outcome.RunFault.TheVariants as runs
use Rattle.command_line.specs.CommandLine.{AskFor, IsCommandLineOf}
use Rattle.command_line.specs.declared.sizes.Sizes.{Sizes}
use Rattle.command_line.specs.declared.words.CommandLine.{CommandLine}
use Rattle.run_files.specs.Asked.{Text, assumed_at, created_path, run_params_by}
use Rattle.run_files.specs.Causes.{HasNoFault, IsLeftUnused, IsRoundStartCause, IsStartCause}
use Rattle.run_files.specs.FaultSources.{of_run}
use Rattle.run_files.specs.Files.{Effects, FilesView, WasReadIn, WereRead}
use Rattle.run_files.specs.Saving.{IsNotCreated}
use Rattle.run_files.specs.lemmas.ResultLemmas.{err_given}
use Rattle.run_files.specs.declared.fault.CommandFault.{CommandFault}
use Rattle.run_files.specs.declared.fault.CommandFault.TheVariants as faults
use Rattle.command.specs.Commands.{NameUnsatisfiable, NameUnsatisfiableUnder}
use Rattle.command.specs.internal.Running.{IsCheckResult, IsLayoutCause, IsRunCause}

-- if P implies Q, `IfOk` with P implies `IfOk` with Q
pub if_ok : {T E : Type 0} (r : Result T E) (P Q : T → Type 0) → ((t : T) → P t → Q t) → IfOk r P → IfOk r Q
if_ok (Ok t) P Q follows known = follows t known
if_ok (Err e) P Q follows known = tt

pub some_given : {T : Type 0} {o : Option T} {t : T} (P : T → Type 0) → o ≡ Some t → IfSome o P → P t
some_given P is known = subst (λ o. IfSome o P) is known

-- a run doesn't have two different faults
not_both : {T : Type 0} (stream : ℕ) (fault : LayoutFault)
    → Path (Result T RunFault) (Err (runs.Spawn stream)) (Err (runs.Layout fault)) → ⊥
not_both stream fault both = search (both, rules)

no_ring : {T : Type 0} (stream : ℕ) (fault : LayoutFault) → Path (Result T RunFault) (Err (runs.Ring stream)) (Err (runs.Layout fault)) → ⊥
no_ring stream fault both = search (both, rules)

-- the cause of a run's fault
pub run_cause : {T R : Type 0} (view : SourceView R) (serial : Bool) (f : Cnf) (run_params : RunParamsValue) (readers : List R)
    (result : Result T RunFault) (fault : RunFault) → result ≡ Err fault
    → ((fault : LayoutFault) → (result ≡ Err (runs.Layout fault)) ↔ IsFault run_params.layout fault)
    → ((stream : ℕ) → result ≡ Err (runs.Spawn stream) → (serial ≡ false) × IsStream run_params.layout stream)
    → ((stream : ℕ) → result ≡ Err (runs.Ring stream) → (serial ≡ false) × StopsAtRing view f run_params readers stream)
    → IsRunCause view serial f run_params readers (of_run fault)
run_cause view serial f run_params readers result (runs.Layout fault) is layout spawn ring = (layout fault).0 is
run_cause view serial f run_params readers result runs.Memory is layout spawn ring = tt
run_cause view serial f run_params readers result (runs.Spawn stream) is layout spawn ring =
    let started = spawn stream is in
    (λ fault refused. not_both stream fault (sym is ∙ (layout fault).1 refused), started.0, started.1)
run_cause view serial f run_params readers result (runs.Ring stream) is layout spawn ring =
    let stopped = ring stream is in
    (λ fault refused. no_ring stream fault (sym is ∙ (layout fault).1 refused), stopped.0, stopped.1)

-- if the program's fault comes from a run's fault, it has the run's cause
pub cause_of_run : {T U R : Type 0} (view : SourceView R) (serial : Bool) (f : Cnf) (run_params : RunParamsValue) (readers : List R)
    (made : Result U CommandFault) (result : Result T RunFault) (fault : RunFault)
    → IsErrAnd made (λ its. its ≡ of_run fault) → result ≡ Err fault
    → ((fault : LayoutFault) → (result ≡ Err (runs.Layout fault)) ↔ IsFault run_params.layout fault)
    → ((stream : ℕ) → result ≡ Err (runs.Spawn stream) → (serial ≡ false) × IsStream run_params.layout stream)
    → ((stream : ℕ) → result ≡ Err (runs.Ring stream) → (serial ≡ false) × StopsAtRing view f run_params readers stream)
    → IfErr made (IsRunCause view serial f run_params readers)
cause_of_run view serial f run_params readers made result fault comes is layout spawn ring =
    let Cause : CommandFault → Type 0 = IsRunCause view serial f run_params readers in
    err_given made (λ its. its ≡ of_run fault) Cause (λ its same. subst Cause (sym same)
    (run_cause view serial f run_params readers result fault is layout spawn ring)) comes

-- the values that the program holds are those of a check's result
pub as_checked : {R : Type 0} (view : SourceView R) (f : Cnf) (run_params : RunParamsValue) (readers : List R) (serial way : Bool)
    (run made : Checked) → serial ≡ way → run ≡ made
    → IsCheckResult view way f run_params readers made.reports.items made.verdict made.clauses made.dropped.items
    → IsCheckResult view serial f run_params readers run.reports.items run.verdict run.clauses run.dropped.items
as_checked view f run_params readers serial way run made way_is made_is is =
    let Is : Bool → Checked → Type 0 = λ way run. IsCheckResult view way f run_params readers run.reports.items run.verdict
    run.clauses run.dropped.items in
    subst (λ (way : Bool). Is way run) (sym way_is) (subst (Is way) (sym made_is) is)

-- a run with an outcome has a layout
pub has_layout : {T : Type 0} (p : LayoutValue) (result : Result T RunFault) (outcome : T) → result ≡ Ok outcome
    → ((fault : LayoutFault) → (result ≡ Err (runs.Layout fault)) ↔ IsFault p fault)
    → (fault : LayoutFault) → IsFault p fault → ⊥
has_layout p result outcome is layout fault refused =
    let both : Ok outcome ≡ Err (runs.Layout fault) = sym is ∙ (layout fault).1 refused in
    search (both, rules)

-- what the words of a command line ask for
pub ask_for : (words : List Text) (given : CommandLine) → IsCommandLineOf words given → AskFor words given.formula.now (assumed_at given)
ask_for words given line = record { good = line.good; formula_is = line.said.formula; assume_is = sym line.said.assume }

-- if no assignment satisfies the formula that was read, the words name its text
pub names_unsatisfiable : (files : FilesView) (words : List Text) (given : CommandLine) (formula : Cnf) (cube : CubeValue)
    (after : files.its.State) → IsCommandLineOf words given → WereRead files given formula cube after → IsUnsatisfiable formula
    → NameUnsatisfiable files.its.State (WasReadIn files) files.first words
names_unsatisfiable files words given formula cube after line were refuted = (
  given.formula.now,
  assumed_at given,
  were.is_formula.0,
  formula,
  were.next,
  ask_for words given line,
  were.is_formula.1,
  were.is_formula.2,
  refuted,
)

pub names_unsatisfiable_under : (files : FilesView) (words : List Text) (given : CommandLine) (formula : Cnf) (cube : CubeValue)
    (after : files.its.State) → IsCommandLineOf words given → WereRead files given formula cube after
    → IsUnsatisfiableUnder formula cube → NameUnsatisfiableUnder files.its.State (WasReadIn files) files.first words
names_unsatisfiable_under files words given formula cube after line were refuted = (
  given.formula.now,
  assumed_at given,
  were.is_formula.0,
  formula,
  cube,
  were.next,
  after,
  ask_for words given line,
  were.is_formula.1,
  were.is_formula.2,
  were.assumed,
  refuted,
)

-- why streams that were opened weren't checked: the layout has a fault
module _ (its : Effects) (serial : Bool) (f : Cnf) (run_params : RunParamsValue) (readers : List its.Reader) (before : its.State)
    (path : Option Text) where
  abbrev Starts : CommandFault → its.State → Type 0
  Starts fault after = IsStartCause its serial f run_params readers before path fault after

  pub layout_start : (fault : CommandFault) → IsLayoutCause run_params.layout fault → Starts fault before
  layout_start (faults.Layout fault) cause = (cause, refl)
  layout_start fault cause = absurd cause

  -- why the streams weren't checked: the file wasn't created
  pub create_start : (fault : CommandFault) (after : its.State) → HasNoFault run_params.layout → IsNotCreated its before path fault after
      → Starts fault after
  create_start faults.NotCreated after none cause = (none, cause)
  create_start faults.Memory after none cause = inr (none, inl cause)
  create_start fault after none cause = absurd cause

  -- why the streams weren't checked: the run had a fault, and the file was created and discarded
  pub run_start : (fault : CommandFault) (after : its.State) → HasNoFault run_params.layout
      → IsRunCause its.reading serial f run_params readers fault → IsLeftUnused its before path after → Starts fault after
  run_start (faults.Layout fault) after none cause unused = absurd (none fault cause)
  run_start (faults.Spawn stream) after none cause unused = (cause.0, cause.1, cause.2, unused)
  run_start (faults.Ring stream) after none cause unused = (cause.0, cause.1, cause.2, unused)
  run_start faults.Memory after none cause unused = inr (none, inr unused)
  run_start fault after none cause unused = absurd cause

-- if the program's values are those of the round, a cause for these values is a cause for the round
pub round_start : (its : Effects) (given : CommandLine) (cube : CubeValue) (number : ℕ) (f : Cnf) (sizes : Sizes)
    (readers : List its.Reader) (before : its.State) (serial : Bool) (run_params : RunParamsValue) (path : Option Text)
    → serial ≡ given.serial → run_params ≡ run_params_by given cube f sizes → path ≡ created_path given.next number
    → (fault : CommandFault) (after : its.State) → IsStartCause its serial f run_params readers before path fault after
    → IsRoundStartCause its given cube number f sizes readers before fault after
round_start its given cube number f sizes readers before serial run_params path serials params paths fault after cause =
    let Cause : Bool → RunParamsValue → Option Text → Type 0 = λ b p o. IsStartCause its b f p readers before o fault after in
    subst (Cause given.serial (run_params_by given cube f sizes)) paths
    (subst (λ (p : RunParamsValue). Cause given.serial p path) params (subst (λ (b : Bool). Cause b run_params path) serials cause))
