-- Which faults round 1 can have if the words meet `AskWell`.
use Rattle.std.proofs.Common.{◌≡◌, ◌≢◌, ◌⊎◌, ◌≤◌, ℕ, ℤ, List, [], ◌∷◌, length, map, Option, None, Some}
use Rattle.std.proofs.Common.{inl, inr, refl, sym, ap, subst, ◌∙◌, arith}
use Rattle.std.specs.Prelude.{IfSome}
use Rattle.std.specs.List.{AllByRecursion}
use Rattle.lrup_model.specs.Distinct.{distinct}
use Rattle.lrup_model.specs.lemmas.DistinctLemmas.{IsClause-distinct, length-distinct}
use Rattle.lrup_model.specs.Formula.{Cnf, IsCnf, IsFormulaClause, max_clause_literals}
use Rattle.lrup_model.specs.Layout.{LayoutValue, IsFault}
use Rattle.lrup_model.specs.Literal.{IsLiteral}
use Rattle.lrup_text.specs.Cubes.{IsCubeFault}
use Rattle.lrup_text.specs.declared.cube.CubeFault.{CubeFault}
use Rattle.lrup_text.specs.declared.cube.CubeFault.TheVariants as cubes
use Rattle.dimacs.specs.FormulaText.{IsFormulaText}
use Rattle.dimacs.specs.FormulaFault.{IsFormulaFault}
use Rattle.dimacs.specs.declared.fault.DimacsFault.{DimacsFault}
use Rattle.command_line.specs.CommandLine.{IsCommandLineOf}
use Rattle.command_line.specs.lemmas.NextLemmas.{asks_for_one}
use Rattle.command_line.specs.declared.sizes.Sizes.{Sizes}
use Rattle.command_line.specs.declared.words.CommandLine.{CommandLine}
use Rattle.run_files.specs.Files.{FilesView, IsFormulaAt}
use Rattle.run_files.specs.Causes.{IsAssumeCause, IsCause, IsReadCause}
use Rattle.run_files.specs.Asked.{Text, assumed_at, sizes_of}
use Rattle.run_files.specs.Faults.{status_of}
use Rattle.run_files.specs.declared.fault.CommandFault.{CommandFault}
use Rattle.run_files.specs.declared.fault.CommandFault.TheVariants as faults
use Rattle.outcome_laws.specs.Outcomes.{layout_in}
use Rattle.outcome_laws.specs.Valid.{AskWell}
use Rattle.outcome_laws.specs.Laws.{OneCommandLine}
use Rattle.outcome_laws.proofs.OutcomeLemmas.{OneFormula, text_of, is_text}

-- The formula of a text

formula_clauses : (vars : ℕ) (written : List (List ℤ)) → AllByRecursion (AllByRecursion (IsLiteral vars)) written
    → AllByRecursion (λ clause. length clause ≤ max_clause_literals) written → AllByRecursion (IsFormulaClause vars) (map distinct written)
formula_clauses vars [] literals sizes = tt
formula_clauses vars (ls ∷ written) literals sizes = (
  (IsClause-distinct vars ls literals.0, omega (arith, length-distinct ls, sizes.0)),
  formula_clauses vars written literals.1 sizes.1,
)

pub text_cnf : (bytes : List ℕ) (f : Cnf) → IsFormulaText bytes f → IsCnf f
text_cnf bytes f is = record {
  vars = is.few_variables;
  count = is.few_clauses;
  clauses = subst (AllByRecursion (IsFormulaClause f.vars)) (sym is.clauses) (formula_clauses f.vars is.written is.literals is.sizes);
}

-- the fault is the machine's
abbrev pub IsOfMachine : CommandFault → Type 0
IsOfMachine fault = (status_of fault ≡ 5) ⊎ (status_of fault ≡ 6)

-- a text of a formula has no fault: the law of `dimacs`
abbrev pub NoFormulaFault : Type 0
NoFormulaFault = (bytes : List ℕ) (f : Cnf) (fault : DimacsFault) → IsFormulaText bytes f → ¬ IsFormulaFault bytes fault

-- A fault of round 1

module _ (one_formula : OneFormula) (no_fault : NoFormulaFault) (alike : OneCommandLine) (files : FilesView) where
  -- if FORMULA's file holds a formula, the formula isn't refused
  not_refused : (given : CommandLine) (text : List ℕ) (f : Cnf) (fault : DimacsFault) (after : files.its.State)
      → files.contents given.formula.now ≡ Some text → IsFormulaText text f → ¬ IsReadCause files given (faults.Refused fault) after
  not_refused given text f fault after known is cause =
      let same = text_of (files.contents given.formula.now) text cause.1.0 known cause.1.1.known in
      no_fault cause.1.0 f fault (subst (λ (b : List ℕ). IsFormulaText b f) same is) cause.1.2

  not_assumed : (vars : ℕ) (before : files.its.State) (path : Option Text) (fault : CubeFault) (after : files.its.State)
      → IfSome path (λ at. (bytes : List ℕ) × (files.contents at ≡ Some bytes)
      × ((its : CubeFault) → its ≢ cubes.Memory → ¬ IsCubeFault vars bytes its))
      → ¬ IsAssumeCause files vars before path (faults.CubeRefused fault) after
  not_assumed vars before None fault after valid cause = cause
  not_assumed vars before (Some path) fault after valid cause =
      let same = text_of (files.contents path) valid.0 cause.1.0 valid.1 cause.1.1.known in
      valid.2 fault cause.0 (subst (λ (b : List ℕ). IsCubeFault vars b fault) (sym same) cause.1.2)

  -- if no file of assumed literals causes this fault, an optional one doesn't, either
  some_assumed : (fault : CommandFault) (vars : ℕ) (before : files.its.State) (path : Option Text) (after : files.its.State)
      → ((at : Text) → IsAssumeCause files vars before (Some at) fault after → ⊥) → ¬ IsAssumeCause files vars before path fault after
  some_assumed fault vars before None after none cause = cause
  some_assumed fault vars before (Some path) after none cause = none path cause

  -- the formula that was read is the one that the file is known to hold
  pub formula_at : (words : List Text) (ask : AskWell files words) (given : CommandLine) (f : Cnf) (next : files.its.State)
      → IsCommandLineOf words given → IsFormulaAt files given.formula.now f next → f ≡ ask.formula
  formula_at words ask given f next line at =
      let same = alike words ask.given given ask.command_line line in
      one_formula ask.text f ask.formula
      (is_text files given.formula.now f next ask.text (ap files.contents same.3 ∙ ask.known) at) ask.is_text

  pub of_machine : (words : List Text) (ask : AskWell files words) → (after : files.its.State)
      → (fault : CommandFault) → IsCause files words fault after → IsOfMachine fault
  of_machine words ask after (faults.Usage text) cause = absurd (cause.0 ask.command_line.good)
  of_machine words ask after faults.Unread cause = inl refl
  of_machine words ask after faults.CubeUnread cause = inl refl
  of_machine words ask after (faults.NotOpened stream) cause = inl refl
  of_machine words ask after (faults.Spawn stream) cause = inr refl
  of_machine words ask after (faults.Ring stream) cause = inr refl
  of_machine words ask after faults.Memory cause = inr refl
  of_machine words ask after (faults.Refused fault) cause =
      let same = alike words ask.given cause.0 ask.command_line cause.1 in
      absurd (elim cause.2 [
        | inl read ↦ not_refused cause.0 ask.text ask.formula fault after (ap files.contents same.3 ∙ ask.known) ask.is_text read
        | inr later ↦ elim later.3 [
          | inl assume ↦ some_assumed (faults.Refused fault) later.0.vars later.1 (assumed_at cause.0) after (λ at x. x) assume
          | inr last ↦ elim last.3 [ inl opens ↦ opens | inr start ↦ start.4 ]
        ]
      ])
  of_machine words ask after (faults.CubeRefused fault) cause =
      absurd (elim cause.2 [
        | inl read ↦ read
        | inr later ↦ elim later.3 [
          | inl assume ↦
              let assumed : assumed_at cause.0 ≡ assumed_at ask.given = cause.1.said.assume ∙ sym ask.command_line.said.assume in
              let formulas = formula_at words ask cause.0 later.0 later.1 cause.1 later.2 in
              not_assumed ask.formula.vars later.1 (assumed_at ask.given) fault after ask.assumptions
              (subst (λ (p : Option Text). IsAssumeCause files ask.formula.vars later.1 p (faults.CubeRefused fault) after) assumed
              (subst (λ (f : Cnf). IsAssumeCause files f.vars later.1 (assumed_at cause.0) (faults.CubeRefused fault) after) formulas
              assume))
          | inr last ↦ elim last.3 [ inl opens ↦ opens | inr start ↦ start.4 ]
        ]
      ])
  of_machine words ask after (faults.Layout fault) cause =
      absurd (elim cause.2 [
        | inl read ↦ read
        | inr later ↦ elim later.3 [
          | inl assume ↦ some_assumed (faults.Layout fault) later.0.vars later.1 (assumed_at cause.0) after (λ at x. x) assume
          | inr last ↦ elim last.3 [
            | inl opens ↦ opens
            | inr start ↦
                let same = alike words ask.given cause.0 ask.command_line cause.1 in
                let formulas = formula_at words ask cause.0 later.0 later.1 cause.1 later.2 in
                let layouts : layout_in later.0 (sizes_of cause.0) ≡ layout_in ask.formula (sizes_of ask.given) =
                ap (λ (z : Sizes). layout_in later.0 z) same.1 ∙ ap (λ (f : Cnf). layout_in f (sizes_of ask.given)) formulas in
                ask.layout fault (subst (λ (p : LayoutValue). IsFault p fault) layouts start.4.0)
          ]
        ]
      ])
  of_machine words ask after faults.Unwritten cause =
      absurd (elim cause.2 [
        | inl read ↦ read
        | inr later ↦ elim later.3 [
          | inl assume ↦ some_assumed faults.Unwritten later.0.vars later.1 (assumed_at cause.0) after (λ at x. x) assume
          | inr last ↦ elim last.3 [ inl opens ↦ opens | inr start ↦ start.4 ]
        ]
      ])
  of_machine words ask after faults.NotCreated cause = inl refl
  of_machine words ask after faults.TwoCheckpoints cause = absurd (asks_for_one words ask.given ask.command_line cause.0)
  of_machine words ask after faults.Sizes cause =
      absurd (elim cause.2 [
        | inl read ↦ read
        | inr later ↦ elim later.3 [
          | inl assume ↦ some_assumed faults.Sizes later.0.vars later.1 (assumed_at cause.0) after (λ at x. x) assume
          | inr last ↦ elim last.3 [ inl opens ↦ opens | inr start ↦ start.4 ]
        ]
      ])
  of_machine words ask after faults.SizesUnread cause = inl refl
  of_machine words ask after (faults.NotSaved fault) cause =
      absurd (elim cause.2 [
        | inl read ↦ read
        | inr later ↦ elim later.3 [
          | inl assume ↦ some_assumed (faults.NotSaved fault) later.0.vars later.1 (assumed_at cause.0) after (λ at x. x) assume
          | inr last ↦ elim last.3 [ inl opens ↦ opens | inr start ↦ start.4 ]
        ]
      ])
