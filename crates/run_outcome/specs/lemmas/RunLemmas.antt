-- What runs with threads and on one thread have in common: their parameters, their faults, and the
-- truth of 'unsatisfiable'.
use Rattle.std.proofs.Common.{◌≡◌, ◌≢◌, inl, inr, ℕ, ◌+◌, Bool, true, false, List, [], ◌∷◌, refl}
use Rattle.std.proofs.Common.{sym, ap, subst, ◌∙◌, arith}
use Rattle.std.specs.Result.{IfErr, IsErrAnd}
use Rattle.std.specs.Prelude.{Result, Ok, Err, if◌then◌else◌}
use Rattle.std.specs.List.{list_any}
use Rattle.std.proofs.lemmas.Bool.{or_cases}
use Rattle.lrup_model.specs.Cube.{CubeValue}
use Rattle.lrup_model.specs.Entailment.{IsUnsatisfiable}
use Rattle.lrup_model.specs.Event.{History}
use Rattle.lrup_model.specs.Formula.{Cnf}
use Rattle.lrup_model.specs.History.{IsLegal}
use Rattle.lrup_model.specs.Layout.{LayoutValue, IsLayout, IsFault}
use Rattle.lrup_model.specs.declared.layout.LayoutFault.{LayoutFault}
use Rattle.lrup_model.specs.declared.layout.LayoutFault.TheVariants as faults
use Rattle.stream_check.specs.declared.report.Report.{Report}
use Rattle.stream_check.specs.SequentialConsistency.{AreJudgedIn}
use Rattle.stream_check.specs.Streams.{Stream, InputObservation, RunParamsValue, stream_params}
use Rattle.run_laws.specs.Groups.{IsRun}
use Rattle.run_outcome.specs.declared.outcome.RunFault.{RunFault}
use Rattle.run_outcome.specs.declared.outcome.RunFault.TheVariants.{Layout, Memory, Ring, Spawn}
use Rattle.run_outcome.specs.declared.outcome.Verdict.{Verdict}
use Rattle.run_outcome.specs.declared.outcome.Verdict.TheVariants.{Unsatisfiable}
use Rattle.run_outcome.specs.declared.outcome.Verdict.TheVariants.{UnsatisfiableUnder, Unknown}
use Rattle.run_outcome.specs.Outcomes.{OptionsValue, layout_of, run_params_of, verdict_of}
use Rattle.run_outcome.specs.lemmas.EmptyLemmas.{sound}

-- ---- the layout

-- a layout within its limits has no fault
pub no_fault : (p : LayoutValue) (fault : LayoutFault) → IsLayout p → IsFault p fault → ⊥
no_fault p faults.TooManyVariables is bad = omega (arith, is.vars, bad)
no_fault p faults.TooManyClauses is bad = omega (arith, is.clauses, bad.1)
no_fault p faults.BadStreamCount is (a, b, inl none) = omega (arith, is.some_stream, none)
no_fault p faults.BadStreamCount is (a, b, inr many) = omega (arith, is.streams, many)
no_fault p faults.RowTooLong is bad = omega (arith, is.row, bad.4)

-- a run's parameters are made from its options, cube, formula and number of streams
pub run_params_made : (options : OptionsValue) (cube : CubeValue) (f : Cnf) (p : LayoutValue)
    (n streams tries : ℕ) (made : RunParamsValue)
    → made ≡ record { layout = p; cube = cube; tries = tries } → p ≡ layout_of options f n
    → n ≡ streams → tries ≡ options.tries
    → made ≡ run_params_of options cube f streams
run_params_made options cube f p n streams tries made is same count often = cc

-- a run that was opened has no layout fault
pub none_of_layout : (options : OptionsValue) (f : Cnf) (p : LayoutValue) (n streams : ℕ)
    → p ≡ layout_of options f n → n ≡ streams
    → IsLayout p → (fault : LayoutFault) → IsFault (layout_of options f streams) fault → ⊥
none_of_layout options f p n streams same count is fault bad =
    no_fault p fault is (subst (λ (l : LayoutValue). IsFault l fault) (sym (same ∙ ap
    (layout_of options f) count)) bad)

-- an `Ok` isn't an `Err`
no_error : {T E : Type 0} {value : T} {e : E} → Ok value ≡ Err e → ⊥
no_error is = cc

-- the fault `Memory` isn't a layout fault
pub not_layout : {T : Type 0} (result : Result T RunFault) (fault : LayoutFault)
    → IfErr result (λ e. e ≡ Memory)
    → result ≡ Err (Layout fault) → ⊥
not_layout (Ok value) fault memory is = no_error is
not_layout (Err e) fault memory is = cc

pub no_threads : {T : Type 0} (result : Result T RunFault) → IfErr result (λ e. e ≡ Memory)
    → (stream : ℕ)
    → (result ≢ Err (Spawn stream)) × (result ≢ Err (Ring stream))
no_threads (Ok value) memory stream = (no_error, no_error)
no_threads (Err e) memory stream = ((λ is. cc), (λ is. cc))

-- a result that is the error `Memory` has no other error
pub is_memory : {T : Type 0} (result : Result T RunFault) → IsErrAnd result (λ e. e ≡ Memory)
    → IfErr result (λ e. e ≡ Memory)
is_memory (Ok value) is = tt
is_memory (Err e) is = is

-- ---- 'unsatisfiable'

-- if one of the reports says 'empty', no assignment satisfies the formula
sound_by : (f : Cnf) (run_params : RunParamsValue) (h : History) → IsLegal f run_params.layout h
    → (s : ℕ) (streams : List Stream) (reports : List Report)
    → AreJudgedIn run_params (λ t. true) h s streams reports
    → list_any (λ report. report.empty) reports ≡ true → IsUnsatisfiable f
sound_by f run_params h legal s [] [] judged is = absurd (let no : false ≡ true = is in cc)
sound_by f run_params h legal s [] (r ∷ rs) judged is = absurd judged
sound_by f run_params h legal s (t ∷ ts) [] judged is = absurd judged
sound_by f run_params h legal s (t ∷ ts) (r ∷ rs) judged is =
    let this = judged.0 refl in
    elim (or_cases r.empty (list_any (λ (report : Report). report.empty) rs) is) [
      | inl here ↦ sound f run_params.layout h
          (stream_params run_params s) t this.0 r legal this.1 this.2 here
      | inr later ↦ sound_by f run_params h legal (s + 1) ts rs judged.1 later
    ]

some_empty : (a b : Bool) → (if a then Unsatisfiable else if b then UnsatisfiableUnder else Unknown)
    ≡ Unsatisfiable → a ≡ true
some_empty true b is = refl
some_empty false true is = absurd (let no : UnsatisfiableUnder ≡ Unsatisfiable = is in cc)
some_empty false false is = absurd (let no : Unknown ≡ Unsatisfiable = is in cc)

-- if the verdict is 'unsatisfiable', some report says 'empty'
some_report_empty : (reports : List Report) (verdict : Verdict) → verdict ≡ verdict_of reports
    → verdict ≡ Unsatisfiable
    → list_any (λ report. report.empty) reports ≡ true
some_report_empty reports verdict of is =
    some_empty (list_any (λ (report : Report). report.empty) reports) (list_any (λ
    (report : Report). report.within) reports) (sym of ∙ is)

-- if the verdict of a run is 'unsatisfiable', it is true
pub sound_run : (f : Cnf) (run_params : RunParamsValue) (observed : List InputObservation)
    (reports : List Report) (verdict : Verdict)
    → IsRun f run_params observed reports → verdict ≡ verdict_of reports → verdict ≡ Unsatisfiable
    → IsUnsatisfiable f
sound_run f run_params observed reports verdict run of is =
    sound_by f run_params run.history run.legal 1 run.streams reports run.judged
    (some_report_empty reports verdict of is)
