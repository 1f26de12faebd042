-- Chains of files: each run reads the file that the previous run wrote.
use Rattle.std.proofs.Common.{[], ◌∷◌, subst}
use Rattle.std.specs.Prelude.{◌≡◌, ℕ, List}
use Rattle.lrup_model.specs.Cube.{IsUnsatisfiableUnder}
use Rattle.lrup_model.specs.Entailment.{IsUnsatisfiable}
use Rattle.lrup_model.specs.Formula.{Cnf}
use Rattle.checkpoint.specs.Checkpoints.{FilesRefute, FilesRefuteUnder}
use Rattle.checkpoint.proofs.EntailsLemmas.{refutes_back, refutes_back_under}
use Rattle.dimacs.specs.FormulaText.{IsFormulaText}

-- two formulas with the same text are equal
abbrev pub OneFormula : Type 0
OneFormula = (bytes : List ℕ) (one other : Cnf) → IsFormulaText bytes one
    → IsFormulaText bytes other → one ≡ other

pub files_refute : OneFormula → FilesRefute
files_refute one bytes [] chain refuted = refuted
files_refute one bytes (next ∷ more) chain refuted =
    let last = files_refute one next more chain.1 refuted in
    let f : Cnf = chain.0.0 in
    let checkpoint = chain.0.2 in
    let unsatisfiable : IsUnsatisfiable checkpoint.formula =
    subst (λ (g : Cnf). IsUnsatisfiable g) (one next last.0 checkpoint.formula last.1 checkpoint.text) last.2 in
    (f, chain.0.1, refutes_back f checkpoint.formula checkpoint.entails unsatisfiable)

pub files_refute_under : OneFormula → FilesRefuteUnder
files_refute_under one cube bytes [] chain refuted = refuted
files_refute_under one cube bytes (next ∷ more) chain refuted =
    let last = files_refute_under one cube next more chain.1 refuted in
    let f : Cnf = chain.0.0 in
    let checkpoint = chain.0.2 in
    let unsatisfiable : IsUnsatisfiableUnder checkpoint.formula cube =
    subst (λ (g : Cnf). IsUnsatisfiableUnder g cube) (one next last.0 checkpoint.formula last.1 checkpoint.text) last.2 in
    (f, chain.0.1, refutes_back_under f checkpoint.formula cube checkpoint.entails unsatisfiable)
