-- What is known of round 1.
use Rattle.std.proofs.Common.{◌≡◌, ◌∙◌, ◌<◌, ◌-◌, ℕ, List, [], ◌∷◌, Option, Some, map, sym, ap, subst, arith}
use Rattle.std.proofs.lemmas.Option.{slice_get_within}
use Rattle.std.specs.Prelude.{slice_get}
use Rattle.lrup_model.specs.Cube.{CubeValue}
use Rattle.lrup_model.specs.Formula.{Cnf}
use Rattle.dimacs.specs.FormulaText.{IsFormulaText}
use Rattle.stream_check.specs.Closed.{IsOfStream}
use Rattle.command_line.specs.CommandLine.{IsCommandLineOf}
use Rattle.command_line.specs.declared.sizes.Sizes.{Sizes}
use Rattle.command_line.specs.declared.words.CommandLine.{CommandLine}
use Rattle.run_files.specs.Asked.{Text, sizes_of}
use Rattle.run_files.specs.Files.{Effects, FilesView}
use Rattle.command.specs.Rounds.{AreRounds, IsFirst, Round, WereRounds}
use Rattle.outcome_laws.specs.Laws.{OneCommandLine}
use Rattle.outcome_laws.specs.Outcomes.{layout_in}

-- a text has only one formula: the law of `dimacs`
abbrev pub OneFormula : Type 0
OneFormula = (bytes : List ℕ) (one other : Cnf) → IsFormulaText bytes one → IsFormulaText bytes other → one ≡ other

-- the only path
pub only_path : (one : Text) (s : ℕ) (path : Text) → IsOfStream (one ∷ []) s path → (s ≡ 1) × (path ≡ one)
only_path one s path at =
    let within = slice_get_within (one ∷ []) (s - 1) path at.1 in
    let place : s ≡ 1 = omega (arith, within, at.0) in
    let here : Some one ≡ Some path = subst (λ (k : ℕ). slice_get (one ∷ []) (k - 1) ≡ Some path) place at.1 in
    let same : one ≡ path = cc in
    (place, sym same)

module _ {its : Effects} {line : CommandLine} {cube : CubeValue} (formula : Cnf) (from : its.State) where
  some_number : (round : Round its line cube) (before : List (Round its line cube)) → AreRounds formula from (round ∷ before)
      → 0 < round.number
  some_number round [] rounds = omega (arith, rounds.number)
  some_number round (b ∷ more) rounds = omega (arith, rounds.0.number)

  -- only round 1 has a number below 2
  pub is_first : (round : Round its line cube) (before : List (Round its line cube)) → AreRounds formula from (round ∷ before)
      → round.number < 2 → IsFirst formula from round
  is_first round [] rounds below = rounds
  is_first round (b ∷ more) rounds below = absurd (omega (arith, rounds.0.number, some_number b more rounds.1, below))

-- Round 1 of a run with these words, which give a command line.
module _ (files : FilesView) (words : List Text) (given : CommandLine) (command_line : IsCommandLineOf words given)
    (alike : OneCommandLine) (line : CommandLine) (cube : CubeValue) (round : Round files.its line cube)
    (earlier : List (Round files.its line cube)) (is_line : IsCommandLineOf words line) (were : WereRounds files line cube round earlier)
    (first : IsFirst were.formula were.later round) where
  pub sizes_are : round.sizes ≡ sizes_of given
  sizes_are = first.sizes_are ∙ (alike words given line command_line is_line).1

  -- the file at FORMULA holds a text of the round's formula
  pub formula_is : OneFormula → (text : List ℕ) (formula : Cnf) → files.contents given.formula.now ≡ Some text
      → IsFormulaText text formula → round.formula ≡ formula
  formula_is one_formula text formula known is =
      let same : text ≡ were.is_formula.0 =
      were.is_formula.1.known text (ap files.contents (alike words given line command_line is_line).3 ∙ known) in
      first.formula_is
      ∙ one_formula text were.formula formula (subst (λ (b : List ℕ). IsFormulaText b were.formula) (sym same) were.is_formula.2) is

  pub layout_is : OneFormula → (text : List ℕ) (formula : Cnf) → files.contents given.formula.now ≡ Some text
      → IsFormulaText text formula → layout_in round.formula round.sizes ≡ layout_in formula (sizes_of given)
  layout_is one_formula text formula known is =
      ap (λ (z : Sizes). layout_in round.formula z) sizes_are
      ∙ ap (λ (f : Cnf). layout_in f (sizes_of given)) (formula_is one_formula text formula known is)

  -- at first, the readers have what the files are known to hold
  pub left_is : map files.its.reading.left round.readers ≡ map files.contents given.streams
  left_is =
      first.opened.left ∙ ap (λ (contents : Text → Option (List ℕ)). map contents line.streams) were.known
      ∙ ap (map files.contents) (alike words given line command_line is_line).2
