-- Two outcomes of the program.
use Rattle.std.proofs.Common.{◌≡◌, ◌++◌, ℕ, List, [], map, Option, Some, sym, ap, subst, ◌∙◌}
use Rattle.std.specs.Prelude.{codes}
use Rattle.std.specs.Fmt.{decimal}
use Rattle.std.specs.Option.{ForSome}
use Rattle.lrup_model.specs.Cube.{CubeValue}
use Rattle.lrup_model.specs.Formula.{Cnf}
use Rattle.dimacs.specs.FormulaText.{IsFormulaText}
use Rattle.stream_check.specs.declared.report.Ending.{Ending}
use Rattle.stream_check.specs.declared.report.Report.{Report}
use Rattle.run_laws.specs.Groups.{IsRun}
use Rattle.run_outcome.specs.ReportText.{ending_text, stream_line}
use Rattle.command_line.specs.declared.sizes.Sizes.{Sizes}
use Rattle.command_line.specs.declared.words.CommandLine.{CommandLine}
use Rattle.run_files.specs.Files.{FilesView, IsFormulaAt}
use Rattle.run_files.specs.Asked.{Text}
use Rattle.command.specs.Rounds.{Round, WereRounds}
use Rattle.outcome_laws.specs.Outcomes.{SayTheSame, layout_in}
use Rattle.outcome_laws.specs.Laws.{SameBytesSameReport, OutcomesAgree}
use Rattle.outcome_laws.proofs.CheckLemmas.{Check, check_of, run_of, observation_of_file, observed_of}

-- a text has only one formula: the law of `dimacs`
abbrev pub OneFormula : Type 0
OneFormula = (bytes : List ℕ) (one other : Cnf) → IsFormulaText bytes one → IsFormulaText bytes other → one ≡ other

-- reports that differ at most in what they say about clauses within a cube are printed as the same
-- line
same_line : (s : ℕ) (report other : Report) → SayTheSame report other → stream_line s report ≡ stream_line s other
same_line s report other same =
    ap (λ (n : ℕ). codes "c stream " ++ decimal s ++ codes ": " ++ decimal n ++ codes " added, " ++ decimal report.deleted
    ++ codes " deleted, " ++ ending_text report.ending ++ codes "\n") same.added
    ∙ ap (λ (n : ℕ). codes "c stream " ++ decimal s ++ codes ": " ++ decimal other.added ++ codes " added, " ++ decimal n
    ++ codes " deleted, " ++ ending_text report.ending ++ codes "\n") same.deleted
    ∙ ap (λ (e : Ending). codes "c stream " ++ decimal s ++ codes ": " ++ decimal other.added ++ codes " added, " ++ decimal other.deleted
    ++ codes " deleted, " ++ ending_text e ++ codes "\n") same.ending

pub text_of : (known : Option (List ℕ)) (text bytes : List ℕ) → known ≡ Some text → ForSome known (λ all. all ≡ bytes) → text ≡ bytes
text_of known text bytes is all = all text is

pub is_text : (files : FilesView) (path : Text) (f : Cnf) (after : files.its.State) (text : List ℕ) → files.contents path ≡ Some text
    → IsFormulaAt files path f after → IsFormulaText text f
is_text files path f after text known at =
    subst (λ (x : List ℕ). IsFormulaText x f) (sym (text_of (files.contents path) text at.0 known at.1.known)) at.2

-- Round 1 of a run.
module _ (files : FilesView) (given : CommandLine) (cube : CubeValue) (round : Round files.its given cube)
    (were : WereRounds files given cube round []) where
  -- the check in round 1
  abbrev pub first_check : Check files.its.reading
  first_check = check_of round files.contents given.streams
      (were.rounds.opened.left ∙ ap (λ (t : Text → Option (List ℕ)). map t given.streams) were.known)

  -- the file FORMULA holds a text of the round's formula
  pub first_text : (text : List ℕ) → files.contents given.formula.now ≡ Some text → IsFormulaText text round.formula
  first_text text known = subst (IsFormulaText text) (sym were.rounds.formula_is)
      (is_text files given.formula.now were.formula were.next text known were.is_formula)

pub outcomes_agree : OneFormula → SameBytesSameReport → (files : FilesView) (others : FilesView) → OutcomesAgree files others
outcomes_agree one_formula same files others given other_given cube other_cube round other s text whole report other_report were
    others_were tries sizes known others_known cites on there =
    let formulas : other.formula ≡ round.formula =
    one_formula text other.formula round.formula (first_text others other_given other_cube other others_were text others_known)
    (first_text files given cube round were text known) in
    let layouts : layout_in other.formula other.sizes ≡ layout_in round.formula round.sizes =
    ap (λ (z : Sizes). layout_in other.formula z) (others_were.rounds.sizes_are ∙ sizes ∙ sym were.rounds.sizes_are)
    ∙ ap (λ (f : Cnf). layout_in f round.sizes) formulas in
    let mine = first_check files given cube round were in
    let theirs = first_check others other_given other_cube other others_were in
    let here = observation_of_file files.its.reading mine s on.path whole on.names on.contents in
    let finished = observation_of_file others.its.reading theirs s there.path whole there.names there.contents in
    same_line s report other_report
    (same round.formula mine.run_params theirs.run_params s whole
    (observed_of files.its.reading mine) (observed_of others.its.reading theirs) here.0 finished.0 round.reports other.reports report
    other_report mine.fits layouts tries cites
    (run_of files.its.reading mine) (subst (λ (g : Cnf). IsRun g theirs.run_params
    (observed_of others.its.reading theirs) other.reports) formulas (run_of others.its.reading theirs))
    here.1 here.2 finished.1 finished.2
    on.says there.says on.fine there.fine)
