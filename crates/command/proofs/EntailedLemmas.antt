-- The formulas that rounds saved follow from the first formula.
use Rattle.std.proofs.Common.{◌≡◌, ◌∙◌, ◌+◌, ◌∷◌, ◌⊎◌, ℕ, List, [], Some, inl, inr, subst, sym}
use Rattle.lrup_model.specs.Cube.{CubeValue}
use Rattle.lrup_model.specs.Formula.{Cnf}
use Rattle.run_outcome.specs.declared.outcome.Verdict.TheVariants.{Unknown, Unsatisfiable}
use Rattle.checkpoint.specs.Entails.{Entails, EntailsItself, EntailsOnward}
use Rattle.command_line.specs.CommandLine.{AskForRounds, rounds_of}
use Rattle.command_line.specs.declared.words.CommandLine.{CommandLine}
use Rattle.run_files.specs.Files.{Effects, FilesView}
use Rattle.command.specs.Commands.{SinkChange}
use Rattle.run_files.specs.Asked.{Text}
use Rattle.run_files.specs.Paths.{formula_path}
use Rattle.command.specs.Rounds.{AreRounds, EndsWithReport, ProgramEnds, ReportsEntailed, Round, SaveEntailed, SavesEntailed}
use Rattle.command.specs.lemmas.SavedLemmas.{KeptAt, carried_entails, created_in, kept}
use Rattle.command.proofs.StatusLemmas.{IsOfReport, never_reported, open_is}

module _ (itself : EntailsItself) (onward : EntailsOnward) {its : Effects} {given : CommandLine} {cube : CubeValue} (folder : Text)
    (asked : rounds_of given.next ≡ Some folder) (formula : Cnf) where
  -- if a round's formula follows from the first one, so does the formula that the round saved
  saves_entailed : (round : Round its given cube) → Entails formula round.formula
      → KeptAt its round.formula round.opened (formula_path folder (round.number + 1)) round.next round.after
      → SavesEntailed folder formula round
  saves_entailed round follows at = (
    at.bytes,
    at.saved,
    record {
      formula = at.checkpoint.formula;
      text = at.checkpoint.text;
      entails = onward formula round.formula at.checkpoint.formula follows at.checkpoint.entails;
    },
  )

  -- each round's formula follows from the first one
  round_entailed : (first : its.State) (round : Round its given cube) (before : List (Round its given cube))
      → AreRounds formula first (round ∷ before) → Entails formula round.formula
  round_entailed first round [] rounds = subst (Entails formula) (sym rounds.formula_is) (itself formula)
  round_entailed first round (b ∷ more) rounds =
      onward formula b.formula round.formula (round_entailed first b more rounds.1)
      (carried_entails b round.formula rounds.0.goes_on)

  -- the formula saved by a round before the last one follows from the first formula
  save_entailed : (first : its.State) (round : Round its given cube) (before : List (Round its given cube))
      → AreRounds formula first (round ∷ before) → SaveEntailed folder formula before
  save_entailed first round [] rounds = tt
  save_entailed first round (b ∷ more) rounds =
      let on = rounds.0.goes_on in (
        saves_entailed b (round_entailed first b more rounds.1)
            (kept b (formula_path folder (b.number + 1)) (created_in given.next folder b.number asked)
            (λ refuted. let no : Unsatisfiable ≡ Unknown = sym refuted ∙ on.verdict in cc) on.unsaved),
        save_entailed first b more rounds.1,
      )

module _ (itself : EntailsItself) (onward : EntailsOnward) (files : FilesView) (words : List Text) (folder : Text) (after : files.its.State)
    (out err : SinkChange) (status : ℕ) where
  reports_entailed : EndsWithReport files words after out err status → AskForRounds words folder
      → ReportsEntailed files words folder after out err status
  reports_entailed ending ask =
      let were = ending.were in
      let last = ending.last in
      let asked = ending.command_line.said.rounds ∙ ask.folder_is in
      let follows = round_entailed itself onward folder asked were.formula were.later last ending.before were.rounds in
      record {
        ending = ending;
        saved = save_entailed itself onward folder asked were.formula were.later last ending.before were.rounds;
        last_saved = λ is.
            let unrefuted = open_is out.failed last.unsaved last.verdict (subst (λ (n : ℕ). (n ≡ 3) ⊎ (n ≡ 8)) ending.status_is is) in
            saves_entailed itself onward folder asked were.formula last follows
            (kept last (formula_path folder (last.number + 1)) (created_in ending.given.next folder last.number asked) unrefuted.1
            unrefuted.0);
      }

  pub all_entailed : ProgramEnds files words after out err status → AskForRounds words folder → IsOfReport status
      → ReportsEntailed files words folder after out err status
  all_entailed (inl report) ask is = reports_entailed report ask
  all_entailed (inr fault) ask is = absurd (never_reported files words after out err status fault is)
