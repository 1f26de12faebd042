-- Two runs over files that contracts describe completely.
use Rattle.std.proofs.Common.{◌≡◌, ◌∙◌, ℕ, Bool, true, false, List, [], ◌∷◌, Option, None, Some, length, refl, sym, ap, subst, arith}
use Rattle.std.specs.Prelude.{codes}
use Rattle.clap.proofs.OnLiterals.{clap_on_literals}
use Rattle.lrup_model.specs.Cube.{CubeValue}
use Rattle.lrup_model.specs.Formula.{Cnf}
use Rattle.lrup_model.specs.Layout.{LayoutValue}
use Rattle.lrup_model.specs.declared.layout.Owner.TheVariants as owners
use Rattle.lrup_text.specs.Laws.{EmptyPending}
use Rattle.lrup_text.specs.ReadOut.{SourceView}
use Rattle.dimacs.specs.FormulaText.{IsFormulaText}
use Rattle.checkpoint.specs.Printing.{PrintedIsRead}
use Rattle.stream_check.specs.Closed.{CiteWithin, IsOfStream}
use Rattle.run_laws.specs.Groups.{one}
use Rattle.command_line.specs.CommandLine.{IsCommandLineOf, rounds_of}
use Rattle.command_line.specs.declared.sizes.Sizes.{Sizes}
use Rattle.command_line.specs.declared.words.CommandLine.{CommandLine}
use Rattle.run_files.specs.Asked.{Text, assumed_at, sizes_of}
use Rattle.run_files.specs.Files.{AreAssumed, FilesView, WasReadIn}
use Rattle.command.specs.lemmas.OneRound.{were_one}
use Rattle.outcome_laws.specs.Laws.{OutcomesAgree}
use Rattle.outcome_laws.specs.Outcomes.{layout_in}
use Rattle.outcome_laws.specs.Serial.{AskForSameTurns, SerialOutcomesAgree}
use Rattle.test_support.specs.Worked.{four}
use Rattle.command_tests.specs.ExactFiles.{ExactValue}
use Rattle.command_tests.specs.Outcomes.{AddsUnit, FirstLinesAgree, HaveSameTexts, TurnsAgree, line_of_round_1}
use Rattle.command_tests.specs.Outcomes.{beside, four_text, other_beside, other_turns, turns}
use Rattle.command_tests.proofs.ExactLemmas.{exact_view}
use Rattle.command_tests.proofs.FirstLemmas.{OneFormula, only_path}
use Rattle.command_tests.proofs.AskLemmas.{four_is_text}
use Rattle.command_tests.proofs.LineLemmas.{unit_cut}

-- A command line with the default sizes and without files of assumed literals, checkpoints and rounds.
record Gives (formula : Text) (streams : List Text) (serial : Bool) (given : CommandLine) : Type 0 where
  pub formula_is : given.formula.now ≡ formula
  pub streams_are : given.streams ≡ streams
  pub tries : given.tries ≡ 1000
  pub lines : given.lines ≡ 65536
  pub room : given.room ≡ 1048576
  pub assume : assumed_at given ≡ None
  pub rounds : rounds_of given.next ≡ None
  pub serial_is : given.serial ≡ serial

pub path_is : (formula path : Text) → Some formula ≡ Some path → path ≡ formula
path_is formula path is = cc

paths_are : (streams paths : List Text) → Some streams ≡ Some paths → paths ≡ streams
paths_are streams paths are = cc

turns_give : (given : CommandLine) → IsCommandLineOf turns given → Gives (codes "f") (codes "s1" ∷ []) true given
unfolding clap_on_literals
turns_give given is = record {
  formula_is = path_is (codes "f") given.formula.now is.said.formula;
  streams_are = paths_are (codes "s1" ∷ []) given.streams is.said.streams;
  tries = is.said.tries;
  lines = is.said.lines;
  room = is.said.room;
  assume = is.said.assume;
  rounds = is.said.rounds;
  serial_is = is.said.serial;
}

other_turns_give : (given : CommandLine) → IsCommandLineOf other_turns given → Gives (codes "g") (codes "s2" ∷ []) true given
unfolding clap_on_literals
other_turns_give given is = record {
  formula_is = path_is (codes "g") given.formula.now is.said.formula;
  streams_are = paths_are (codes "s2" ∷ []) given.streams is.said.streams;
  tries = is.said.tries;
  lines = is.said.lines;
  room = is.said.room;
  assume = is.said.assume;
  rounds = is.said.rounds;
  serial_is = is.said.serial;
}

beside_gives : (given : CommandLine) → IsCommandLineOf beside given
    → Gives (codes "f") (codes "s1" ∷ codes "dir/round-2.stream-1" ∷ []) false given
unfolding clap_on_literals
beside_gives given is = record {
  formula_is = path_is (codes "f") given.formula.now is.said.formula;
  streams_are = paths_are (codes "s1" ∷ codes "dir/round-2.stream-1" ∷ []) given.streams is.said.streams;
  tries = is.said.tries;
  lines = is.said.lines;
  room = is.said.room;
  assume = is.said.assume;
  rounds = is.said.rounds;
  serial_is = is.said.serial;
}

other_beside_gives : (given : CommandLine) → IsCommandLineOf other_beside given
    → Gives (codes "g") (codes "s2" ∷ codes "dir/round-2.stream-1" ∷ []) true given
unfolding clap_on_literals
other_beside_gives given is = record {
  formula_is = path_is (codes "g") given.formula.now is.said.formula;
  streams_are = paths_are (codes "s2" ∷ codes "dir/round-2.stream-1" ∷ []) given.streams is.said.streams;
  tries = is.said.tries;
  lines = is.said.lines;
  room = is.said.room;
  assume = is.said.assume;
  rounds = is.said.rounds;
  serial_is = is.said.serial;
}

-- such a command line has these sizes
sizes_given : (formula : Text) (streams : List Text) (serial : Bool) (given : CommandLine) → Gives formula streams serial given
    → sizes_of given ≡ record { streams = length streams; lines = 65536; room = 1048576 }
sizes_given formula streams serial given gives =
    ap (λ (n : ℕ). record { streams = n; lines = given.lines; room = given.room }) (ap length gives.streams_are)
    ∙ ap (λ (n : ℕ). record { streams = length streams; lines = n; room = given.room }) gives.lines
    ∙ ap (λ (n : ℕ). record { streams = length streams; lines = 65536; room = n }) gives.room

-- without a file of assumed literals, the cube is empty
no_cube : (files : FilesView) (vars : ℕ) (before : files.its.State) (path : Option Text) (cube : CubeValue) (after : files.its.State)
    → path ≡ None → AreAssumed (WasReadIn files) vars before path cube after → cube ≡ []
no_cube files vars before path cube after none assumed =
    (subst (λ (p : Option Text). AreAssumed (WasReadIn files) vars before p cube after) none assumed).0

module _ {R W : Type 0} (rest : R → List ℕ) (content : W → List ℕ) (reading : SourceView R) (has_failed : W → Bool) where
  abbrev view : ExactValue → FilesView
  view = exact_view rest content reading has_failed

  pub turns_agree : (start others : ExactValue) → SerialOutcomesAgree (view start) (view others) → HaveSameTexts start others
      → TurnsAgree (view start) (view others)
  turns_agree start others agree same after other_after out err other_out other_err status other_status ends other_ends fine good =
      let mine = turns_give ends.given ends.command_line in
      let theirs = other_turns_give other_ends.given other_ends.command_line in
      let were = were_one mine.rounds (view start) ends.cube ends.last ends.before ends.were in
      let others_were = were_one theirs.rounds (view others) other_ends.cube other_ends.last other_ends.before other_ends.were in
      let ask : AskForSameTurns (view start) (view others) ends.given other_ends.given = record {
        serial = mine.serial_is;
        too = theirs.serial_is;
        tries = theirs.tries ∙ sym mine.tries;
        sizes = sizes_given (codes "g") (codes "s2" ∷ []) true other_ends.given theirs
            ∙ sym (sizes_given (codes "f") (codes "s1" ∷ []) true ends.given mine);
        text = start.formula;
        formula = ap (view start).contents mine.formula_is;
        same_formula = ap (view others).contents theirs.formula_is ∙ ap (λ (t : List ℕ). Some t) same.0;
        streams = λ s path other_path at other_at.
            let here = only_path (codes "s1") s path (subst (λ (ps : List Text). IsOfStream ps s path) mine.streams_are at) in
            let there = only_path (codes "s2") s other_path
            (subst (λ (ps : List Text). IsOfStream ps s other_path) theirs.streams_are other_at) in (
              start.stream,
              ap (view start).contents here.1,
              ap (view others).contents there.1 ∙ ap (λ (t : List ℕ). Some t) same.1,
            );
      } in
      let cube = no_cube (view start) were.formula.vars were.next (assumed_at ends.given) ends.cube were.later mine.assume were.assumed in
      let other_cube = no_cube (view others) others_were.formula.vars others_were.next (assumed_at other_ends.given) other_ends.cube
      others_were.later theirs.assume others_were.assumed in
      agree ends.given other_ends.given ends.cube other_ends.cube ends.last other_ends.last were others_were ask
      (other_cube ∙ sym cube) fine good

  -- the line cites only clauses of the formula
  cites : EmptyPending → (layout : LayoutValue) → layout ≡ layout_in four (record { streams = 2; lines = 65536; room = 1048576 })
      → CiteWithin layout (one 1) (codes "5 2 0 1 2 0\n")
  cites pending layout is = subst (λ (l : LayoutValue). CiteWithin l (one 1) (codes "5 2 0 1 2 0\n")) (sym is) (record {
    lines = line_of_round_1 ∷ [];
    rest = [];
    cut = unit_cut pending;
    within = (
      (
        (λ t owns. let no : owners.Formula ≡ owners.Stream t = owns in cc),
        ((λ t owns. let no : owners.Formula ≡ owners.Stream t = owns in cc), tt),
      ),
      tt,
    );
  })

  pub first_lines_agree : PrintedIsRead → OneFormula → EmptyPending → (start others : ExactValue) → OutcomesAgree (view start) (view others)
      → AddsUnit start → AddsUnit others → FirstLinesAgree (view start) (view others)
  first_lines_agree read one_formula pending start others agree adds others_add after other_after out err other_out other_err status
      other_status ends other_ends report other_report says other_says fine good =
      let mine = beside_gives ends.given ends.command_line in
      let theirs = other_beside_gives other_ends.given other_ends.command_line in
      let were = were_one mine.rounds (view start) ends.cube ends.last ends.before ends.were in
      let others_were = were_one theirs.rounds (view others) other_ends.cube other_ends.last other_ends.before other_ends.were in
      let sizes = sizes_given (codes "f") (codes "s1" ∷ codes "dir/round-2.stream-1" ∷ []) false ends.given mine in
      let known : (view start).contents ends.given.formula.now ≡ Some four_text =
      ap (view start).contents mine.formula_is ∙ ap (λ (t : List ℕ). Some t) adds.0 in
      let text : four_text ≡ were.is_formula.0 = were.is_formula.1.known four_text known in
      let formula : ends.last.formula ≡ four =
      were.rounds.formula_is
      ∙ one_formula four_text were.formula four (subst (λ (b : List ℕ). IsFormulaText b were.formula) (sym text) were.is_formula.2)
      (four_is_text read) in
      let layout : layout_in ends.last.formula ends.last.sizes
      ≡ layout_in four (record { streams = 2; lines = 65536; room = 1048576 }) =
      ap (λ (z : Sizes). layout_in ends.last.formula z) (were.rounds.sizes_are ∙ sizes)
      ∙ ap (λ (f : Cnf). layout_in f (record { streams = 2; lines = 65536; room = 1048576 })) formula in
      agree ends.given other_ends.given ends.cube other_ends.cube ends.last other_ends.last 1 four_text (codes "5 2 0 1 2 0\n") report
      other_report were others_were (theirs.tries ∙ sym mine.tries)
      (sizes_given (codes "g") (codes "s2" ∷ codes "dir/round-2.stream-1" ∷ []) true other_ends.given theirs ∙ sym sizes)
      known (ap (view others).contents theirs.formula_is ∙ ap (λ (t : List ℕ). Some t) others_add.0)
      (cites pending (layout_in ends.last.formula ends.last.sizes) layout)
      (record {
        path = codes "s1";
        names = subst (λ (ps : List Text). IsOfStream ps 1 (codes "s1")) (sym mine.streams_are) (omega arith, refl);
        contents = ap (λ (t : List ℕ). Some t) adds.1;
        says = says;
        fine = fine;
      })
      (record {
        path = codes "s2";
        names = subst (λ (ps : List Text). IsOfStream ps 1 (codes "s2")) (sym theirs.streams_are) (omega arith, refl);
        contents = ap (λ (t : List ℕ). Some t) others_add.1;
        says = other_says;
        fine = good;
      })
