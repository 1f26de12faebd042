-- Words and files that ask for two valid rounds.
use Rattle.std.proofs.Common.{◌≡◌, ◌∙◌, ◌+◌, ◌<◌, ℕ, Bool, true, false, List, [], ◌∷◌}
use Rattle.std.proofs.Common.{Option, None, Some, map, length, refl, sym, ap, subst, inl, inr, arith}
use Rattle.std.specs.Prelude.{codes}
use Rattle.std.specs.Fmt.{digits}
use Rattle.std.specs.List.{AllByRecursion}
use Rattle.clap.proofs.OnLiterals.{clap_on_literals}
use Rattle.lrup_model.specs.Cube.{CubeValue}
use Rattle.lrup_model.specs.Event.{Reply}
use Rattle.lrup_model.specs.Formula.{Cnf, clause_at}
use Rattle.lrup_model.specs.Layout.{IsFault, IsLayout, LayoutValue, Owns, last_identity}
use Rattle.lrup_model.specs.State as states
use Rattle.lrup_model.specs.State.{Answers, State, state}
use Rattle.lrup_model.specs.declared.layout.LayoutFault.{LayoutFault}
use Rattle.lrup_model.specs.declared.layout.LayoutFault.TheVariants as layouts
use Rattle.lrup_model.specs.lemmas.HistoryLemmas.{formula_stays}
use Rattle.lrup_text.specs.Laws.{EmptyPending, OneCut}
use Rattle.lrup_text.specs.ReadOut.{SourceView}
use Rattle.dimacs.specs.FormulaText.{IsFormulaText}
use Rattle.stream_check.specs.Closed.{IsOfStream}
use Rattle.stream_check.specs.Streams.{stream_params}
use Rattle.run_laws.specs.Valid.{IsValidProof}
use Rattle.checkpoint.specs.Live.{Entry, fetches, wanted_of}
use Rattle.checkpoint.specs.Printing.{PrintedIsRead, clause_line, formula_text, note, printed}
use Rattle.run_outcome.specs.Saving.{is_wanted}
use Rattle.command_line.specs.CommandLine.{IsCommandLineOf}
use Rattle.command_line.specs.declared.sizes.Sizes.{Sizes}
use Rattle.command_line.specs.declared.words.CommandLine.{CommandLine}
use Rattle.command_line.specs.declared.words.Next.TheVariants.{Rounds}
use Rattle.run_files.specs.Asked.{Text, assumed_at, run_params_by, sizes_of}
use Rattle.run_files.specs.Files.{AreSized, Effects, FilesView}
use Rattle.run_files.specs.Paths.{formula_path, sizes_path, stream_path, stream_paths}
use Rattle.command.specs.Rounds.{CarriesOn, IsFirst, Round, WereRounds}
use Rattle.command.specs.lemmas.SavedLemmas.{carried}
use Rattle.outcome_laws.specs.Laws.{OneCommandLine}
use Rattle.outcome_laws.specs.Outcomes.{layout_in}
use Rattle.outcome_laws.specs.Valid.{AreValidAlone, AskForValidRounds, IsAskedOf}
use Rattle.outcome_laws.specs.Valid.{IsProvided, IsRefutedAlone, RoundAsk}
use Rattle.test_support.specs.Worked.{first, second, third, fourth, four, unit}
use Rattle.test_support.specs.lemmas.WorkedLemmas.{empty_fits, empty_is_shown, four_is_cnf, unit_fits, unit_is_shown}
use Rattle.command_tests.specs.ExactFiles.{ExactValue, text_or_none}
use Rattle.command_tests.specs.Outcomes.{RefuteInRound2, line_of_round_2, line_of_round_1, five, four_text, two_rounds}
use Rattle.command_tests.proofs.ExactLemmas.{assumed_stays, exact_effects, exact_view, opened_stays, saved_at, with_new}
use Rattle.command_tests.proofs.FirstLemmas.{OneFormula, formula_is, is_first, layout_is, left_is, only_path, sizes_are}
use Rattle.command_tests.proofs.LineLemmas.{fifth_added, first_adds}
use Rattle.command_tests.proofs.SavedLemmas.{carried_saved, takes_live}

-- The words

abbrev given : CommandLine
given = record {
  tries = 1000;
  lines = 1;
  room = 1;
  assume = None;
  next = Rounds (record { ref_ptr = (0, 0); now = codes "dir" });
  serial = false;
  watch = false;
  formula = record { ref_ptr = (0, 0); now = codes "f" };
  streams = codes "s1" ∷ [];
}

command_line : IsCommandLineOf two_rounds given
unfolding clap_on_literals
command_line = record {
  good = refl;
  said = record {
    tries = refl;
    few_tries = omega arith;
    lines = refl;
    few_lines = omega arith;
    room = refl;
    small_room = omega arith;
    assume = refl;
    checkpoint = refl;
    rounds = refl;
    serial = refl;
    watch = refl;
    formula = refl;
    streams = refl;
    one = omega arith;
  };
}

-- The formulas and the lines

pub four_is_text : PrintedIsRead → IsFormulaText four_text four
unfolding digits note clause_line formula_text
four_is_text read = read 2 (record { id = 1; clause = first } ∷ record { id = 2; clause = second } ∷ record { id = 3; clause = third }
    ∷ record { id = 4; clause = fourth } ∷ []) four_is_cnf

no_fault : (layout : LayoutValue) → IsLayout layout → (fault : LayoutFault) → ¬ IsFault layout fault
no_fault layout is layouts.TooManyVariables wrong = omega (arith, is.vars, wrong)
no_fault layout is layouts.TooManyClauses wrong = omega (arith, is.clauses, wrong.1)
no_fault layout is layouts.BadStreamCount wrong =
    elim wrong.2 [ inl none ↦ omega (arith, is.some_stream, none) | inr many ↦ omega (arith, is.streams, many) ]
no_fault layout is layouts.RowTooLong wrong = omega (arith, is.row, wrong.4)

abbrev first_layout : LayoutValue
first_layout = layout_in four (sizes_of given)

abbrev last_layout : LayoutValue
last_layout = layout_in five (sizes_of given)

first_is_layout : IsLayout first_layout
first_is_layout = record { vars = omega arith; clauses = omega arith; some_stream = omega arith; streams = omega arith; row = omega arith }

last_is_layout : IsLayout last_layout
last_is_layout = record { vars = omega arith; clauses = omega arith; some_stream = omega arith; streams = omega arith; row = omega arith }

unit_is_valid : IsValidProof four first_layout 1 (codes "5 2 0 1 2 0\n") (line_of_round_1 ∷ [])
unfolding digits
unit_is_valid = record {
  text = refl;
  fits = (unit_fits 5 (omega arith, omega arith), tt);
  valid = (
    record {
      owns = refl;
      above = omega arith;
      literals = (omega arith, tt);
      room = omega arith;
      clauses = first ∷ second ∷ [];
      named = (refl, (refl, tt));
      shown = unit_is_shown;
    },
    tt,
  );
}

empty_is_valid : IsValidProof five last_layout 1 (codes "6 0 5 3 4 0\n") (line_of_round_2 ∷ [])
unfolding digits
empty_is_valid = record {
  text = refl;
  fits = (empty_fits 6 (omega arith, omega arith), tt);
  valid = (
    record {
      owns = refl;
      above = omega arith;
      literals = tt;
      room = omega arith;
      clauses = unit ∷ third ∷ fourth ∷ [];
      named = (refl, (refl, (refl, tt)));
      shown = empty_is_shown;
    },
    tt,
  );
}

-- with these five clauses live and wanted, exactly these are saved
five_saved : (slots : State) (wants : ℕ → Bool) (replies : List Reply) → slots 1 ≡ states.live first → slots 2 ≡ states.live second
    → slots 3 ≡ states.live third → slots 4 ≡ states.live fourth → slots 5 ≡ states.live unit → ((id : ℕ) → wants id ≡ true)
    → length replies ≡ 5 → AllByRecursion (Answers slots) (fetches 1 1 replies) → printed 2 (wanted_of wants 1 replies) ≡ five
five_saved slots wants [] one two three fourth_is five_is all count answers = absurd (omega (arith, count))
five_saved slots wants (a ∷ []) one two three fourth_is five_is all count answers = absurd (omega (arith, count))
five_saved slots wants (a ∷ b ∷ []) one two three fourth_is five_is all count answers = absurd (omega (arith, count))
five_saved slots wants (a ∷ b ∷ c ∷ []) one two three fourth_is five_is all count answers = absurd (omega (arith, count))
five_saved slots wants (a ∷ b ∷ c ∷ d ∷ []) one two three fourth_is five_is all count answers = absurd (omega (arith, count))
five_saved slots wants (a ∷ b ∷ c ∷ d ∷ e ∷ []) one two three fourth_is five_is all count answers =
    ap (printed 2)
    (takes_live slots wants 1 1 first a (b ∷ c ∷ d ∷ e ∷ []) one (all 1) answers.0
    ∙ ap (λ (es : List Entry). record { id = 1; clause = first } ∷ es)
    (takes_live slots wants 1 2 second b (c ∷ d ∷ e ∷ []) two (all 2) answers.1.0
    ∙ ap (λ (es : List Entry). record { id = 2; clause = second } ∷ es)
    (takes_live slots wants 1 3 third c (d ∷ e ∷ []) three (all 3) answers.1.1.0
    ∙ ap (λ (es : List Entry). record { id = 3; clause = third } ∷ es)
    (takes_live slots wants 1 4 fourth d (e ∷ []) fourth_is (all 4) answers.1.1.1.0
    ∙ ap (λ (es : List Entry). record { id = 4; clause = fourth } ∷ es)
    (takes_live slots wants 1 5 unit e [] five_is (all 5) answers.1.1.1.1.0)))))
five_saved slots wants (a ∷ b ∷ c ∷ d ∷ e ∷ f ∷ more) one two three fourth_is five_is all count answers = absurd (omega (arith, count))

-- Rounds

module _ {R W : Type 0} (rest : R → List ℕ) (content : W → List ℕ) (reading : SourceView R) (has_failed : W → Bool)
    (start : ExactValue) (files : RefuteInRound2 start) where
  abbrev its : Effects
  its = exact_effects rest content reading has_failed

  abbrev view : FilesView
  view = exact_view rest content reading has_failed start

  -- the files after round 1
  abbrev later_files : List ℕ → List ℕ → ExactValue
  later_files path bytes = with_new rest content reading has_failed path bytes start

  module _ (Before Last : RoundAsk) (before : Before four first_layout view.contents (codes "s1" ∷ []))
      (last : (path bytes : List ℕ) → Last five last_layout (its.contents (later_files path bytes)) (stream_paths (codes "dir") 2 1))
    where
      abbrev IsReady : Sizes → ExactValue → Type 0
      IsReady sizes sized = ((after : ExactValue) → ¬ its.lacks sized (stream_path (codes "dir") 2 1) after)
          × ((fault : LayoutFault) → ¬ IsFault (layout_in five sizes) fault)
          × IsAskedOf Before Last 2 2 five sizes (its.contents sized) (stream_paths (codes "dir") 2 sizes.streams)

      ready_then : (path bytes : List ℕ) → IsReady (sizes_of given) (later_files path bytes)
      unfolding digits
      ready_then path bytes = (
        λ after lacks. let no : Some (codes "6 0 5 3 4 0\n") ≡ None = sym files.next ∙ lacks.1 in cc,
        no_fault last_layout last_is_layout,
        record { earlier = λ below. absurd (omega (arith, below)); at_last = λ is. last path bytes },
      )

      ready : (path bytes : List ℕ) (sizes : Sizes) (sized : ExactValue)
          → AreSized its (sizes_path (codes "dir") 2) (sizes_of given) (later_files path bytes) sizes sized → IsReady sizes sized
      unfolding digits
      ready path bytes sizes sized (inl (lacks, same)) =
          subst (λ (z : Sizes). IsReady z sized) (sym same)
          (subst (λ (s : ExactValue). IsReady (sizes_of given) s) (sym lacks.0) (ready_then path bytes))
      ready path bytes sizes sized (inr (text, read, is)) = absurd (let no : None ≡ Some (rest read.reader) = read.opened.1 in cc)

      abbrev Provided : Text → ℕ → Sizes → Cnf → ExactValue → Type 0
      Provided folder number old formula after = IsProvided Before Last 2 its folder number old formula after

      provided : (path bytes : List ℕ) → Provided (codes "dir") 2 (sizes_of given) five (later_files path bytes)
      unfolding digits
      provided path bytes = record {
        sizes = λ after none. let no : None ≡ Some (rest none.reader) = none.opened.1 in cc;
        ready = ready path bytes;
      }

      module _ (read : PrintedIsRead) (one_formula : OneFormula) (alike : OneCommandLine) (one_cut : OneCut) (pending : EmptyPending) where
        module _ (line : CommandLine) (cube : CubeValue) (round : Round its line cube) (earlier : List (Round its line cube)) (next : Cnf)
            (is_line : IsCommandLineOf two_rounds line) (were : WereRounds view line cube round earlier) (below : round.number < 2)
            (on : CarriesOn round next) where
          first_round : IsFirst were.formula were.later round
          first_round = is_first were.formula were.later round earlier were.rounds below

          known : view.contents given.formula.now ≡ Some four_text
          known = ap (λ (t : List ℕ). Some t) files.formula

          round_is : round.formula ≡ four
          round_is =
              formula_is view two_rounds given command_line alike line cube round earlier is_line were
              first_round one_formula four_text four known (four_is_text read)

          abbrev layout : LayoutValue
          layout = layout_in round.formula round.sizes

          in_layout : layout ≡ first_layout
          in_layout =
              layout_is view two_rounds given command_line alike line cube round earlier is_line were first_round one_formula four_text four
              known (four_is_text read)

          left : map reading.left round.readers ≡ Some (codes "5 2 0 1 2 0\n") ∷ []
          left =
              left_is view two_rounds given command_line alike line cube round earlier is_line were first_round
              ∙ ap (λ (t : List ℕ). Some t ∷ []) files.stream

          next_is : next ≡ five
          next_is =
              let run = round.checked.ran.run in
              let dropped = round.checked.dropped in
              let run_params = run_params_by line cube round.formula round.sizes in
              let adds = first_adds one_cut pending reading run_params run.history round.readers
              round.checked.lasts run.streams round.reports dropped left (run.count ∙ ap (λ (l : LayoutValue). l.streams) in_layout)
              run.match_inputs run.judged on.ended round.checked.ran.have_dropped in
              let saved = carried_saved round next on in
              let count : layout.clauses ≡ 4 = ap (λ (l : LayoutValue). l.clauses) in_layout in
              let stays : (id : ℕ) → 0 < id → id < 5 → state round.formula run.history id ≡ states.live (clause_at four id) =
              λ id some few.
              formula_stays round.formula layout run.history id
              (record { vars = refl; clauses = refl; literals = refl }) run.legal.events some (omega (arith, few, count))
              ∙ ap (λ (f : Cnf). states.live (clause_at f id)) round_is in
              let fifth = fifth_added round.formula layout (stream_params run_params 1) run.history run.legal.events
              (subst (λ (l : LayoutValue). Owns l 1 5) (sym in_layout) refl) adds.0 in
              saved.is
              ∙ ap (λ (v : ℕ). printed v (wanted_of (is_wanted dropped) 1 saved.replies)) (ap (λ (l : LayoutValue). l.vars) in_layout)
              ∙ five_saved (state round.formula run.history) (is_wanted dropped) saved.replies (stays 1 (omega arith) (omega arith))
              (stays 2 (omega arith) (omega arith)) (stays 3 (omega arith) (omega arith)) (stays 4 (omega arith) (omega arith)) fifth adds.1
              (saved.count ∙ ap last_identity in_layout) (saved.answers 1)

          folder_is : on.folder ≡ codes "dir"
          folder_is =
              let both : Some on.folder ≡ Some (codes "dir") =
              sym on.asked ∙ is_line.said.rounds ∙ sym command_line.said.rounds in cc

          after_is : (path : List ℕ) × (bytes : List ℕ) × (round.after ≡ later_files path bytes)
          after_is =
              let path = formula_path on.folder (round.number + 1) in
              let kept = carried round next on in
              let stays : round.opened ≡ start =
              opened_stays rest content reading has_failed were.later line.streams round.readers round.opened first_round.opened.opened
              ∙ assumed_stays rest content reading has_failed start were.formula.vars were.next (assumed_at line)
              cube were.later were.assumed
              ∙ were.is_formula.1.opened.0 in (
                path,
                kept.bytes,
                saved_at rest content reading has_failed round.opened path kept.bytes round.after kept.saved
                    ∙ ap (with_new rest content reading has_failed path kept.bytes) stays,
              )

          provided_later : Provided on.folder (round.number + 1) round.sizes next round.after
          provided_later =
              let number : round.number + 1 ≡ 2 = omega (arith, first_round.number) in
              subst (λ (f : Text). Provided f (round.number + 1) round.sizes next round.after) (sym folder_is)
              (subst (λ (n : ℕ). Provided (codes "dir") n round.sizes next round.after) (sym number)
              (subst (λ (z : Sizes). Provided (codes "dir") 2 z next round.after)
              (sym (sizes_are view two_rounds given command_line alike line cube round earlier is_line were first_round))
              (subst (λ (f : Cnf). Provided (codes "dir") 2 (sizes_of given) f round.after) (sym next_is)
              (subst (λ (s : ExactValue). Provided (codes "dir") 2 (sizes_of given) five s) (sym after_is.2)
              (provided after_is.0 after_is.1)))))

        asked : AskForValidRounds Before Last view two_rounds 2
        asked = record {
          asks = record {
            given = given;
            command_line = command_line;
            text = four_text;
            known = ap (λ (t : List ℕ). Some t) files.formula;
            formula = four;
            is_text = four_is_text read;
            layout = no_fault first_layout first_is_layout;
            assumptions = tt;
          };
          some = omega arith;
          few = omega arith;
          rounds = λ more. (codes "dir", refl);
          first = record { earlier = λ below. before; at_last = λ is. absurd (omega (arith, is)) };
          later = provided_later;
        }

  -- The streams

  -- the file of round 1's stream
  stream_at : (s : ℕ) (path : Text) → IsOfStream (codes "s1" ∷ []) s path
      → (s ≡ 1) × (view.contents path ≡ Some (codes "5 2 0 1 2 0\n"))
  stream_at s path at =
      let only = only_path (codes "s1") s path at in
      (only.0, ap view.contents only.1 ∙ ap (λ (t : List ℕ). Some t) files.stream)

  -- the file of round 2's stream
  next_at : (path bytes : List ℕ) → its.contents (later_files path bytes) (stream_path (codes "dir") 2 1) ≡ Some (codes "6 0 5 3 4 0\n")
  unfolding digits
  next_at path bytes = ap (λ (t : Option (List ℕ)). Some (text_or_none t)) files.next

  pub asked_alone : PrintedIsRead → OneFormula → OneCommandLine → OneCut → EmptyPending
      → AskForValidRounds AreValidAlone (IsRefutedAlone 1 1) view two_rounds 2
  asked_alone = asked AreValidAlone (IsRefutedAlone 1 1)
      (λ s path at.
      let here = stream_at s path at in (
        codes "5 2 0 1 2 0\n",
        line_of_round_1 ∷ [],
        here.1,
        subst (λ (t : ℕ). IsValidProof four first_layout t (codes "5 2 0 1 2 0\n") (line_of_round_1 ∷ [])) (sym here.0) unit_is_valid,
      ))
      (λ path bytes. (
        stream_path (codes "dir") 2 1,
        codes "6 0 5 3 4 0\n",
        (omega arith, refl),
        next_at path bytes,
        (
          record {
            proof = codes "6 0 5 3 4 0\n";
            more = [];
            begins = refl;
            lines = line_of_round_2 ∷ [];
            valid = empty_is_valid;
            empty = (0, line_of_round_2, omega arith, refl, refl);
          },
          omega arith,
        ),
      ))
