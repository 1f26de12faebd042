-- What the program says about valid proofs in rounds.
use Rattle.std.proofs.Common.{◌≡◌, ◌⊎◌, ◌<◌, ◌≤◌, ◌-◌, ◌+◌, ℕ, Bool, true, false, List, [], ◌∷◌, Result, map, Option, None, Some, inl, inr}
use Rattle.std.proofs.Common.{refl, sym, ap, subst, drop, ◌∙◌, arith}
use Rattle.std.proofs.lemmas.Bool.{cases_lt}
use Rattle.lrup_model.specs.Cube.{CubeValue}
use Rattle.lrup_model.specs.Formula.{Cnf, IsCnf}
use Rattle.dimacs.specs.FormulaText.{IsFormulaText}
use Rattle.stream_check.specs.Laws.{EmptyCubeReported}
use Rattle.run_laws.specs.ValidLaws.{ValidBegins, ValidEmpty, ValidReported}
use Rattle.run_outcome.specs.declared.outcome.Verdict.{Verdict}
use Rattle.run_outcome.specs.declared.outcome.Verdict.TheVariants.{Unsatisfiable, UnsatisfiableUnder, Unknown}
use Rattle.checkpoint.specs.declared.saving.SaveFault.{SaveFault}
use Rattle.command_line.specs.CommandLine.{IsCommandLineOf, rounds_of}
use Rattle.command_line.specs.declared.sizes.Sizes.{Sizes}
use Rattle.command_line.specs.declared.words.CommandLine.{CommandLine}
use Rattle.run_files.specs.Files.{AreAssumed, AreSized, Effects, FilesView, WasReadIn}
use Rattle.run_files.specs.Causes.{IsFirstCause, IsOpenCause, IsSizesCause, IsStartCause}
use Rattle.command.specs.Commands.{SinkChange, report_status}
use Rattle.run_files.specs.Asked.{Text, assumed_at, created_path, run_params_by, sizes_of}
use Rattle.run_files.specs.Paths.{sizes_path, stream_path, stream_paths}
use Rattle.command.specs.Rounds.{CarriesOn, EndsWithFault, EndsWithReport, HaveEnded, IsCauseIn, IsRoundCause, LeavesAtPath}
use Rattle.run_files.specs.Saving.{SavesCheckpoint}
use Rattle.command.specs.Rounds.{ProgramEnds, Round, RoundsEnd, WereRounds}
use Rattle.command.specs.lemmas.SavedLemmas.{carried}
use Rattle.run_files.specs.declared.fault.CommandFault.{CommandFault}
use Rattle.run_files.specs.declared.fault.CommandFault.TheVariants as faults
use Rattle.outcome_laws.specs.Laws.{OneCommandLine}
use Rattle.outcome_laws.specs.Outcomes.{layout_in}
use Rattle.outcome_laws.specs.Inconclusive.{FallsShort, HasStopped, InconclusiveBecause}
use Rattle.outcome_laws.specs.Inconclusive.{no_report, not_kept, short, stopped, under_cube, unwritten}
use Rattle.outcome_laws.specs.Valid.{AreValidAlone, AskForValidRounds, IsAskedOf, IsProvided, IsRefutedAlone, RoundAsk}
use Rattle.outcome_laws.specs.ValidLaws.{OutcomeOfValidRounds}
use Rattle.outcome_laws.proofs.CheckLemmas.{Check, check_of, never_under}
use Rattle.outcome_laws.proofs.OutcomeLemmas.{OneFormula, first_text}
use Rattle.outcome_laws.proofs.ValidLemmas.{IsOfMachine, NoFormulaFault, of_machine, text_cnf}
use Rattle.outcome_laws.proofs.StreamLemmas.{EndsSo, IsLost, Lost, RefutesSo, cut_is_open, ended_at, ends_alone, refutes_alone}

-- Faults

-- if a later round is provided for, any fault in it is the machine's
module _ (its : Effects) (given : CommandLine) (cube : CubeValue) (folder : Text) (number : ℕ) (old : Sizes) (formula : Cnf)
    (before after : its.State) where
  abbrev Read : Sizes → its.State → Type 0
  Read sizes sized = AreSized its (sizes_path folder number) old before sizes sized

  abbrev Cause : CommandFault → Type 0
  Cause fault = IsRoundCause its given cube folder number old formula before fault after

  none_so : (fault : CommandFault) → (IsSizesCause its before (sizes_path folder number) fault after → ⊥)
      → ((from : its.State) (path : Text) → IsFirstCause its from path fault after → ⊥)
      → ((next : its.State) (paths : List Text) → IsOpenCause its 1 next paths fault after → ⊥)
      → ((sizes : Sizes) (sized : its.State) → Read sizes sized → (readers : List its.Reader) (opened : its.State) (path : Option Text)
      → IsStartCause its given.serial formula (run_params_by given cube formula sizes) readers opened path fault after → ⊥)
      → Cause fault → ⊥
  none_so fault sizes first opens starts (inl cause) = sizes cause
  none_so fault sizes first opens starts (inr (read, sized, are, inl (inl cause))) = first sized (stream_path folder number 1) cause
  none_so fault sizes first opens starts (inr (read, sized, are, inl (inr (one, next, opened, cause)))) =
      opens next (drop 1 (stream_paths folder number read.streams)) cause
  none_so fault sizes first opens starts (inr (read, sized, are, inr (readers, opened, so, cause))) =
      starts read sized are readers opened (created_path given.next number) cause

  module _ (Before Last : RoundAsk) (last : ℕ) (provided : IsProvided Before Last last its folder number old formula before) where
    pub of_round : (fault : CommandFault) → Cause fault → IsOfMachine fault
    of_round (faults.Usage text) cause =
        absurd (none_so (faults.Usage text) (λ x. x) (λ b p x. x) (λ n p x. x) (λ z s a r o p x. x) cause)
    of_round faults.Unread cause = inl refl
    of_round (faults.Refused fault) cause =
        absurd (none_so (faults.Refused fault) (λ x. x) (λ b p x. x) (λ n p x. x) (λ z s a r o p x. x) cause)
    of_round faults.CubeUnread cause = inl refl
    of_round (faults.CubeRefused fault) cause =
        absurd (none_so (faults.CubeRefused fault) (λ x. x) (λ b p x. x) (λ n p x. x) (λ z s a r o p x. x) cause)
    of_round (faults.NotOpened stream) cause = inl refl
    of_round (faults.Layout fault) cause =
        absurd (none_so (faults.Layout fault) (λ x. x) (λ b p x. x) (λ n p x. x)
        (λ sizes sized are readers opened path wrong. (provided.ready sizes sized are).1 fault wrong.0) cause)
    of_round (faults.Spawn stream) cause = inr refl
    of_round (faults.Ring stream) cause = inr refl
    of_round faults.Memory cause = inr refl
    of_round faults.Unwritten cause =
        absurd (none_so faults.Unwritten (λ x. x) (λ b p x. x) (λ n p x. x) (λ z s a r o p x. x) cause)
    of_round faults.NotCreated cause = inl refl
    of_round (faults.NotSaved fault) cause =
        absurd (none_so (faults.NotSaved fault) (λ x. x) (λ b p x. x) (λ n p x. x) (λ z s a r o p x. x) cause)
    of_round faults.TwoCheckpoints cause =
        absurd (none_so faults.TwoCheckpoints (λ x. x) (λ b p x. x) (λ n p x. x) (λ z s a r o p x. x) cause)
    of_round faults.SizesUnread cause = inl refl
    of_round faults.Sizes cause =
        absurd (none_so faults.Sizes (λ none. provided.sizes after none) (λ b p x. x) (λ n p x. x) (λ z s a r o p x. x) cause)

-- Rounds

-- What is known about a round whose streams were checked: its formula is within the limits, and its
-- streams meet the requirement for this round.
pub record IsAsked (Before Last : RoundAsk) (last : ℕ) {its : Effects} {given : CommandLine} {cube : CubeValue}
    (round : Round its given cube) : Type 0 where
  pub cnf : IsCnf round.formula
  pub contents : Text → Option (List ℕ)
  pub paths : List Text
  pub left : map its.reading.left round.readers ≡ map contents paths
  pub asked : IsAskedOf Before Last last round.number round.formula round.sizes contents paths

abbrev check_in : (Before Last : RoundAsk) (last : ℕ) {its : Effects} {given : CommandLine} {cube : CubeValue}
    (round : Round its given cube)
    → IsAsked Before Last last round → Check its.reading
check_in Before Last last round is = check_of round is.contents is.paths is.left

-- the formula that a round passes on is within the limits
carried_cnf : {its : Effects} {given : CommandLine} {cube : CubeValue} (round : Round its given cube) (next : Cnf) → CarriesOn round next
    → IsCnf next
carried_cnf round next on =
    let at = carried round next on in
    subst IsCnf (sym (at.next_is next refl)) (text_cnf at.bytes at.checkpoint.formula at.checkpoint.text)

module _ (files : FilesView) (given : CommandLine) (cube : CubeValue) where
  -- `WereRounds` still holds without the last round
  pub before_them : (round b : Round files.its given cube) (more : List (Round files.its given cube))
      → WereRounds files given cube round (b ∷ more) → WereRounds files given cube b more
  before_them round b more were = record {
    formula = were.formula;
    next = were.next;
    is_formula = were.is_formula;
    later = were.later;
    assumed = were.assumed;
    known = were.known;
    rounds = were.rounds.1;
  }

  -- the number of each round is at least 1
  pub some_number : (round : Round files.its given cube) (before : List (Round files.its given cube))
      → WereRounds files given cube round before → 0 < round.number
  some_number round [] were = omega (arith, were.rounds.number)
  some_number round (b ∷ more) were = omega (arith, were.rounds.0.number)

-- What a round left.
module _ (its : Effects) (Saves : Result (Option Cnf) SaveFault → its.Output → its.Output → Type 0) where
  -- if the verdict is 'unsatisfiable', no save can fail
  all_saved : (verdict : Verdict) (before : its.State) (path : Option Text) (fault : SaveFault) (next : Option Cnf)
      (after : its.State) → verdict ≡ Unsatisfiable → ¬ LeavesAtPath its Saves verdict before path (Some fault) next after
  all_saved UnsatisfiableUnder before path fault next after is leaves = let no : UnsatisfiableUnder ≡ Unsatisfiable = is in cc
  all_saved Unknown before path fault next after is leaves = let no : Unknown ≡ Unsatisfiable = is in cc
  all_saved Unsatisfiable before None fault next after is leaves = let no : Some fault ≡ None = leaves.0 in cc
  all_saved Unsatisfiable before (Some path) fault next after is leaves = let no : Some fault ≡ None = leaves.0 in cc

  -- if a save failed, there was a path to save to
  asked_for : (verdict : Verdict) (before : its.State) (path : Option Text) (fault : SaveFault) (next : Option Cnf) (after : its.State)
      → LeavesAtPath its Saves verdict before path (Some fault) next after → (asked : Text) × (path ≡ Some asked)
  asked_for verdict before None fault next after leaves = absurd (let no : Some fault ≡ None = leaves.0 in cc)
  asked_for verdict before (Some path) fault next after leaves = (path, refl)

module _ {its : Effects} {given : CommandLine} {cube : CubeValue} (round : Round its given cube) (fault : SaveFault)
    (unsaved : round.unsaved ≡ Some fault) where
  abbrev Saves : Result (Option Cnf) SaveFault → its.Output → its.Output → Type 0
  Saves = SavesCheckpoint its round.formula (layout_in round.formula round.sizes) round.checked.ran.run.history round.checked.dropped

  abbrev left_at : Option Text
  left_at = created_path given.next round.number

  leaves_unsaved : LeavesAtPath its Saves round.verdict round.opened left_at (Some fault) round.next round.after
  leaves_unsaved =
      subst (λ (u : Option SaveFault). LeavesAtPath its Saves round.verdict round.opened left_at u round.next round.after) unsaved
      round.leaves

  unsaved_open : ¬ (round.verdict ≡ Unsatisfiable)
  unsaved_open refuted = all_saved its Saves round.verdict round.opened left_at fault round.next round.after refuted leaves_unsaved

  unsaved_asked : (asked : Text) × (left_at ≡ Some asked)
  unsaved_asked = asked_for its Saves round.verdict round.opened left_at fault round.next round.after leaves_unsaved

module _ (Before Last : RoundAsk) (s count : ℕ) (ends_so : EndsSo Before) (refutes_so : RefutesSo Last s count)
    (bare : EmptyCubeReported)
    (one_formula : OneFormula) (no_fault : NoFormulaFault) (alike : OneCommandLine) (files : FilesView) (words : List Text)
    (last : ℕ) (ask : AskForValidRounds Before Last files words last) where
  -- some stream of the round was stopped
  abbrev Stops : {given : CommandLine} {cube : CubeValue} → Round files.its given cube → Type 0
  Stops round = HasStopped s count last round

  -- a stream that was stopped hasn't ended
  unended : {given : CommandLine} {cube : CubeValue} (round : Round files.its given cube) → Stops round → ¬ HaveEnded round.reports
  unended {given} {cube} round stops ended =
      cut_is_open stops.report (stops.line, stops.excused) (ended_at round.reports (stops.stream - 1) stops.report stops.says.1 ended)

  stops_early : {given : CommandLine} {cube : CubeValue} (round : Round files.its given cube) → round.number < last
      → IsLost round.reports → Stops round
  stops_early round below lost = record {
    stream = lost.0;
    report = lost.1;
    says = lost.2;
    line = lost.3.0;
    excused = lost.3.1;
    place = inl below;
  }

  stops_last : {given : CommandLine} {cube : CubeValue} (round : Round files.its given cube) → round.number ≡ last
      → Lost round.reports s count → Stops round
  stops_last round at_last lost = record {
    stream = s;
    report = lost.0;
    says = lost.1;
    line = lost.2.0;
    excused = lost.2.2;
    place = inr (at_last, refl, lost.2.1);
  }

  module _ (given : CommandLine) (line : IsCommandLineOf words given) (cube : CubeValue) where
    -- each round that was reached meets the requirement
    is_asked : (round : Round files.its given cube) (before : List (Round files.its given cube))
        → (were : WereRounds files given cube round before) → round.number ≤ last → IsAsked Before Last last round
    is_asked round [] were few =
        let first = were.rounds in
        let asks = ask.asks in
        let same = alike words asks.given given asks.command_line line in
        let text : IsFormulaText asks.text round.formula =
        first_text files given cube round were asks.text (ap files.contents same.3 ∙ asks.known) in
        let formulas : round.formula ≡ asks.formula = one_formula asks.text round.formula asks.formula text asks.is_text in
        let sizes : round.sizes ≡ sizes_of asks.given = first.sizes_are ∙ same.1 in
        record {
          cnf = text_cnf asks.text round.formula text;
          contents = files.contents;
          paths = given.streams;
          left = first.opened.left ∙ ap (λ (t : Text → Option (List ℕ)). map t given.streams) were.known;
          asked = subst (λ (n : ℕ). IsAskedOf Before Last last n round.formula round.sizes files.contents given.streams) (sym first.number)
              (subst (λ (p : List Text). IsAskedOf Before Last last 1 round.formula round.sizes files.contents p) (sym same.2)
              (subst (λ (z : Sizes). IsAskedOf Before Last last 1 round.formula z files.contents asks.given.streams) (sym sizes)
              (subst (λ (f : Cnf). IsAskedOf Before Last last 1 f (sizes_of asks.given) files.contents asks.given.streams) (sym formulas)
              ask.first)));
        }
    is_asked round (b ∷ more) were few =
        let comes = were.rounds.0 in
        let on = comes.goes_on in
        let earlier = before_them files given cube round b more were in
        let below : b.number < last = omega (arith, few, comes.number) in
        let provided = subst (λ (n : ℕ). IsProvided Before Last last files.its on.folder n b.sizes round.formula b.after) (sym comes.number)
        (ask.later given cube b more round.formula line earlier below on) in
        record {
          cnf = carried_cnf b round.formula on;
          contents = files.its.contents comes.sized;
          paths = stream_paths on.folder round.number round.sizes.streams;
          left = comes.opened.left;
          asked = (provided.ready round.sizes comes.sized comes.sizes).2;
        }

    -- the round comes before the last one and its streams ended, or its verdict is 'unsatisfiable',
    -- or a stream was stopped
    fate : (round : Round files.its given cube) (before : List (Round files.its given cube))
        → WereRounds files given cube round before → round.number ≤ last
        → ((round.number < last) × HaveEnded round.reports) ⊎ ((round.verdict ≡ Unsatisfiable) ⊎ Stops round)
    fate round before were few =
        let is = is_asked round before were few in
        let check = check_in Before Last last round is in
        elim (cases_lt round.number last) [
          | inl below ↦ elim (ends_so files.its.Reader files.its.reading check is.cnf (is.asked.earlier below)) [
            | inl ended ↦ inl (below, ended)
            | inr lost ↦ inr (inr (stops_early round below lost))
          ]
          | inr above ↦
              let at_last : round.number ≡ last = omega (arith, above, few) in
              elim (refutes_so files.its.Reader files.its.reading check is.cnf (is.asked.at_last at_last)) [
                | inl refuted ↦ inr (inl refuted)
                | inr lost ↦ inr (inr (stops_last round at_last lost))
              ]
        ]

    -- if the run continues after a round, that round comes before the last one
    goes_below : (round : Round files.its given cube) (before : List (Round files.its given cube))
        → WereRounds files given cube round before → round.number ≤ last → (next : Cnf) → CarriesOn round next → round.number < last
    goes_below round before were few next goes = elim (fate round before were few) [
      | inl (below, ended) ↦ below
      | inr (inl refuted) ↦ absurd (let no : Unsatisfiable ≡ Unknown = sym refuted ∙ goes.verdict in cc)
      | inr (inr lost) ↦ absurd (unended round lost goes.ended)
    ]

    -- no round has a number above `last`
    few_rounds : (round : Round files.its given cube) (before : List (Round files.its given cube))
        → WereRounds files given cube round before → round.number ≤ last
    few_rounds round [] were = omega (arith, ask.some, were.rounds.number)
    few_rounds round (b ∷ more) were =
        let earlier = before_them files given cube round b more were in
        let below = goes_below b more earlier (few_rounds b more earlier) round.formula were.rounds.0.goes_on in
        omega (arith, below, were.rounds.0.number)

    -- if a run continues after a round, the next round is provided for
    provided_for : (round : Round files.its given cube) (before : List (Round files.its given cube))
        → WereRounds files given cube round before → (next : Cnf) → (on : CarriesOn round next)
        → IsProvided Before Last last files.its on.folder (round.number + 1) round.sizes next round.after
    provided_for round before were next on =
        let few = few_rounds round before were in
        ask.later given cube round before next line were (goes_below round before were few next on) on

    -- if a verdict is 'unsatisfiable under assumptions', the words ask for assumed literals
    under_some : (round : Round files.its given cube) (before : List (Round files.its given cube))
        → (were : WereRounds files given cube round before) → (path : Option Text) → assumed_at given ≡ path
        → AreAssumed (WasReadIn files) were.formula.vars were.next path cube were.later
        → round.verdict ≡ UnsatisfiableUnder → (asked : Text) × (assumed_at given ≡ Some asked)
    under_some round before were (Some path) is assumed under = (path, is)
    under_some round before were None is assumed under =
        let asked = is_asked round before were (few_rounds round before were) in
        absurd (never_under files.its.reading (check_in Before Last last round asked) bare assumed.0 under)

    asked_under : (round : Round files.its given cube) (before : List (Round files.its given cube))
        → WereRounds files given cube round before → round.verdict ≡ UnsatisfiableUnder
        → (asked : Text) × (assumed_at given ≡ Some asked)
    asked_under round before were under = under_some round before were (assumed_at given) refl were.assumed under

    -- if a round comes before the last, the words ask for rounds
    rounds_asked : (round : Round files.its given cube) (before : List (Round files.its given cube))
        → WereRounds files given cube round before → round.number < last → ¬ (rounds_of given.next ≡ None)
    rounds_asked round before were below once =
        let asked = ask.rounds (omega (arith, below, some_number files given cube round before were)) in
        let no : Some asked.0 ≡ None = sym asked.1 ∙ ask.asks.command_line.said.rounds ∙ sym line.said.rounds ∙ once in cc

    -- If the rounds ended without an answer and without a failed save, a stream was stopped.
    lost_in : (round : Round files.its given cube) (before : List (Round files.its given cube)) → WereRounds files given cube round before
        → (after : files.its.State) → RoundsEnd round after → round.verdict ≡ Unknown → round.unsaved ≡ None → Stops round
    lost_in round before were after finished unknown saved =
        elim (fate round before were (few_rounds round before were)) [
          | inr (inr lost) ↦ lost
          | inr (inl refuted) ↦ absurd (let no : Unsatisfiable ≡ Unknown = sym refuted ∙ unknown in cc)
          | inl (below, ended) ↦ absurd (elim finished [
            | inl (barred, same) ↦ elim barred [
              | inl once ↦ rounds_asked round before were below once
              | inr (inl other) ↦ other unknown
              | inr (inr (inl fault)) ↦ let no : Some fault.0 ≡ None = sym fault.1 ∙ saved in cc
              | inr (inr (inr not_ended)) ↦ not_ended ended
            ]
            | inr (next, on, inl (sizes, sized, are, lacks)) ↦
                ((provided_for round before were next on).ready sizes sized are).0 after lacks
            | inr (next, on, inr (high, same)) ↦ omega (arith, high, below, ask.few)
          ])
        ]

  module _ (after : files.its.State) (out err : SinkChange) (status : ℕ) where
    abbrev Goal : Type 0
    Goal = (status ≡ 0) ⊎ InconclusiveBecause files words s count last after out err status

    abbrev Short : EndsWithReport files words after out err status → ℕ → Type 0
    Short ends written = FallsShort s count last ends.last written

    few_of : (ends : EndsWithReport files words after out err status) → ends.last.number ≤ last
    few_of ends = few_rounds ends.given ends.command_line ends.cube ends.last ends.before ends.were

    -- if the report doesn't say 'unsatisfiable', its round comes before the last one and the
    -- streams ended, or a stream was stopped
    streams_of : (ends : EndsWithReport files words after out err status) → ¬ (ends.last.verdict ≡ Unsatisfiable)
        → ((ends.last.number < last) × HaveEnded ends.last.reports)
        ⊎ HasStopped s count last ends.last
    streams_of ends other =
        elim (fate ends.given ends.command_line ends.cube ends.last ends.before ends.were (few_of ends)) [
          | inl ended ↦ inl ended
          | inr (inl refuted) ↦ absurd (other refuted)
          | inr (inr lost) ↦ inr lost
        ]

    -- the report says 'unsatisfiable' and the status is 0, or `Short` says why not
    short_so : (ends : EndsWithReport files words after out err status)
        → (unsaved : Option SaveFault) → ends.last.unsaved ≡ unsaved → (verdict : Verdict) → ends.last.verdict ≡ verdict
        → ((ends.last.verdict ≡ Unsatisfiable) × (0 ≡ report_status false unsaved verdict))
        ⊎ Short ends (report_status false unsaved verdict)
    short_so ends (Some fault) u verdict v =
        let asked = unsaved_asked ends.last fault u in
        let other = unsaved_open ends.last fault u in
        inr (not_kept asked.0 asked.1 fault u other (streams_of ends other) refl)
    short_so ends None u Unsatisfiable v = inl (v, refl)
    short_so ends None u UnsatisfiableUnder v =
        let asked = asked_under ends.given ends.command_line ends.cube ends.last ends.before ends.were v in
        let other : ¬ (ends.last.verdict ≡ Unsatisfiable) =
        λ refuted. let no : UnsatisfiableUnder ≡ Unsatisfiable = sym v ∙ refuted in cc in
        inr (under_cube asked.0 asked.1 v u (streams_of ends other) refl)
    short_so ends None u Unknown v =
        inr (stopped v u (lost_in ends.given ends.command_line ends.cube ends.last ends.before ends.were after ends.finished v u) refl)

    reported_so : (ends : EndsWithReport files words after out err status)
        → (failed : Bool) → out.failed ≡ failed → status ≡ report_status failed ends.last.unsaved ends.last.verdict
        → Goal
    reported_so ends true failed is =
        let why = short_so ends ends.last.unsaved refl ends.last.verdict refl in
        inr (unwritten ends failed (few_of ends) (elim why [
          | inl refuted ↦ inl refuted.0
          | inr falls ↦ inr (report_status false ends.last.unsaved ends.last.verdict, falls)
        ]) is)
    reported_so ends false written is =
        elim (short_so ends ends.last.unsaved refl ends.last.verdict refl) [
          | inl refuted ↦ inl (is ∙ sym refuted.1)
          | inr falls ↦ inr (short ends written (subst (Short ends) (sym is) falls))
        ]

    -- if there is no report, the cause is a fault of the machine
    failed_so : (ends : EndsWithFault files words after out err status) → IsCauseIn files words ends.number ends.fault after → Goal
    failed_so ends (inl first) =
        let machine = of_machine one_formula no_fault alike files words ask.asks after ends.fault first.1 in
        inr (no_report ends (omega (arith, first.0, ask.some)) (subst (λ (n : ℕ). (n ≡ 5) ⊎ (n ≡ 6)) (sym ends.status_is) machine))
    failed_so ends (inr later) =
        let cause = later.cause in
        let few = few_rounds later.given later.command_line later.cube later.last later.before later.were in
        let below = goes_below later.given later.command_line later.cube later.last later.before later.were few cause.0 cause.1 in
        let provided = provided_for later.given later.command_line later.cube later.last later.before later.were cause.0 cause.1 in
        let machine = of_round files.its later.given later.cube cause.1.folder (later.last.number + 1) later.last.sizes
        cause.0 later.last.after after Before Last last provided ends.fault cause.2 in
        inr (no_report ends (omega (arith, later.number_is, below)) (subst (λ (n : ℕ). (n ≡ 5) ⊎ (n ≡ 6)) (sym ends.status_is) machine))

    pub rounds_say : ProgramEnds files words after out err status → Goal
    rounds_say (inl ends) = reported_so ends out.failed refl ends.status_is
    rounds_say (inr ends) = failed_so ends ends.cause

pub outcome_of_valid_rounds : OneFormula → NoFormulaFault → EmptyCubeReported → OneCommandLine → ValidReported → ValidBegins
    → ValidEmpty → (files : FilesView) (last : ℕ) → OutcomeOfValidRounds files last
outcome_of_valid_rounds one_formula no_fault bare alike reported begins empty files last words s count after out err status ask =
    rounds_say AreValidAlone (IsRefutedAlone s count) s count (ends_alone reported) (refutes_alone begins empty s count) bare
    one_formula no_fault alike files words last ask after out err status
