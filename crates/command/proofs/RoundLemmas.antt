-- Rounds, one after the other.
use Rattle.std.proofs.Common.{◌+◌, ◌<◌, ◌^◌, ◌∙◌, ◌∷◌, ◌≡◌, ◌⊎◌, Bool, List, None, Option, Some, [], ap, ap₂, arith}
use Rattle.std.proofs.Common.{false, inl, inr, is_some, refl, subst, sym, true, ℕ}
use Rattle.std.proofs.lemmas.Bool.{cases_lt}
use Rattle.std.specs.Borrow.{Bor}
use Rattle.std.specs.Option.{ForSome}
use Rattle.std.specs.Prelude.{◌↔◌, IsTrue}
use Rattle.lrup_model.specs.Cube.{CubeValue, IsUnsatisfiableUnder}
use Rattle.lrup_model.specs.Entailment.{IsUnsatisfiable}
use Rattle.lrup_model.specs.Formula.{Cnf, max_clauses}
use Rattle.lrup_model.specs.Layout.{IsFault, LayoutValue}
use Rattle.lrup_model.specs.Literal.{max_variable}
use Rattle.lrup_model.specs.declared.layout.LayoutFault.{LayoutFault}
use Rattle.lrup_model.specs.declared.layout.LayoutFault.TheVariants as layouts
use Rattle.checkpoint.specs.Entails.{RefutesBack, RefutesBackUnder}
use Rattle.checkpoint.specs.declared.saving.SaveFault.{SaveFault}
use Rattle.run_outcome.specs.Outcomes.{OptionsValue, run_params_of}
use Rattle.run_outcome.specs.declared.outcome.Verdict.{Verdict}
use Rattle.run_outcome.specs.declared.outcome.Verdict.TheVariants.{Unknown, Unsatisfiable, UnsatisfiableUnder}
use Rattle.command_line.specs.CommandLine.{rounds_of}
use Rattle.command_line.specs.declared.sizes.Sizes.{Sizes}
use Rattle.command_line.specs.declared.words.CommandLine.{CommandLine}
use Rattle.command_line.specs.declared.words.Next.{Next}
use Rattle.command_line.specs.declared.words.Next.TheVariants.{Checkpoint, Nothing, Rounds}
use Rattle.run_files.specs.Asked.{Text, options_by, run_params_by, sizes_of}
use Rattle.run_files.specs.Files.{AreSized, Effects, StreamsOpened}
use Rattle.run_files.specs.Paths.{sizes_path, stream_paths}
use Rattle.command.specs.Rounds.{AreRounds, IsRoundCause, Round, RoundsEnd}
use Rattle.command.specs.declared.course.CheckedRound.{CheckedRound}
use Rattle.command.specs.declared.course.RoundFault.{RoundFault}
use Rattle.command.specs.internal.RoundProgress.{EndsAt, FailsAfter, IsAlone, RoundsSoFar, WasFound, round_of}
use Rattle.command.specs.lemmas.SavedLemmas.{carried_entails}

-- what holds for a value holds for `Some` of it
pub for_some : {A : Type 0} (P : A → Type 0) (x : A) → P x → ForSome (Some x) P
for_some P x is other same = let known : x ≡ other = cc in subst P known is

-- a layout without a fault has at least one stream
pub some_streams : (layout : LayoutValue) → ((fault : LayoutFault) → IsFault layout fault → ⊥) → 0 < layout.streams
some_streams layout none = elim (cases_lt 0 layout.streams) [
  | inl some ↦ some
  | inr no_more ↦ elim (cases_lt max_variable layout.vars) [
    | inl many ↦ absurd (none layouts.TooManyVariables many)
    | inr vars ↦ elim (cases_lt max_clauses layout.clauses) [
      | inl many ↦ absurd (none layouts.TooManyClauses (vars, many))
      | inr clauses ↦ absurd (none layouts.BadStreamCount (vars, clauses, inl (omega (arith, no_more))))
    ]
  ]
]

module _ (its : Effects) (given : CommandLine) (cube : CubeValue) (formula : Cnf) (first : its.State) where
  -- the rounds so far
  abbrev SoFar : CheckedRound → Option Cnf → its.State → Type 0
  SoFar last next after = RoundsSoFar its given cube formula first last next after

  -- `SoFar` holds after round 1
  pub agrees_first : (last : CheckedRound) (next : Option Cnf) (opened after : its.State) (readers : List its.Reader) → last.number ≡ 1
      → StreamsOpened its first given.streams readers opened → WasFound its given cube formula readers opened last next after
      → last.sizes ≡ sizes_of given → SoFar last next after
  agrees_first last next opened after readers one are found sizes_are = record {
    current = formula;
    readers = readers;
    opened = opened;
    is_found = found;
    before = [];
    rounds = record { number = one; formula_is = refl; sizes_are = sizes_are; opened = are };
  }

  -- the last of the rounds
  abbrev now : {last : CheckedRound} {next : Option Cnf} {after : its.State} → SoFar last next after → Round its given cube
  now {last} {next} {after} so_far =
      round_of so_far.current so_far.readers so_far.opened last next after so_far.is_found.was

  -- `SoFar` holds after a later round
  pub agrees_next : (last found : CheckedRound) (formula_now : Cnf) (next : Option Cnf) (before sized opened after : its.State)
      (readers : List its.Reader) (folder : Text) → rounds_of given.next ≡ Some folder
      → found.number ≡ last.number + 1 → SoFar last (Some formula_now) before
      → AreSized its (sizes_path folder found.number) last.sizes before found.sizes sized
      → StreamsOpened its sized (stream_paths folder found.number found.sizes.streams) readers opened
      → WasFound its given cube formula_now readers opened found next after → SoFar found next after
  agrees_next last found formula_now next before sized opened after readers folder asked is so_far are_sized are was_found =
      let on = so_far.is_found.goes_on formula_now refl in
      let both : Some folder ≡ Some on.folder = sym asked ∙ on.asked in
      let same : folder ≡ on.folder = cc in
      record {
        current = formula_now;
        readers = readers;
        opened = opened;
        is_found = was_found;
        before = now so_far ∷ so_far.before;
        rounds = (
          record {
            number = is;
            goes_on = on;
            sized = sized;
            sizes = subst (λ (f : Text). AreSized its (sizes_path f found.number) last.sizes before found.sizes sized) same are_sized;
            opened = subst (λ (f : Text). StreamsOpened its sized (stream_paths f found.number found.sizes.streams) readers opened)
                same are;
          },
          so_far.rounds,
        );
      }

  -- the rounds end, for one of the reasons below
  ends_so : (last : CheckedRound) (next : Option Cnf) (before after : its.State) → (so_far : SoFar last next before)
      → RoundsEnd (now so_far) after → EndsAt its given cube formula first last after
  ends_so last next before after so_far finished = record {
    round = now so_far;
    before = so_far.before;
    rounds = so_far.rounds;
    is = record { number = refl; reports = refl; verdict = refl; unsaved = refl };
    finished = finished;
  }

  -- the rounds end if the words don't ask for rounds
  pub ends_alone : (last : CheckedRound) (next : Option Cnf) (after : its.State) → rounds_of given.next ≡ None → SoFar last next after
      → EndsAt its given cube formula first last after
  ends_alone last next after once so_far = ends_so last next after after so_far (inl (inl once, refl))

  -- the rounds end if the run doesn't continue after the last one
  pub ends_barred : (last : CheckedRound) (after : its.State) → SoFar last None after → EndsAt its given cube formula first last after
  ends_barred last after so_far = ends_so last None after after so_far (inl (so_far.is_found.finished refl, refl))

  -- the rounds end if the next one has no stream 1
  pub ends_without : (last : CheckedRound) (next : Cnf) (before after : its.State) (folder : Text) → rounds_of given.next ≡ Some folder
      → SoFar last (Some next) before → IsAlone its folder last before after → EndsAt its given cube formula first last after
  ends_without last next before after folder asked so_far alone =
      let on = so_far.is_found.goes_on next refl in
      let both : Some folder ≡ Some on.folder = sym asked ∙ on.asked in
      let same : folder ≡ on.folder = cc in
      ends_so last (Some next) before after so_far
      (inr (next, on, inl (subst (λ (f : Text). IsAlone its f last before after) same alone)))

  -- the rounds end if the next one's number would be too high
  pub ends_high : (last : CheckedRound) (next : Option Cnf) (after : its.State) → SoFar last next after
      → 2 ^ 64 < last.number + 3 → EndsAt its given cube formula first last after
  ends_high last None after so_far high = ends_barred last after so_far
  ends_high last (Some next) after so_far high =
      ends_so last (Some next) after after so_far (inr (next, so_far.is_found.goes_on next refl, inr (high, refl)))

  -- the rounds end with a fault if the next one has no report
  pub fails_after : (last : CheckedRound) (next : Cnf) (before after : its.State) (failed : RoundFault) (folder : Text)
      → rounds_of given.next ≡ Some folder → SoFar last (Some next) before
      → IsRoundCause its given cube folder failed.round last.sizes next before failed.fault after → failed.round ≡ last.number + 1
      → FailsAfter its given cube formula first failed after
  fails_after last next before after failed folder asked so_far cause number_is =
      let on = so_far.is_found.goes_on next refl in
      let both : Some folder ≡ Some on.folder = sym asked ∙ on.asked in
      let same : folder ≡ on.folder = cc in
      let Cause : Text → ℕ → Type 0 = λ f n. IsRoundCause its given cube f n last.sizes next before failed.fault after in
      record {
        last = now so_far;
        before = so_far.before;
        rounds = so_far.rounds;
        number = number_is;
        cause = (next, on, subst (Cause on.folder) number_is (subst (λ (f : Text). Cause f failed.round) same cause));
      }

  -- if a round refutes its formula, the first formula is refuted
  rounds_refute : RefutesBack → (round : Round its given cube) (before : List (Round its given cube))
      → AreRounds formula first (round ∷ before) → IsUnsatisfiable round.formula → IsUnsatisfiable formula
  rounds_refute law round [] rounds refuted = subst IsUnsatisfiable rounds.formula_is refuted
  rounds_refute law round (b ∷ more) rounds refuted =
      rounds_refute law b more rounds.1
      (law b.formula round.formula (carried_entails b round.formula rounds.0.goes_on) refuted)

  rounds_refute_under : RefutesBackUnder → (round : Round its given cube) (before : List (Round its given cube))
      → AreRounds formula first (round ∷ before) → IsUnsatisfiableUnder round.formula cube → IsUnsatisfiableUnder formula cube
  rounds_refute_under law round [] rounds refuted = subst (λ (f : Cnf). IsUnsatisfiableUnder f cube) rounds.formula_is refuted
  rounds_refute_under law round (b ∷ more) rounds refuted =
      rounds_refute_under law b more rounds.1
      (law b.formula round.formula cube (carried_entails b round.formula rounds.0.goes_on) refuted)

  pub ends_sound : RefutesBack → (last : CheckedRound) (after : its.State) → EndsAt its given cube formula first last after
      → last.verdict ≡ Unsatisfiable → IsUnsatisfiable formula
  ends_sound law last after ends is =
      rounds_refute law ends.round ends.before ends.rounds (ends.round.checked.sound (sym ends.is.verdict ∙ is))

  pub ends_sound_under : RefutesBackUnder → (last : CheckedRound) (after : its.State) → EndsAt its given cube formula first last after
      → last.verdict ≡ UnsatisfiableUnder → IsUnsatisfiableUnder formula cube
  ends_sound_under law last after ends is =
      rounds_refute_under law ends.round ends.before ends.rounds (ends.round.checked.sound_under (sym ends.is.verdict ∙ is))

-- the parameters of a round, from the program's options, cube and number of streams
pub run_params_same : (f : Cnf) (given : CommandLine) (cube other : CubeValue) (options : OptionsValue) (sizes : Sizes) (count : ℕ)
    → options ≡ options_by given.tries sizes → other ≡ cube → count ≡ sizes.streams
    → run_params_of options other f count ≡ run_params_by given cube f sizes
run_params_same f given cube other options sizes count options_are cube_is count_is =
    ap₂ (λ o n. run_params_of o other f n) options_are count_is
    ∙ ap (λ c. run_params_of (options_by given.tries sizes) c f sizes.streams) cube_is

-- why the run doesn't continue: because of the words, the verdict, the save or the reports
pub barred_by : (next : Next) (verdict : Verdict) (unsaved : Option SaveFault) (Ended : Type 0) (goes_on : Bool)
    → (IsTrue goes_on ↔ (IsTrue (is_some (rounds_of next)) × ((verdict ≡ Unknown) × Ended)))
    → ((folder : Text) → rounds_of next ≡ Some folder → goes_on ≡ true
    → (verdict ≡ Unsatisfiable) ⊎ ((fault : SaveFault) × (unsaved ≡ Some fault)))
    → (rounds_of next ≡ None) ⊎ ((¬ (verdict ≡ Unknown)) ⊎ (((fault : SaveFault) × (unsaved ≡ Some fault)) ⊎ (¬ Ended)))
barred_by Nothing verdict unsaved Ended goes_on may unless = inl refl
barred_by (Checkpoint path) verdict unsaved Ended goes_on may unless = inl refl
barred_by (Rounds folder) Unsatisfiable unsaved Ended goes_on may unless = inr (inl (λ is. let no : Unsatisfiable ≡ Unknown = is in cc))
barred_by (Rounds folder) UnsatisfiableUnder unsaved Ended goes_on may unless =
    inr (inl (λ is. let no : UnsatisfiableUnder ≡ Unknown = is in cc))
barred_by (Rounds folder) Unknown unsaved Ended true may unless = elim (unless folder.now refl refl) [
  | inl refuted ↦ inr (inl (λ is. let no : Unknown ≡ Unsatisfiable = refuted in cc))
  | inr failed ↦ inr (inr (inl failed))
]
barred_by (Rounds folder) Unknown unsaved Ended false may unless =
    inr (inr (inr (λ ended. let yes : false ≡ true = may.1 (refl, (refl, ended)) in cc)))

-- the folder of the rounds that the words ask for
pub folder_of : (next : Next) → is_some (rounds_of next) ≡ true → (folder : Text) × (rounds_of next ≡ Some folder)
folder_of Nothing asked = absurd (let no : false ≡ true = asked in cc)
folder_of (Checkpoint path) asked = absurd (let no : false ≡ true = asked in cc)
folder_of (Rounds folder) asked = (folder.now, refl)

-- words without a folder of rounds ask for no rounds
pub once_of : (next : Next) → ((folder : Bor Text) → next ≡ Rounds folder → ⊥) → rounds_of next ≡ None
once_of Nothing other = refl
once_of (Checkpoint path) other = refl
once_of (Rounds folder) other = absurd (other folder refl)
