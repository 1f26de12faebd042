-- Runs of one round.
use Rattle.std.proofs.Common.{◌≡◌, ◌∙◌, ◌∷◌, ℕ, List, [], None, Some, inl, inr, refl, subst, sym}
use Rattle.lrup_model.specs.Cube.{CubeValue}
use Rattle.lrup_model.specs.Formula.{Cnf}
use Rattle.command_line.specs.CommandLine.{checkpoint_of, rounds_of}
use Rattle.command_line.specs.declared.words.CommandLine.{CommandLine}
use Rattle.command_line.specs.declared.words.Next.{Next}
use Rattle.command_line.specs.declared.words.Next.TheVariants.{Checkpoint, Nothing, Rounds}
use Rattle.run_files.specs.Files.{Effects, FilesView}
use Rattle.run_files.specs.Asked.{Text, created_path}
use Rattle.command.specs.Rounds.{AreRounds, CarriesOn, Round, RoundsEnd, WereRounds}

-- if the words ask for a checkpoint, it is the file that the round creates
pub creates_checkpoint : (next : Next) (path : Text) (number : ℕ) → checkpoint_of next ≡ Some path
    → created_path next number ≡ Some path
creates_checkpoint Nothing path number is = is
creates_checkpoint (Checkpoint other) path number is = is
creates_checkpoint (Rounds folder) path number is =
    absurd (let no : None ≡ Some path = is in cc)

-- Words that ask for no rounds.
module _ {given : CommandLine} (once : rounds_of given.next ≡ None) where
  -- the run doesn't continue after any round
  pub never_on : {its : Effects} {cube : CubeValue} (round : Round its given cube) (next : Cnf)
      → CarriesOn round next → ⊥
  never_on round next on = let no : None ≡ Some on.folder = sym once ∙ on.asked in cc

  -- there is only one round
  is_alone : {its : Effects} {cube : CubeValue} (formula : Cnf) (first : its.State)
      (last : Round its given cube) (before : List (Round its given cube))
      → AreRounds formula first (last ∷ before) → before ≡ []
  is_alone formula first last [] rounds = refl
  is_alone formula first last (b ∷ more) rounds =
      absurd (never_on b last.formula rounds.0.goes_on)

  pub was_alone : (files : FilesView) (cube : CubeValue) (last : Round files.its given cube)
      (before : List (Round files.its given cube)) → WereRounds files given cube last before
      → before ≡ []
  was_alone files cube last before were =
      is_alone were.formula were.later last before were.rounds

  pub were_one : (files : FilesView) (cube : CubeValue) (last : Round files.its given cube)
      (before : List (Round files.its given cube)) → WereRounds files given cube last before
      → WereRounds files given cube last []
  were_one files cube last before were =
      subst (WereRounds files given cube last) (was_alone files cube last before were) were

  -- nothing is done to the files after the last round
  pub is_over : {its : Effects} {cube : CubeValue} (last : Round its given cube) (after : its.State)
      → RoundsEnd last after → after ≡ last.after
  is_over last after (inl (barred, same)) = same
  is_over last after (inr (next, on, end)) = absurd (never_on last next on)
