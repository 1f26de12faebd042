use Rattle.std.proofs.Common.{ℕ, List, [], ◌∷◌, Option, Some, codes, refl}
use Rattle.clap.proofs.OnLiterals.{clap_on_literals}
use Rattle.command_line.specs.CommandLine.{AskFor, AskForBoth, AskForRounds, AskToSave}
use Rattle.command_line_tests.proofs.tests.asked.words_ask_for_files.Goals as goal

assumed : AskFor (codes "--assume" ∷ codes "a" ∷ codes "f" ∷ codes "s" ∷ []) (codes "f") (Some (codes "a"))
unfolding clap_on_literals
assumed = record { good = refl; formula_is = refl; assume_is = refl }

fault : (formula : List ℕ) (assume : Option (List ℕ)) → ¬ AskFor (codes "--assume" ∷ codes "a" ∷ codes "f" ∷ []) formula assume
unfolding clap_on_literals
fault formula assume h = let e = h.good in cc

saved : AskToSave (codes "f" ∷ codes "--checkpoint=c" ∷ codes "s" ∷ []) (codes "c")
unfolding clap_on_literals
saved = record { good = refl; path_is = refl }

unsaved : (path : List ℕ) → ¬ AskToSave (codes "--assume" ∷ codes "a" ∷ codes "f" ∷ codes "s" ∷ []) path
unfolding clap_on_literals
unsaved path h = let e = h.path_is in cc

rounds : AskForRounds (codes "f" ∷ codes "--rounds=d" ∷ codes "s" ∷ []) (codes "d")
unfolding clap_on_literals
rounds = record { good = refl; folder_is = refl }

one_round : (folder : List ℕ) → ¬ AskForRounds (codes "--checkpoint" ∷ codes "d" ∷ codes "f" ∷ codes "s" ∷ []) folder
unfolding clap_on_literals
one_round folder h = let e = h.folder_is in cc

both : AskForBoth (codes "--checkpoint=c" ∷ codes "--rounds=d" ∷ codes "f" ∷ codes "s" ∷ [])
unfolding clap_on_literals
both = (codes "c", codes "d", record { good = refl; path_is = refl }, record { good = refl; folder_is = refl })

pub returns : goal.returns
returns c =
    record { assumed = assumed; fault = fault; saved = saved; unsaved = unsaved; rounds = rounds; one_round = one_round; both = both }
