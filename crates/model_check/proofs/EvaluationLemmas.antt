-- Loops over clauses and assumed literals.
use Rattle.std.proofs.Common.{◌≡◌, ◌+◌, ◌*◌, ◌<◌, ◌≤◌, ℕ, ℤ, List, ◌∷◌, ◌++◌, length, Bool, get_or, take, drop, suc, refl, sym, ap, subst}
use Rattle.std.proofs.Common.{◌∙◌}
use Rattle.std.specs.List.{AllByRecursion}
use Rattle.std.proofs.Math.Seq.{split_at}
use Rattle.std.proofs.lemmas.List.{take_all}
use Rattle.std.proofs.lemmas.Option.{slice_get_read}
use Rattle.lrup_model.specs.Literal.{IsLiteral, code_of}
use Rattle.lrup_model.specs.Clause.{Clause, Has}
use Rattle.lrup_model.specs.Cube.{CubeValue, IsCubeOver}
use Rattle.lrup_model.specs.lemmas.ClauseLemmas.{All-Has, Has-at, take-read}
use Rattle.lrup_model.specs.lemmas.CodeLemmas.{IsCode-code_of}
use Rattle.lrup_model.specs.lemmas.ListLemmas.{All-push}
use Rattle.model_check.specs.Answers.{HasOneOf}
use Rattle.model_check.specs.internal.Marks.{AreMarked, HasMark}

-- a literal that a loop reads is in the list
pub has_read : (xs : List ℤ) (k : ℕ) (x : ℤ) → k < length xs → x ≡ get_or xs k x → Has xs x
has_read xs k x lt e = Has-at xs k x (slice_get_read xs (length xs) k x refl lt e)

-- the list, cut at the element that a loop reads
pub cut_read : (xs : List ℤ) (k : ℕ) (x : ℤ) → k < length xs → x ≡ get_or xs k x → xs ≡ take k xs ++ x ∷ drop (suc k) xs
cut_read xs k x lt e = split_at xs k x lt ∙ ap (λ (z : ℤ). take k xs ++ z ∷ drop (suc k) xs) (sym e)

pub all_more : (P : ℤ → Type 0) (xs : List ℤ) (k : ℕ) (x : ℤ) → k < length xs → x ≡ get_or xs k x → AllByRecursion P (take k xs)
    → P x → AllByRecursion P (take (k + 1) xs)
all_more P xs k x lt e all one = subst (AllByRecursion P) (sym (take-read xs k x lt e)) (All-push P (take k xs) x all one)

-- no literal of the clause is marked
pub none_of : (marked : List Bool) (literals : List ℤ) (clause : Clause) (k : ℕ) → length clause ≤ k
    → AllByRecursion (λ x. ¬ HasMark marked x) (take k clause) → AreMarked marked literals → ¬ HasOneOf literals clause
none_of marked literals clause k past none marks one =
    let all : AllByRecursion (λ x. ¬ HasMark marked x) clause =
    subst (AllByRecursion (λ x. ¬ HasMark marked x)) (take_all k clause past) none in
    All-Has (λ x. ¬ HasMark marked x) clause one.0 all one.1 ((marks one.0).1 one.2)

-- a literal of a cube has a code in the range that the loop goes through
pub code_within : (vars : ℕ) (cube : CubeValue) (x : ℤ) → IsCubeOver vars cube → Has cube x → (2 ≤ code_of x) × (code_of x ≤ 2 * vars + 1)
code_within vars cube x over here = IsCode-code_of vars x (All-Has (IsLiteral vars) cube x over here)
