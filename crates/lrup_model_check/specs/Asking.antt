-- What the words ask for (this project's own).
use Rattle.std.specs.Borrow.{Bor}
use Rattle.std.specs.Prelude.{◌≡◌, ◌⊎◌, ◌++◌, ◌==◌, ℕ, Bool, false, Option, Some, None, Ok, Result, List, [], ◌∷◌, codes, option_map}
use Rattle.model_check.specs.Answers.{AreAnswered, AreSatisfied}
use Rattle.model_check.specs.declared.answer.Answer.{Answer}
use Rattle.model_check.specs.declared.answer.Answer.TheVariants.{Satisfies}
use Rattle.lrup_model_check.specs.Answering.{IsAnswerFault}
use Rattle.lrup_model_check.specs.declared.answering.Fault.{Fault}
use Rattle.lrup_model_check.specs.declared.failure.Failure.{Failure}
use Rattle.lrup_model_check.specs.declared.failure.Failure.TheVariants as failures

-- more than a hyphen, which it begins with
abbrev pub begins_option : List ℕ → Bool
begins_option [] = false
begins_option (first ∷ []) = false
begins_option (first ∷ next ∷ bytes) = first == 45

-- the words before FORMULA
abbrev pub assume_words : Option (List ℕ) → List (List ℕ)
assume_words None = []
assume_words (Some path) = codes "--assume" ∷ path ∷ []

-- the words are `[--assume FILE] FORMULA MODEL`, with these paths
pub record NamePaths (words : List (List ℕ)) (assumed : Option (List ℕ))
    (formula model : List ℕ) : Type 0 where
  pub words_are : words ≡ assume_words assumed ++ formula ∷ model ∷ []
  pub formula_is : begins_option formula ≡ false
  pub model_is : begins_option model ≡ false

-- the borrowed path, if any
abbrev pub lent_path : Option (Bor (List ℕ)) → Option (List ℕ)
lent_path path = option_map (λ lent. lent.now) path

-- the file at the path, if there is one, gave these bytes
abbrev pub GaveIfAny : (List ℕ → List ℕ → Type 0) → Option (List ℕ) → Option (List ℕ) → Type 0
GaveIfAny gives None None = Unit {0}
GaveIfAny gives (Some path) (Some bytes) = gives path bytes
GaveIfAny gives _ _ = ⊥

-- the files at these paths gave these bytes
pub record GaveBytes (gives : List ℕ → List ℕ → Type 0) (assumed : Option (List ℕ))
    (formula model : List ℕ) (formula_bytes : List ℕ) (cube_bytes : Option (List ℕ))
    (model_bytes : List ℕ) : Type 0 where
  pub formula_gave : gives formula formula_bytes
  pub assumed_gave : GaveIfAny gives assumed cube_bytes
  pub model_gave : gives model model_bytes

-- the files at these paths gave bytes that have this answer
abbrev pub GaveAnswered : (List ℕ → List ℕ → Type 0) → Option (List ℕ) → (formula model : List ℕ)
    → Answer → Type 0
GaveAnswered gives assumed formula model answer =
    (formula_bytes : List ℕ) × (cube_bytes : Option (List ℕ)) × (model_bytes : List ℕ)
    × GaveBytes gives assumed formula model formula_bytes cube_bytes model_bytes
    × AreAnswered formula_bytes cube_bytes model_bytes answer

-- the files at these paths gave bytes that are satisfied
abbrev pub GaveSatisfied : (List ℕ → List ℕ → Type 0) → Option (List ℕ)
    → (formula model : List ℕ) → Type 0
GaveSatisfied gives assumed formula model =
    (formula_bytes : List ℕ) × (cube_bytes : Option (List ℕ)) × (model_bytes : List ℕ)
    × GaveBytes gives assumed formula model formula_bytes cube_bytes model_bytes
    × AreSatisfied formula_bytes cube_bytes model_bytes

-- the words name files that gave bytes with this answer
abbrev pub NameAnswered : (List ℕ → List ℕ → Type 0) → List (List ℕ) → Answer → Type 0
NameAnswered gives words answer =
    (assumed : Option (List ℕ)) × (formula : List ℕ) × (model : List ℕ)
    × NamePaths words assumed formula model × GaveAnswered gives assumed formula model answer

-- the words name files that gave bytes which are satisfied
abbrev pub NameSatisfied : (List ℕ → List ℕ → Type 0) → List (List ℕ) → Type 0
NameSatisfied gives words =
    (assumed : Option (List ℕ)) × (formula : List ℕ) × (model : List ℕ)
    × NamePaths words assumed formula model × GaveSatisfied gives assumed formula model

-- reading the file at the path, if there is one, may fail in this way
abbrev pub FailsIfAny : (List ℕ → Failure → Type 0) → Option (List ℕ) → Failure → Type 0
FailsIfAny fails None failure = ⊥
FailsIfAny fails (Some path) failure = fails path failure

-- reading one of the files at these paths may fail in this way
abbrev pub FailsAtOne : (List ℕ → Failure → Type 0) → Option (List ℕ) → (formula model : List ℕ)
    → Failure → Type 0
FailsAtOne fails assumed formula model failure =
    fails formula failure ⊎ FailsIfAny fails assumed failure ⊎ fails model failure

-- The files at these paths can be read, and whatever bytes they give, the answer is `Satisfies`.
pub record GiveSatisfied (gives : List ℕ → List ℕ → Type 0) (fails : List ℕ → Failure → Type 0)
    (assumed : Option (List ℕ)) (formula model : List ℕ) : Type 0 where
  pub can_be_read : (failure : Failure) → ¬ FailsAtOne fails assumed formula model failure
  pub satisfied : (formula_bytes : List ℕ) (cube_bytes : Option (List ℕ)) (model_bytes : List ℕ)
      → GaveBytes gives assumed formula model formula_bytes cube_bytes model_bytes
      → AreAnswered formula_bytes cube_bytes model_bytes Satisfies

-- the words name such files
abbrev pub NameGiveSatisfied : (List ℕ → List ℕ → Type 0) → (List ℕ → Failure → Type 0)
    → List (List ℕ) → Type 0
NameGiveSatisfied gives fails words =
    (assumed : Option (List ℕ)) × (formula : List ℕ) × (model : List ℕ)
    × NamePaths words assumed formula model × GiveSatisfied gives fails assumed formula model

-- Why the files at these paths have no answer, or only part of one was printed: one of them
-- couldn't be read, and nothing was printed; or they gave bytes, and the fault is that of `answer`.
abbrev pub IsFilesFailure : (List ℕ → List ℕ → Type 0) → (List ℕ → Failure → Type 0)
    → Option (List ℕ) → (formula model : List ℕ) → (before after : Option (List ℕ)) → Failure
    → Type 0
IsFilesFailure gives fails assumed formula model before after failure =
    (FailsAtOne fails assumed formula model failure × (after ≡ before))
    ⊎ ((formula_bytes : List ℕ) × (cube_bytes : Option (List ℕ)) × (model_bytes : List ℕ)
    × (fault : Fault) × GaveBytes gives assumed formula model formula_bytes cube_bytes model_bytes
    × (failure ≡ failures.Answer fault)
    × IsAnswerFault formula_bytes cube_bytes model_bytes before after fault)

-- Why there is no answer: the words name no files, and nothing was printed; or the named files have
-- none.
abbrev pub IsFailure : (List ℕ → List ℕ → Type 0) → (List ℕ → Failure → Type 0) → List (List ℕ)
    → (before after : Option (List ℕ)) → Failure → Type 0
IsFailure gives fails words before after failure =
    (((assumed : Option (List ℕ)) (formula model : List ℕ)
    → ¬ NamePaths words assumed formula model)
    × (failure ≡ failures.Usage) × (after ≡ before))
    ⊎ ((assumed : Option (List ℕ)) × (formula : List ℕ) × (model : List ℕ)
    × NamePaths words assumed formula model
    × IsFilesFailure gives fails assumed formula model before after failure)
