-- What the program prints of an answer (this project's own).
use Rattle.std.specs.Fmt.{decimal, signed_decimal}
use Rattle.std.specs.Io.KnownBytes.{Appends}
use Rattle.std.specs.Prelude.{◌++◌, ◌∷◌, ◌≡◌, ℕ, ℤ, List, [], Option, codes}
use Rattle.lrup_text.specs.Writing.{space}
use Rattle.model_check.specs.Answers.{AreAnswered, AreRefused}
use Rattle.model_check.specs.declared.answer.Answer.{Answer}
use Rattle.model_check.specs.declared.answer.Answer.TheVariants.{Satisfies, Contradiction, UntrueClause, UntrueAssumption}
use Rattle.lrup_model_check.specs.declared.answering.Fault.{Fault}
use Rattle.lrup_model_check.specs.declared.answering.Fault.TheVariants as faults

-- a literal and a space, between two texts
abbrev pub literal_text : List ℕ → ℤ → List ℕ → List ℕ
literal_text front l rest = front ++ (signed_decimal l ++ space ∷ []) ++ rest

-- what is printed of an answer
abbrev pub answer_text : Answer → List ℕ
answer_text Satisfies = codes "s SATISFIABLE\n"
answer_text (Contradiction l) =
    literal_text (codes "c the complement of literal ") l (codes "stands before it\n")
answer_text (UntrueClause number) =
    codes "c clause " ++ decimal number ++ codes " has no true literal\n"
answer_text (UntrueAssumption l) =
    literal_text (codes "c assumed literal ") l (codes "isn't true\n")

-- Why there is no answer, or only part of one was printed: the files were refused, and nothing was
-- printed; or a write failed, and a prefix of the files' answer was printed.
abbrev pub IsAnswerFault : List ℕ → Option (List ℕ) → List ℕ → Option (List ℕ) → Option (List ℕ)
    → Fault → Type 0
IsAnswerFault formula_bytes cube_bytes model_bytes before after (faults.Check fault) =
    AreRefused formula_bytes cube_bytes model_bytes fault × (after ≡ before)
IsAnswerFault formula_bytes cube_bytes model_bytes before after faults.Unwritten =
    (answer : Answer) × AreAnswered formula_bytes cube_bytes model_bytes answer
    × (went rest : List ℕ) × (answer_text answer ≡ went ++ rest) × Appends before after went
