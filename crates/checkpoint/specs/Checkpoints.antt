-- Checkpoints: texts of formulas whose clauses follow from another formula (this project's own).
use Rattle.std.specs.Prelude.{◌≡◌, ◌≤◌, ◌++◌, ℕ, List, [], ◌∷◌, length, Option, Result, Ok, Err}
use Rattle.std.specs.Io.KnownBytes.{Appends}
use Rattle.std.specs.List.{AllByRecursion}
use Rattle.std.specs.Option.{ForSome}
use Rattle.lrup_model.specs.Clause.{Clause}
use Rattle.lrup_model.specs.Cube.{CubeValue, IsUnsatisfiableUnder}
use Rattle.lrup_model.specs.Entailment.{IsUnsatisfiable}
use Rattle.lrup_model.specs.Formula.{Cnf, max_clause_literals, max_clauses}
use Rattle.dimacs.specs.FormulaText.{IsFormulaText}
use Rattle.checkpoint.specs.Entails.{Entails}
use Rattle.checkpoint.specs.Live.{Entry, clauses_of}
use Rattle.checkpoint.specs.Printing.{formula_text, printed}
use Rattle.checkpoint.specs.declared.saving.SaveFault.{SaveFault}
use Rattle.checkpoint.specs.declared.saving.SaveFault.TheVariants as faults

-- the bytes are a text of a formula over the original's variables, whose clauses all follow from
-- the original
pub record IsCheckpoint (original : Cnf) (bytes : List ℕ) : Type 0 where
  pub formula : Cnf
  pub text : IsFormulaText bytes formula
  pub entails : Entails original formula

-- The bytes that were written are a checkpoint of the original. If `next` has a formula, it is the
-- checkpoint's formula.
pub record WritesCheckpoint (original : Cnf) (before after : Option (List ℕ))
    (next : Option Cnf) : Type 0 where
  pub bytes : List ℕ
  pub written : Appends before after bytes
  pub checkpoint : IsCheckpoint original bytes
  pub next_is : ForSome next (λ formula. formula ≡ checkpoint.formula)

-- the number of the clauses and the length of each are within the limits of a formula
abbrev pub AreWithinLimits : List Clause → Type 0
AreWithinLimits clauses =
    (length clauses ≤ max_clauses)
    × AllByRecursion (λ clause. length clause ≤ max_clause_literals) clauses

-- The result of saving clauses: their text was written, and the next formula, if given, is the
-- printed formula; or nothing was written, because there are too many clauses or one is too long;
-- or a write failed, and a prefix of the text was written.
abbrev pub Saves : Result (Option Cnf) SaveFault → ℕ → List Entry → Option (List ℕ)
    → Option (List ℕ) → Type 0
Saves (Ok next) vars entries before after =
    Appends before after (formula_text vars entries)
    × ForSome next (λ formula. formula ≡ printed vars entries)
Saves (Err faults.Memory) vars entries before after = ⊥
Saves (Err faults.TooLarge) vars entries before after =
    (¬ AreWithinLimits (clauses_of entries)) × Appends before after []
Saves (Err faults.Unwritten) vars entries before after =
    (went rest : List ℕ) × (formula_text vars entries ≡ went ++ rest) × Appends before after went

-- Chains of files

-- each file is a text of a formula, and the next one is a checkpoint of that formula
abbrev pub AreCheckpoints : List ℕ → List (List ℕ) → Type 0
AreCheckpoints bytes [] = Unit {0}
AreCheckpoints bytes (next ∷ more) =
    ((formula : Cnf) × IsFormulaText bytes formula × IsCheckpoint formula next)
    × AreCheckpoints next more

-- the last file of a chain
abbrev pub last_file : List ℕ → List (List ℕ) → List ℕ
last_file bytes [] = bytes
last_file bytes (next ∷ more) = last_file next more

-- the file is a text of a formula that no assignment satisfies
abbrev pub IsUnsatisfiableText : List ℕ → Type 0
IsUnsatisfiableText bytes = (formula : Cnf) × IsFormulaText bytes formula × IsUnsatisfiable formula

-- the file is a text of a formula, and no assignment satisfies it together with all literals of the
-- cube
abbrev pub IsUnsatisfiableTextUnder : CubeValue → List ℕ → Type 0
IsUnsatisfiableTextUnder cube bytes =
    (formula : Cnf) × IsFormulaText bytes formula × IsUnsatisfiableUnder formula cube

-- Laws

-- if the last file of a chain holds an unsatisfiable formula, so does the first
abbrev pub FilesRefute : Type 0
FilesRefute = (bytes : List ℕ) (more : List (List ℕ)) → AreCheckpoints bytes more
    → IsUnsatisfiableText (last_file bytes more) → IsUnsatisfiableText bytes

-- if the last file of a chain holds a formula that is unsatisfiable under a cube, so does the first
abbrev pub FilesRefuteUnder : Type 0
FilesRefuteUnder = (cube : CubeValue) (bytes : List ℕ) (more : List (List ℕ))
    → AreCheckpoints bytes more → IsUnsatisfiableTextUnder cube (last_file bytes more)
    → IsUnsatisfiableTextUnder cube bytes
