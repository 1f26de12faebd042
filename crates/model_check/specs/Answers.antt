-- What an answer says of a formula, of assumed literals and of a solver's model (textbook).
use Rattle.std.specs.Borrow.{Bor}
use Rattle.std.specs.Prelude.{◌≡◌, ◌≢◌, ◌↔◌, ◌+◌, ◌≤◌, ℕ, ℤ, neg_ℤ, nat_abs, IsTrue, Option, Some, None, Result, Ok, Err, List, [], ◌∷◌, ◌++◌}
use Rattle.std.specs.Prelude.{option_map, length}
use Rattle.std.specs.Int.{is_positive}
use Rattle.std.specs.List.{AllByRecursion}
use Rattle.lrup_model.specs.Clause.{Clause, Has}
use Rattle.lrup_model.specs.Formula.{Cnf}
use Rattle.lrup_model.specs.Cube.{CubeValue, MakesAllTrue}
use Rattle.lrup_model.specs.Entailment.{Assignment, SatisfiesAll}
use Rattle.dimacs.specs.FormulaText.{IsFormulaText}
use Rattle.dimacs.specs.FormulaFault.{IsFormulaFault}
use Rattle.dimacs.specs.declared.fault.DimacsFault.TheVariants as formulas
use Rattle.lrup_text.specs.Cubes.{IsCubeText, IsCubeFault}
use Rattle.lrup_text.specs.declared.cube.CubeFault.{CubeFault}
use Rattle.lrup_text.specs.declared.cube.CubeFault.TheVariants as cubes
use Rattle.model_check.specs.ModelText.{IsModelText}
use Rattle.model_check.specs.Reading.{model_in}
use Rattle.model_check.specs.declared.answer.Answer.{Answer}
use Rattle.model_check.specs.declared.answer.Answer.TheVariants.{Satisfies, Contradiction, UntrueClause, UntrueAssumption}
use Rattle.model_check.specs.declared.fault.CheckFault.{CheckFault}
use Rattle.model_check.specs.declared.fault.CheckFault.TheVariants as faults
use Rattle.model_check.specs.declared.fault.ModelFault.{ModelFault}
use Rattle.model_check.specs.declared.fault.ModelFault.TheVariants as models

-- no literal stands beside its complement
abbrev pub AreConsistent : List ℤ → Type 0
AreConsistent literals = (l : ℤ) → Has literals l → ¬ Has literals (neg_ℤ l)

-- the clause has one of the literals
abbrev pub HasOneOf : List ℤ → Clause → Type 0
HasOneOf literals clause = (l : ℤ) × Has clause l × Has literals l

-- The literals are a model of the formula under the cube.
pub record IsModel (formula : Cnf) (cube : CubeValue) (literals : List ℤ) : Type 0 where
  pub consistent : AreConsistent literals
  pub clauses : AllByRecursion (HasOneOf literals) formula.clauses
  pub assumed : AllByRecursion (Has literals) cube

-- the first literal whose complement stands before it
pub record IsFirstContradiction (literals : List ℤ) (l : ℤ) : Type 0 where
  pub before : List ℤ
  pub after : List ℤ
  pub whole : literals ≡ before ++ l ∷ after
  pub consistent : AreConsistent before
  pub complement : Has before (neg_ℤ l)

-- the number, from 1, of the first clause that has none of the literals
pub record IsFirstUntrue (clauses : List Clause) (literals : List ℤ) (number : ℕ) : Type 0 where
  pub before : List Clause
  pub clause : Clause
  pub after : List Clause
  pub whole : clauses ≡ before ++ clause ∷ after
  pub number_is : number ≡ length before + 1
  pub others : AllByRecursion (HasOneOf literals) before
  pub untrue : ¬ HasOneOf literals clause

-- the assumed literal that isn't one of the literals, and has the smallest variable of these; if
-- both literals of the variable are such, the positive one
pub record IsFirstMissing (cube : CubeValue) (literals : List ℤ) (l : ℤ) : Type 0 where
  pub assumed : Has cube l
  pub missing : ¬ Has literals l
  pub smallest : (other : ℤ) → Has cube other → ¬ Has literals other → nat_abs l ≤ nat_abs other
  pub positive : Has cube (neg_ℤ l) → ¬ Has literals (neg_ℤ l) → IsTrue (is_positive l)

-- what the answer says of the model's literals
abbrev pub IsAnswer : Cnf → CubeValue → List ℤ → Answer → Type 0
IsAnswer formula cube literals Satisfies = IsModel formula cube literals
IsAnswer formula cube literals (Contradiction l) = IsFirstContradiction literals l
IsAnswer formula cube literals (UntrueClause number) =
    AreConsistent literals × IsFirstUntrue formula.clauses literals number
IsAnswer formula cube literals (UntrueAssumption l) =
    AreConsistent literals × AllByRecursion (HasOneOf literals) formula.clauses
    × IsFirstMissing cube literals l

-- The theorem, of a formula, a cube and literals: no literal stands beside its complement, some
-- assignment makes all the literals true, and every assignment that does makes every clause of the
-- formula and every literal of the cube true.
pub record AreSatisfiedBy (formula : Cnf) (cube : CubeValue) (literals : List ℤ) : Type 0 where
  pub consistent : AreConsistent literals
  pub some : (assignment : Assignment) × MakesAllTrue assignment literals
  pub every : (assignment : Assignment) → MakesAllTrue assignment literals
      → SatisfiesAll assignment formula × MakesAllTrue assignment cube

-- what is said of three files

-- the borrowed bytes, if any
abbrev pub bytes_of : Option (Bor (List ℕ)) → Option (List ℕ)
bytes_of lent = option_map (λ bytes. bytes.now) lent

-- the cube that a file's bytes are a text of; without a file the empty cube
abbrev pub IsAssumed : ℕ → Option (List ℕ) → CubeValue → Type 0
IsAssumed vars None cube = cube ≡ []
IsAssumed vars (Some bytes) cube = IsCubeText vars bytes cube

-- the files are texts of this formula, this cube and this model
pub record AreTexts (formula_bytes : List ℕ) (cube_bytes : Option (List ℕ))
    (model_bytes : List ℕ) (formula : Cnf) (cube : CubeValue) (literals : List ℤ) : Type 0 where
  pub formula_text : IsFormulaText formula_bytes formula
  pub cube_text : IsAssumed formula.vars cube_bytes cube
  pub model_text : IsModelText formula.vars model_bytes literals

-- the files are texts, and this is their answer
pub record AreAnswered (formula_bytes : List ℕ) (cube_bytes : Option (List ℕ))
    (model_bytes : List ℕ) (answer : Answer) : Type 0 where
  pub formula : Cnf
  pub cube : CubeValue
  pub literals : List ℤ
  pub texts : AreTexts formula_bytes cube_bytes model_bytes formula cube literals
  pub answer_is : IsAnswer formula cube literals answer

-- the fault of the assumed literals' file, if there is one
abbrev pub IsAssumedFault : ℕ → Option (List ℕ) → CubeFault → Type 0
IsAssumedFault vars None fault = ⊥
IsAssumedFault vars (Some bytes) fault = IsCubeFault vars bytes fault

-- the formula's file is a text, and this is the first fault of the assumed literals' file
pub record AreRefusedAssumptions (formula_bytes : List ℕ) (cube_bytes : Option (List ℕ))
    (fault : CubeFault) : Type 0 where
  pub formula : Cnf
  pub text : IsFormulaText formula_bytes formula
  pub some : fault ≢ cubes.Memory
  pub refused : IsAssumedFault formula.vars cube_bytes fault

-- the other two files are texts, and this is the first fault of the model's file
pub record IsRefusedModel (formula_bytes : List ℕ) (cube_bytes : Option (List ℕ))
    (model_bytes : List ℕ) (fault : ModelFault) : Type 0 where
  pub formula : Cnf
  pub cube : CubeValue
  pub text : IsFormulaText formula_bytes formula
  pub assumed : IsAssumed formula.vars cube_bytes cube
  pub some : fault ≢ models.Memory
  pub refused : model_in formula.vars model_bytes ≡ Err fault

-- why there is no answer: the first fault of the first file, in this order, that isn't a text; or
-- memory was refused, which says nothing about the files
abbrev pub AreRefused : List ℕ → Option (List ℕ) → List ℕ → CheckFault → Type 0
AreRefused formula_bytes cube_bytes model_bytes (faults.Formula fault) =
    (fault ≢ formulas.Memory) × IsFormulaFault formula_bytes fault
AreRefused formula_bytes cube_bytes model_bytes (faults.Assumptions fault) =
    AreRefusedAssumptions formula_bytes cube_bytes fault
AreRefused formula_bytes cube_bytes model_bytes (faults.Model fault) =
    IsRefusedModel formula_bytes cube_bytes model_bytes fault
AreRefused formula_bytes cube_bytes model_bytes faults.Memory = Unit {0}

-- The theorem: the files are texts, some assignment makes all the model's literals true, and every
-- assignment that does makes every clause of the formula and every assumed literal true.
pub record AreSatisfied (formula_bytes : List ℕ) (cube_bytes : Option (List ℕ))
    (model_bytes : List ℕ) : Type 0 where
  pub formula : Cnf
  pub cube : CubeValue
  pub literals : List ℤ
  pub texts : AreTexts formula_bytes cube_bytes model_bytes formula cube literals
  pub some : (assignment : Assignment) × MakesAllTrue assignment literals
  pub every : (assignment : Assignment) → MakesAllTrue assignment literals
      → SatisfiesAll assignment formula × MakesAllTrue assignment cube

-- unless memory was refused, the result is `Satisfies` exactly if this is the files' answer
abbrev pub IsExact : List ℕ → Option (List ℕ) → List ℕ → Result Answer CheckFault → Type 0
IsExact formula_bytes cube_bytes model_bytes result =
    result ≢ Err faults.Memory
    → (result ≡ Ok Satisfies) ↔ AreAnswered formula_bytes cube_bytes model_bytes Satisfies
