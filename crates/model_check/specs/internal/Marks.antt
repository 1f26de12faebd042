-- A mark for each literal of a model: the element of an array whose index is the literal's code.
use Rattle.std.specs.Prelude.{◌↔◌, ◌+◌, ◌*◌, ◌<◌, ℕ, ℤ, Bool, false, IsTrue, List, length, slice_index_or}
use Rattle.lrup_model.specs.Literal.{code_of}
use Rattle.lrup_model.specs.Clause.{Has}

-- the literal is marked; one whose code is past the array's end isn't
unfoldable pub HasMark : List Bool → ℤ → Type 0
HasMark marks l = IsTrue (slice_index_or marks (code_of l) false)

-- exactly these literals are marked
abbrev pub AreMarked : List Bool → List ℤ → Type 0
AreMarked marks literals = (l : ℤ) → HasMark marks l ↔ Has literals l

-- there is a mark for each literal over the variables 1 to vars
abbrev pub HasMarks : ℕ → List Bool → Type 0
HasMarks vars marks = 2 * vars + 1 < length marks
