-- The sizes of a run, and who owns an identity. Ownership by residue, and the limits, are this
-- project's own.
use Rattle.std.specs.Prelude.{◌≡◌, ◌⊎◌, ◌+◌, ◌-◌, ◌*◌, ◌%◌, ◌≤◌, ◌<◌, ℕ, List, length, if◌then◌else◌, nat_eq, nat_le, codes}
use Rattle.lrup_model.specs.Literal.{max_variable}
use Rattle.lrup_model.specs.Formula.{Cnf, max_clauses, formula_literals}
use Rattle.lrup_model.specs.declared.layout.Owner.{Owner}
use Rattle.lrup_model.specs.declared.layout.Owner.TheVariants as owners
use Rattle.lrup_model.specs.declared.layout.LayoutFault.{LayoutFault}
use Rattle.lrup_model.specs.declared.layout.LayoutFault.TheVariants as faults

-- How many variables, clauses and literals the formula has, how many streams there are, and how
-- many identities and how much room, in literals, each stream has.
pub record LayoutValue : Type 0 where
  pub vars : ℕ
  pub clauses : ℕ
  pub literals : ℕ
  pub streams : ℕ
  pub lines : ℕ
  pub room : ℕ

-- the layout of these sizes
abbrev pub layout_value : ℕ → ℕ → ℕ → ℕ → ℕ → ℕ → LayoutValue
layout_value vars clauses literals streams lines room =
    record {
      vars = vars;
      clauses = clauses;
      literals = literals;
      streams = streams;
      lines = lines;
      room = room;
    }

-- the largest number of streams
abbrev pub max_streams : ℕ
max_streams = 64

-- the largest number of words in the shared row
abbrev pub max_row_words : ℕ
max_row_words = 268435456

-- the last identity: the formula's identities come first, then those that the streams own in turn
abbrev pub last_identity : LayoutValue → ℕ
last_identity layout = layout.clauses + layout.streams * layout.lines

-- how many words the shared row has: one that is always 0, one for each identity, and one for each
-- literal of the formula and of the streams' room
abbrev pub row_words : LayoutValue → ℕ
row_words layout = 1 + last_identity layout + layout.literals + layout.streams * layout.room

-- The sizes are within the limits.
pub record IsLayout (layout : LayoutValue) : Type 0 where
  pub vars : layout.vars ≤ max_variable
  pub clauses : layout.clauses ≤ max_clauses
  pub some_stream : 0 < layout.streams
  pub streams : layout.streams ≤ max_streams
  pub row : row_words layout ≤ max_row_words

-- The layout has the sizes of this formula.
pub record Fits (layout : LayoutValue) (formula : Cnf) : Type 0 where
  pub vars : layout.vars ≡ formula.vars
  pub clauses : layout.clauses ≡ length formula.clauses
  pub literals : layout.literals ≡ formula_literals formula

-- a number from 1 to the last identity
abbrev pub IsIdentity : LayoutValue → ℕ → Type 0
IsIdentity layout id = (0 < id) × (id ≤ last_identity layout)

-- the identities after the formula's belong to the streams, numbered from 1, in turn
abbrev pub owner : LayoutValue → ℕ → Owner
owner layout id =
    if nat_eq id 0 then owners.Outside
    else if nat_le id layout.clauses then owners.Formula
    else if nat_le id (last_identity layout)
    then owners.Stream ((id - layout.clauses - 1) % layout.streams + 1)
    else owners.Outside

-- the stream owns the identity
abbrev pub Owns : LayoutValue → ℕ → ℕ → Type 0
Owns layout s id = owner layout id ≡ owners.Stream s

-- the stream is one of the layout's
abbrev pub IsStream : LayoutValue → ℕ → Type 0
IsStream layout s = (0 < s) × (s ≤ layout.streams)

-- this is the first fault that the layout has, in the order in which the faults are listed
abbrev pub IsFault : LayoutValue → LayoutFault → Type 0
IsFault layout faults.TooManyVariables = max_variable < layout.vars
IsFault layout faults.TooManyClauses = (layout.vars ≤ max_variable) × (max_clauses < layout.clauses)
IsFault layout faults.BadStreamCount = (layout.vars ≤ max_variable) × (layout.clauses ≤ max_clauses)
    × ((layout.streams ≡ 0) ⊎ (max_streams < layout.streams))
IsFault layout faults.RowTooLong =
    (layout.vars ≤ max_variable) × (layout.clauses ≤ max_clauses) × (0 < layout.streams)
    × (layout.streams ≤ max_streams) × (max_row_words < row_words layout)

-- the report text of a fault
abbrev pub layout_fault_text : LayoutFault → List ℕ
layout_fault_text faults.TooManyVariables = codes "formula refused: limit"
layout_fault_text faults.TooManyClauses = codes "formula refused: limit"
layout_fault_text faults.BadStreamCount = codes "stream count"
layout_fault_text faults.RowTooLong = codes "row too long"
