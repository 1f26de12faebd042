-- An answer read token by token, which gives its first fault: a definition for the faults. A law
-- says that this reads exactly the texts of `IsModelText`. (The faults and their order are this
-- project's own.)
use Rattle.std.specs.Prelude.{◌+◌, ◌==◌, ℕ, ℤ, nat_abs, nat_le, Bool, true, false, Option, Some, None, Result, Ok, Err, List, [], ◌∷◌}
use Rattle.std.specs.Prelude.{◌++◌, if◌then◌else◌}
use Rattle.std.specs.List.{slice_split}
use Rattle.dimacs.specs.Lines.{ends_line, is_comment, runs}
use Rattle.dimacs.specs.Numerals.{number_of}
use Rattle.model_check.specs.ModelText.{is_v, is_s}
use Rattle.model_check.specs.declared.fault.ModelFault.{ModelFault}
use Rattle.model_check.specs.declared.fault.ModelFault.TheVariants.{OtherLine, BadNumber, VariableRange, AfterEnd, NoEnd}

-- what was read: the literals so far, and whether the 0 at their end was read
pub record Assigned : Type 0 where
  pub literals : List ℤ
  pub ended : Bool

-- what was read, or the first fault
abbrev pub Outcome : Type 0
Outcome = Result Assigned ModelFault

-- reads on, if there is no fault yet
abbrev pub onward : Outcome → (Assigned → Outcome) → Outcome
onward (Ok read) next = next read
onward (Err fault) next = Err fault

-- one more number, in the line with this number
abbrev pub take_number : ℕ → ℕ → List ℤ → Option ℤ → Outcome
take_number vars line literals None = Err (BadNumber line)
take_number vars line literals (Some number) =
    if nat_abs number == 0 then Ok (record { literals = literals; ended = true })
    else (if nat_le (nat_abs number) vars
    then Ok (record { literals = literals ++ number ∷ []; ended = false })
    else Err (VariableRange line))

-- one more token
abbrev pub take_token : ℕ → ℕ → List ℕ → Assigned → Outcome
take_token vars line token read =
    if read.ended then Err (AfterEnd line)
    else take_number vars line read.literals (number_of token)

-- the tokens after the `v` of a line
abbrev pub take_tokens : ℕ → ℕ → List (List ℕ) → Assigned → Outcome
take_tokens vars line [] read = Ok read
take_tokens vars line (token ∷ tokens) read =
    onward (take_token vars line token read) (take_tokens vars line tokens)

-- a line that isn't a comment, by its tokens
abbrev pub take_line : ℕ → ℕ → List (List ℕ) → Assigned → Outcome
take_line vars line [] read = Ok read
take_line vars line (first ∷ tokens) read =
    if is_v first then take_tokens vars line tokens read
    else (if is_s first then Ok read else Err (OtherLine line))

-- a line, by its bytes
abbrev pub take_bytes : ℕ → ℕ → List ℕ → Assigned → Outcome
take_bytes vars line bytes read =
    if is_comment bytes then Ok read else take_line vars line (runs bytes) read

-- lines, the first of which has this number
abbrev pub take_lines : ℕ → ℕ → List (List ℕ) → Assigned → Outcome
take_lines vars line [] read = Ok read
take_lines vars line (bytes ∷ later) read =
    onward (take_bytes vars line bytes read) (take_lines vars (line + 1) later)

-- the literals, at the end of the file
abbrev pub at_end : Outcome → Result (List ℤ) ModelFault
at_end (Ok read) = (if read.ended then Ok read.literals else Err NoEnd)
at_end (Err fault) = Err fault

-- all lines of a file
abbrev pub all_lines : ℕ → List ℕ → Outcome
all_lines vars bytes =
    take_lines vars 1 (slice_split ends_line bytes) (record { literals = []; ended = false })

-- the literals of an answer over the variables 1 to vars, or its first fault
abbrev pub model_in : ℕ → List ℕ → Result (List ℤ) ModelFault
model_in vars bytes = at_end (all_lines vars bytes)
