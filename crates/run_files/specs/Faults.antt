-- Why the program ends without a report or without its checkpoint: the messages and the statuses
-- (this project's own).
use Rattle.std.specs.Prelude.{ℕ, List, [], ◌++◌, ◌==◌, if◌then◌else◌, codes}
use Rattle.std.specs.Fmt.{decimal}
use Rattle.checkpoint.specs.declared.saving.SaveFault.{SaveFault}
use Rattle.checkpoint.specs.declared.saving.SaveFault.TheVariants as saves
use Rattle.dimacs.specs.declared.fault.DimacsFault.{DimacsFault}
use Rattle.dimacs.specs.declared.fault.DimacsFault.TheVariants as formulas
use Rattle.lrup_model.specs.Layout.{layout_fault_text}
use Rattle.lrup_model.specs.declared.layout.LayoutFault.{LayoutFault}
use Rattle.lrup_model.specs.declared.layout.LayoutFault.TheVariants as layouts
use Rattle.lrup_text.specs.declared.cube.CubeFault.{CubeFault}
use Rattle.lrup_text.specs.declared.cube.CubeFault.TheVariants as cubes
use Rattle.run_files.specs.declared.fault.CommandFault.{CommandFault}
use Rattle.run_files.specs.declared.fault.CommandFault.TheVariants as faults

-- The statuses.
abbrev pub layout_status : LayoutFault → ℕ
layout_status layouts.TooManyVariables = 4
layout_status layouts.TooManyClauses = 4
layout_status layouts.BadStreamCount = 2
layout_status layouts.RowTooLong = 2

abbrev pub status_of : CommandFault → ℕ
status_of (faults.Usage text) = 2
status_of faults.Unread = 5
status_of (faults.Refused fault) = 4
status_of faults.CubeUnread = 5
status_of (faults.CubeRefused fault) = 4
status_of (faults.NotOpened stream) = 5
status_of (faults.Layout fault) = layout_status fault
status_of (faults.Spawn stream) = 6
status_of (faults.Ring stream) = 6
status_of faults.Memory = 6
status_of faults.Unwritten = 7
status_of faults.NotCreated = 5
status_of (faults.NotSaved fault) = 9
status_of faults.TwoCheckpoints = 2
status_of faults.SizesUnread = 5
status_of faults.Sizes = 2

-- The messages: for a usage fault the text from `clap`, for each other fault one line.
abbrev pub formula_fault_text : DimacsFault → List ℕ
formula_fault_text formulas.NoHeader = codes "formula refused: no header"
formula_fault_text formulas.BadHeader = codes "formula refused: bad header"
formula_fault_text (formulas.BadNumber line) =
    codes "formula refused: bad number in line " ++ decimal line
formula_fault_text (formulas.VariableRange line) =
    codes "formula refused: variable out of range in line " ++ decimal line
formula_fault_text formulas.OpenClause = codes "formula refused: open clause"
formula_fault_text formulas.TooFew = codes "formula refused: too few clauses"
formula_fault_text (formulas.TooMany line) =
    codes "formula refused: too many clauses in line " ++ decimal line
formula_fault_text formulas.Limit = codes "formula refused: limit"
formula_fault_text formulas.Memory = codes "out of memory"

abbrev pub cube_fault_text : CubeFault → List ℕ
cube_fault_text cubes.Spelling = codes "assumptions refused: spelling"
cube_fault_text cubes.TooLong = codes "assumptions refused: too long"
cube_fault_text cubes.Range = codes "assumptions refused: variable out of range"
cube_fault_text cubes.Memory = codes "out of memory"

abbrev pub save_fault_text : SaveFault → List ℕ
save_fault_text saves.Memory = codes "checkpoint not written: out of memory"
save_fault_text saves.TooLarge = codes "checkpoint refused: limit"
save_fault_text saves.Unwritten = codes "checkpoint not written"

abbrev pub cause_text : CommandFault → List ℕ
cause_text (faults.Usage text) = text
cause_text faults.Unread = codes "cannot read formula"
cause_text (faults.Refused fault) = formula_fault_text fault
cause_text faults.CubeUnread = codes "cannot read assumptions"
cause_text (faults.CubeRefused fault) = cube_fault_text fault
cause_text (faults.NotOpened stream) = codes "cannot open stream " ++ decimal stream
cause_text (faults.Layout fault) = layout_fault_text fault
cause_text (faults.Spawn stream) = codes "worker " ++ decimal stream ++ codes " not started"
cause_text (faults.Ring stream) = codes "ring of stream " ++ decimal stream
cause_text faults.Memory = codes "out of memory"
cause_text faults.Unwritten = codes "cannot write report"
cause_text faults.NotCreated = codes "cannot create checkpoint"
cause_text (faults.NotSaved fault) = save_fault_text fault
cause_text faults.TwoCheckpoints = codes "--checkpoint and --rounds exclude each other"
cause_text faults.SizesUnread = codes "cannot read sizes"
cause_text faults.Sizes = codes "sizes"

-- an error line
abbrev pub error_line : List ℕ → List ℕ
error_line cause = codes "lrupd: " ++ cause ++ codes "\n"

abbrev pub error_text : CommandFault → List ℕ
error_text (faults.Usage text) = text
error_text fault = error_line (cause_text fault)

-- the prefix of a line that names the round, from round 2 on
abbrev pub of_round : ℕ → List ℕ
of_round round = if round == 1 then [] else codes "round " ++ decimal round ++ codes ": "

-- an error line about a round
abbrev pub round_error_line : ℕ → List ℕ → List ℕ
round_error_line round cause = error_line (of_round round ++ cause)

-- the message for a fault of a round; from round 2 on, it names the round
abbrev pub round_error_text : ℕ → CommandFault → List ℕ
round_error_text round (faults.Usage text) = text
round_error_text round fault = round_error_line round (cause_text fault)
