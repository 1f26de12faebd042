-- The texts of the faults of a line (this project's own).
use Rattle.std.specs.Prelude.{◌++◌, ℕ, List, [], Option, None, Some, codes}
use Rattle.std.specs.Fmt.{decimal}
use Rattle.lrup_text.specs.declared.LineFault.TheVariants as texts
use Rattle.stream_check.specs.declared.fault.Fault.{Fault}
use Rattle.stream_check.specs.declared.fault.Fault.TheVariants as faults

-- the text of a fault, with numbers in decimal
abbrev pub fault_text : Fault → List ℕ
fault_text (faults.Text texts.Spelling) = codes "spelling"
fault_text (faults.Text texts.TooLong) = codes "too long"
fault_text (faults.Text texts.Truncated) = codes "truncated"
fault_text (faults.Text texts.RatHint) = codes "rat hint"
fault_text faults.Identity = codes "identity"
fault_text faults.Literal = codes "literal"
fault_text faults.Tautology = codes "tautology"
fault_text faults.NoRoom = codes "no room"
fault_text (faults.Dropped hint) = codes "dropped " ++ decimal hint
fault_text (faults.Missing hint) = codes "missing " ++ decimal hint
fault_text (faults.Retired hint) = codes "retired " ++ decimal hint
fault_text (faults.NotUnit hint) = codes "not unit " ++ decimal hint
fault_text (faults.Excess hint) = codes "excess " ++ decimal hint
fault_text faults.NoConflict = codes "no conflict"
fault_text (faults.NotLive id) = codes "not live " ++ decimal id
fault_text (faults.Differs id) = codes "differs " ++ decimal id

-- a number in decimal, if there is one
abbrev pub number_text : Option ℕ → List ℕ
number_text None = []
number_text (Some n) = decimal n
