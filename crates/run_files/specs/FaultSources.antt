-- The cause that each fault of a lower crate is mapped to (this project's own).
use Rattle.dimacs.specs.declared.fault.DimacsFault.{DimacsFault}
use Rattle.dimacs.specs.declared.fault.DimacsFault.TheVariants as formulas
use Rattle.lrup_text.specs.declared.cube.CubeFault.{CubeFault}
use Rattle.lrup_text.specs.declared.cube.CubeFault.TheVariants as cubes
use Rattle.run_outcome.specs.declared.outcome.RunFault.{RunFault}
use Rattle.run_outcome.specs.declared.outcome.RunFault.TheVariants as runs
use Rattle.command_line.specs.declared.words.WordsFault.{WordsFault}
use Rattle.command_line.specs.declared.words.WordsFault.TheVariants as words
use Rattle.run_files.specs.declared.fault.CommandFault.{CommandFault}
use Rattle.run_files.specs.declared.fault.CommandFault.TheVariants as faults
use Rattle.run_files.specs.declared.files.OpenFault.{OpenFault}
use Rattle.run_files.specs.declared.files.OpenFault.TheVariants as opens

-- the cause that reports a fault of the words, of the formula, of the assumed literals or of an
-- opening; running out of memory is the same cause everywhere
abbrev pub of_words : WordsFault → CommandFault
of_words (words.Usage text) = faults.Usage text
of_words words.TwoCheckpoints = faults.TwoCheckpoints
of_words words.Memory = faults.Memory

abbrev pub of_formula : DimacsFault → CommandFault
of_formula formulas.Memory = faults.Memory
of_formula fault = faults.Refused fault

abbrev pub of_cube : CubeFault → CommandFault
of_cube cubes.Memory = faults.Memory
of_cube fault = faults.CubeRefused fault

abbrev pub of_open : OpenFault → CommandFault
of_open opens.NotOpened = faults.Unread
of_open opens.Memory = faults.Memory

-- the cause that reports a fault of a run
abbrev pub of_run : RunFault → CommandFault
of_run (runs.Layout fault) = faults.Layout fault
of_run runs.Memory = faults.Memory
of_run (runs.Spawn stream) = faults.Spawn stream
of_run (runs.Ring stream) = faults.Ring stream
