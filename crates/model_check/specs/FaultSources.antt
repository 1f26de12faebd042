-- The fault that each fault of a file is mapped to (this project's own).
use Rattle.dimacs.specs.declared.fault.DimacsFault.{DimacsFault}
use Rattle.dimacs.specs.declared.fault.DimacsFault.TheVariants as formulas
use Rattle.lrup_text.specs.declared.cube.CubeFault.{CubeFault}
use Rattle.lrup_text.specs.declared.cube.CubeFault.TheVariants as cubes
use Rattle.model_check.specs.declared.fault.CheckFault.{CheckFault}
use Rattle.model_check.specs.declared.fault.CheckFault.TheVariants as faults
use Rattle.model_check.specs.declared.fault.ModelFault.{ModelFault}
use Rattle.model_check.specs.declared.fault.ModelFault.TheVariants as models

-- running out of memory is the same fault everywhere
abbrev pub refused_formula : DimacsFault → CheckFault
refused_formula formulas.Memory = faults.Memory
refused_formula fault = faults.Formula fault

abbrev pub refused_assumptions : CubeFault → CheckFault
refused_assumptions cubes.Memory = faults.Memory
refused_assumptions fault = faults.Assumptions fault

abbrev pub refused_model : ModelFault → CheckFault
refused_model models.Memory = faults.Memory
refused_model fault = faults.Model fault
