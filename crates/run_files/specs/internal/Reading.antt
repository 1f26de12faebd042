-- What was read from a file, and how a cause is spelled: definitions for contracts of private
-- functions (this project's own).
use Rattle.std.specs.Option.{ForSome}
use Rattle.std.specs.Prelude.{◌++◌, ◌≡◌, ◌≤◌, ◌⊎◌, List, Option, length, ℕ}
use Rattle.lrup_text.specs.ReadOut.{SourceView}
use Rattle.lrup_text.specs.Reads.{Gave, GaveAll}
use Rattle.stream_check.specs.Faults.{number_text}
use Rattle.command_line.specs.Sizes.{HaveNoSizes, IsSizesText}
use Rattle.command_line.specs.declared.sizes.Sizes.{Sizes}
use Rattle.run_files.specs.Causes.{HasBrokenOff}
use Rattle.run_files.specs.declared.fault.CommandFault.{CommandFault}
use Rattle.run_files.specs.declared.fault.CommandFault.TheVariants as faults

-- why a file that was opened wasn't read to its end
abbrev pub IsFailedRead : {R : Type 0} → SourceView R → R → CommandFault → Type 0
IsFailedRead reading first faults.Unread = HasBrokenOff reading first
IsFailedRead reading first faults.Memory = Unit {0}
IsFailedRead reading first fault = ⊥

-- Reading a file up to its end gave these bytes. If its contents are known, they are these bytes.
pub record GaveWhole {R : Type 0} (reading : SourceView R) (first : R)
    (bytes : List ℕ) : Type 0 where
  pub gave : GaveAll R reading.reads first bytes
  pub known : ForSome (reading.left first) (λ all. all ≡ bytes)

-- Reading the file gave a text of these sizes.
abbrev pub ReadsSizes : {R : Type 0} → SourceView R → R → Sizes → Type 0
ReadsSizes reading first sizes =
    (bytes : List ℕ) × GaveWhole reading first bytes × IsSizesText bytes sizes

-- why no sizes were read
abbrev pub IsUnsized : {R : Type 0} → SourceView R → R → CommandFault → Type 0
IsUnsized reading first faults.SizesUnread =
    (broken : HasBrokenOff reading first) × (length broken.bytes ≤ 64)
IsUnsized {R = R} reading first faults.Sizes =
    ((bytes : List ℕ) × GaveWhole reading first bytes × HaveNoSizes bytes × (length bytes ≤ 64))
    ⊎ ((bytes : List ℕ) × (last : R) × Gave R reading.reads first bytes last × (length bytes ≡ 64)
    × ForSome (reading.left first) (λ all. (rest : List ℕ) × (all ≡ bytes ++ rest)))
IsUnsized reading first faults.Memory = Unit {0}
IsUnsized reading first fault = ⊥

-- the fault of reading a cube's file, given what the fault would be for the formula's file
abbrev pub of_cube_file : CommandFault → CommandFault
of_cube_file faults.Unread = faults.CubeUnread
of_cube_file fault = fault

-- a text, a number if there is one, and the rest
abbrev pub cause_bytes : List ℕ → Option ℕ → List ℕ → List ℕ
cause_bytes text number rest = text ++ number_text number ++ rest
