-- Files that are read one after the other, and why a file wasn't read.
use Rattle.std.proofs.Common.{◌≡◌, ◌≢◌, ◌∙◌, ℕ, List, Option, None, Some, Result, Ok, Err, IfOk, inl, inr, refl}
use Rattle.std.specs.Option.{ForSome}
use Rattle.std.specs.declared.io.ErrorKind.{ErrorKind}
use Rattle.std.specs.declared.io.ErrorKind.TheVariants as kinds
use Rattle.lrup_text.specs.Reads.{GaveAll}
use Rattle.lrup_text.specs.Cubes.{IsCubeFault}
use Rattle.lrup_text.specs.declared.cube.CubeFault.{CubeFault}
use Rattle.lrup_text.specs.declared.cube.CubeFault.TheVariants as cubes
use Rattle.dimacs.specs.FormulaFault.{IsFormulaFault}
use Rattle.dimacs.specs.declared.fault.DimacsFault.{DimacsFault}
use Rattle.dimacs.specs.declared.fault.DimacsFault.TheVariants as formulas
use Rattle.command_line.specs.declared.words.CommandLine.{CommandLine}
use Rattle.run_files.specs.Files.{FilesView, WasReadIn, from_first, of_kind}
use Rattle.run_files.specs.Causes.{IsAssumeCause, IsFileCause, IsReadCause}
use Rattle.run_files.specs.Asked.{Text}
use Rattle.run_files.specs.internal.Reading.{IsFailedRead, of_cube_file}
use Rattle.run_files.specs.FaultSources.{of_cube, of_formula, of_open}
use Rattle.run_files.specs.declared.fault.CommandFault.{CommandFault}
use Rattle.run_files.specs.declared.fault.CommandFault.TheVariants as faults
use Rattle.run_files.specs.declared.files.OpenFault.{OpenFault}
use Rattle.run_files.specs.declared.files.OpenFault.TheVariants as opens

-- why a file wasn't opened, or wasn't read to its end
pub opening_cause : (files : FilesView) (before : files.its.State) (path : Text) (fault : OpenFault) (after : files.its.State)
    → files.its.refuses before path fault after → IsFileCause files before path (of_open fault) after
opening_cause files before path opens.NotOpened after refused = inl refused
opening_cause files before path opens.Memory after refused = inr (inl refused)

pub reading_cause : (files : FilesView) (before : files.its.State) (path : Text) (reader : files.its.Reader) (after : files.its.State)
    → files.its.opens before path reader after → files.its.reading.left reader ≡ files.contents path
    → (fault : CommandFault) → IsFailedRead files.its.reading reader fault → IsFileCause files before path fault after
reading_cause files before path reader after opened left faults.Unread cause =
    inr (record { reader = reader; opened = opened; left = left; broken = cause })
reading_cause files before path reader after opened left faults.Memory cause = inr (inr (reader, opened))
reading_cause files before path reader after opened left fault cause = absurd cause

-- what was read from a file that was opened
pub was_read : (files : FilesView) (before : files.its.State) (path : Text) (reader : files.its.Reader) (after : files.its.State) {T E :
    Type 0}
    (items : T → List ℕ) (read : Result T E)
    → files.its.opens before path reader after → files.its.reading.left reader ≡ files.contents path
    → IfOk read (λ bytes. GaveAll files.its.Reader files.its.reading.reads reader (items bytes))
    → IfOk read (λ bytes. ForSome (files.its.reading.left reader) (λ all. all ≡ items bytes))
    → IfOk read (λ bytes. WasReadIn files before path (items bytes) after)
was_read files before path reader after items (Ok bytes) opened left gave all =
    record { reader = reader; opened = opened; gave = gave; known = λ whole known. all whole (left ∙ known) }
was_read files before path reader after items (Err fault) opened left gave all = tt

-- why the formula's file, or the file of the assumed literals, wasn't opened or read
pub formula_file_cause : (files : FilesView) (given : CommandLine) (fault : CommandFault) (after : files.its.State)
    → IsFileCause files files.first given.formula.now fault after → IsReadCause files given fault after
formula_file_cause files given (faults.Refused fault) after cause = absurd cause
formula_file_cause files given fault after cause = cause

pub cube_file_cause : (files : FilesView) (vars : ℕ) (before : files.its.State) (path : Text) (fault : CommandFault)
    (after : files.its.State)
    → IsFileCause files before path fault after → IsAssumeCause files vars before (Some path) (of_cube_file fault) after
cube_file_cause files vars before path faults.Unread after cause = cause
cube_file_cause files vars before path faults.Memory after cause = cause
cube_file_cause files vars before path fault after cause = absurd cause

-- why the bytes that were read aren't a formula, or aren't a text of literals
pub text_cause : (files : FilesView) (given : CommandLine) (bytes : List ℕ) (after : files.its.State)
    → WasReadIn files files.first given.formula.now bytes after
    → (fault : DimacsFault) → (fault ≢ formulas.Memory → IsFormulaFault bytes fault) → IsReadCause files given (of_formula fault) after
text_cause files given bytes after was formulas.NoHeader is = (λ e. cc, (bytes, was, is (λ e. cc)))
text_cause files given bytes after was formulas.BadHeader is = (λ e. cc, (bytes, was, is (λ e. cc)))
text_cause files given bytes after was (formulas.BadNumber line) is = (λ e. cc, (bytes, was, is (λ e. cc)))
text_cause files given bytes after was (formulas.VariableRange line) is = (λ e. cc, (bytes, was, is (λ e. cc)))
text_cause files given bytes after was formulas.OpenClause is = (λ e. cc, (bytes, was, is (λ e. cc)))
text_cause files given bytes after was formulas.TooFew is = (λ e. cc, (bytes, was, is (λ e. cc)))
text_cause files given bytes after was (formulas.TooMany line) is = (λ e. cc, (bytes, was, is (λ e. cc)))
text_cause files given bytes after was formulas.Limit is = (λ e. cc, (bytes, was, is (λ e. cc)))
text_cause files given bytes after was formulas.Memory is = inr (inr (was.reader, was.opened))

pub cube_text_cause : (files : FilesView) (vars : ℕ) (before : files.its.State) (path : Text) (bytes : List ℕ) (after : files.its.State)
    → WasReadIn files before path bytes after
    → (fault : CubeFault) → IsCubeFault vars bytes fault → IsAssumeCause files vars before (Some path) (of_cube fault) after
cube_text_cause files vars before path bytes after was cubes.Spelling is = (λ e. cc, (bytes, was, is))
cube_text_cause files vars before path bytes after was cubes.TooLong is = (λ e. cc, (bytes, was, is))
cube_text_cause files vars before path bytes after was cubes.Range is = (λ e. cc, (bytes, was, is))
cube_text_cause files vars before path bytes after was cubes.Memory is = inr (inr (was.reader, was.opened))

-- Why a later file couldn't be used doesn't depend on the initial state of the files.
module _ (files : FilesView) (first : files.its.State) where
  abbrev later : FilesView
  later = from_first files first

  moved_file : (before : files.its.State) (path : Text) (fault : CommandFault) (after : files.its.State)
      → IsFileCause later before path fault after → IsFileCause files before path fault after
  moved_file before path faults.Unread after (inl refused) = inl refused
  moved_file before path faults.Unread after (inr was) =
      inr (record { reader = was.reader; opened = was.opened; left = was.left; broken = was.broken })
  moved_file before path faults.Memory after cause = cause
  moved_file before path fault after cause = absurd cause

  pub moved_cause : (vars : ℕ) (before : files.its.State) (path : Option Text) (fault : CommandFault) (after : files.its.State)
      → IsAssumeCause later vars before path fault after → IsAssumeCause files vars before path fault after
  moved_cause vars before None fault after cause = absurd cause
  moved_cause vars before (Some path) faults.CubeUnread after cause = moved_file before path faults.Unread after cause
  moved_cause vars before (Some path) (faults.CubeRefused fault) after cause = cause
  moved_cause vars before (Some path) faults.Memory after cause = cause
  moved_cause vars before (Some path) fault after cause = absurd cause

-- all errors of the system except `OutOfMemory` mean `NotOpened`
pub other_fault : (kind : ErrorKind) → kind ≢ kinds.OutOfMemory → of_kind kind ≡ opens.NotOpened
other_fault kinds.OutOfMemory other = absurd (other refl)
other_fault kind other = refl
