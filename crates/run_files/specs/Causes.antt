-- Why a run has no report (this project's own).
use Rattle.std.specs.Option.{ForSome}
use Rattle.std.specs.Prelude.{◌++◌, ◌+◌, ◌≡◌, ◌≢◌, ◌≤◌, ◌⊎◌, Bool, List, None, Option, Some, drop, false, length, map, slice_get, take, true, ℕ}
use Rattle.lrup_model.specs.Cube.{CubeValue}
use Rattle.lrup_model.specs.Formula.{Cnf}
use Rattle.lrup_model.specs.Layout.{IsFault, IsStream, LayoutValue}
use Rattle.lrup_model.specs.declared.layout.LayoutFault.{LayoutFault}
use Rattle.dimacs.specs.FormulaFault.{IsFormulaFault}
use Rattle.dimacs.specs.declared.fault.DimacsFault.TheVariants as formulas
use Rattle.lrup_text.specs.Cubes.{IsCubeFault}
use Rattle.lrup_text.specs.ReadOut.{ReadOut, SourceView}
use Rattle.lrup_text.specs.Reads.{Gave, GaveAll}
use Rattle.lrup_text.specs.declared.cube.CubeFault.TheVariants as cubes
use Rattle.lrup_text.specs.declared.device.StreamEnd.TheVariants as stream_ends
use Rattle.stream_check.specs.Streams.{RunParamsValue}
use Rattle.run_outcome.specs.RingStops.{StopsAtRing}
use Rattle.command_line.specs.CommandLine.{AskForBoth, HaveFault, IsCommandLineOf}
use Rattle.command_line.specs.Sizes.{HaveNoSizes}
use Rattle.command_line.specs.declared.sizes.Sizes.{Sizes}
use Rattle.command_line.specs.declared.words.CommandLine.{CommandLine}
use Rattle.run_files.specs.Asked.{Text, assumed_at, created_path, run_params_by, sizes_of}
use Rattle.run_files.specs.Files.{AreAssumed, AreOpened, Effects, FilesView, IsFormulaAt, IsLeftEmpty, WasReadIn}
use Rattle.run_files.specs.Paths.{stream_path, stream_paths}
use Rattle.run_files.specs.declared.fault.CommandFault.{CommandFault}
use Rattle.run_files.specs.declared.fault.CommandFault.TheVariants as faults
use Rattle.run_files.specs.declared.files.OpenFault.{OpenFault}
use Rattle.run_files.specs.declared.files.OpenFault.TheVariants as open_faults

-- Causes, and the files when the fault arose: only the earlier openings and creations have changed
-- them, in order. Nothing shows afterwards that memory ran out or that a thread wasn't started, so
-- these are possible causes for any files.

-- Reads of a file gave some bytes, and then a read failed. If what was left of the file is known,
-- it began with these bytes.
pub record HasBrokenOff {R : Type 0} (reading : SourceView R) (first : R) : Type 0 where
  pub bytes : List ℕ
  pub after : R
  pub read : ReadOut R reading.reads stream_ends.Failed first bytes after
  pub failed : reading.has_failed after ≡ true
  pub known : ForSome (reading.left first) (λ all. (rest : List ℕ) × (all ≡ bytes ++ rest))

-- The file at the path was opened, and reading it failed.
pub record WasUnread (files : FilesView) (before : files.its.State) (path : Text)
    (after : files.its.State) : Type 0 where
  pub reader : files.its.Reader
  pub opened : files.its.opens before path reader after
  pub left : files.its.reading.left reader ≡ files.contents path
  pub broken : HasBrokenOff files.its.reading reader

-- memory ran out before, during or after the opening of the file at the path
abbrev pub IsOutOfMemory : (its : Effects) → its.State → Text → its.State → Type 0
IsOutOfMemory its before path after =
    (after ≡ before)
    ⊎ (its.refuses before path open_faults.Memory after
    ⊎ ((reader : its.Reader) × its.opens before path reader after))

-- why the file at a path wasn't read: it couldn't be opened or read, or memory ran out
abbrev pub IsFileCause : (files : FilesView) → files.its.State → Text → CommandFault
    → files.its.State → Type 0
IsFileCause files before path faults.Unread after =
    files.its.refuses before path open_faults.NotOpened after ⊎ WasUnread files before path after
IsFileCause files before path faults.Memory after = IsOutOfMemory files.its before path after
IsFileCause files before path fault after = ⊥

-- why there is no formula: its file, the first to be opened, couldn't be read, or holds no formula
abbrev pub IsReadCause : (files : FilesView) → CommandLine → CommandFault → files.its.State → Type 0
IsReadCause files given (faults.Refused fault) after =
    (fault ≢ formulas.Memory)
    × ((bytes : List ℕ) × WasReadIn files files.first given.formula.now bytes after
    × IsFormulaFault bytes fault)
IsReadCause files given fault after = IsFileCause files files.first given.formula.now fault after

-- why there are no assumed literals over the variables 1 to vars: their file, the next to be
-- opened, couldn't be read, or holds no text of literals; without a path there is no cause
abbrev pub IsAssumeCause : (files : FilesView) → ℕ → files.its.State → Option Text → CommandFault
    → files.its.State → Type 0
IsAssumeCause files vars before None fault after = ⊥
IsAssumeCause files vars before (Some path) faults.CubeUnread after =
    IsFileCause files before path faults.Unread after
IsAssumeCause files vars before (Some path) (faults.CubeRefused fault) after =
    (fault ≢ cubes.Memory)
    × ((bytes : List ℕ) × WasReadIn files before path bytes after × IsCubeFault vars bytes fault)
IsAssumeCause files vars before (Some path) faults.Memory after =
    IsFileCause files before path faults.Memory after
IsAssumeCause files vars before (Some path) fault after = ⊥

-- The files at the first `place` paths were opened, in order, and opening the next one was refused.
pub record WasRefused (its : Effects) (before : its.State) (paths : List Text) (place : ℕ)
    (fault : OpenFault) (after : its.State) : Type 0 where
  pub path : Text
  pub is_path : slice_get paths place ≡ Some path
  pub readers : List its.Reader
  pub next : its.State
  pub opened : AreOpened its.opens before (take place paths) readers next
  pub refused : its.refuses next path fault after

-- why opening these streams, after this many earlier ones, stopped: one opening was refused; or
-- memory ran out before, during or after one of the openings
abbrev pub IsOpenCause : (its : Effects) → ℕ → its.State → List Text → CommandFault → its.State
    → Type 0
IsOpenCause its earlier before paths (faults.NotOpened stream) after =
    (place : ℕ) × (stream ≡ earlier + place + 1)
    × WasRefused its before paths place open_faults.NotOpened after
IsOpenCause its earlier before paths faults.Memory after =
    ((place : ℕ) × WasRefused its before paths place open_faults.Memory after)
    ⊎ ((place : ℕ) × (readers : List its.Reader)
    × AreOpened its.opens before (take place paths) readers after)
IsOpenCause its earlier before paths fault after = ⊥

-- with a path, a file was created there and nothing was written to it; without a path, the files
-- are as before
abbrev pub IsLeftUnused : (its : Effects) → its.State → Option Text → its.State → Type 0
IsLeftUnused its before None after = after ≡ before
IsLeftUnused its before (Some path) after =
    IsLeftEmpty its.creates its.written its.discards before path after

-- creating the file at the path was refused, which can't happen without a path
abbrev pub IsRefusedNew : (its : Effects) → its.State → Option Text → OpenFault → its.State → Type 0
IsRefusedNew its before None fault after = ⊥
IsRefusedNew its before (Some path) fault after = its.refuses_new before path fault after

-- the layout has no fault
abbrev pub HasNoFault : LayoutValue → Type 0
HasNoFault layout = (fault : LayoutFault) → IsFault layout fault → ⊥

-- why the streams of a formula, opened as these readers, weren't checked: they have no layout; or
-- they have one, but the file at the path, if one is given, wasn't created; or it was, but a thread
-- wasn't started, or a ring lost the end of a stream, after that stream had been read and the
-- earlier ones judged; or memory ran out
abbrev pub IsStartCause : (its : Effects) → Bool → Cnf → RunParamsValue → List its.Reader
    → its.State
    → Option Text → CommandFault → its.State → Type 0
IsStartCause its serial formula run_params readers before path (faults.Layout fault) after =
    IsFault run_params.layout fault × (after ≡ before)
IsStartCause its serial formula run_params readers before path faults.NotCreated after =
    HasNoFault run_params.layout × IsRefusedNew its before path open_faults.NotOpened after
IsStartCause its serial formula run_params readers before path (faults.Spawn stream) after =
    HasNoFault run_params.layout × (serial ≡ false) × IsStream run_params.layout stream
    × IsLeftUnused its before path after
IsStartCause its serial formula run_params readers before path (faults.Ring stream) after =
    HasNoFault run_params.layout × (serial ≡ false)
    × StopsAtRing its.reading formula run_params readers stream
    × IsLeftUnused its before path after
IsStartCause its serial formula run_params readers before path faults.Memory after =
    (after ≡ before)
    ⊎ (HasNoFault run_params.layout × (IsRefusedNew its before path open_faults.Memory after
    ⊎ IsLeftUnused its before path after))
IsStartCause its serial formula run_params readers before path fault after = ⊥

-- why the streams of the round with this number weren't checked: as `IsStartCause` says, for the
-- file to which the round saves its clauses
abbrev pub IsRoundStartCause : (its : Effects) → CommandLine → CubeValue → ℕ → Cnf → Sizes
    → List its.Reader → its.State → CommandFault → its.State → Type 0
IsRoundStartCause its given cube number formula sizes readers opened fault after =
    IsStartCause its given.serial formula (run_params_by given cube formula sizes) readers opened
    (created_path given.next number) fault after

-- the cause is a fault of the formula; or, once the formula was read, a fault of the assumed
-- literals; or, once both were read, a fault of opening the streams; or, once the streams were
-- opened, a fault of checking them
abbrev pub IsCauseAt : (files : FilesView) → CommandLine → CommandFault → files.its.State → Type 0
IsCauseAt files given fault after =
    IsReadCause files given fault after
    ⊎ ((formula : Cnf) × (next : files.its.State)
    × IsFormulaAt files given.formula.now formula next
    × (IsAssumeCause files formula.vars next (assumed_at given) fault after
    ⊎ ((cube : CubeValue) × (later : files.its.State)
    × AreAssumed (WasReadIn files) formula.vars next (assumed_at given) cube later
    × (IsOpenCause files.its 0 later given.streams fault after
    ⊎ ((readers : List files.its.Reader) × (last : files.its.State)
    × AreOpened files.its.opens later given.streams readers last
    × (map files.its.reading.left readers ≡ map files.contents given.streams)
    × IsRoundStartCause files.its given cube 1 formula (sizes_of given) readers last fault
    after)))))

-- Why round 1 has no report, for these words and files, and the files at that point. The files stay
-- as they were if the words have a fault or ask both for a checkpoint and for rounds, or if memory
-- runs out while the words are read.
abbrev pub IsCause : (files : FilesView) → List Text → CommandFault → files.its.State → Type 0
IsCause files words (faults.Usage text) after = HaveFault words × (after ≡ files.first)
IsCause files words faults.TwoCheckpoints after = AskForBoth words × (after ≡ files.first)
IsCause files words faults.Memory after =
    (after ≡ files.first)
    ⊎ ((given : CommandLine) × IsCommandLineOf words given
    × IsCauseAt files given faults.Memory after)
IsCause files words fault after =
    (given : CommandLine) × IsCommandLineOf words given × IsCauseAt files given fault after

-- The file at the path was opened, and holds no text of sizes: reading it to its end gave at most
-- 64 bytes, which aren't such a text; or 64 bytes were read, more than any such text has. If the
-- file's contents are known, they are these bytes, or begin with them.
pub record HoldsNoSizes (its : Effects) (before : its.State) (path : Text)
    (after : its.State) : Type 0 where
  pub reader : its.Reader
  pub opened : its.opens before path reader after
  pub bytes : List ℕ
  pub few : length bytes ≤ 64
  pub holds : (GaveAll its.Reader its.reading.reads reader bytes
      × ForSome (its.contents before path) (λ all. all ≡ bytes) × HaveNoSizes bytes)
      ⊎ ((last : its.Reader) × Gave its.Reader its.reading.reads reader bytes last
      × (length bytes ≡ 64)
      × ForSome (its.contents before path) (λ all. (rest : List ℕ) × (all ≡ bytes ++ rest)))

-- The file at the path was opened, and reading it failed after at most 64 bytes.
pub record BrokeOff (its : Effects) (before : its.State) (path : Text)
    (after : its.State) : Type 0 where
  pub reader : its.Reader
  pub opened : its.opens before path reader after
  pub left : its.reading.left reader ≡ its.contents before path
  pub broken : HasBrokenOff its.reading reader
  pub few : length broken.bytes ≤ 64

-- memory ran out before, during or after the opening of the file at the path, if there is one
abbrev pub IsOutOfMemoryAt : (its : Effects) → its.State → Text → its.State → Type 0
IsOutOfMemoryAt its before path after =
    (after ≡ before)
    ⊎ (its.fails before path open_faults.Memory after
    ⊎ ((reader : its.Reader) × its.opens before path reader after))

-- why the sizes at a path weren't read: their file couldn't be opened or read, or holds no sizes;
-- or memory ran out
abbrev pub IsSizesCause : (its : Effects) → its.State → Text → CommandFault → its.State → Type 0
IsSizesCause its before path faults.SizesUnread after =
    its.fails before path open_faults.NotOpened after ⊎ BrokeOff its before path after
IsSizesCause its before path faults.Sizes after = HoldsNoSizes its before path after
IsSizesCause its before path faults.Memory after = IsOutOfMemoryAt its before path after
IsSizesCause its before path fault after = ⊥

-- why the file of stream 1 at the path wasn't opened: opening it failed, or memory ran out before
-- or during the opening
abbrev pub IsFirstCause : (its : Effects) → its.State → Text → CommandFault → its.State → Type 0
IsFirstCause its before path (faults.NotOpened stream) after =
    (stream ≡ 1) × its.fails before path open_faults.NotOpened after
IsFirstCause its before path faults.Memory after =
    (after ≡ before) ⊎ its.fails before path open_faults.Memory after
IsFirstCause its before path fault after = ⊥

-- why not all streams of a round were opened: stream 1 wasn't; or it was, but one of the others
-- wasn't, for the same causes as in round 1
abbrev pub IsStreamCause : (its : Effects) → its.State → Text → ℕ → ℕ → CommandFault → its.State
    → Type 0
IsStreamCause its before folder number streams fault after =
    IsFirstCause its before (stream_path folder number 1) fault after
    ⊎ ((first : its.Reader) × (next : its.State)
    × its.opens before (stream_path folder number 1) first next
    × IsOpenCause its 1 next (drop 1 (stream_paths folder number streams)) fault after)
