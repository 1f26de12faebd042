-- The files of a run: what is done to them, and what was read from them (this project's own).
use Rattle.std.specs.Io.KnownBytes.{Appends}
use Rattle.std.specs.Option.{ForSome}
use Rattle.std.specs.Prelude.{◌∷◌, ◌≡◌, ◌⊎◌, Bool, List, None, Option, Some, [], map, ℕ}
use Rattle.std.specs.declared.io.ErrorKind.{ErrorKind}
use Rattle.std.specs.declared.io.ErrorKind.TheVariants as kinds
use Rattle.lrup_model.specs.Cube.{CubeValue}
use Rattle.lrup_model.specs.Formula.{Cnf}
use Rattle.dimacs.specs.FormulaText.{IsFormulaText}
use Rattle.lrup_text.specs.Cubes.{IsCubeText}
use Rattle.lrup_text.specs.ReadOut.{SourceView}
use Rattle.lrup_text.specs.Reads.{GaveAll, ReadsOf}
use Rattle.lrup_text.specs.declared.device.Sink as Sink
use Rattle.lrup_text.specs.declared.device.Source as Source
use Rattle.stream_check.specs.Readings.{readers_view}
use Rattle.command_line.specs.Sizes.{IsSizesText}
use Rattle.command_line.specs.declared.sizes.Sizes.{Sizes}
use Rattle.command_line.specs.declared.words.CommandLine.{CommandLine}
use Rattle.run_files.specs.Asked.{Text, assumed_at}
use Rattle.run_files.specs.declared.files.Files as Files
use Rattle.run_files.specs.declared.files.Machine as Machine
use Rattle.run_files.specs.declared.files.OpenFault.{OpenFault}
use Rattle.run_files.specs.declared.files.OpenFault.TheVariants as opens

-- The file at the path was opened, which led from the files `before` to the files `after`, and
-- reading it up to its first end gave these bytes. If its contents are known, they are these bytes.
pub record WasRead {F R : Type 0} (opens : F → Text → R → F → Type 0) (reads : ReadsOf R)
    (contents : Text → Option (List ℕ)) (before : F) (path : Text) (bytes : List ℕ)
    (after : F) : Type 0 where
  pub reader : R
  pub opened : opens before path reader after
  pub gave : GaveAll R reads reader bytes
  pub known : ForSome (contents path) (λ all. all ≡ bytes)

-- A file was created at the path and kept. If its contents are known, it was empty at first, and
-- these bytes are all that was written to it.
pub record WasSaved {F W : Type 0} (creates : F → Text → W → F → Type 0)
    (written : W → Option (List ℕ)) (keeps : F → W → F → Type 0) (before : F) (path : Text)
    (bytes : List ℕ) (after : F) : Type 0 where
  pub first : W
  pub next : F
  pub created : creates before path first next
  pub empty : ForSome (written first) (λ all. all ≡ [])
  pub last : W
  pub wrote : Appends (written first) (written last) bytes
  pub kept : keeps next last after

-- A file was created at the path and discarded as it was: nothing was written to it. If its
-- contents are known, it was empty.
pub record IsLeftEmpty {F W : Type 0} (creates : F → Text → W → F → Type 0)
    (written : W → Option (List ℕ)) (discards : F → W → F → Type 0) (before : F) (path : Text)
    (after : F) : Type 0 where
  pub output : W
  pub next : F
  pub created : creates before path output next
  pub empty : ForSome (written output) (λ all. all ≡ [])
  pub discarded : discards next output after

-- the cube is what was read from the file of assumed literals at the path, over the variables 1 to
-- vars; without a path, the cube is empty, and nothing is opened
abbrev pub AreAssumed : {F : Type 0} → (F → Text → List ℕ → F → Type 0) → ℕ → F → Option Text
    → CubeValue → F → Type 0
AreAssumed Read vars before None cube after = (cube ≡ []) × (after ≡ before)
AreAssumed Read vars before (Some path) cube after =
    (bytes : List ℕ) × Read before path bytes after × IsCubeText vars bytes cube

-- The files at the paths were opened as these readers, one after the other: the first opening
-- starts from the files `before`, each later one from the files that the previous one left, and the
-- last one leaves the files `after`.
abbrev pub AreOpened : {F R : Type 0} → (F → Text → R → F → Type 0) → F → List Text → List R → F
    → Type 0
AreOpened opens before [] [] after = after ≡ before
AreOpened {F = F} opens before (path ∷ paths) (reader ∷ readers) after =
    (next : F) × opens before path reader next × AreOpened opens next paths readers after
AreOpened opens before _ _ after = ⊥

-- The effects of calls on files, for any files: opening a file, and a refused opening; finding no
-- file at a path, and failing to open one that may be there; creating a file, and a refused
-- creation; keeping a file, failing to keep it, and discarding it. The other fields say what is
-- known of the files, of their readers and of their sinks.
pub record Effects : Type 1 where
  pub State : Type 0
  pub Reader : Type 0
  pub Output : Type 0
  pub contents : State → Text → Option (List ℕ)
  pub opens : State → Text → Reader → State → Type 0
  pub refuses : State → Text → OpenFault → State → Type 0
  pub lacks : State → Text → State → Type 0
  pub fails : State → Text → OpenFault → State → Type 0
  pub creates : State → Text → Output → State → Type 0
  pub refuses_new : State → Text → OpenFault → State → Type 0
  pub keeps : State → Output → State → Type 0
  pub loses : State → Output → State → Type 0
  pub discards : State → Output → State → Type 0
  pub reading : SourceView Reader
  pub written : Output → Option (List ℕ)
  pub has_failed : Output → Bool

-- the effects that the implementations of files, of readers and of sinks state
abbrev pub effects_of : {F R W M : Type 0} → Files.Ghosts F R → Machine.Ghosts F W M R
    → Source.Ghosts R → Sink.Ghosts W → Effects
effects_of {F = F} {R = R} {W = W} its more input output = record {
  State = F;
  Reader = R;
  Output = W;
  contents = its.contents;
  opens = its.opens;
  refuses = its.refuses;
  lacks = more.lacks;
  fails = more.fails;
  creates = more.creates;
  refuses_new = more.refuses_new;
  keeps = more.keeps;
  loses = more.loses;
  discards = more.discards;
  reading = readers_view input;
  written = output.written;
  has_failed = output.has_failed;
}

-- What is known of files: the effects of calls on them; their first state; and the contents of the
-- file at each path, if known. The contents stay the same while files are opened.
pub record FilesView : Type 1 where
  pub its : Effects
  pub first : its.State
  pub contents : Text → Option (List ℕ)

-- what these implementations say of files, with `first` as the first state
abbrev pub files_view : {F R W M : Type 0} → Files.Ghosts F R → Machine.Ghosts F W M R
    → Source.Ghosts R → Sink.Ghosts W → F → FilesView
files_view its more input output first =
    record { its = effects_of its more input output; first = first; contents = its.contents first }

-- these files, with another first state
abbrev pub from_first : (files : FilesView) → files.its.State → FilesView
from_first files first = record { its = files.its; first = first; contents = files.contents }

-- `WasRead` for these files
abbrev pub WasReadIn : (files : FilesView) → files.its.State → Text → List ℕ → files.its.State
    → Type 0
WasReadIn files = WasRead files.its.opens files.its.reading.reads files.contents

-- `WasSaved` with these effects
abbrev pub WasSavedBy : (its : Effects) → its.State → Text → List ℕ → its.State → Type 0
WasSavedBy its = WasSaved its.creates its.written its.keeps

-- the file at the path, the first to be opened, holds a text of the formula, and these are the
-- files after that
abbrev pub IsFormulaAt : (files : FilesView) → Text → Cnf → files.its.State → Type 0
IsFormulaAt files path formula after =
    (bytes : List ℕ) × WasReadIn files files.first path bytes after × IsFormulaText bytes formula

-- What a command line names was read: the formula from its file, the first to be opened, and then
-- the assumed literals, if there is a file of them.
pub record WereRead (files : FilesView) (given : CommandLine) (formula : Cnf) (cube : CubeValue)
    (after : files.its.State) : Type 0 where
  pub next : files.its.State
  pub is_formula : IsFormulaAt files given.formula.now formula next
  pub assumed : AreAssumed (WasReadIn files) formula.vars next (assumed_at given) cube after

-- The files at the paths were opened as these readers, in order. If a file's contents are known,
-- its reader has all of them left.
pub record StreamsOpened (its : Effects) (before : its.State) (paths : List Text)
    (readers : List its.Reader) (after : its.State) : Type 0 where
  pub opened : AreOpened its.opens before paths readers after
  pub left : map its.reading.left readers ≡ map (its.contents before) paths

-- the sizes of the next round: the old sizes if there is no file of sizes; otherwise the sizes
-- whose text was read from that file
abbrev pub AreSized : (its : Effects) → Text → Sizes → its.State → Sizes → its.State → Type 0
AreSized its path old before new after =
    (its.lacks before path after × (new ≡ old))
    ⊎ ((bytes : List ℕ)
    × WasRead its.opens its.reading.reads (its.contents before) before path bytes after
    × IsSizesText bytes new)

-- why the system didn't open a file
abbrev pub of_kind : ErrorKind → OpenFault
of_kind kinds.OutOfMemory = opens.Memory
of_kind kind = opens.NotOpened
