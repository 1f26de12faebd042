-- Files in memory, about which contracts know everything: a formula, a stream, maybe a stream of
-- round 2 or assumed literals, and the file that was created last.
use Rattle.std.specs.Prelude.{◌≡◌, ◌≢◌, ◌++◌, ◌⊎◌, ℕ, Bool, true, List, [], Option, None, Some, if◌then◌else◌, length, nat_eq}
use Rattle.lrup_model.specs.Formula.{Cnf}
use Rattle.dimacs.specs.FormulaText.{IsFormulaText}
use Rattle.checkpoint.specs.Checkpoints.{IsCheckpoint}
use Rattle.checkpoint.specs.Live.{Entry}
use Rattle.checkpoint.specs.Printing.{formula_text}
use Rattle.command_line.specs.CommandLine.{AskForRounds, AskToSave, IsCommandLineOf}
use Rattle.command_line.specs.declared.words.CommandLine.{CommandLine}
use Rattle.run_files.specs.Paths.{formula_path}
use Rattle.run_files.specs.declared.files.OpenFault.{OpenFault}
use Rattle.run_files.specs.declared.files.OpenFault.TheVariants as open_faults
use Rattle.command_tests.specs.declared.exact_files.Closing.{Closing}
use Rattle.command_tests.specs.declared.exact_files.Closing.TheVariants as closings

-- the texts of the formula, of the stream, and of the stream of round 2 or the assumed literals, if
-- there are any; whether keeping a file fails; and the path, the bytes and the closing of the file
-- that was created last
pub record ExactValue : Type 0 where
  pub formula : List ℕ
  pub stream : List ℕ
  pub next : Option (List ℕ)
  pub is_lossy : Bool
  pub path : List ℕ
  pub bytes : List ℕ
  pub closing : Closing

-- the initial files: the formula at each path of one byte, the stream at each path of two bytes, and
-- the stream of round 2 or the assumed literals, if there are any, at each path of 20 bytes, as
-- dir/round-2.stream-1 and dir/assumed-literals are
abbrev pub text_at : ExactValue → List ℕ → Option (List ℕ)
text_at files path = if nat_eq (length path) 1 then Some files.formula
    else (if nat_eq (length path) 2 then Some files.stream
    else (if nat_eq (length path) 20 then files.next else None))

-- the known bytes at a path: none if there is no file
abbrev pub text_or_none : Option (List ℕ) → List ℕ
text_or_none None = []
text_or_none (Some text) = text

-- an opening finds the text, and changes nothing
abbrev pub FindsText : ExactValue → List ℕ → List ℕ → ExactValue → Type 0
FindsText before path text after = (after ≡ before) × (text_at before path ≡ Some text)

-- there is no file at the path, and nothing changes
abbrev pub HasNoFile : ExactValue → List ℕ → ExactValue → Type 0
HasNoFile before path after = (after ≡ before) × (text_at before path ≡ None)

-- an opening is refused, because there is no file; nothing changes
abbrev pub RefusesOpening : ExactValue → List ℕ → OpenFault → ExactValue → Type 0
RefusesOpening before path fault after =
    (fault ≡ open_faults.NotOpened) × HasNoFile before path after

-- a file is created at the path, where there is none
abbrev pub IsCreated : ExactValue → List ℕ → List ℕ → ExactValue → Type 0
IsCreated before path bytes after = (text_at before path ≡ None) × (bytes ≡ [])
    × (after ≡ record before { path = path; bytes = []; closing = closings.Open })

-- creating a file is refused, because the path already has one, or memory for the path runs out;
-- nothing changes
abbrev pub RefusesNew : ExactValue → List ℕ → OpenFault → ExactValue → Type 0
RefusesNew before path fault after = (after ≡ before)
    × ((fault ≡ open_faults.Memory)
    ⊎ ((fault ≡ open_faults.NotOpened) × (text_at before path ≢ None)))

-- the file that was created last is closed in this way, with these bytes
abbrev pub ClosesFile : Closing → ExactValue → List ℕ → ExactValue → Type 0
ClosesFile closing before bytes after =
    after ≡ record before { bytes = bytes; closing = closing }

-- The path has a file that was closed in this way. `Holds` is true of its bytes and the formula
-- whose text is at FORMULA. Nothing else has changed.
pub record FileLies (Holds : Cnf → List ℕ → Type 0) (words : List (List ℕ)) (before : ExactValue)
    (path : List ℕ) (closing : Closing) (after : ExactValue) : Type 0 where
  pub given : CommandLine
  pub command_line : IsCommandLineOf words given
  pub text : List ℕ
  pub formula : Cnf
  pub is_there : text_at before given.formula.now ≡ Some text
  pub is_text : IsFormulaText text formula
  pub bytes : List ℕ
  pub holds : Holds formula bytes
  pub closed : after
      ≡ record before { path = path; bytes = bytes; closing = closing }

-- With status 3 or 8, if the words ask for a checkpoint, it is at its path, and was kept.
abbrev pub IsKept : List (List ℕ) → ExactValue → ExactValue → ℕ → Type 0
IsKept words before after status = (path : List ℕ) → AskToSave words path
    → (status ≡ 3) ⊎ (status ≡ 8)
    → FileLies IsCheckpoint words before path closings.Kept after

-- With status 0, if the words ask for a checkpoint, there is an empty file at its path, which was
-- discarded.
abbrev pub IsEmptied : List (List ℕ) → ExactValue → ExactValue → ℕ → Type 0
IsEmptied words before after status = (path : List ℕ) → AskToSave words path → status ≡ 0
    → FileLies (λ formula bytes. bytes ≡ []) words before path closings.Discarded after

-- the bytes are a prefix of the printed text of some clauses, with the formula's number of
-- variables
abbrev pub BeginsCheckpoint : Cnf → List ℕ → Type 0
BeginsCheckpoint formula bytes =
    (entries : List Entry) × (rest : List ℕ)
    × (formula_text formula.vars entries ≡ bytes ++ rest)

-- With status 9, if the words ask for a checkpoint, the file at its path can't be relied on: it is
-- a whole checkpoint that couldn't be kept, or a prefix of a checkpoint.
abbrev pub IsUnsure : List (List ℕ) → ExactValue → ExactValue → ℕ → Type 0
IsUnsure words before after status = (path : List ℕ) → AskToSave words path → status ≡ 9
    → (FileLies IsCheckpoint words before path closings.Lost after × (before.is_lossy ≡ true))
    ⊎ FileLies BeginsCheckpoint words before path closings.Discarded after

-- With status 3 or 8, if the words ask for rounds, the last file is a checkpoint of FORMULA's
-- formula, at the path of some round's formula, and was kept.
abbrev pub IsKeptInRounds : List (List ℕ) → ExactValue → ExactValue → ℕ → Type 0
IsKeptInRounds words before after status = (folder : List ℕ) → AskForRounds words folder
    → (status ≡ 3) ⊎ (status ≡ 8)
    → (number : ℕ)
    × FileLies IsCheckpoint words before (formula_path folder number) closings.Kept after
