-- What the program says about valid proofs, and the law about it. A run without rounds is the case
-- in which round 1 is the last one.
use Rattle.std.specs.Prelude.{◌≡◌, ◌⊎◌, ℕ, List}
use Rattle.run_files.specs.Files.{FilesView}
use Rattle.command.specs.Commands.{SinkChange}
use Rattle.run_files.specs.Asked.{Text}
use Rattle.command.specs.Rounds.{ProgramEnds}
use Rattle.outcome_laws.specs.Inconclusive.{InconclusiveBecause}
use Rattle.outcome_laws.specs.Valid.{AreValidAlone, AskForValidRounds, IsRefutedAlone}

-- Suppose that each stream of each round before the last is valid and cites only its own clauses
-- and the formula's, and that stream s of the last round begins with a valid refutation. Then the
-- program ends with status 0; with 7, because the report couldn't be written; with 5 or 6, because
-- of a fault of the machine; with 9, because a checkpoint or the next round's formula couldn't be
-- saved; with 8, and then there are assumed literals, and the report says 'unsatisfiable under
-- assumptions'; or with 3. With 3, and in the last round also with 8 and 9, the report says that
-- memory ran out or a read failed, in the refutation's lines or in some stream of an earlier round.
abbrev pub OutcomeOfValidRounds : FilesView → (last : ℕ) → Type 0
OutcomeOfValidRounds files last = (words : List Text) (s count : ℕ) (after : files.its.State)
    (out err : SinkChange) (status : ℕ)
    → AskForValidRounds AreValidAlone (IsRefutedAlone s count) files words last
    → ProgramEnds files words after out err status
    → (status ≡ 0)
    ⊎ InconclusiveBecause files words s count last after out err status
