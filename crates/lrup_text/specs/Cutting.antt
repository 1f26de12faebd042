-- Whole streams: a reader's calls, each with a piece, and the lines into which the stream is cut.
use Rattle.std.specs.Prelude.{◌≡◌, ℕ, List, [], ◌∷◌, ◌++◌, take, Ok, Err}
use Rattle.lrup_text.specs.declared.reader.ReaderStatus.{ReaderStatus}
use Rattle.lrup_text.specs.declared.reader.ReaderStatus.TheVariants.{Line, NeedMore, Fault}
use Rattle.lrup_text.specs.Faults.{IsRefused}
use Rattle.lrup_text.specs.Lines.{StreamLine, line_of, Cut}
use Rattle.lrup_text.specs.Feeding.{ReaderState, Feeds, ReaderReaches}

-- a call of `feed`: the piece, how many of its bytes were used, and the result
pub record Call : Type 0 where
  pub piece : List ℕ
  pub used : ℕ
  pub status : ReaderStatus

-- calls in order, from one state of the reader to another
abbrev pub AreCalls : ReaderState → List Call → ReaderState → Type 0
AreCalls old [] new = new ≡ old
AreCalls old (call ∷ calls) new =
    (state : ReaderState) × Feeds old call.piece call.used call.status
    × ReaderReaches old call.piece call.status state × AreCalls state calls new

-- the bytes that the calls used
abbrev pub used_bytes : List Call → List ℕ
used_bytes [] = []
used_bytes (call ∷ calls) = take call.used call.piece ++ used_bytes calls

-- the line that a call gave, if any
abbrev pub line_given : ReaderStatus → List StreamLine
line_given (Line line) = line_of line ∷ []
line_given NeedMore = []
line_given (Fault fault) = []

-- the lines that the calls gave
abbrev pub lines_given : List Call → List StreamLine
lines_given [] = []
lines_given (call ∷ calls) = line_given call.status ++ lines_given calls

-- the stream so far: its lines, and what has been read of the next line; or, after a fault, a text
-- with which no line begins
abbrev pub IsCut : List ℕ → List StreamLine → ReaderState → Type 0
IsCut stream lines (Ok read) = Cut stream lines read
IsCut stream lines (Err fault) = (rest : List ℕ) × Cut stream lines rest × IsRefused rest fault
