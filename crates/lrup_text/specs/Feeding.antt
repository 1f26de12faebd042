-- What a reader of lines gives for a piece of a stream, and the reader's state afterwards. The
-- state of a reader is `Ok` with the part of a line that it has read, or `Err` with the fault that
-- it gave.
use Rattle.std.specs.Prelude.{◌≡◌, ℕ, ◌<◌, ◌≤◌, List, [], ◌++◌, length, take, Result, Ok, Err, IfOk}
use Rattle.lrup_text.specs.declared.LineFault.{LineFault}
use Rattle.lrup_text.specs.declared.LineFault.TheVariants.{Truncated}
use Rattle.lrup_text.specs.declared.reader.ReaderStatus.{ReaderStatus}
use Rattle.lrup_text.specs.declared.reader.ReaderStatus.TheVariants.{Line, NeedMore, Fault}
use Rattle.lrup_text.specs.declared.reader.End.{End}
use Rattle.lrup_text.specs.declared.reader.End.TheVariants as ends
use Rattle.lrup_text.specs.Faults.{IsRefused}
use Rattle.lrup_text.specs.Lines.{line_of, LineText, IsPending}

abbrev pub ReaderState : Type 0
ReaderState = Result (List ℕ) LineFault

-- what a reader gives for a piece of which it uses this many bytes
abbrev pub Feeds : ReaderState → List ℕ → ℕ → ReaderStatus → Type 0
Feeds (Err fault) piece used status = (used ≡ 0) × (status ≡ Fault fault)
Feeds (Ok read) piece used (Line line) =
    (0 < used) × (used ≤ length piece) × LineText (line_of line) (read ++ take used piece)
Feeds (Ok read) piece used NeedMore = used ≡ length piece
Feeds (Ok read) piece used (Fault fault) =
    (0 < used) × (used ≤ length piece) × IsRefused (read ++ take used piece) fault

-- the reader's state after it has given this result for the piece
abbrev pub ReaderReaches : ReaderState → List ℕ → ReaderStatus → ReaderState → Type 0
ReaderReaches old piece (Line line) new = (new ≡ Ok []) × IsPending []
ReaderReaches old piece NeedMore new =
    IfOk old (λ read. (new ≡ Ok (read ++ piece)) × IsPending (read ++ piece))
ReaderReaches old piece (Fault fault) new = new ≡ Err fault

-- what the end of the stream means, and the reader's state after it
abbrev pub ReaderEnds : ReaderState → End → ReaderState → Type 0
ReaderEnds old ends.Clean new = (old ≡ Ok []) × (new ≡ old)
ReaderEnds (Ok read) (ends.Fault fault) new =
    ¬ (read ≡ []) × (fault ≡ Truncated) × (new ≡ Err fault)
ReaderEnds (Err given) (ends.Fault fault) new = (fault ≡ given) × (new ≡ Err given)
