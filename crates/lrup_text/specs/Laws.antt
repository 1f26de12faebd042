-- The laws of the lines' texts, which the functions of `laws.rt` prove.
use Rattle.std.specs.Prelude.{◌≡◌, ℕ, List, [], ◌++◌, Ok, ◌↔◌}
use Rattle.lrup_text.specs.declared.LineFault.{LineFault}
use Rattle.lrup_text.specs.Faults.{IsRefused, HasTextFault}
use Rattle.lrup_text.specs.Grammar.{IsLine, standard, Begins}
use Rattle.lrup_text.specs.Lines.{StreamLine, IsWithinLimits, line_text, LineText, HasNoLine, IsPending, Cut}
use Rattle.lrup_text.specs.Feeding.{ReaderState}
use Rattle.lrup_text.specs.Cutting.{Call, AreCalls, used_bytes, lines_given, IsCut}

-- a line has one text
abbrev pub OneText : Type 0
OneText = (line : StreamLine) (bytes others : List ℕ) → LineText line bytes → LineText line others
    → bytes ≡ others

-- a text spells one line
abbrev pub OneLine : Type 0
OneLine = (line other : StreamLine) (bytes : List ℕ) → LineText line bytes → LineText other bytes
    → line ≡ other

-- no line's text is a proper prefix of another line's text
abbrev pub NoTextBegins : Type 0
NoTextBegins = (line other : StreamLine) (bytes others more : List ℕ) → LineText line bytes
    → LineText other others → others ≡ bytes ++ more → more ≡ []

-- bytes begin with the text of at most one line, so the rest after that text is fixed, too
abbrev pub OneFirstLine : Type 0
OneFirstLine = (line other : StreamLine) (more after : List ℕ) → IsWithinLimits line
    → IsWithinLimits other
    → line_text line ++ more ≡ line_text other ++ after → (line ≡ other) × (more ≡ after)

-- with a stream's limits, the grammar accepts bytes exactly if they are the text of a line
abbrev pub TextsAreLines : Type 0
TextsAreLines = (bytes : List ℕ) → IsLine standard bytes
    ↔ ((line : StreamLine) × LineText line bytes)

-- a stream can be cut in only one way
abbrev pub OneCut : Type 0
OneCut = (stream : List ℕ) (lines others : List StreamLine) (rest left : List ℕ)
    → Cut stream lines rest → Cut stream others left → (lines ≡ others) × (rest ≡ left)

-- every list of bytes can be cut into lines and a rest
abbrev pub EveryCut : Type 0
EveryCut = (stream : List ℕ) → (lines : List StreamLine) × (rest : List ℕ) × Cut stream lines rest

-- the lines of a prefix of a stream are the stream's first lines; its other lines are cut from the
-- prefix's rest and the bytes that follow
abbrev pub BeginningCut : Type 0
BeginningCut = (bytes more : List ℕ) (lines all : List StreamLine) (rest left : List ℕ)
    → Cut bytes lines rest → Cut (bytes ++ more) all left
    → (others : List StreamLine) × (all ≡ lines ++ others) × Cut (rest ++ more) others left

-- a refused text doesn't begin with a line, even if more bytes follow
abbrev pub RefusedStays : Type 0
RefusedStays = (bytes more : List ℕ) (fault : LineFault) → IsRefused bytes fault
    → HasNoLine (bytes ++ more)

-- a rest has at most one fault, and none if it is a prefix of a line
abbrev pub OneFault : Type 0
OneFault = (rest : List ℕ) (fault other : LineFault) → HasTextFault rest fault
    → (HasTextFault rest other → fault ≡ other) × ¬ Begins rest

-- the empty text may still become a line
abbrev pub EmptyPending : Type 0
EmptyPending = IsPending []

-- cutting the empty text gives no lines
abbrev pub EmptyCut : Type 0
EmptyCut = IsCut [] [] (Ok [])

-- However a stream is divided into pieces, the calls use some bytes, and give the lines into which
-- these bytes are cut.
abbrev pub CallsCut : Type 0
CallsCut = (stream : List ℕ) (lines : List StreamLine) (old new : ReaderState) (calls : List Call)
    → IsCut stream lines old → AreCalls old calls new
    → IsCut (stream ++ used_bytes calls) (lines ++ lines_given calls) new
