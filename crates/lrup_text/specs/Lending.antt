-- A reader whose line is lent: its state when the line is given back.
use Rattle.std.specs.Prelude.{List, ℕ, ⊤}
use Rattle.std.specs.Borrow.{MutBor, Fml, follows_so}
use mathlib.Core.Option as maybe
use Rattle.lrup_text.specs.declared.reader.LineReader.{LineReader}
use Rattle.lrup_text.specs.declared.reader.ReaderStatus.{ReaderStatus}
use Rattle.lrup_text.specs.contracts.reader.LineReader.{the_row}
use Rattle.lrup_text.specs.Feeding.{ReaderReaches}

abbrev pub FeedEnds : MutBor LineReader → List ℕ → ReaderStatus → Fml
FeedEnds reader piece status = follows_so the_row the_row reader.ghost_name maybe.none (λ _ _. ⊤)
    (λ new. ReaderReaches reader.now piece status new)
