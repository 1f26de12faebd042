-- What contracts see of the readers and the sinks of files in memory.
use Rattle.std.proofs.Common.{ℕ, Bool, List, Some}
use Rattle.lrup_text.specs.ReadOut.{SourceView, source_view}
use Rattle.lrup_text.specs.Reads.{GivesLeft}
use Rattle.test_support.specs.declared.devices.Paper.{Paper}
use Rattle.test_support.specs.declared.devices.Pieces.{Pieces}

abbrev pub left : Pieces → List ℕ
left reader = reader.left.now

abbrev pub content : Paper → List ℕ
content output = output.bytes.items

abbrev pub reading : SourceView Pieces
reading = source_view (λ reader. Some (left reader)) (λ reader. reader.failed)
    (λ before room given after. GivesLeft (Some (left before)) room given (Some (left after)))

abbrev pub has_failed : Paper → Bool
has_failed output = output.failed
