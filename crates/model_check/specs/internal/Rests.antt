-- The lines of a file that are still to be read.
use Rattle.std.specs.Borrow.{Bor}
use Rattle.std.specs.Prelude.{◌+◌, ℕ, Option, Some, None, List, [], length}
use Rattle.std.specs.List.{slice_split}
use Rattle.dimacs.specs.Lines.{ends_line}

-- none after the last line
abbrev pub lines_left : Option (Bor (List ℕ)) → List (List ℕ)
lines_left None = []
lines_left (Some text) = slice_split ends_line text.now

-- at least as many as there are lines left
abbrev pub most_left : Option (Bor (List ℕ)) → ℕ
most_left None = 0
most_left (Some text) = length text.now + 1
