-- What `--watch` reports about a round that begins (this project's own).
use Rattle.std.specs.Prelude.{◌++◌, ℕ, List, codes}
use Rattle.std.specs.Fmt.{decimal}

-- the line for a round that begins, with the round's counts of clauses and literals; it ends with
-- `rest`
abbrev pub begins_with : ℕ → ℕ → ℕ → List ℕ → List ℕ
begins_with number clauses literals rest =
    codes "lrupd: round " ++ (decimal number ++ (codes ": " ++ (decimal clauses
    ++ (codes " clauses, " ++ (decimal literals ++ rest)))))

abbrev pub begin_line : ℕ → ℕ → ℕ → List ℕ
begin_line number clauses literals = begins_with number clauses literals (codes " literals\n")

-- the line for a round that is paused, with the pause in milliseconds
abbrev pub paused_line : ℕ → ℕ → ℕ → ℕ → List ℕ
paused_line number clauses literals pause =
    begins_with number clauses literals
    (codes " literals, paused for " ++ (decimal pause ++ codes " ms\n"))
