-- What `--watch` reports about a file that takes a long time to open (this project's own).
use Rattle.std.specs.Prelude.{◌++◌, ℕ, List, codes}

-- the line for a file that isn't open after a second, such as a pipe that no process has opened
-- for writing
abbrev pub unopened_line : List ℕ → List ℕ
unopened_line path = codes "lrupd: " ++ (path ++ codes ": waits for a writer\n")
