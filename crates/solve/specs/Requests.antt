-- What the helper may ask for (this project's own).
use Rattle.std.specs.Prelude.{◌≢◌, ◌<◌, ◌≤◌, List, length, ℕ}
use Rattle.std.specs.List.{AllByRecursion}

-- no control character in ASCII
abbrev pub IsPathByte : ℕ → Type 0
IsPathByte byte = (32 ≤ byte) × (byte ≢ 127)

-- a path without such characters
abbrev pub IsPath : List ℕ → Type 0
IsPath path = (0 < length path) × AllByRecursion IsPathByte path
