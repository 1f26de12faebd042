-- The paths of rounds, DIR/round-R and what follows it (this project's own).
use Rattle.std.specs.Prelude.{◌++◌, ◌∷◌, ℕ, suc, zero, List, [], codes}
use Rattle.std.specs.Fmt.{decimal}

-- DIR/round-R and the rest
abbrev pub round_path : List ℕ → ℕ → List ℕ → List ℕ
round_path folder number rest = folder ++ (codes "/round-" ++ (decimal number ++ rest))

-- the path of a round's formula
abbrev pub formula_path : List ℕ → ℕ → List ℕ
formula_path folder number = round_path folder number (codes ".cnf")

-- the path of a round's sizes
abbrev pub sizes_path : List ℕ → ℕ → List ℕ
sizes_path folder number = round_path folder number (codes ".sizes")

-- the path of a round's stream with this number (from 1)
abbrev pub stream_path : List ℕ → ℕ → ℕ → List ℕ
stream_path folder number stream = round_path folder number (codes ".stream-" ++ decimal stream)

-- the paths of the first `count` streams
abbrev pub stream_paths : List ℕ → ℕ → ℕ → List (List ℕ)
stream_paths folder number zero = []
stream_paths folder number (suc count) =
    stream_paths folder number count ++ stream_path folder number (suc count) ∷ []
