-- What the words ask for (this project's own).
use Rattle.std.specs.Borrow.{Bor}
use Rattle.std.specs.Prelude.{◌+◌, List, None, Option, Some, length, option_map, ℕ}
use Rattle.lrup_model.specs.Cube.{CubeValue}
use Rattle.lrup_model.specs.Formula.{Cnf}
use Rattle.stream_check.specs.Streams.{RunParamsValue}
use Rattle.run_outcome.specs.Outcomes.{OptionsValue, run_params_of}
use Rattle.command_line.specs.declared.sizes.Sizes.{Sizes}
use Rattle.command_line.specs.declared.words.CommandLine.{CommandLine}
use Rattle.command_line.specs.declared.words.Next.{Next}
use Rattle.command_line.specs.declared.words.Next.TheVariants.{Checkpoint, Nothing, Rounds}
use Rattle.run_files.specs.Paths as round_paths

-- a word or a path
abbrev pub Text : Type 0
Text = List ℕ

-- the borrowed path, if any
abbrev pub path_of : Option (Bor Text) → Option Text
path_of path = option_map (λ lent. lent.now) path

-- the path of the assumed literals in a command line, if any
abbrev pub assumed_at : CommandLine → Option Text
assumed_at given = path_of given.assume

-- the sizes of round 1, as a command line gives them
abbrev pub sizes_of : CommandLine → Sizes
sizes_of given =
    record { streams = length given.streams; lines = given.lines; room = given.room }

-- the options of a round of these sizes
abbrev pub options_by : ℕ → Sizes → OptionsValue
options_by tries sizes = record { tries = tries; lines = sizes.lines; room = sizes.room }

-- the parameters for checking the streams of a round with this formula and these sizes, under a
-- cube
abbrev pub run_params_by : CommandLine → CubeValue → Cnf → Sizes → RunParamsValue
run_params_by given cube formula sizes =
    run_params_of (options_by given.tries sizes) cube formula sizes.streams

-- the path of the file to which the round with this number saves its clauses, if any: the
-- checkpoint that the words ask for, or the formula of the next round
abbrev pub created_path : Next → ℕ → Option Text
created_path Nothing number = None
created_path (Checkpoint path) number = Some path.now
created_path (Rounds folder) number = Some (round_paths.formula_path folder.now (number + 1))
