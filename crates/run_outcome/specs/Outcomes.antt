-- What a run is asked for, and its verdict (this project's own).
use Rattle.std.specs.Prelude.{ℕ, List, length, if◌then◌else◌}
use Rattle.std.specs.List.{list_any}
use Rattle.lrup_model.specs.Cube.{CubeValue}
use Rattle.lrup_model.specs.Formula.{Cnf, formula_literals}
use Rattle.lrup_model.specs.Layout.{LayoutValue}
use Rattle.stream_check.specs.declared.report.Report.{Report}
use Rattle.run_outcome.specs.declared.outcome.Verdict.{Verdict}
use Rattle.run_outcome.specs.declared.outcome.Verdict.TheVariants.{Unsatisfiable, UnsatisfiableUnder, Unknown}
use Rattle.stream_check.specs.Streams.{RunParamsValue}

-- how many times an identity of another stream is fetched again while it is vacant; and for each
-- stream, its number of identities and its room in literals
pub record OptionsValue : Type 0 where
  pub tries : ℕ
  pub lines : ℕ
  pub room : ℕ

-- the layout of a formula and this many streams
abbrev pub layout_of : OptionsValue → Cnf → ℕ → LayoutValue
layout_of options formula streams =
    record {
      vars = formula.vars;
      clauses = length formula.clauses;
      literals = formula_literals formula;
      streams = streams;
      lines = options.lines;
      room = options.room;
    }

-- the parameters for checking this many streams of a formula, under a cube
abbrev pub run_params_of : OptionsValue → CubeValue → Cnf → ℕ → RunParamsValue
run_params_of options cube formula streams =
    record { layout = layout_of options formula streams; cube = cube; tries = options.tries }

-- The verdict: 'unsatisfiable' exactly if some stream added the empty clause; otherwise
-- 'unsatisfiable under assumptions' exactly if some stream added a clause within the cube.
abbrev pub verdict_of : List Report → Verdict
verdict_of reports =
    if list_any (λ report. report.empty) reports then Unsatisfiable
    else if list_any (λ report. report.within) reports then UnsatisfiableUnder else Unknown
