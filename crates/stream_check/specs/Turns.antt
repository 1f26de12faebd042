-- The order of lines in a run on one thread: it takes the streams in turn (this project's own).
use Rattle.std.specs.Prelude.{◌==◌, ◌+◌, ◌++◌, ◌<◌, ◌≤◌, ℕ, true, List, [], ◌∷◌, map, count_by}
use Rattle.lrup_model.specs.Formula.{Cnf}
use Rattle.stream_check.specs.declared.report.Report.{Report}
use Rattle.stream_check.specs.Streams.{Stream, IsOrdered, RunParamsValue}

-- An order of lines is given here as a list with the number (from 1) of each line's stream; this
-- many of the lines belong to stream s.
abbrev pub line_count : ℕ → List ℕ → ℕ
line_count s order = count_by (λ t. t == s) order

-- After these lines stream s may have a turn: no stream has had more lines than s, except that a
-- stream with a lower number may be one line ahead.
abbrev pub IsTurnOf : ℕ → List ℕ → Type 0
IsTurnOf s before = (t : ℕ) → (s ≤ t → line_count t before ≤ line_count s before)
    × (t < s → line_count t before ≤ line_count s before + 1)

-- After the lines `before`, each of these lines comes when its stream may have a turn.
abbrev pub AreTurns : List ℕ → List ℕ → Type 0
AreTurns before [] = Unit {0}
AreTurns before (s ∷ later) = IsTurnOf s before × AreTurns (before ++ s ∷ []) later

-- The order takes the streams in turn: first the first line of each stream, from stream 1 on, then
-- the second line of each stream that has one, and so on.
abbrev pub IsRoundRobin : List ℕ → Type 0
IsRoundRobin order = AreTurns [] order

-- The reports of all streams have an order of lines that takes the streams in turn.
pub record IsOrderedRoundRobin (formula : Cnf) (run_params : RunParamsValue) (streams : List Stream)
    (reports : List Report) : Type 0 where
  pub order : IsOrdered formula run_params (λ s. true) streams reports
  pub turns : IsRoundRobin (map (λ block. block.stream) order.blocks)
