-- The worked example: four clauses over two variables, and room for one literal per stream. There
-- is one stream with the identities 5 and 6, or there are two, the first with 5 and 7.
use Rattle.std.specs.Prelude.{◌≡◌, ◌⊎◌, ◌≤◌, ◌++◌, ℕ, true, false, pos, negsuc, [], ◌∷◌, List, Some, codes}
use Rattle.lrup_model.specs.Cube.{CubeValue}
use Rattle.lrup_model.specs.Layout.{LayoutValue}
use Rattle.lrup_text.specs.Lines.{StreamLine, Addition, Deletion, Import}
use Rattle.stream_check.specs.declared.report.Ending.TheVariants as endings
use Rattle.stream_check.specs.declared.report.Report.{Report}
use Rattle.stream_check.specs.Excuses.{CutOff, Lacking, IsExcused, IsExcusedAt}
use Rattle.stream_check.specs.Closed.{IsOfStream}
use Rattle.stream_check.specs.Streams.{InputObservation, RunParamsValue, stream_params}
use Rattle.run_laws.specs.Groups.{IsRun}
use Rattle.run_laws.specs.Valid.{Database, first_database, after_line}
use Rattle.run_laws.specs.Valid.{Step}
use Rattle.run_laws.specs.Together.{HaveTexts}
use Rattle.test_support.specs.Worked.{four, unit}

abbrev pub one_stream : LayoutValue
one_stream = record { vars = 2; clauses = 4; literals = 8; streams = 1; lines = 2; room = 1 }

abbrev pub two_streams : LayoutValue
two_streams = record { vars = 2; clauses = 4; literals = 8; streams = 2; lines = 2; room = 1 }

-- one stream with room for two literals, for lines that have room but are wrong in another way
abbrev pub roomy : LayoutValue
roomy = record { vars = 2; clauses = 4; literals = 8; streams = 1; lines = 2; room = 2 }

-- 5 2 0 1 2 0 / 6 0 5 3 4 0
abbrev pub refutation : List StreamLine
refutation = Addition 5 unit (1 ∷ 2 ∷ []) ∷ Addition 6 [] (5 ∷ 3 ∷ 4 ∷ []) ∷ []

-- the databases before the first line; after the line `5 2 0 1 2 0`; after this line and `5 d 5 0`;
-- and after only the line `5 d 1 0`
abbrev pub at_first : Database
at_first = first_database four one_stream

abbrev pub with_five : Database
with_five = after_line at_first (Addition 5 unit (1 ∷ 2 ∷ []))

abbrev pub without_five : Database
without_five = after_line with_five (Deletion 5 (5 ∷ []))

abbrev pub without_one : Database
without_one = after_line at_first (Deletion 5 (1 ∷ []))

-- the databases with more room: before the first line, and after `5 2 2 0 1 2 0`
abbrev pub at_roomy : Database
at_roomy = first_database four roomy

abbrev pub with_repeat : Database
with_repeat = after_line at_roomy (Addition 5 (pos 2 ∷ pos 2 ∷ []) (1 ∷ 2 ∷ []))

-- stream 1: 5 2 0 1 2 0; and then stream 2: 5 i 2 0 / 6 0 5 3 4 0 / 6 d 5 0
abbrev pub shared : List Step
shared =
    record { stream = 1; line = Addition 5 unit (1 ∷ 2 ∷ []) }
    ∷ record { stream = 2; line = Import 5 unit }
    ∷ record { stream = 2; line = Addition 6 [] (5 ∷ 3 ∷ 4 ∷ []) }
    ∷ record { stream = 2; line = Deletion 6 (5 ∷ []) }
    ∷ []

-- stream 2: 6 -2 0 3 4 0; then stream 1: 5 2 0 1 2 0; stream 2: 6 d 5 3 0; and stream 1:
-- 7 0 5 3 4 0
abbrev pub crossed : List Step
crossed =
    record { stream = 2; line = Addition 6 (negsuc 1 ∷ []) (3 ∷ 4 ∷ []) }
    ∷ record { stream = 1; line = Addition 5 unit (1 ∷ 2 ∷ []) }
    ∷ record { stream = 2; line = Deletion 6 (5 ∷ 3 ∷ []) }
    ∷ record { stream = 1; line = Addition 7 [] (5 ∷ 3 ∷ 4 ∷ []) }
    ∷ []

-- stream 1: 5 2 0 1 2 0 / 5 d 5 0; and then stream 2: 5 i 2 0
abbrev pub retired_first : List Step
retired_first =
    record { stream = 1; line = Addition 5 unit (1 ∷ 2 ∷ []) }
    ∷ record { stream = 1; line = Deletion 5 (5 ∷ []) }
    ∷ record { stream = 2; line = Import 5 unit }
    ∷ []

-- What the laws say about runs with these lines

-- a report of one addition
abbrev pub one_added : Report
one_added = record {
  added = 1;
  deleted = 0;
  empty = false;
  within = false;
  ending = endings.Ended;
}

-- the parameters of a run with this layout, cube and number of tries
abbrev pub run_params_at : LayoutValue → CubeValue → ℕ → RunParamsValue
run_params_at p cube tries = record { layout = p; cube = cube; tries = tries }

-- the report says that the stream added the empty clause and ended, with these counts
pub record Counts (report : Report) (additions deletions : ℕ) : Type 0 where
  pub added : report.added ≡ additions
  pub deleted : report.deleted ≡ deletions
  pub empty : report.empty ≡ true
  pub ending : report.ending ≡ endings.Ended

-- If the reader of stream 1 has exactly the bytes of the refutation at the start, a run reports two
-- additions, unless memory ran out or a read failed.
abbrev pub RefutationCounted : Type 0
RefutationCounted = (cube : CubeValue) (tries : ℕ) (observed : List InputObservation)
    (observation : InputObservation)
    (reports : List Report) (report : Report)
    → IsRun four (run_params_at one_stream cube tries) observed reports
    → IsOfStream observed 1 observation
    → observation.entry ≡ Some (codes "5 2 0 1 2 0\n6 0 5 3 4 0\n") → IsOfStream reports 1 report
    → ¬ IsExcused CutOff report → Counts report 2 0

-- If the bytes of stream 1 begin with the refutation, a run reports at least two additions, one of
-- them of the empty clause, unless memory ran out, or a read failed, in these two lines.
abbrev pub BeginningCounted : Type 0
BeginningCounted = (cube : CubeValue) (tries : ℕ) (observed : List InputObservation)
    (observation : InputObservation)
    (reports : List Report) (report : Report) (more : List ℕ)
    → IsRun four (run_params_at one_stream cube tries) observed reports
    → IsOfStream observed 1 observation
    → observation.entry ≡ Some (codes "5 2 0 1 2 0\n6 0 5 3 4 0\n" ++ more)
    → IsOfStream reports 1 report
    → ((2 ≤ report.added) × (report.empty ≡ true))
    ⊎ ((line : ℕ) × (line ≤ 2) × IsExcusedAt CutOff report line)

-- If the bytes of a run's readers begin with the texts of the shared lines, and nothing comes after
-- the texts of stream 2, the run reports one addition and one deletion of that stream, or that the
-- clause of stream 1 wasn't there, unless memory ran out or a read failed.
abbrev pub SharedCounted : Type 0
SharedCounted = (cube : CubeValue) (tries : ℕ) (observed : List InputObservation)
    (observation : InputObservation)
    (reports : List Report) (report : Report)
    → IsRun four (run_params_at two_streams cube tries) observed reports
    → HaveTexts (λ s. true) shared observed
    → IsOfStream observed 2 observation
    → observation.entry ≡ Some (codes "5 i 2 0\n6 0 5 3 4 0\n6 d 5 0\n")
    → IsOfStream reports 2 report → ¬ IsExcused CutOff report
    → Counts report 1 1
    ⊎ IsExcused (Lacking (stream_params (run_params_at two_streams cube tries) 2)) report
