-- Laws of outcomes. Each is the contract of a function in the module `laws`.
use Rattle.std.specs.Prelude.{◌≡◌, ℕ, List, [], None, Some}
use Rattle.lrup_model.specs.Cube.{CubeValue}
use Rattle.lrup_model.specs.Event.{History}
use Rattle.lrup_model.specs.Formula.{Cnf}
use Rattle.lrup_model.specs.Layout.{Fits}
use Rattle.lrup_text.specs.declared.device.StreamEnd.{StreamEnd}
use Rattle.stream_check.specs.declared.report.Report.{Report}
use Rattle.stream_check.specs.Judging.{JudgesBlocks}
use Rattle.stream_check.specs.Excuses.{CutOff, IsExcused}
use Rattle.stream_check.specs.StreamParams.{StreamParams}
use Rattle.stream_check.specs.Closed.{IsOfStream, CiteWithin}
use Rattle.stream_check.specs.Streams.{InputObservation, RunParamsValue}
use Rattle.run_laws.specs.Groups.{one, IsRun}
use Rattle.run_outcome.specs.ReportText.{stream_line}
use Rattle.command_line.specs.CommandLine.{IsCommandLineOf, rounds_of}
use Rattle.command_line.specs.declared.words.CommandLine.{CommandLine}
use Rattle.run_files.specs.Files.{FilesView, WasReadIn}
use Rattle.command.specs.Commands.{SinkChange}
use Rattle.run_files.specs.Asked.{Text, sizes_of}
use Rattle.command.specs.Rounds.{ProgramEnds, Round, WereRounds}
use Rattle.dimacs.specs.FormulaText.{IsFormulaText}
use Rattle.lrup_model.specs.Entailment.{IsUnsatisfiable}
use Rattle.outcome_laws.specs.Outcomes.{bare_params, bare_report, layout_in, SayTheSame, ReportsOn}

-- if a stream is judged under a cube, it is judged without a cube, too, with a report that says the
-- same except about clauses within the cube
abbrev pub CubeIsIrrelevant : Type 0
CubeIsIrrelevant = (c : StreamParams) (bytes : List ℕ) (end : StreamEnd) (blocks : List History)
    (report : Report)
    → JudgesBlocks c bytes end blocks report
    → JudgesBlocks (bare_params c) bytes end blocks (bare_report report)

-- In two runs of one formula, with the same layout and tries, suppose that a stream's readers have
-- the same bytes at the start, and that the stream cites only its own clauses and the formula's.
-- Then its two reports say the same except about clauses within a cube, unless one of them says
-- that memory ran out or a read failed. The cubes, the other streams and the use of threads make no
-- difference.
abbrev pub SameBytesSameReport : Type 0
SameBytesSameReport =
    (f : Cnf) (run_params other_run_params : RunParamsValue) (s : ℕ) (whole : List ℕ)
    (observed other_observed : List InputObservation)
    (observation other_observation : InputObservation)
    (reports other_reports : List Report) (report other_report : Report)
    → Fits run_params.layout f → other_run_params.layout ≡ run_params.layout
    → other_run_params.tries ≡ run_params.tries
    → CiteWithin run_params.layout (one s) whole
    → IsRun f run_params observed reports → IsRun f other_run_params other_observed other_reports
    → IsOfStream observed s observation → observation.entry ≡ Some whole
    → IsOfStream other_observed s other_observation → other_observation.entry ≡ Some whole
    → IsOfStream reports s report → IsOfStream other_reports s other_report
    → ¬ IsExcused CutOff report → ¬ IsExcused CutOff other_report
    → SayTheSame report other_report

-- Two command lines of the same words have the same tries, sizes, streams and formula.
abbrev pub OneCommandLine : Type 0
OneCommandLine = (words : List Text) (given other : CommandLine) → IsCommandLineOf words given
    → IsCommandLineOf words other
    → (other.tries ≡ given.tries) × (sizes_of other ≡ sizes_of given)
    × (other.streams ≡ given.streams) × (other.formula.now ≡ given.formula.now)

-- A run whose words ask for no rounds consists of round 1: no round comes before the last one.
abbrev pub OneRoundAlone : FilesView → Type 0
OneRoundAlone files = (given : CommandLine) (cube : CubeValue)
    (last : Round files.its given cube) (before : List (Round files.its given cube))
    → rounds_of given.next ≡ None → WereRounds files given cube last before → before ≡ []

-- Suppose that two runs of the program have the same tries and sizes, and that each of two files,
-- the formula's and that of stream s, is known to have the same bytes in both runs. If this stream
-- cites only its own clauses and the formula's, it has the same report line in round 1 of both
-- runs, unless one of its reports says that memory ran out or a read failed. The other streams'
-- files, the assumed literals and the use of threads make no difference. A run without rounds
-- consists of round 1 (`OneRoundAlone`).
abbrev pub OutcomesAgree : FilesView → FilesView → Type 0
OutcomesAgree files others =
    (given other_given : CommandLine) (cube other_cube : CubeValue)
    (round : Round files.its given cube) (other : Round others.its other_given other_cube)
    (s : ℕ) (text whole : List ℕ) (report other_report : Report)
    → WereRounds files given cube round [] → WereRounds others other_given other_cube other []
    → other_given.tries ≡ given.tries → sizes_of other_given ≡ sizes_of given
    → files.contents given.formula.now ≡ Some text
    → others.contents other_given.formula.now ≡ Some text
    → CiteWithin (layout_in round.formula round.sizes) (one s) whole
    → ReportsOn files given round.reports s whole report
    → ReportsOn others other_given other.reports s whole other_report
    → stream_line s report ≡ stream_line s other_report

-- With status 0, the ending of the program says that the words give a command line, and that the
-- bytes read from its FORMULA are a text of a formula that no assignment satisfies. So the clause
-- `ends` says what the clause `sound` leaves out about the words.
abbrev pub Status0HasACommandLine : FilesView → Type 0
Status0HasACommandLine files = (words : List Text) (after : files.its.State) (out err : SinkChange)
    → ProgramEnds files words after out err 0
    → (given : CommandLine) × (bytes : List ℕ) × (f : Cnf) × (next : files.its.State)
    × IsCommandLineOf words given
    × WasReadIn files files.first given.formula.now bytes next
    × IsFormulaText bytes f × IsUnsatisfiable f
