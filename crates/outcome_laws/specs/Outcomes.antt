-- What two outcomes of the program have in common (this project's own).
use Rattle.std.specs.Prelude.{◌≡◌, ℕ, List, [], Some}
use Rattle.lrup_model.specs.Formula.{Cnf}
use Rattle.lrup_model.specs.Layout.{LayoutValue}
use Rattle.stream_check.specs.declared.report.Report.{Report}
use Rattle.stream_check.specs.Excuses.{CutOff, IsExcused}
use Rattle.stream_check.specs.StreamParams.{StreamParams}
use Rattle.stream_check.specs.Closed.{IsOfStream}
use Rattle.run_outcome.specs.Outcomes.{layout_of}
use Rattle.command_line.specs.declared.sizes.Sizes.{Sizes}
use Rattle.command_line.specs.declared.words.CommandLine.{CommandLine}
use Rattle.run_files.specs.Files.{FilesView}
use Rattle.run_files.specs.Asked.{Text, options_by}

-- the layout of a round
abbrev pub layout_in : Cnf → Sizes → LayoutValue
layout_in formula sizes = layout_of (options_by 0 sizes) formula sizes.streams

-- Without a cube

-- a stream's parameters with the empty cube
abbrev pub bare_params : StreamParams → StreamParams
bare_params params =
    record { layout = params.layout; cube = []; stream = params.stream; tries = params.tries }

-- the report under the empty cube; only the empty clause is within this cube
abbrev pub bare_report : Report → Report
bare_report report = record {
  added = report.added;
  deleted = report.deleted;
  empty = report.empty;
  within = report.empty;
  ending = report.ending;
}

-- the reports say the same except about clauses within a cube
pub record SayTheSame (report other : Report) : Type 0 where
  pub added : report.added ≡ other.added
  pub deleted : report.deleted ≡ other.deleted
  pub empty : report.empty ≡ other.empty
  pub ending : report.ending ≡ other.ending

-- The file of stream s of the command line is known to have these bytes. The stream has this
-- report, which says neither that memory ran out nor that a read failed.
pub record ReportsOn (files : FilesView) (given : CommandLine)
    (reports : List Report) (s : ℕ) (whole : List ℕ) (report : Report) : Type 0 where
  pub path : Text
  pub names : IsOfStream given.streams s path
  pub contents : files.contents path ≡ Some whole
  pub says : IsOfStream reports s report
  pub fine : ¬ IsExcused CutOff report
