-- What the answers of a run of `lrup-solve` mean, and how they are printed (this project's own).
use Rattle.std.specs.Prelude.{◌++◌, ◌≡◌, Bool, List, codes, false, true, ℕ, ℤ}
use Rattle.std.specs.Io.KnownBytes.{Appends}
use Rattle.lrup_model.specs.Cube.{CubeValue, IsUnsatisfiableUnder}
use Rattle.lrup_model.specs.Entailment.{IsUnsatisfiable}
use Rattle.lrup_model.specs.Formula.{Cnf}
use Rattle.run_outcome.specs.declared.outcome.Verdict.{Verdict}
use Rattle.run_outcome.specs.declared.outcome.Verdict.TheVariants as verdicts
use Rattle.command.specs.Commands.{IsUntouched, SinkChange, SinkTook}
use Rattle.model_check.specs.Answers.{AreSatisfiedBy}
use Rattle.solve.specs.Printing.{comments_text, model_lines}
use Rattle.solve.specs.declared.answer.Answer.{Answer}
use Rattle.solve.specs.declared.answer.Answer.TheVariants as answers
use Rattle.solve.specs.declared.answer.Expected.{Expected}
use Rattle.solve.specs.declared.answer.Expected.TheVariants as expected
use Rattle.solve.specs.declared.answer.Statuses.{Statuses}
use Rattle.solve.specs.declared.answer.Statuses.TheVariants as statuses

-- what the verdict of a check says is so
abbrev pub IsProved : Cnf → CubeValue → Verdict → Type 0
IsProved formula cube verdicts.Unsatisfiable = IsUnsatisfiable formula
IsProved formula cube verdicts.UnsatisfiableUnder = IsUnsatisfiableUnder formula cube
IsProved formula cube verdicts.Unknown = Unit {0}

-- what the answer says is so
abbrev pub IsRight : Cnf → CubeValue → Answer → Type 0
IsRight formula cube answers.Unsatisfiable = IsUnsatisfiable formula
IsRight formula cube answers.UnsatisfiableUnder = IsUnsatisfiableUnder formula cube
IsRight formula cube (answers.Satisfiable literals) = AreSatisfiedBy formula cube literals.items
IsRight formula cube answers.Unknown = Unit {0}

abbrev pub printed_text : Answer → List ℕ
printed_text answers.Unsatisfiable = codes "s UNSATISFIABLE\n"
printed_text answers.UnsatisfiableUnder = codes "s UNSATISFIABLE UNDER ASSUMPTIONS\n"
printed_text (answers.Satisfiable literals) = codes "s SATISFIABLE\n" ++ model_lines literals.items
printed_text answers.Unknown = codes "s UNKNOWN\n"

-- the exit status of a run whose answer was printed

abbrev pub solver_status : Answer → ℕ
solver_status answers.Unsatisfiable = 20
solver_status answers.UnsatisfiableUnder = 20
solver_status (answers.Satisfiable literals) = 10
solver_status answers.Unknown = 0

abbrev pub checker_status : Answer → ℕ
checker_status answers.Unsatisfiable = 0
checker_status answers.UnsatisfiableUnder = 8
checker_status (answers.Satisfiable literals) = 3
checker_status answers.Unknown = 3

-- 0 if this is the answer that was expected, and otherwise 1
abbrev pub expected_status : Expected → Answer → ℕ
expected_status expected.Unsatisfiable answers.Unsatisfiable = 0
expected_status expected.Unsatisfiable answers.UnsatisfiableUnder = 1
expected_status expected.Unsatisfiable (answers.Satisfiable literals) = 1
expected_status expected.Unsatisfiable answers.Unknown = 1
expected_status expected.UnsatisfiableUnder answers.Unsatisfiable = 1
expected_status expected.UnsatisfiableUnder answers.UnsatisfiableUnder = 0
expected_status expected.UnsatisfiableUnder (answers.Satisfiable literals) = 1
expected_status expected.UnsatisfiableUnder answers.Unknown = 1
expected_status expected.Satisfiable answers.Unsatisfiable = 1
expected_status expected.Satisfiable answers.UnsatisfiableUnder = 1
expected_status expected.Satisfiable (answers.Satisfiable literals) = 0
expected_status expected.Satisfiable answers.Unknown = 1

abbrev pub status_by : Statuses → Answer → ℕ
status_by statuses.OfSolver answer = solver_status answer
status_by statuses.OfChecker answer = checker_status answer
status_by (statuses.Expect its) answer = expected_status its answer

-- the exit status: the answer's, or 1 if not all could be printed
abbrev pub status_after : Bool → Statuses → Answer → ℕ
status_after false given answer = status_by given answer
status_after true given answer = 1

-- Comments were printed, and then one answer, which is right; or a prefix of this if the sink
-- failed. The exit status matches.
pub record RunEnds (formula : Cnf) (cube : CubeValue) (given : Statuses) (out : SinkChange)
    (result : ℕ) : Type 0 where
  pub comments : List (List ℕ)
  pub answer : Answer
  pub right : IsRight formula cube answer
  pub took : SinkTook out (comments_text comments ++ printed_text answer)
  pub status : result ≡ status_after out.failed given answer

-- Comments were printed, and then that there is a model, and its lines. The literals in these lines
-- are consistent, and every assignment that makes them true satisfies the formula, and makes all
-- assumed literals true.
pub record PrintsModel (formula : Cnf) (cube : CubeValue) (out : SinkChange) : Type 0 where
  pub comments : List (List ℕ)
  pub literals : List ℤ
  pub model : AreSatisfiedBy formula cube literals
  pub printed : Appends out.before out.after
      (comments_text comments ++ (codes "s SATISFIABLE\n" ++ model_lines literals))

-- what status 0 says, unless it is a solver's, which says nothing
abbrev pub SaysZero : Statuses → Cnf → CubeValue → SinkChange → Type 0
SaysZero statuses.OfSolver formula cube out = Unit {0}
SaysZero statuses.OfChecker formula cube out = IsUnsatisfiable formula
SaysZero (statuses.Expect expected.Unsatisfiable) formula cube out = IsUnsatisfiable formula
SaysZero (statuses.Expect expected.UnsatisfiableUnder) formula cube out =
    IsUnsatisfiableUnder formula cube
SaysZero (statuses.Expect expected.Satisfiable) formula cube out = PrintsModel formula cube out

-- what is said on standard error if not all could be printed
abbrev pub unprinted : List ℕ
unprinted = codes "lrup-solve: cannot write the answer\n"

-- standard error gets a message if standard output has failed, and nothing else
abbrev pub SaysUnprinted : Bool → SinkChange → Type 0
SaysUnprinted false err = IsUntouched err
SaysUnprinted true err = SinkTook err unprinted
