-- The exit statuses (this project's own).
use Rattle.std.specs.Prelude.{ℕ, Result, Ok, Err}
use Rattle.model_check.specs.declared.answer.Answer.{Answer}
use Rattle.model_check.specs.declared.answer.Answer.TheVariants.{Satisfies, Contradiction, UntrueClause, UntrueAssumption}
use Rattle.model_check.specs.declared.fault.CheckFault.TheVariants as files
use Rattle.lrup_model_check.specs.declared.answering.Fault.{Fault}
use Rattle.lrup_model_check.specs.declared.answering.Fault.TheVariants.{Check, Unwritten}
use Rattle.lrup_model_check.specs.declared.failure.Failure.{Failure}
use Rattle.lrup_model_check.specs.declared.failure.Failure.TheVariants as failures

abbrev pub answer_status : Answer → ℕ
answer_status Satisfies = 10
answer_status (Contradiction l) = 3
answer_status (UntrueClause number) = 3
answer_status (UntrueAssumption l) = 3

abbrev pub fault_status : Fault → ℕ
fault_status (Check files.Memory) = 6
fault_status (Check fault) = 4
fault_status Unwritten = 7

abbrev pub failure_status : Failure → ℕ
failure_status failures.Usage = 2
failure_status failures.NotText = 2
failure_status (failures.Unread role) = 5
failure_status (failures.Answer fault) = fault_status fault
failure_status failures.Memory = 6

abbrev pub found_status : Result Answer Failure → ℕ
found_status (Ok answer) = answer_status answer
found_status (Err failure) = failure_status failure
