use Rattle.std.proofs.Common.{refl, sym, arith}
use Rattle.std.proofs.lemmas.Bool.{true≢false}
use Rattle.run_laws_tests.proofs.worked.reports_say_less.Goals as goal

pub returns-clause-added : goal.returns-clause-added
returns-clause-added c = λ says. omega (arith, says.added)

pub returns-clause-deleted : goal.returns-clause-deleted
returns-clause-deleted c = λ says. omega (arith, says.deleted)

pub returns-clause-empty : goal.returns-clause-empty
returns-clause-empty c = λ says. true≢false (sym (says.empty refl))

pub returns-clause-within : goal.returns-clause-within
returns-clause-within c = λ says. true≢false (sym (says.within refl))
