-- Lemmas about the answers, and about the end of a run.
use Rattle.std.proofs.Common.{◌++◌, ◌<◌, ◌≡◌, ◌⊎◌, Bool, List, [], Option, arith, false, inl, inr, refl, subst, sym, true, ℕ}
use Rattle.lrup_model.specs.Cube.{CubeValue, IsUnsatisfiableUnder, MakesAllTrue}
use Rattle.lrup_model.specs.Entailment.{IsUnsatisfiable}
use Rattle.lrup_model.specs.Formula.{Cnf}
use Rattle.lrup_text.specs.declared.device.Sink as Sink
use Rattle.run_outcome.specs.declared.outcome.Verdict.{Verdict}
use Rattle.run_outcome.specs.declared.outcome.Verdict.TheVariants as verdicts
use Rattle.command.specs.Commands.{SinkChange, SinkTook, TakesUnlessFailed, change}
use Rattle.solve.specs.Answers.{RunEnds, IsProved, IsRight, PrintsModel, SaysZero, printed_text, expected_status, status_after}
use Rattle.solve.specs.Printing.{PrintsComments, comments_text}
use Rattle.solve.specs.declared.answer.Answer.{Answer}
use Rattle.solve.specs.declared.answer.Answer.TheVariants as answers
use Rattle.solve.specs.declared.answer.Expected.{Expected}
use Rattle.solve.specs.declared.answer.Expected.TheVariants as expected
use Rattle.solve.specs.declared.answer.Statuses.{Statuses}
use Rattle.solve.specs.declared.answer.Statuses.TheVariants as statuses
use Rattle.solve.proofs.CommentLemmas.{took_both}

-- what a check's status says
pub proved_by : (formula : Cnf) (cube : CubeValue) (status : ℕ) (verdict : Verdict)
    → (verdict ≡ verdicts.Unsatisfiable → status ≡ 0) → (verdict ≡ verdicts.UnsatisfiableUnder → status ≡ 8)
    → (status ≡ 0 → IsUnsatisfiable formula) → (status ≡ 8 → IsUnsatisfiableUnder formula cube)
    → IsProved formula cube verdict
proved_by formula cube status verdicts.Unsatisfiable zero eight sound under = sound (zero refl)
proved_by formula cube status verdicts.UnsatisfiableUnder zero eight sound under = under (eight refl)
proved_by formula cube status verdicts.Unknown zero eight sound under = tt

-- of two verdicts that are so, either is
pub one_proved : (formula : Cnf) (cube : CubeValue) (verdict one other : Verdict) → (verdict ≡ one) ⊎ (verdict ≡ other)
    → IsProved formula cube one → IsProved formula cube other → IsProved formula cube verdict
one_proved formula cube verdict one other (inl is) here there = subst (IsProved formula cube) (sym is) here
one_proved formula cube verdict one other (inr is) here there = subst (IsProved formula cube) (sym is) there

-- comments, and then the answer, unless the sink had failed by then
pub ends_with : {W : Type 0} (its : Sink.Ghosts W) (formula : Cnf) (cube : CubeValue) (given : Statuses) (a b c : W)
    (answer : Answer) (result : ℕ) → PrintsComments its a b → IsRight formula cube answer
    → (its.has_failed b ≡ false → SinkTook (change its b c) (printed_text answer)) → (its.has_failed b ≡ true → c ≡ b)
    → result ≡ status_after (its.has_failed c) given answer → RunEnds formula cube given (change its a c) result
ends_with its formula cube given a b c answer result before right took stays status = record {
  comments = before.comments;
  answer = answer;
  right = right;
  took = took_both its a b c (comments_text before.comments) (printed_text answer) (its.has_failed b) refl before.took took stays;
  status = status;
}

-- if something is expected, the status is 0 or 1
at_most_1 : (its : Expected) (answer : Answer) → expected_status its answer < 2
at_most_1 expected.Unsatisfiable answers.Unsatisfiable = omega arith
at_most_1 expected.Unsatisfiable answers.UnsatisfiableUnder = omega arith
at_most_1 expected.Unsatisfiable (answers.Satisfiable literals) = omega arith
at_most_1 expected.Unsatisfiable answers.Unknown = omega arith
at_most_1 expected.UnsatisfiableUnder answers.Unsatisfiable = omega arith
at_most_1 expected.UnsatisfiableUnder answers.UnsatisfiableUnder = omega arith
at_most_1 expected.UnsatisfiableUnder (answers.Satisfiable literals) = omega arith
at_most_1 expected.UnsatisfiableUnder answers.Unknown = omega arith
at_most_1 expected.Satisfiable answers.Unsatisfiable = omega arith
at_most_1 expected.Satisfiable answers.UnsatisfiableUnder = omega arith
at_most_1 expected.Satisfiable (answers.Satisfiable literals) = omega arith
at_most_1 expected.Satisfiable answers.Unknown = omega arith

-- what status 20 says
at_20 : (formula : Cnf) (cube : CubeValue) (failed : Bool) (given : Statuses) (answer : Answer) → IsRight formula cube answer
    → 20 ≡ status_after failed given answer → IsUnsatisfiableUnder formula cube
at_20 formula cube true given answer right is = cc
at_20 formula cube false statuses.OfSolver answers.Unsatisfiable right is = λ assignment all _. right assignment all
at_20 formula cube false statuses.OfSolver answers.UnsatisfiableUnder right is = right
at_20 formula cube false statuses.OfSolver (answers.Satisfiable literals) right is = cc
at_20 formula cube false statuses.OfSolver answers.Unknown right is = cc
at_20 formula cube false statuses.OfChecker answers.Unsatisfiable right is = cc
at_20 formula cube false statuses.OfChecker answers.UnsatisfiableUnder right is = cc
at_20 formula cube false statuses.OfChecker (answers.Satisfiable literals) right is = cc
at_20 formula cube false statuses.OfChecker answers.Unknown right is = cc
at_20 formula cube false (statuses.Expect its) answer right is = absurd (omega (arith, is, at_most_1 its answer))

-- what status 8 says
at_8 : (formula : Cnf) (cube : CubeValue) (failed : Bool) (given : Statuses) (answer : Answer) → IsRight formula cube answer
    → 8 ≡ status_after failed given answer → IsUnsatisfiableUnder formula cube
at_8 formula cube true given answer right is = cc
at_8 formula cube false statuses.OfSolver answers.Unsatisfiable right is = cc
at_8 formula cube false statuses.OfSolver answers.UnsatisfiableUnder right is = cc
at_8 formula cube false statuses.OfSolver (answers.Satisfiable literals) right is = cc
at_8 formula cube false statuses.OfSolver answers.Unknown right is = cc
at_8 formula cube false statuses.OfChecker answers.Unsatisfiable right is = cc
at_8 formula cube false statuses.OfChecker answers.UnsatisfiableUnder right is = right
at_8 formula cube false statuses.OfChecker (answers.Satisfiable literals) right is = cc
at_8 formula cube false statuses.OfChecker answers.Unknown right is = cc
at_8 formula cube false (statuses.Expect its) answer right is = absurd (omega (arith, is, at_most_1 its answer))

-- what status 10 says
at_10 : (formula : Cnf) (cube : CubeValue) (before after : Option (List ℕ)) (failed : Bool) (given : Statuses)
    (comments : List (List ℕ)) (answer : Answer) → IsRight formula cube answer
    → TakesUnlessFailed failed before after (comments_text comments ++ printed_text answer)
    → 10 ≡ status_after failed given answer
    → PrintsModel formula cube (record { before = before; after = after; failed = failed })
at_10 formula cube before after true given comments answer right took is = cc
at_10 formula cube before after false statuses.OfSolver comments answers.Unsatisfiable right took is = cc
at_10 formula cube before after false statuses.OfSolver comments answers.UnsatisfiableUnder right took is = cc
at_10 formula cube before after false statuses.OfSolver comments (answers.Satisfiable literals) right took is = record {
  comments = comments;
  literals = literals.items;
  model = right;
  printed = took;
}
at_10 formula cube before after false statuses.OfSolver comments answers.Unknown right took is = cc
at_10 formula cube before after false statuses.OfChecker comments answers.Unsatisfiable right took is = cc
at_10 formula cube before after false statuses.OfChecker comments answers.UnsatisfiableUnder right took is = cc
at_10 formula cube before after false statuses.OfChecker comments (answers.Satisfiable literals) right took is = cc
at_10 formula cube before after false statuses.OfChecker comments answers.Unknown right took is = cc
at_10 formula cube before after false (statuses.Expect its) comments answer right took is =
    absurd (omega (arith, is, at_most_1 its answer))

-- what status 0 says
at_0 : (formula : Cnf) (cube : CubeValue) (before after : Option (List ℕ)) (failed : Bool) (given : Statuses)
    (comments : List (List ℕ)) (answer : Answer) → IsRight formula cube answer
    → TakesUnlessFailed failed before after (comments_text comments ++ printed_text answer)
    → 0 ≡ status_after failed given answer
    → SaysZero given formula cube (record { before = before; after = after; failed = failed })
at_0 formula cube before after true given comments answer right took is = cc
at_0 formula cube before after false statuses.OfSolver comments answer right took is = tt
at_0 formula cube before after false statuses.OfChecker comments answers.Unsatisfiable right took is = right
at_0 formula cube before after false statuses.OfChecker comments answers.UnsatisfiableUnder right took is = cc
at_0 formula cube before after false statuses.OfChecker comments (answers.Satisfiable literals) right took is = cc
at_0 formula cube before after false statuses.OfChecker comments answers.Unknown right took is = cc
at_0 formula cube before after false (statuses.Expect expected.Unsatisfiable) comments answers.Unsatisfiable right took is = right
at_0 formula cube before after false (statuses.Expect expected.Unsatisfiable) comments answers.UnsatisfiableUnder right took is = cc
at_0 formula cube before after false (statuses.Expect expected.Unsatisfiable) comments (answers.Satisfiable literals) right took is = cc
at_0 formula cube before after false (statuses.Expect expected.Unsatisfiable) comments answers.Unknown right took is = cc
at_0 formula cube before after false (statuses.Expect expected.UnsatisfiableUnder) comments answers.Unsatisfiable right took is = cc
at_0 formula cube before after false (statuses.Expect expected.UnsatisfiableUnder) comments answers.UnsatisfiableUnder right took is =
    right
at_0 formula cube before after false (statuses.Expect expected.UnsatisfiableUnder) comments (answers.Satisfiable literals) right took is =
    cc
at_0 formula cube before after false (statuses.Expect expected.UnsatisfiableUnder) comments answers.Unknown right took is = cc
at_0 formula cube before after false (statuses.Expect expected.Satisfiable) comments answers.Unsatisfiable right took is = cc
at_0 formula cube before after false (statuses.Expect expected.Satisfiable) comments answers.UnsatisfiableUnder right took is = cc
at_0 formula cube before after false (statuses.Expect expected.Satisfiable) comments (answers.Satisfiable literals) right took is = record {
  comments = comments;
  literals = literals.items;
  model = right;
  printed = took;
}
at_0 formula cube before after false (statuses.Expect expected.Satisfiable) comments answers.Unknown right took is = cc

-- from the end of a run to what its status says
module _ (formula : Cnf) (cube : CubeValue) (given : Statuses) (out : SinkChange) (result : ℕ)
    (ends : RunEnds formula cube given out result) where
  status_is : (status : ℕ) → result ≡ status → status ≡ status_after out.failed given ends.answer
  status_is status is = subst (λ (n : ℕ). n ≡ status_after out.failed given ends.answer) is ends.status

  pub under_of : result ≡ 20 → IsUnsatisfiableUnder formula cube
  under_of is = at_20 formula cube out.failed given ends.answer ends.right (status_is 20 is)

  pub unsatisfiable_of : result ≡ 20 → cube ≡ [] → IsUnsatisfiable formula
  unsatisfiable_of is none = λ assignment all.
      under_of is assignment all (subst (λ (its : CubeValue). MakesAllTrue assignment its) (sym none) tt)

  pub eight_of : result ≡ 8 → IsUnsatisfiableUnder formula cube
  eight_of is = at_8 formula cube out.failed given ends.answer ends.right (status_is 8 is)

  pub model_of : result ≡ 10 → PrintsModel formula cube out
  model_of is =
      at_10 formula cube out.before out.after out.failed given ends.comments ends.answer ends.right ends.took (status_is 10 is)

  pub zero_of : result ≡ 0 → SaysZero given formula cube out
  zero_of is =
      at_0 formula cube out.before out.after out.failed given ends.comments ends.answer ends.right ends.took (status_is 0 is)
