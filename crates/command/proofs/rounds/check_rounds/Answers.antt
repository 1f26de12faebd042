use Rattle.std.proofs.Common.{◌+◌, ◌∙◌, ℕ, arith, Ok, Option, ap, inl, inr, refl, subst, sym}
use Rattle.lrup_model.specs.Formula.{Cnf}
use Rattle.std.specs.Cow.{cow_value}
use Rattle.command_line.specs.CommandLine.{rounds_of}
use Rattle.command_line.specs.declared.sizes.Sizes.{Sizes}
use Rattle.run_files.specs.Causes.{IsRoundStartCause}
use Rattle.run_files.specs.Files.{effects_of}
use Rattle.command.specs.internal.RoundProgress.{RoundsSoFar}
use Rattle.command.proofs.RoundLemmas.{ends_alone, ends_barred, ends_high, ends_without, fails_after, once_of, agrees_first}
use Rattle.command.proofs.rounds.check_rounds.Goals as goal

-- the words ask for no rounds
pub returns-in_default : goal.returns-in_default
returns-in_default g c =
    let its = effects_of g.F.Files g.F.Machine g.F.Input.Source g.F.Output.Sink in
    let of = c.in-Ok.ensures in
    let checked = c.in-Ok.checked in
    let round = c.args.round in
    let line = c.args.course.now.line.now in
    let cube = c.args.course.now.cube.now in
    record {
      finished = λ first opened.
          ends_alone its line cube (cow_value round.formula) first checked.last checked.next c.check_round.new.files
          (once_of line.next c.in_default.not-Rounds)
          (agrees_first its line cube (cow_value round.formula) first checked.last checked.next c.args.files.now c.check_round.new.files
          round.readers.items (of.number ∙ c.requires.one) opened of.found (of.sizes ∙ c.requires.sizes));
      cause = λ first opened. tt;
    }

pub loop-number-init : goal.loop-number-init
loop-number-init g c =
    let its = effects_of g.F.Files g.F.Machine g.F.Input.Source g.F.Output.Sink in
    let of = c.in-Ok.ensures in
    let checked = c.in-Ok.checked in
    let round = c.args.round in
    record {
      so_far = λ first opened.
          agrees_first its c.args.course.now.line.now c.args.course.now.cube.now (cow_value round.formula) first checked.last checked.next
          c.args.files.now c.check_round.new.files round.readers.items (of.number ∙ c.requires.one) opened of.found
          (of.sizes ∙ c.requires.sizes);
      number = omega (arith, of.number, c.requires.one);
    }

-- the run doesn't continue after the last round
pub returns-in-None-clause-finished : goal.returns-in-None-clause-finished
returns-in-None-clause-finished g c first opened =
    let its = effects_of g.F.Files g.F.Machine g.F.Input.Source g.F.Output.Sink in
    let line = c.args.course.now.line.now in
    let cube = c.args.course.now.cube.now in
    let now = c.loop-number in
    let formula = cow_value c.args.round.formula in
    ends_barred its line cube formula first now.last now.files
    (subst (λ (n : Option Cnf). RoundsSoFar its line cube formula first now.last n now.files) c.in-None.is
    (now.invariant.so_far first opened))

-- there is no next round
pub returns-in-Ok-None-clause-finished : goal.returns-in-Ok-None-clause-finished
returns-in-Ok-None-clause-finished g c first opened =
    let its = effects_of g.F.Files g.F.Machine g.F.Input.Source g.F.Output.Sink in
    let line = c.args.course.now.line.now in
    let cube = c.args.course.now.cube.now in
    let now = c.loop-number in
    let formula = cow_value c.args.round.formula in
    ends_without its line cube formula first now.last c.in-Some.formula now.files c.next_round.new.files c.in-Rounds.folder.now
    (ap rounds_of c.in-Rounds.is)
    (subst (λ (n : Option Cnf). RoundsSoFar its line cube formula first now.last n now.files) c.in-Some.is
    (now.invariant.so_far first opened))
    (c.next_round.ensures.finished (c.in-Ok-None.is ∙ ap Ok c.in-Ok-None.field-0-is))

-- the next round has no report
pub returns-in-Err-next_round-clause-cause : goal.returns-in-Err-next_round-clause-cause
returns-in-Err-next_round-clause-cause g c first opened =
    let its = effects_of g.F.Files g.F.Machine g.F.Input.Source g.F.Output.Sink in
    let line = c.args.course.now.line.now in
    let cube = c.args.course.now.cube.now in
    let now = c.loop-number in
    let formula = cow_value c.args.round.formula in
    inr (fails_after its line cube formula first now.last c.in-Some.formula now.files
    c.next_round.new.files _ c.in-Rounds.folder.now (ap rounds_of c.in-Rounds.is)
    (subst (λ (n : Option Cnf). RoundsSoFar its line cube formula first now.last n now.files) c.in-Some.is
    (now.invariant.so_far first opened))
    c.in-Err-next_round.ensures.cause now.invariant.number)

-- the next round's number would be too high
pub returns-clause-finished : goal.returns-clause-finished
returns-clause-finished g c first opened =
    let its = effects_of g.F.Files g.F.Machine g.F.Input.Source g.F.Output.Sink in
    let now = c.loop-number in
    ends_high its c.args.course.now.line.now c.args.course.now.cube.now (cow_value c.args.round.formula) first now.last now.next now.files
    (now.invariant.so_far first opened)
    (omega (arith, now.invariant.number, c.loop-number-test.false))

-- round 1 has no report
pub returns-in-Err-clause-cause : goal.returns-in-Err-clause-cause
returns-in-Err-clause-cause g c first opened =
    let its = effects_of g.F.Files g.F.Machine g.F.Input.Source g.F.Output.Sink in
    let line = c.args.course.now.line.now in
    let cube = c.args.course.now.cube.now in
    let round = c.args.round in
    let formula = cow_value round.formula in
    let Cause : ℕ → Sizes → Type 0 = λ n s. IsRoundStartCause its line cube n formula s round.readers.items c.args.files.now
    c.in-Err.fault c.check_round.new.files in
    let cause : Cause round.number round.sizes = c.in-Err.ensures.cause in
    inl (refl, subst (Cause 1) c.requires.sizes (subst (λ (n : ℕ). Cause n round.sizes) c.requires.one cause))

-- the invariant holds after one more round
pub loop-number-preserved : goal.loop-number-preserved
loop-number-preserved g c =
    let its = effects_of g.F.Files g.F.Machine g.F.Input.Source g.F.Output.Sink in
    let line = c.args.course.now.line.now in
    let cube = c.args.course.now.cube.now in
    let now = c.loop-number in
    let formula = cow_value c.args.round.formula in
    let next = c.in-Ok-Some in
    record {
      so_far = λ first opened. next.ensures.so_far formula first
          (subst (λ (n : Option Cnf). RoundsSoFar its line cube formula first now.last n now.files) c.in-Some.is
          (now.invariant.so_far first opened)) next.found next.field-0-is;
      number = ap (λ (n : ℕ). n + 1) (sym (next.ensures.number next.found next.field-0-is));
    }
