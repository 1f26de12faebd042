use Rattle.std.proofs.Common.{take, rules}
use Rattle.std.proofs.lemmas.Bool.{iff_false}
use Rattle.std.proofs.lemmas.List.{take_all}
use Rattle.lrup_model.specs.Literal.{IsLiteral}
use Rattle.lrup_model.specs.lemmas.ClauseLemmas.{All-read, take-read}
use Rattle.propagate.proofs.MarkLemmas.{IsLiteral-neg, ne_neg_ℤ}
use Rattle.lrup_model.specs.lemmas.DistinctLemmas.{IsTaken-nil, IsTaken-push, IsTaken-push_same, IsTautology-next}
use Rattle.propagate.proofs.trail.Trail.add_all.Goals as goal
use Rattle.propagate.proofs.trail.Trail.add_all.Goals.{then-not-has, else-not-has}

pub loop-lit-init : goal.loop-lit-init
loop-lit-init c = record { taken = rw c.requires.empty IsTaken-nil; vars = search rules }

pub has-requires : goal.has-requires
has-requires c =
    let vars = c.loop-lit.invariant.vars in
    let literal = All-read (IsLiteral c.args.self.now.vars) c.args.clause.now c.loop-lit.lit-index c.lit-item.result c.requires.literals
    c.loop-lit-test.true c.lit-item.is in
    rw (c.complement.ensures, vars) (IsLiteral-neg c.args.self.now.vars c.lit-item.result literal)

pub returns-then-has-clause-tautology : goal.returns-then-has-clause-tautology
returns-then-has-clause-tautology c =
    let complement = rw c.complement.ensures at (c.has.ensures.0 c.if-has.true) in (
      (λ h. IsTautology-next c.args.clause.now c.loop-lit.self.literals c.loop-lit.lit-index c.lit-item.result c.loop-lit.invariant.taken
          c.loop-lit-test.true c.lit-item.is complement),
      (λ t. search rules),
    )

pub has-requires-in-loop-lit : goal.has-requires-in-loop-lit
has-requires-in-loop-lit c =
    let literal = All-read (IsLiteral c.args.self.now.vars) c.args.clause.now c.loop-lit.lit-index c.lit-item.result c.requires.literals
    c.loop-lit-test.true c.lit-item.is in
    rw c.loop-lit.invariant.vars literal

pub add-requires-clause-literal : goal.add-requires-clause-literal
add-requires-clause-literal c =
    let literal = All-read (IsLiteral c.args.self.now.vars) c.args.clause.now c.loop-lit.lit-index c.lit-item.result c.requires.literals
    c.loop-lit-test.true c.lit-item.is in
    rw c.loop-lit.invariant.vars literal

pub loop-lit-preserved : goal.loop-lit-preserved
loop-lit-preserved c =
    let ls = c.args.clause.now in
    let k = c.loop-lit.lit-index in
    let x = c.lit-item.result in
    let n = c.loop-lit.self.literals in
    let literal = All-read (IsLiteral c.args.self.now.vars) ls k x c.requires.literals c.loop-lit-test.true c.lit-item.is in
    let not_zero = ne_neg_ℤ c.args.self.now.vars x literal in
    let not_true = rw c.complement.ensures at (iff_false c.has.ensures c.if-has.false) in
    let next = take-read ls k x c.loop-lit-test.true c.lit-item.is in
    elim c.if-not-has.branch [
      | then-not-has w ↦ rw (next, w.self-is, w.add.ensures) (record {
        taken = IsTaken-push (take k ls) n x c.loop-lit.invariant.taken not_true
            (iff_false c.has-in-loop-lit.ensures w.if-not-has.true) not_zero;
        vars = c.loop-lit.invariant.vars;
      })
      | else-not-has w ↦ rw (next, w.self-is) (record {
        taken =
            IsTaken-push_same (take k ls) n x c.loop-lit.invariant.taken not_true (c.has-in-loop-lit.ensures.0 w.if-not-has.false) not_zero;
        vars = c.loop-lit.invariant.vars;
      })
    ]

pub returns-clause-tautology : goal.returns-clause-tautology
returns-clause-tautology c =
    let consistent = rw (take_all c.loop-lit.lit-index c.args.clause.now c.loop-lit-test.false) at c.loop-lit.invariant.taken.consistent in
    ((λ h. cc), (λ t. absurd (consistent t)))

pub returns-clause-ok : goal.returns-clause-ok
returns-clause-ok c = rw (take_all c.loop-lit.lit-index c.args.clause.now c.loop-lit-test.false) at c.loop-lit.invariant.taken.same
