use Rattle.std.proofs.Common.{true, false, sym, ◌∙◌, ◌≡◌}
use Rattle.lrup_model.specs.Clause.{Has}
use Rattle.dimacs.specs.internal.Marks.{MarksFit}
use Rattle.dimacs.proofs.SetLemmas.{EachOnce-push, AddsLiteral-push}
use Rattle.dimacs.proofs.open_clause.OpenClause.add.Goals as goal

pub invariant_of-self-then-len-lt-SHORT : goal.invariant_of-self-then-len-lt-SHORT
invariant_of-self-then-len-lt-SHORT c =
    let literals = c.self.inside.literals.items in
    let other : ¬ Has literals c.args.l = λ has. let read : Has c.deref.result.now c.args.l = rw c.deref.ensures.value has in
    let wrong : true ≡ false = sym (c.has.ensures.1 read) ∙ c.if-has.false in cc in
    let fit : MarksFit false c.self.inside.marks.items literals = rw c.if-not-self.true at c.self.invariant.1 in
    rw (c.in_ok-push.ensures.items, c.if-not-self.true) (EachOnce-push literals c.args.l c.self.invariant.0 other, fit)

pub returns-then-len-lt-SHORT-clause-ok : goal.returns-then-len-lt-SHORT-clause-ok
returns-then-len-lt-SHORT-clause-ok c =
    let literals = c.self.inside.literals.items in
    let other : ¬ Has literals c.args.l = λ has. let read : Has c.deref.result.now c.args.l = rw c.deref.ensures.value has in
    let wrong : true ≡ false = sym (c.has.ensures.1 read) ∙ c.if-has.false in cc in
    rw (c.in_ok-push.ensures.items, ← c.self.view_is) (AddsLiteral-push literals c.args.l c.self.invariant.0 other)
