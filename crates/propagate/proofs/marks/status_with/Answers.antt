use Rattle.std.proofs.Common.{[], ◌∷◌, inl, inr, subst}
use Rattle.std.proofs.lemmas.Bool.{iff_false}
use Rattle.propagate.specs.internal.ClauseStatus.{HasStatus}
use Rattle.propagate.proofs.StatusLemmas.{HasStatus-false, HasStatus-true, HasStatus-one, HasStatus-two, HasStatus-more}
use Rattle.propagate.proofs.marks.status_with.Goals as goal

pub returns-then-has : goal.returns-then-has
returns-then-has c =
    λ d status other. HasStatus-false c.args.falses.now.literals d c.args.status c.args.lit status (c.has.ensures.0 c.if-has.true)

pub returns-then-has-2 : goal.returns-then-has-2
returns-then-has-2 c =
    let is_true = rw c.complement.ensures at (c.has-2.ensures.0 c.if-has-2.true) in
    λ d status other. HasStatus-true c.args.falses.now.literals d c.args.lit (iff_false c.has.ensures c.if-has.false) is_true

pub returns-in-Nothing : goal.returns-in-Nothing
returns-in-Nothing c =
    let not_true = rw c.complement.ensures at (iff_false c.has-2.ensures c.if-has-2.false) in
    λ d status other.
    HasStatus-one c.args.falses.now.literals d c.args.lit (subst (HasStatus c.args.falses.now.literals d) c.in-Nothing.is status)
    (iff_false c.has.ensures c.if-has.false) not_true

pub returns-in-One : goal.returns-in-One
returns-in-One c = λ d status other.
    let n = c.args.falses.now.literals in
    elim c.in-One.is [
      | inl one ↦ HasStatus-two n d one.0 c.args.lit (subst (HasStatus n d) one.1 status) other (iff_false c.has.ensures c.if-has.false)
      | inr more ↦ HasStatus-more n d (c.args.lit ∷ []) (subst (HasStatus n d) more status)
    ]
