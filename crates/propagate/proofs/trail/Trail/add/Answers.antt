use Rattle.std.proofs.Common.{arith}
use Rattle.propagate.proofs.MarkLemmas.{AreMarks-room, AreMarks-add}
use Rattle.propagate.proofs.trail.Trail.add.Goals as goal

pub push_reserved-requires : goal.push_reserved-requires
push_reserved-requires c =
    let literal = rw (← c.self.view_is) at c.requires.literal in
    let not_false = rw (← c.self.view_is) at c.requires.not_false in
    let not_true = rw (← c.self.view_is) at c.requires.not_true in
    let room = AreMarks-room _ _ _ _ _ c.self.invariant literal not_false not_true in
    omega (arith, room, c.self.inside.literals.ok)

pub invariant_of-self : goal.invariant_of-self
invariant_of-self c =
    let literal = rw (← c.self.view_is) at c.requires.literal in
    let not_false = rw (← c.self.view_is) at c.requires.not_false in
    let not_true = rw (← c.self.view_is) at c.requires.not_true in
    rw (c.push_reserved.ensures.items, c.push_reserved.ensures.capacity, c.code.ensures.code)
    (AreMarks-add _ _ _ _ _ c.self.invariant literal not_false not_true)
