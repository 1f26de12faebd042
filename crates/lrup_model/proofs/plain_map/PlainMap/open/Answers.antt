use Rattle.std.proofs.Common.{arith, ◌≡◌, ◌+◌, ◌-◌, ◌*◌, List, [], ◌∷◌, ◌++◌, length, ap, ◌∙◌}
use Rattle.lrup_model.specs.Formula.{formula_literals}
use Rattle.lrup_model.specs.Layout.{last_identity}
use Rattle.std.specs.Vec.{vec_capacity}
use Rattle.lrup_model.specs.declared.plain_map.Entry.{Entry}
use Rattle.lrup_model.specs.declared.plain_map.Entry.TheVariants.{Vacant}
use Rattle.lrup_model.proofs.OpeningLemmas.{opened, IsOpened}
use Rattle.lrup_model.proofs.plain_map.PlainMap.open.Goals as goal

-- the new map is an opened map
made : (c : goal.After-result-1) → IsOpened c.args.formula.now c.args.layout.now
    (vec_capacity c.keep_clauses.new.literals) c.keep_vacant.new.entries.items c.keep_clauses.new.literals.items c.in_ok-free.free.items
made c =
    let limits = c.all_room.ensures.limits in
    let reserved : vec_capacity c.in_ok-literals.literals ≡ formula_literals c.args.formula.now + c.args.layout.now.streams
    * c.args.layout.now.room = c.in_ok-literals.ensures.exact ∙ omega (arith, c.literals.ensures, c.all_room.ensures.room) in
    let count : c.last_identity-2.result - c.len.result ≡ last_identity c.args.layout.now - length c.args.formula.now.clauses =
    omega (arith, c.last_identity-2.ensures.last, c.len.ensures.len) in
    opened c.args.formula.now c.args.layout.now (c.last_identity-2.result - c.len.result) (vec_capacity c.keep_clauses.new.literals)
    c.push_reserved.new.self.items c.keep_clauses.new.entries.items c.keep_vacant.new.entries.items c.keep_clauses.new.literals.items
    c.in_ok-free.free.items
    c.len.ensures.formula limits c.requires count (omega (arith, reserved, c.keep_clauses.ensures.capacity))
    (c.push_reserved.ensures.items ∙ ap (λ (es : List Entry). es ++ Vacant ∷ []) c.in_ok-entries.ensures.items)
    c.keep_clauses.ensures.entries c.keep_vacant.ensures c.keep_clauses.ensures.literals c.in_ok-free.ensures.rooms

pub invariant_of-result : goal.invariant_of-result
invariant_of-result c = (made c).0

pub returns-clause-formula : goal.returns-clause-formula
returns-clause-formula c = (made c).1

pub returns-clause-state : goal.returns-clause-state
returns-clause-state c = (made c).2
