use Rattle.std.proofs.Common.{ap, length}
use Rattle.lrup_model.proofs.PlainInsideLemmas.{publish_done}
use Rattle.lrup_model.proofs.plain_map.PlainMap.publish_at.Goals as goal

pub invariant_of-self : goal.invariant_of-self
invariant_of-self c =
    (publish_done c.args.self.now c.self.inside.layout c.self.inside.entries.items c.self.inside.literals.items c.args.clause.now
    c.extend_from_slice.new.self.items c.self.inside.free.items _ _ c.args.index c.args.id
    (length c.as_slice.result.now) c.index_mut-2.result.now c.index.result.now
    c.self.view_is c.self.invariant c.requires.owns c.requires.clause c.requires.room
    c.index.ensures c.in-Vacant.is c.in-Ok.ensures.items
    (ap length c.as_slice.ensures.value) c.index_mut-2.ensures.value c.extend_from_slice.ensures.capacity).0

pub returns : goal.returns
returns c =
    (publish_done c.args.self.now c.self.inside.layout c.self.inside.entries.items c.self.inside.literals.items c.args.clause.now
    c.extend_from_slice.new.self.items c.self.inside.free.items _ _ c.args.index c.args.id
    (length c.as_slice.result.now) c.index_mut-2.result.now c.index.result.now
    c.self.view_is c.self.invariant c.requires.owns c.requires.clause c.requires.room
    c.index.ensures c.in-Vacant.is c.in-Ok.ensures.items
    (ap length c.as_slice.ensures.value) c.index_mut-2.ensures.value c.extend_from_slice.ensures.capacity).1
