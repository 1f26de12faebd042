use Rattle.std.proofs.Common.{◌+◌}
use Rattle.lrup_model.proofs.PlainInsideLemmas.{retire_done}
use Rattle.lrup_model.proofs.plain_map.PlainMap.retire_at.Goals as goal

pub invariant_of-self : goal.invariant_of-self
invariant_of-self c =
    (retire_done c.args.self.now c.self.inside.layout c.self.inside.entries.items c.self.inside.literals.items c.self.inside.free.items _
    (c.args.index + 1) c.args.id c.in-Live.start c.in-Live.len c.index.result.now
    c.self.view_is c.self.invariant c.requires c.index.ensures c.in-Live.is).0

pub returns : goal.returns
returns c =
    (retire_done c.args.self.now c.self.inside.layout c.self.inside.entries.items c.self.inside.literals.items c.self.inside.free.items _
    (c.args.index + 1) c.args.id c.in-Live.start c.in-Live.len c.index.result.now
    c.self.view_is c.self.invariant c.requires c.index.ensures c.in-Live.is).1
