use Rattle.lrup_model.proofs.PlainInsideLemmas.{sound_follows}
use Rattle.lrup_model.proofs.plain_map.PlainMap.look.Goals as goal

pub returns-in-Vacant-clause-follow : goal.returns-in-Vacant-clause-follow
returns-in-Vacant-clause-follow c =
    (sound_follows c.args.self.now c.self.inside.layout c.self.inside.entries.items c.self.inside.literals.items c.self.inside.free.items _
    c.self.view_is c.self.invariant).0

pub returns-in-Vacant-clause-formula : goal.returns-in-Vacant-clause-formula
returns-in-Vacant-clause-formula c =
    (sound_follows c.args.self.now c.self.inside.layout c.self.inside.entries.items c.self.inside.literals.items c.self.inside.free.items _
    c.self.view_is c.self.invariant).1

pub returns-in-Live-clause-follow : goal.returns-in-Live-clause-follow
returns-in-Live-clause-follow c =
    (sound_follows c.args.self.now c.self.inside.layout c.self.inside.entries.items c.self.inside.literals.items c.self.inside.free.items _
    c.self.view_is c.self.invariant).0

pub returns-in-Live-clause-formula : goal.returns-in-Live-clause-formula
returns-in-Live-clause-formula c =
    (sound_follows c.args.self.now c.self.inside.layout c.self.inside.entries.items c.self.inside.literals.items c.self.inside.free.items _
    c.self.view_is c.self.invariant).1

pub returns-in-Retired-clause-follow : goal.returns-in-Retired-clause-follow
returns-in-Retired-clause-follow c =
    (sound_follows c.args.self.now c.self.inside.layout c.self.inside.entries.items c.self.inside.literals.items c.self.inside.free.items _
    c.self.view_is c.self.invariant).0

pub returns-in-Retired-clause-formula : goal.returns-in-Retired-clause-formula
returns-in-Retired-clause-formula c =
    (sound_follows c.args.self.now c.self.inside.layout c.self.inside.entries.items c.self.inside.literals.items c.self.inside.free.items _
    c.self.view_is c.self.invariant).1
