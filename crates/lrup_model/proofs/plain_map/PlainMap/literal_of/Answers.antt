use Rattle.std.proofs.Common.{arith, ◌≡◌, ◌+◌, sym, ap, ◌∙◌, Some, get_or}
use Rattle.std.specs.Prelude.{pos}
use Rattle.std.proofs.lemmas.List.{get_or_read}
use Rattle.lrup_model.proofs.PlainInsideLemmas.{known_literal}
use Rattle.lrup_model.proofs.plain_map.PlainMap.literal_of.Goals as goal

pub index-requires : goal.index-requires
index-requires c =
    let lies = known_literal c.args.self.now c.self.inside.layout c.self.inside.entries.items c.self.inside.literals.items
    c.self.inside.free.items c.args.clip.now c.args.k c.self.view_is c.self.invariant.within c.requires.known c.requires.within in
    omega (arith, lies.0, c.self.inside.literals.ok.0)

pub returns : goal.returns
returns c =
    let lies = known_literal c.args.self.now c.self.inside.layout c.self.inside.entries.items c.self.inside.literals.items
    c.self.inside.free.items c.args.clip.now c.args.k c.self.view_is c.self.invariant.within c.requires.known c.requires.within in
    let read : c.index.result.now ≡ get_or c.self.inside.literals.items (c.args.clip.now.start + c.args.k) c.index.result.now =
    c.index.ensures ∙ ap (λ n. get_or c.self.inside.literals.items (n + c.args.k) c.index.result.now) c.start.ensures in
    lies.1
    ∙ ap Some (sym (get_or_read c.self.inside.literals.items (c.args.clip.now.start + c.args.k) c.index.result.now lies.0 read (pos 0)))
