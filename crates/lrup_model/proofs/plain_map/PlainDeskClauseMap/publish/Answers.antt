use Rattle.std.proofs.Common.{refl}
use Rattle.lrup_model.proofs.PlainLemmas.{moves_publish}
use Rattle.lrup_model.proofs.plain_map.PlainDeskClauseMap.publish.Goals as goal

pub returns-clause-event : goal.returns-clause-event
returns-clause-event c = record {
  same = refl;
  index = refl;
  moves = moves_publish c.args.self.now.map.now c.publish_at.new.self c.args.self.now.index c.args.id c.args.clause.now c.publish_at.result
      c.requires.owns c.requires.clause c.requires.room c.publish_at.ensures;
}
