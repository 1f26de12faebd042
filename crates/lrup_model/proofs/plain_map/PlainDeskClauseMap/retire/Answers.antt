use Rattle.std.proofs.Common.{refl, ◌+◌}
use Rattle.lrup_model.proofs.PlainLemmas.{moves_retire}
use Rattle.lrup_model.proofs.plain_map.PlainDeskClauseMap.retire.Goals as goal

pub returns-clause-event : goal.returns-clause-event
returns-clause-event c = record {
  same = refl;
  index = refl;
  moves = moves_retire c.args.self.now.map.now c.retire_at.new.self
      (c.args.self.now.index + 1) c.args.id c.retire_at.result c.requires c.retire_at.ensures;
}
