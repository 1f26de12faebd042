use Rattle.std.proofs.Common.{◌+◌}
use Rattle.lrup_model.proofs.PlainLemmas.{fetch_fetched, fetch_formula}
use Rattle.lrup_model.proofs.plain_map.PlainDeskClauseMap.fetch.Goals as goal

pub returns-clause-fetched : goal.returns-clause-fetched
returns-clause-fetched c = fetch_fetched c.args.self.now.map.now (c.args.self.now.index + 1) c.args.id c.look.result c.look.ensures.answer

pub returns-clause-formula : goal.returns-clause-formula
returns-clause-formula c = λ positive within.
    fetch_formula c.args.self.now.map.now
    (c.args.self.now.index + 1) c.args.id c.look.result positive within c.look.ensures.formula c.look.ensures.answer

pub returns-clause-follow : goal.returns-clause-follow
returns-clause-follow c = record { each = c.look.ensures.follow.each }
