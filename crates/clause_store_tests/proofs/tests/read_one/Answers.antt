use Rattle.clause_store_tests.proofs.tests.read_one.Goals as goal

pub returns : goal.returns
returns g c = (
  _,
  g.met.M.ClauseMap.moves_append c.args.map.now c.fetch.new.self c.literal.new.self _ _ c.in-Live.ensures.event c.literal.ensures.event,
)
