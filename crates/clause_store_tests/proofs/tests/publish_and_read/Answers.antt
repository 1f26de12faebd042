use Rattle.clause_store_tests.proofs.tests.publish_and_read.Goals as goal

pub returns : goal.returns
returns g c = (
  _,
  g.met.M.ClauseMap.moves_append c.args.map.now c.publish_two-answer.new.map c.read_one-found.new.map _ _
      c.publish_two-answer.ensures.1 c.read_one-found.ensures.1,
)
