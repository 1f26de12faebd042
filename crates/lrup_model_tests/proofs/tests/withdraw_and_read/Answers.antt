use Rattle.lrup_model.specs.lemmas.PassLemmas.{known_stays}
use Rattle.lrup_model_tests.proofs.tests.withdraw_and_read.Goals as goal

pub literal-requires-clause-known : goal.literal-requires-clause-known
literal-requires-clause-known g c =
    (known_stays (g.M.ClauseMap.caller_view c.fetch.new.self) (g.M.ClauseMap.caller_view c.retire-answer.new.self) _ c.in-Live.clip
    (g.met.M.ClauseMap.moves_are_step c.fetch.new.self c.retire-answer.new.self _ c.retire-answer.ensures.event)
    c.in-Live.ensures.fetched.1).0

pub returns : goal.returns
returns g c = (
  _,
  g.met.M.ClauseMap.moves_append c.args.desk.now c.retire-answer.new.self c.literal.new.self _ _
      (g.met.M.ClauseMap.moves_append c.args.desk.now c.fetch.new.self c.retire-answer.new.self _ _ c.in-Live.ensures.event
      c.retire-answer.ensures.event)
      c.literal.ensures.event,
)
