use Rattle.lrup_model.specs.Plain.{plain_caller_view}
use Rattle.stream_check_tests.proofs.BesideLemmas.{step_then, desk_fetched}
use Rattle.stream_check_tests.proofs.tests.late_map.LateMapClauseMap.fetch.Goals as goal

-- stream 2's calls, and then the fetch, are one step with the event of the fetch
pub returns-clause-event : goal.returns-clause-event
returns-clause-event c =
    let desk = c.desk-desk.ensures in
    let late = c.call_late.new.map in
    let left = c.drop-desk.new.self.0 in
    let known = desk_fetched c.desk-desk.result c.fetch-answer.new.self late left 1 c.args.id c.fetch-answer.result
    c.fetch-answer.ensures.event desk.map_now desk.stream c.drop-desk.ensures in
    step_then (plain_caller_view c.args.self.now.map 1) (plain_caller_view late 1) (plain_caller_view left 1) _ c.call_late.ensures known
