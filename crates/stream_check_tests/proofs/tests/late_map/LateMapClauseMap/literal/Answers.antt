use Rattle.std.proofs.Common.{[]}
use Rattle.stream_check_tests.proofs.BesideLemmas.{desk_known}
use Rattle.stream_check_tests.proofs.tests.late_map.LateMapClauseMap.literal.Goals as goal

pub returns-clause-event : goal.returns-clause-event
returns-clause-event c =
    let desk = c.desk-desk.ensures in
    desk_known c.desk-desk.result c.literal-literal.new.self c.args.self.now.map _ 1 [] c.literal-literal.ensures.event desk.map_now
    desk.stream c.drop-desk.ensures
