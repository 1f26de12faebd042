use Rattle.std.proofs.Common.{◌++◌, ◌∙◌}
use Rattle.stream_check.specs.Judging.{joined}
use Rattle.stream_check_tests.proofs.tests.feed_whole.Goals as goal

pub rest-preserved : goal.rest-preserved
rest-preserved g c =
    let before = c.rest.invariant in
    let fed = c.feed-progress.ensures in
    let blocks = fed.left.0 in
    record {
      ready = fed.ready;
      moves = (
        before.moves.0 ++ joined blocks,
        g.met.M.ClauseMap.moves_append c.args.map.now c.rest.map c.feed-progress.new.map before.moves.0
            (joined blocks) before.moves.1 fed.left.1,
      );
      params = fed.params ∙ before.params;
    }

pub returns-in-More : goal.returns-in-More
returns-in-More g c =
    let before = c.rest.invariant in
    let fed = c.feed-progress.ensures in
    let blocks = fed.left.0 in
    record {
      ready = fed.ready;
      moves = (
        before.moves.0 ++ joined blocks,
        g.met.M.ClauseMap.moves_append c.args.map.now c.rest.map c.feed-progress.new.map before.moves.0
            (joined blocks) before.moves.1 fed.left.1,
      );
      params = fed.params ∙ before.params;
    }
