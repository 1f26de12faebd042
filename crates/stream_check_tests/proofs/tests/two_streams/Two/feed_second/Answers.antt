use Rattle.std.proofs.Common.{ap, arith}
use Rattle.lrup_model.specs.Layout.{LayoutValue}
use Rattle.checker_support.specs.lemmas.OpenedLemmas.{ready_for}
use Rattle.stream_check_tests.proofs.tests.two_streams.Two.feed_second.Goals as goal

pub invariant_of-self : goal.invariant_of-self
invariant_of-self c =
    let fed = c.feed_at.ensures in
    record {
      streams = omega (arith, c.args.self.now.streams, ap (λ (p : LayoutValue). p.streams) fed.moves.1.layout);
      first_ready = ready_for c.ready_beside.ensures c.args.self.now.first c.args.self.now.map c.feed_at.new.map 1 2 fed.moves.0
          c.args.self.now.first_ready fed.moves.1 (λ same. omega (arith, same));
      second_ready = fed.ready;
    }
