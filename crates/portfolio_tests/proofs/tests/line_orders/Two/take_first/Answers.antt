use Rattle.std.proofs.Common.{ap, arith}
use Rattle.lrup_model.specs.Layout.{LayoutValue}
use Rattle.checker_support.specs.lemmas.OpenedLemmas.{ready_for}
use Rattle.portfolio_tests.proofs.tests.line_orders.Two.take_first.Goals as goal

pub invariant_of-self : goal.invariant_of-self
invariant_of-self c =
    let fed = c.take_at.ensures in
    record {
      streams = omega (arith, c.args.self.now.streams, ap (λ (p : LayoutValue). p.streams) fed.moves.1.layout);
      first_ready = fed.ready;
      second_ready = ready_for c.ready_beside.ensures c.args.self.now.second c.args.self.now.map c.take_at.new.map 2 1 fed.moves.0
          c.args.self.now.second_ready fed.moves.1 (λ same. omega (arith, same));
    }
