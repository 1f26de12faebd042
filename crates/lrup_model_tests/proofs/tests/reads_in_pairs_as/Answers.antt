use Rattle.std.proofs.Common.{sym, subst, [], ◌++◌}
use Rattle.lrup_model.specs.CallerView.{CallerView, IsKnown}
use Rattle.lrup_model_tests.proofs.tests.reads_in_pairs_as.Goals as goal

pub returns-then-ne : goal.returns-then-ne
returns-then-ne g c = (
  c.loop-i.invariant.moved.0 ++ [],
  g.met.M.ClauseMap.moves_append c.args.desk.now c.loop-i.desk c.pair-first.new.self c.loop-i.invariant.moved.0 []
      c.loop-i.invariant.moved.1 c.pair-first.ensures.event,
)

pub loop-i-preserved : goal.loop-i-preserved
loop-i-preserved g c = record {
  known = subst (λ (p : CallerView). IsKnown p c.in-Live.clip) (sym c.pair-first.ensures.stays) c.loop-i.invariant.known;
  len = c.loop-i.invariant.len;
  moved = (
    c.loop-i.invariant.moved.0 ++ [],
    g.met.M.ClauseMap.moves_append c.args.desk.now c.loop-i.desk c.pair-first.new.self c.loop-i.invariant.moved.0 []
        c.loop-i.invariant.moved.1 c.pair-first.ensures.event,
  );
}
