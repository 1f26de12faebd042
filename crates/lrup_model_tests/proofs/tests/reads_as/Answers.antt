use Rattle.std.proofs.Common.{sym, subst, [], ◌++◌}
use Rattle.lrup_model.specs.CallerView.{CallerView, IsKnown}
use Rattle.lrup_model_tests.proofs.tests.reads_as.Goals as goal

pub returns-then-ne : goal.returns-then-ne
returns-then-ne g c = (
  c.loop-k.invariant.moved.0 ++ [],
  g.met.M.ClauseMap.moves_append c.args.desk.now c.loop-k.desk c.literal.new.self c.loop-k.invariant.moved.0 []
      c.loop-k.invariant.moved.1 c.literal.ensures.event,
)

pub loop-k-preserved : goal.loop-k-preserved
loop-k-preserved g c = record {
  known = subst (λ (p : CallerView). IsKnown p c.in-Live.clip) (sym c.literal.ensures.stays) c.loop-k.invariant.known;
  len = c.loop-k.invariant.len;
  moved = (
    c.loop-k.invariant.moved.0 ++ [],
    g.met.M.ClauseMap.moves_append c.args.desk.now c.loop-k.desk c.literal.new.self c.loop-k.invariant.moved.0 [] c.loop-k.invariant.moved.1
        c.literal.ensures.event,
  );
}
