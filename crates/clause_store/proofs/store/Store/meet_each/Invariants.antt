use Rattle.std.proofs.Common.{◌≡◌}
use Rattle.clause_store.specs.Passes.{store_of, AreOf}
use Rattle.clause_store.proofs.MeetingLemmas.{IsSynced}
use Rattle.clause_store.proofs.store.Store.meet_each.Given as goal

abbrev pub invariant-loop-other : goal.invariant-loop-other
invariant-loop-other l = record {
  pass : store_of l.pass ≡ l.self;
  others : AreOf l.self l.others;
  synced : IsSynced l.other-index l.fn.pass.view l.pass.view l.fn.others l.others;
}
