use Rattle.std.proofs.Common.{◌≡◌}
use Rattle.clause_store.specs.Passes.{store_of, views, AreOf}
use Rattle.clause_store.proofs.MeetingLemmas.{SyncInRounds}
use Rattle.clause_store.proofs.store.Store.meet_all.Given as goal

abbrev pub invariant-loop-round : goal.invariant-loop-round
invariant-loop-round l = record {
  first : store_of l.first ≡ l.self;
  others : AreOf l.self l.others;
  rounds : SyncInRounds l._round l.initial.first.view (views l.initial.others) l.first.view (views l.others);
}
