use Rattle.std.proofs.Common.{◌≡◌, ℕ, ◌<◌, length, set, subst, sym, arith, add-one}
use Rattle.clause_store.proofs.MeetingLemmas.{IsSynced, sync_next, synced_all, are_of-set}
use Rattle.clause_store.proofs.store.Store.meet_each.Goals as goal

pub loop-other-preserved : goal.loop-other-preserved
loop-other-preserved c =
    let i = c.loop-other.other-index in
    let u = c.args.pass.now.view in
    let others = c.loop-other.others in
    let other = c.meet.new.second in
    let within : i < length others = omega arith in
    record {
      pass = c.meet.ensures.first;
      others = are_of-set c.args.self.now i others other c.meet.ensures.second c.loop-other.invariant.others;
      synced = subst (λ (n : ℕ). IsSynced n u c.meet.new.first.view c.args.others.now (set others i other)) (sym (add-one i))
          (sync_next i u c.loop-other.pass.view c.meet.new.first.view c.args.others.now others c.other-item.result other within
          c.loop-other.invariant.synced c.meet.ensures.meets);
    }

pub returns-clause-turns : goal.returns-clause-turns
returns-clause-turns c =
    let all : c.loop-other.other-index ≡ length c.args.others.now = omega arith in
    synced_all c.args.pass.now.view c.loop-other.pass.view c.args.others.now c.loop-other.others
    (subst (λ (n : ℕ). IsSynced n c.args.pass.now.view c.loop-other.pass.view c.args.others.now c.loop-other.others) all
    c.loop-other.invariant.synced)
