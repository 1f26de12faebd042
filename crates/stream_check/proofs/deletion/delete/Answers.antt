use Rattle.std.proofs.Common.{◌≡◌, ◌∙◌, ◌+◌, ℕ, List, [], ◌∷◌, ◌++◌, length, take, drop, get_or, ap, subst, arith, length-take}
use Rattle.std.proofs.lemmas.List.{take_more, take_all}
use Rattle.std.proofs.lemmas.Result.{err_from_is_err_and}
use Rattle.lrup_model.specs.lemmas.ListLemmas.{All-append}
use Rattle.stream_check.specs.Deletions.{IsRetire}
use Rattle.stream_check.specs.internal.Checking.{AreDropped}
use Rattle.stream_check.specs.internal.CheckerInside.{StreamStateValue, KeepsLines}
use Rattle.stream_check.proofs.DeleteLemmas.{goes_on, among_ids, stopped_deletion, good_deletion, dropped_more}
use Rattle.stream_check.proofs.deletion.delete.Goals as goal

pub returns-in_err-delete_one-clause-deleted : goal.returns-in_err-delete_one-clause-deleted
returns-in_err-delete_one-clause-deleted g c =
    let old = c.args.state.now in
    let i = c.loop-id.id-index in
    let ids = c.args.ids.now in
    let id = get_or ids i 0 in
    let stop = c.in_err-delete_one.field-0.0 in
    let deleted = c.loop-id.invariant.deleted in
    let one = c.in_err-delete_one.ensures.deletes in
    let deletes = rw (ap (λ (v : StreamStateValue). v.params) c.loop-id.invariant.kept) at one.3 in
    let count : length (take i ids) ≡ i = omega (arith, length-take i ids, c.loop-id-test.true) in
    let given = err_from_is_err_and c.from_residual.result c.from_residual.ensures.1 in
    rw (given.1, given.2) (
      deleted.0 ++ one.0,
      g.met.M.ClauseMap.moves_append c.args.map.now c.loop-id.map c.delete_one.new.map deleted.0 one.0 deleted.1 one.1,
      All-append IsRetire deleted.0 one.0 deleted.2 one.2,
      (
        length (take i ids),
        omega (arith, c.in_err-delete_one.ensures.count, c.loop-id.invariant.count, count),
        stopped_deletion old.params old.dropped.ids (take i ids) c.loop-id.state.dropped.ids c.delete_one.new.state.dropped.ids id
            (drop (i + 1) ids) ids deleted.0 one.0 stop (among_ids ids i c.loop-id-test.true) deleted.3 c.loop-id.invariant.dropped deletes,
      ),
    )

keeps_on : (a b c : StreamStateValue) → KeepsLines a b → KeepsLines b c → KeepsLines a c
keeps_on a b c h k = k ∙ ap (λ (v : StreamStateValue). record v { dropped = c.dropped; retired = c.retired }) h

pub loop-id-preserved : goal.loop-id-preserved
loop-id-preserved g c =
    let old = c.args.state.now in
    let s = old.params in
    let i = c.loop-id.id-index in
    let ids = c.args.ids.now in
    let id = get_or ids i 0 in
    let deleted = c.loop-id.invariant.deleted in
    let one = c.in_ok-delete_one.ensures.deletes in
    let deletes = rw (ap (λ (v : StreamStateValue). v.params) c.loop-id.invariant.kept) at one.3 in
    let more : take (i + 1) ids ≡ take i ids ++ id ∷ [] = take_more ids i 0 c.loop-id-test.true in
    record {
      kept = keeps_on old c.loop-id.state c.delete_one.new.state c.loop-id.invariant.kept c.delete_one.ensures.kept;
      count = omega (arith, c.in_ok-delete_one.ensures.count, c.loop-id.invariant.count);
      dropped = rw more
          (dropped_more s old.dropped.ids (take i ids) c.loop-id.state.dropped.ids c.delete_one.new.state.dropped.ids id one.0
          c.loop-id.invariant.dropped deletes);
      deleted = (
        deleted.0 ++ one.0,
        g.met.M.ClauseMap.moves_append c.args.map.now c.loop-id.map c.delete_one.new.map deleted.0 one.0 deleted.1 one.1,
        All-append IsRetire deleted.0 one.0 deleted.2 one.2,
        rw more
            (goes_on s old.dropped.ids (take i ids) c.loop-id.state.dropped.ids c.delete_one.new.state.dropped.ids id deleted.0 one.0
            deleted.3 c.loop-id.invariant.dropped deletes),
      );
    }

pub returns-clause-deleted : goal.returns-clause-deleted
returns-clause-deleted g c =
    let old = c.args.state.now in
    let s = old.params in
    let i = c.loop-id.id-index in
    let ids = c.args.ids.now in
    let deleted = c.loop-id.invariant.deleted in
    let whole : take i ids ≡ ids = take_all i ids c.loop-id-test.false in
    let count : i ≡ length ids = omega (arith, c.loop-id-test.false, c.loop-id.auto.id-index-end) in (
      deleted.0,
      deleted.1,
      deleted.2,
      (
        i,
        c.loop-id.invariant.count,
        (
          good_deletion s old.dropped.ids (take i ids) ids deleted.0 whole deleted.3,
          count,
          subst (λ (js : List ℕ). AreDropped s old.dropped.ids js c.loop-id.state.dropped.ids) whole c.loop-id.invariant.dropped,
        ),
      ),
    )
