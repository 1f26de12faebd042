use Rattle.std.proofs.Common.{◌≡◌, ◌++◌, [], ◌∷◌, ◌∙◌, ap, map, arith, refl, sym, subst}
use Rattle.std.specs.List.{AllByRecursion}
use Rattle.std.proofs.lemmas.List.{map-append}
use Rattle.std.specs.Vec.Iter.{into_iter_items}
use Rattle.stream_check.specs.Readings.{readers_view}
use Rattle.stream_threads.specs.internal.Workers.{StartedValue}
use Rattle.stream_threads.proofs.ThreadLemmas.{found_more, moved_more, ring_after}
use Rattle.stream_threads.proofs.joining.join_all.Goals as goal

pub loop-started-preserved : goal.loop-started-preserved
loop-started-preserved g c =
    let now = c.loop-started in
    let steps = c.in-Some.ensures.steps in
    let view = readers_view g.R.Source in
    let one = c.in-Some.started in
    let signal : AllByRecursion (λ (one : StartedValue g.row.R.Denot). one.signal ≡ c.args.signalled.now.of)
    (one ∷ into_iter_items c.next.new.self) =
    subst (AllByRecursion (λ (one : StartedValue g.row.R.Denot). one.signal ≡ c.args.signalled.now.of)) steps.0 now.invariant.signal in
    record {
      next = (tt, tt);
      whole = moved_more now.yielded (into_iter_items now.started-iterator)
          (into_iter_items c.next.new.self) c.args.all.items _ one steps.0 refl now.invariant.whole;
      signal = signal.1;
      found = rw (c.push.ensures, map-append (λ (one : StartedValue g.row.R.Denot). one.jobs) now.yielded (one ∷ []))
          (found_more view _ now.found one.jobs c.in-Some-join.one now.invariant.found c.in-Some-join.ensures);
      room = rw c.push.ensures (omega (arith, steps.1, now.invariant.room));
    }

pub returns-in_default-clause-fault : goal.returns-in_default-clause-fault
returns-in_default-clause-fault g c =
    let now = c.loop-started in
    let one = c.in-Some.started in
    let jobs = λ (one : StartedValue g.row.R.Denot). one.jobs in
    let rest = into_iter_items c.next.new.self in
    let whole : now.yielded ++ one ∷ rest ≡ c.args.all.items = rw (← c.in-Some.ensures.steps.0) now.invariant.whole in
    ring_after (readers_view g.R.Source) (map jobs now.yielded) (map jobs rest) _ one.jobs now.found now.invariant.found
    c.in_default.ensures (sym (map-append jobs now.yielded (one ∷ rest)) ∙ ap (map jobs) whole)
