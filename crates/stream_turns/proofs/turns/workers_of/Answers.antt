use Rattle.std.proofs.Common.{◌≡◌, ◌∷◌, false, refl, subst, arith}
use Rattle.std.specs.Iterator.Adapters.{zip_first}
use Rattle.std.specs.List.{AllByRecursion}
use Rattle.std.specs.Vec.Iter.{into_iter_items}
use Rattle.lrup_model.specs.lemmas.ListLemmas.{taken_next}
use Rattle.stream_check.specs.Readings.{readers_view}
use Rattle.stream_turns.proofs.TurnsLemmas.{started_pushed}
use Rattle.stream_turns.proofs.turns.workers_of.Goals as goal

pub loop-reader-preserved : goal.loop-reader-preserved
loop-reader-preserved g c =
    let now = c.loop-reader in
    let reader = c.in-Some.reader in
    let item : g.row.R.Denot × g.row.G.Denot = (c.in-Some.reader, c.in-Some.gate) in
    let before = into_iter_items (zip_first now.reader-iterator) in
    let rest = into_iter_items (zip_first c.next.new.self) in
    let steps = c.in-Some.ensures.steps in
    let running : AllByRecursion (λ r. g.R.Source.has_failed r ≡ false) (reader ∷ rest) =
    subst (AllByRecursion (λ r. g.R.Source.has_failed r ≡ false)) steps.0.0 now.invariant.running in
    let pushed = c.push_reserved.ensures in
    record {
      running = running.1;
      started = started_pushed (readers_view g.R.Source) c.args.run_params.now _
          (λ x. x.0) now.yielded item now.workers.items c.push_reserved.new.self.items c.in_ok-new.field-0 pushed.items
          (omega (arith, now.workers.ok.0, c.len-in-loop-reader.ensures)) now.invariant.started c.in_ok-new.ensures;
      readers = taken_next (λ x. x.0) now.yielded item before rest reader _ steps.0.0 refl now.invariant.readers;
      count = omega (arith, pushed.len, steps.0.1, now.invariant.count);
      gates = omega (arith, steps.0.1, steps.1.1, now.invariant.gates);
      room = omega (arith, pushed.capacity, now.invariant.room);
    }
