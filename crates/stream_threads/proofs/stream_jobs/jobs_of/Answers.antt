use Rattle.std.proofs.Common.{◌≡◌, [], ◌∷◌, ◌∙◌, inl, inr, false, refl, sym, ap, subst, arith}
use Rattle.std.specs.Iterator.Adapters.{zip_first, zip_second}
use Rattle.std.specs.List.{AllByRecursion}
use Rattle.std.specs.Vec.Iter.{into_iter_items, into_iter_len}
use Rattle.lrup_model.specs.lemmas.ListLemmas.{taken_next}
use Rattle.stream_threads.specs.Jobs.{AreJobs}
use Rattle.stream_threads.proofs.ThreadLemmas.{jobs_pushed, jobs_whole, none_to_come}
use Rattle.stream_threads.proofs.stream_jobs.jobs_of.Goals as goal

pub loop-reader-preserved : goal.loop-reader-preserved
loop-reader-preserved g c =
    let now = c.loop-reader in
    let reader = c.in-Some.reader in
    let pass = c.in-Some.pass in
    let item : (g.row.R.Denot × g.row.G.Denot) × _ = ((reader, c.in-Some.gate), pass) in
    let before = into_iter_items (zip_first (zip_first now.reader-iterator)) in
    let rest = into_iter_items (zip_first (zip_first c.next.new.self)) in
    let others = into_iter_items (zip_second c.next.new.self) in
    let steps = c.in-Some.ensures.steps in
    let running : AllByRecursion (λ r. g.R.Source.has_failed r ≡ false) (reader ∷ rest) =
    subst (AllByRecursion (λ r. g.R.Source.has_failed r ≡ false)) steps.0.0.0 now.invariant.running in
    let pushed = c.push_reserved.ensures in
    let new = c.in_ok-new.ensures in
    record {
      running = running.1;
      jobs = jobs_pushed c.args.run_params.now _ (λ x. x.0.0)
          (λ x. x.1) now.yielded item now.all.items c.push_reserved.new.self.items c.in_ok-new.field-0
          pushed.items (omega (arith, now.all.ok.0, c.len-in-loop-reader.ensures)) now.invariant.jobs (record {
            reader_is = new.reader;
            checker = new.checker;
            pass = new.pass;
          });
      readers = taken_next (λ x. x.0.0) now.yielded item before rest reader _ steps.0.0.0 refl now.invariant.readers;
      passes = taken_next (λ x. x.1) now.yielded item
          (into_iter_items (zip_second now.reader-iterator)) others pass _ steps.1.0 refl now.invariant.passes;
      count = omega (arith, pushed.len, steps.0.0.1, now.invariant.count);
      gates = omega (arith, steps.0.0.1, steps.0.1.1, now.invariant.gates);
      others = omega (arith, steps.0.0.1, steps.1.1, now.invariant.others);
      room = omega (arith, pushed.capacity, now.invariant.room);
    }

pub returns : goal.returns
returns g c =
    let now = c.loop-reader in
    let first = zip_first (zip_first now.reader-iterator) in
    let third = zip_second now.reader-iterator in
    let none : into_iter_len first ≡ 0 = elim c.in-None.ensures.steps [
      | inl e ↦ elim e.1 [ inl d ↦ d.1.0 | inr d ↦ omega (arith, d.1.0, now.invariant.gates) ]
      | inr e ↦ omega (arith, e.1.0, now.invariant.others)
    ] in
    let no_more : into_iter_len third ≡ 0 = omega (arith, none, now.invariant.others) in
    jobs_whole c.args.run_params.now _ _ (into_iter_items first) _ _ (into_iter_items third) now.all.items
    now.invariant.jobs now.invariant.readers now.invariant.passes (none_to_come first none) (none_to_come third no_more)

pub loop-reader-init : goal.loop-reader-init
loop-reader-init g c =
    let all = c.into_iter-reader-iterator.ensures.into_iter_gives in
    let outer = c.zip-reader-items.ensures in
    let inner = c.zip.ensures in
    let first = ap (λ z. zip_first (zip_first z)) all ∙ ap zip_first outer.first ∙ inner.first in
    let readers = ap into_iter_items first ∙ c.into_iter.ensures.rest in
    let count = ap into_iter_len first ∙ c.into_iter.ensures.len in
    let gates = ap (λ z. into_iter_len (zip_second (zip_first z))) all ∙ ap (λ z. into_iter_len (zip_second z)) outer.first
    ∙ inner.second.1 in
    let passes = ap (λ z. into_iter_len (zip_second z)) all ∙ outer.second.1 in
    record {
      running = subst (AllByRecursion (λ r. g.R.Source.has_failed r ≡ false)) (sym readers) c.requires.running;
      jobs = subst (AreJobs c.args.run_params.now 1 [] []) (sym c.in_ok-all.ensures.items) tt;
      readers = readers;
      passes = ap (λ z. into_iter_items (zip_second z)) all ∙ outer.second.0;
      count = omega (arith, c.in_ok-all.ensures.len, count);
      gates = omega (arith, gates, count, c.requires.gates);
      others = omega (arith, passes, count, c.requires.passes);
      room = refl;
    }
