use Rattle.std.proofs.Common.{◌≡◌, ◌+◌, ◌-◌, ◌++◌, ◌∷◌, [], List, Some, length, sym, ap, subst, ◌∙◌, arith}
use Rattle.std.specs.Prelude.{IfOk, slice_get}
use Rattle.std.proofs.lemmas.List.{map-append}
use Rattle.lrup_model.specs.Formula.{Cnf}
use Rattle.lrup_model.specs.Layout.{LayoutValue}
use Rattle.lrup_model.specs.Pass.{View, AreSynced}
use Rattle.lrup_model.specs.CallerView.{Caller}
use Rattle.clause_store.specs.Passes.{PassValue, StoreValue, AreOf, store_of, views}
use Rattle.stream_check.specs.SequentialConsistency.{HaveOneHistory}
use Rattle.checkpoint.specs.Checkpoints.{WritesCheckpoint}
use Rattle.run_outcome.specs.Saving.{is_wanted}
use Rattle.run_outcome.proofs.SavingLemmas.{SavesFound, fetched_so, last_at, other_last}
use Rattle.run_outcome.proofs.saving.save_shared.Goals as goal

-- the last of the passes has the history's formula
pub returns-clause-checkpoint : goal.returns-clause-checkpoint
returns-clause-checkpoint g c = λ f h history.
    let rest : List PassValue = c.pop.new.self.items in
    let pass : PassValue = c.in-Some.pass in
    let vs : List View = views rest in
    let all : views c.args.passes.items ≡ vs ++ pass.view ∷ [] = ap views c.in-Some.ensures.items
    ∙ map-append (λ (p : PassValue). p.view) rest (pass ∷ []) in
    let stream : length vs + 1 - 1 ≡ length vs = omega arith in
    let at : slice_get (views c.args.passes.items) (length vs + 1 - 1) ≡ Some pass.view =
    ap (slice_get (views c.args.passes.items)) stream ∙ ap (λ (ws : List View). slice_get ws (length vs)) all ∙ last_at vs pass.view in
    let caller = (history.calls (length vs + 1) pass.view (omega arith, at)).0 in
    let formula : c.new-desk.result.pass.view.caller.formula ≡ f = ap (λ (p : PassValue). p.view.caller.formula) c.new-desk.ensures
    ∙ ap (λ (k : Caller). k.formula) caller in
    subst (λ (k : Cnf). IfOk c.save-saved.result
    (WritesCheckpoint k (g.W.Sink.written c.args.sink.now) (g.W.Sink.written c.save-saved.new.sink)))
    formula c.save-saved.ensures.checkpoint

pub meet_all-requires : goal.meet_all-requires
meet_all-requires g c =
    let store : StoreValue = c.args.store.now in
    let rest : List PassValue = c.pop.new.self.items in
    let old : PassValue = c.in-Some.pass in
    let new : PassValue = c.into_pass.result in
    let before : AreOf store (rest ++ old ∷ []) = subst (AreOf store) c.in-Some.ensures.items c.requires.of in
    let stays : store_of new ≡ store_of old =
    ap store_of c.into_pass.ensures ∙ c.save-saved.ensures.saves.1.store ∙ ap store_of c.new-desk.ensures in
    subst (AreOf store) (sym (c.deref_mut.ensures.value ∙ c.push_reserved.ensures.items)) (other_last store rest old new before stays)

-- the last pass fetched what the history left, because all passes have met
pub returns-clause-saves : goal.returns-clause-saves
returns-clause-saves g c = λ f h history.
    let p : LayoutValue = c.args.store.now.layout in
    let rest : List PassValue = c.pop.new.self.items in
    let vs : List View = views rest in
    let v : View = c.new-desk.result.pass.view in
    let w : View = c.save-saved.new.map.pass.view in
    let us : List View = views c.meet_all.new.passes in
    let saved = c.save-saved.ensures.saves in
    let before : views c.args.passes.items ≡ vs ++ v ∷ [] =
    ap views c.in-Some.ensures.items ∙ map-append (λ (p : PassValue). p.view) rest (c.in-Some.pass ∷ [])
    ∙ ap (λ (p : PassValue). vs ++ p.view ∷ []) (sym c.new-desk.ensures) in
    let after : views c.deref_mut.result.now ≡ vs ++ w ∷ [] =
    ap views (c.deref_mut.ensures.value ∙ c.push_reserved.ensures.items)
    ∙ map-append (λ (p : PassValue). p.view) rest (c.into_pass.result ∷ [])
    ∙ ap (λ (p : PassValue). vs ++ p.view ∷ []) c.into_pass.ensures in
    let one : HaveOneHistory f p h (vs ++ v ∷ []) = subst (HaveOneHistory f p h) before history in
    let synced : AreSynced (vs ++ w ∷ []) us = subst (λ (xs : List View). AreSynced xs us) after c.meet_all.ensures.synced in
    record {
      replies = saved.0;
      answers = fetched_so f p h vs v w saved.0 us c.meet_all.ensures.one.0 one saved.1.moves synced c.meet_all.ensures.one.1;
      saves = subst (λ (p : LayoutValue). SavesFound g.W.Sink.written c.save-saved.result p
          (is_wanted c.args.dropped.now) saved.0 c.args.sink.now c.save-saved.new.sink)
          c.layout-layout.ensures (saved.2, saved.3);
    }
