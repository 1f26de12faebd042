-- Lemmas about a publish: its compare-exchange succeeds exactly if the identity is vacant.
use Rattle.std.proofs.Common.{◌≡◌, ◌≢◌, ℕ, ◌+◌, eqb, List, [], ◌∷◌, ◌++◌, length, set, slice_index, slice_set, Option, None, Some, refl}
use Rattle.std.proofs.Common.{sym, ap, subst, ◌∙◌, inl, inr, arith, eq-eqb, ne_eqb}
use mathlib.Core.Option.{some}
use lib.ListN.{get_elem?}
use prog.Atomic.{either}
use Rattle.std.proofs.lemmas.Bool.{cases_eq, cond-true, cond-false}
use Rattle.std.proofs.lemmas.List.{set-get_or}
use Rattle.std.proofs.lemmas.Option.{same_Some}
use Rattle.atomic_table.proofs.Lists.{exchanged}
use Rattle.lrup_model.specs.Layout.{Owns}
use Rattle.lrup_model.specs.Event as events
use Rattle.lrup_model.specs.Event.{Event, History}
use Rattle.lrup_model.specs.State.{Slot, absent, live, state}
use Rattle.lrup_model.specs.History.{IsPublishable}
use Rattle.lrup_model.specs.CallerView.{StoredClause}
use Rattle.lrup_model.specs.Pass.{Spelling, stored_in, IsSpelt}
use Rattle.lrup_model.specs.lemmas.HistoryLemmas.{put-same, put-other}
use Rattle.lrup_model.specs.declared.clause_map.Published.{Published}
use Rattle.lrup_model.specs.declared.clause_map.Published.TheVariants as publishing
use Rattle.idwords.specs.internal.RowWords.{identity_word, word_of, LiesAt}
use Rattle.idwords.specs.Words.{words_for}
use Rattle.idwords.specs.Spelling.{spelling, top_after, spelling_of}
use Rattle.idwords.specs.Seats.{ThreadState}
use Rattle.idwords.specs.internal.Rule.{thread_stream, Keeps}
use Rattle.idwords.specs.RowCalls.{Calls}
use Rattle.idwords.specs.internal.Steps.{Claims}
use Rattle.idwords.proofs.SpellingLemmas.{words_spent-own, spelt, spells_absent, stored-append_none, stored_one, stored_beside}
use Rattle.idwords.proofs.RuleLemmas.{OwnKeeps, advanced, event_top, agrees_at, Serves, advance}
use Rattle.idwords.proofs.StepLemmas.{OwnStep}
use Rattle.idwords.proofs.LookLemmas.{IsPlain, plain_step}
use Rattle.idwords.proofs.OwnLemmas.{absent_word, own_slot, own_identity, count-write, first-write, here-write, slots-write, texts-write}
use Rattle.idwords.proofs.OwnLemmas.{drafts-write}

module _ (v : ThreadState) (seat id new : ℕ) (owns : Owns v.view.caller.layout (thread_stream v) id)
    (clause : IsPublishable v.view.caller.formula v.draft)
    (is : new ≡ identity_word 1 (length v.draft) v.top) (more : History) (words : List ℕ) (views : List (List ThreadState))
    (kept : OwnKeeps v more words views) (here : get_elem? views seat ≡ some (v ∷ [])) where
  -- after this word is written at the identity, the row fits a history in which the publish has the
  -- reply that the old word gives
  abbrev Claimed : ℕ → Type 0
  Claimed word = (w : ThreadState) × (log : History)
      × Keeps v.view.caller.formula v.view.caller.layout log (slice_set words id word) (set views seat (w ∷ []))
      × Claims id v (slice_index words id) w

  claims_vacant : slice_index words id ≡ 0 → Claimed new
  claims_vacant nil =
      let f = v.view.caller.formula in
      let p = v.view.caller.layout in
      let s = thread_stream v in
      let log = v.view.seen ++ more in
      let e : Event = events.publish s id v.draft publishing.Done in
      let x : Spelling = spelling id (top_after p s log) v.draft in
      let xs : List Spelling = spelling_of f p log in
      let agrees = agrees_at v more words views seat kept here in
      let identity = own_identity v more words views seat kept here id owns in
      let all : IsSpelt f log xs = spelt f p log kept.legal.events in
      let vacant : state f log id ≡ absent =
      absent_word (state f log id) (stored_in xs id) (all.slots id) (sym (kept.slots id identity) ∙ nil) in
      let none : stored_in xs id ≡ None = spells_absent (state f log id) (stored_in xs id) vacant (all.slots id) in
      let spent_all = words_spent-own log v.view.mine s agrees.mine in
      let place : v.top ≡ top_after p s log = omega (arith, agrees.top) in
      let ws : List ℕ = slice_set words id new in
      let new_text : stored_in (xs ++ x ∷ []) id ≡ Some x.stored = stored-append_none xs (x ∷ []) id none ∙ stored_one x id refl in
      let new_lies : LiesAt ws x.stored.start x.stored.literals =
      subst (λ (n : ℕ). LiesAt ws n v.draft) place (drafts-write f p log words views id new kept identity v agrees) in
      let serves : Serves f p log words e ws = record {
        count = count-write f p log words views id new kept identity;
        first = first-write f p log words views id new kept identity;
        slots = λ j there. elim (cases_eq j id) [
          | inl at ↦
              ap (λ (k : ℕ). slice_index ws k) at ∙ here-write f p log words views id new kept identity
              ∙ is ∙ ap (λ (n : ℕ). identity_word 1 (length v.draft) n) place
              ∙ ap (λ (o : Option StoredClause). word_of (live v.draft) o) (sym new_text)
              ∙ ap (λ (k : ℕ). word_of (live v.draft) (stored_in (xs ++ x ∷ []) k)) (sym at)
              ∙ ap (λ (y : Slot). word_of y (stored_in (xs ++ x ∷ []) j)) (sym (put-same (state f log) id (live v.draft) j at))
          | inr other ↦
              slots-write f p log words views id new kept identity j other there
              ∙ ap (λ (o : Option StoredClause). word_of (state f log j) o) (sym (stored_beside xs x j (stored_in xs j) refl other))
              ∙ ap (λ (y : Slot). word_of y (stored_in (xs ++ x ∷ []) j)) (sym (put-other (state f log) id (live v.draft) j other))
        ];
        texts = λ j text there. elim (cases_eq j id) [
          | inl at ↦
              let same : Some x.stored ≡ Some text = sym new_text ∙ ap (λ (k : ℕ). stored_in (xs ++ x ∷ []) k) (sym at) ∙ there in
              subst (λ (k : StoredClause). LiesAt ws k.start k.literals) (same_Some x.stored text same) new_lies
          | inr other ↦
              texts-write f p log words views id new kept identity j text (sym (stored_beside xs x j (stored_in xs j) refl other) ∙ there)
        ];
        others = λ q other there. drafts-write f p log words views id new kept identity q there;
      } in
      let top : top_after p s (v.view.mine ++ e ∷ []) ≡ v.top + words_for (length v.draft) =
      omega (arith, event_top p s v.view.mine e refl, agrees.top) in
      let done = advance v more words ws views seat e [] kept here refl vacant (owns, clause) (omega (arith, agrees.room)) serves tt in
      let w : ThreadState = advanced v more e [] in
      let slot = own_slot v more words views seat kept here id owns in (
        w,
        log ++ e ∷ [],
        done.0,
        record {
          calls = subst (λ (r : Published). Calls v.view w.view (events.publish s id v.draft r))
              (sym (cond-true (eqb (slice_index words id) 0) publishing.Done publishing.Taken (eq-eqb (slice_index words id) 0 nil)))
              done.1;
          absent = (λ is_nil. sym slot ∙ vacant, λ is_absent. nil);
          top = top ∙ sym (cond-true (eqb (slice_index words id) 0) (v.top + words_for (length v.draft)) v.top
              (eq-eqb (slice_index words id) 0 nil));
          draft = refl;
        },
      )

  claims_taken : slice_index words id ≢ 0 → Claimed (slice_index words id)
  claims_taken taken =
      let f = v.view.caller.formula in
      let p = v.view.caller.layout in
      let s = thread_stream v in
      let log = v.view.seen ++ more in
      let e : Event = events.publish s id v.draft publishing.Taken in
      let xs : List Spelling = spelling_of f p log in
      let identity = own_identity v more words views seat kept here id owns in
      let word = kept.slots id identity in
      let held : state f log id ≢ absent = λ nothing. taken (word ∙ ap (λ (y : Slot). word_of y (stored_in xs id)) nothing) in
      let plain : IsPlain f p log e = record { state = λ j. refl; spelling = refl; size = refl } in
      let done = plain_step v more words views seat e [] kept here refl held (owns, clause) plain tt (omega arith) in
      let w : ThreadState = advanced v more e [] in
      let slot = own_slot v more words views seat kept here id owns in (
        w,
        log ++ e ∷ [],
        subst (λ (ws : List ℕ). Keeps f p (log ++ e ∷ []) ws (set views seat (w ∷ []))) (sym (set-get_or words id 0)) done.0,
        record {
          calls = subst (λ (r : Published). Calls v.view w.view (events.publish s id v.draft r))
              (sym (cond-false (eqb (slice_index words id) 0) publishing.Done publishing.Taken (ne_eqb (slice_index words id) 0 taken)))
              done.1;
          absent = (λ is_nil. absurd (taken is_nil), λ is_absent. absurd (held (slot ∙ is_absent)));
          top = done.2 ∙ sym (cond-false (eqb (slice_index words id) 0) (v.top + words_for (length v.draft)) v.top
              (ne_eqb (slice_index words id) 0 taken));
          draft = refl;
        },
      )

pub claims : (v : ThreadState) (seat id new : ℕ) → Owns v.view.caller.layout (thread_stream v) id
    → IsPublishable v.view.caller.formula v.draft
    → new ≡ identity_word 1 (length v.draft) v.top
    → OwnStep v seat id (λ n. either (eqb n 0) new n) (λ n w. Claims id v n w)
claims v seat id new owns clause is more words views kept here small =
    exchanged (slice_index words id) 0 new (Claimed v seat id new owns clause is more words views kept here)
    (claims_vacant v seat id new owns clause is more words views kept here)
    (claims_taken v seat id new owns clause is more words views kept here)
