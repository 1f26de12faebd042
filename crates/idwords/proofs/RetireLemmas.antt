-- Lemmas about a retire: its load, and its compare-exchange, which always succeeds.
use Rattle.std.proofs.Common.{◌≡◌, ℕ, ◌+◌, eqb, List, [], ◌∷◌, ◌++◌, set, slice_index, slice_set, Option, refl, sym, ap, subst, ◌∙◌}
use Rattle.std.proofs.Common.{inl, inr, arith, append-nil, eq-eqb}
use prog.Atomic.{either}
use Rattle.std.proofs.lemmas.Bool.{cases_eq}
use Rattle.std.proofs.lemmas.List.{set-get_or}
use Rattle.atomic_table.proofs.Lists.{set_again}
use Rattle.lrup_model.specs.Layout.{Owns}
use Rattle.lrup_model.specs.Event as events
use Rattle.lrup_model.specs.Event.{Event}
use Rattle.lrup_model.specs.State.{Slot, retire_slot, after, state, IsLive}
use Rattle.lrup_model.specs.CallerView.{StoredClause}
use Rattle.lrup_model.specs.Pass.{Spelling, stored_in, IsSpelt}
use Rattle.lrup_model.specs.lemmas.HistoryLemmas.{put-same, put-other}
use Rattle.lrup_model.specs.declared.clause_map.Retired.TheVariants as retiring
use Rattle.idwords.specs.Words.{word_state}
use Rattle.idwords.specs.internal.RowWords.{word_of, LiesAt}
use Rattle.idwords.specs.Spelling.{top_after, spelling_of}
use Rattle.idwords.specs.Seats.{ThreadState}
use Rattle.idwords.specs.internal.Rule.{thread_stream, Keeps}
use Rattle.idwords.specs.internal.Steps.{Finds, Retires}
use Rattle.idwords.proofs.SpellingLemmas.{spelt}
use Rattle.idwords.proofs.RuleLemmas.{advanced, event_top, agrees_at, Serves, advance}
use Rattle.idwords.proofs.StepLemmas.{OwnStep}
use Rattle.idwords.proofs.LookLemmas.{IsPlain, plain_step}
use Rattle.idwords.proofs.OwnLemmas.{live_word, other_word, retired_word, own_slot, own_identity, own_word, count-write, first-write}
use Rattle.idwords.proofs.OwnLemmas.{here-write, slots-write, texts-write, drafts-write}

-- a step that loads the word of one of the stream's own identities does what `Finds` says
pub finds : (v : ThreadState) (seat id : ℕ) → Owns v.view.caller.layout (thread_stream v) id
    → OwnStep v seat id (λ n. n) (λ n w. Finds id v n w)
finds v seat id owns more words views kept here small =
    let f = v.view.caller.formula in
    let p = v.view.caller.layout in
    let log = v.view.seen ++ more in
    let word = own_word v more words views seat kept here id owns in
    let slot = own_slot v more words views seat kept here id owns in
    let agrees = agrees_at v more words views seat kept here in
    let same_words : slice_set words id (slice_index words id) ≡ words = set-get_or words id 0 in
    let all : IsSpelt f log (spelling_of f p log) = spelt f p log kept.legal.events in
    let log_word = kept.slots id (own_identity v more words views seat kept here id owns) in
    elim (cases_eq (word_state (slice_index words id)) 1) [
      | inl one ↦
          let same_views : set views seat (v ∷ []) ≡ views = set_again views seat (v ∷ []) here in (
            v,
            log,
            rw (same_words, same_views) kept,
            record { own = word; live = λ is. refl; none = λ other. absurd (other one) },
          )
      | inr other ↦
          let e : Event = events.retire (thread_stream v) id retiring.NotLive in
          let none : ¬ IsLive (state f log id) =
          other_word (state f log id) (stored_in (spelling_of f p log) id) (all.slots id) (rw log_word at other) in
          let plain : IsPlain f p log e = record { state = λ j. refl; spelling = refl; size = refl } in
          let done = plain_step v more words views seat e v.draft kept here refl none owns plain agrees.draft (omega arith) in
          let w : ThreadState = advanced v more e v.draft in (
            w,
            log ++ e ∷ [],
            rw same_words done.0,
            record {
              own = word;
              live = λ one. absurd (other one);
              none = λ is. record {
                calls = done.1;
                none = rw slot at none;
                top = done.2;
                draft = refl;
              };
            },
          )
    ]

-- a compare-exchange that expects the live word of one of the stream's own identities does what
-- `Retires` says
pub retires : (v : ThreadState) (seat id old : ℕ) → Owns v.view.caller.layout (thread_stream v) id
    → old ≡ word_of (state v.view.caller.formula v.view.mine id) (stored_in v.view.spelt id) → word_state old ≡ 1
    → OwnStep v seat id (λ n. either (eqb n old) (old + 1) n) (λ n w. Retires id v w)
retires v seat id old owns is one more words views kept here small =
    let f = v.view.caller.formula in
    let p = v.view.caller.layout in
    let s = thread_stream v in
    let log = v.view.seen ++ more in
    let e : Event = events.retire s id retiring.Done in
    let identity = own_identity v more words views seat kept here id owns in
    let found : slice_index words id ≡ old = own_word v more words views seat kept here id owns ∙ sym is in
    let slot = own_slot v more words views seat kept here id owns in
    let agrees = agrees_at v more words views seat kept here in
    let all : IsSpelt f log (spelling_of f p log) = spelt f p log kept.legal.events in
    let o : Option StoredClause = stored_in (spelling_of f p log) id in
    let log_word : old ≡ word_of (state f log id) o = sym found ∙ kept.slots id identity in
    let alive : IsLive (state f log id) = live_word (state f log id) o (all.slots id) (ap word_state (sym log_word) ∙ one) in
    let new : List ℕ = slice_set words id (old + 1) in
    let same : spelling_of f p log ++ [] ≡ spelling_of f p log = append-nil (spelling_of f p log) in
    let serves : Serves f p log words e new = record {
      count = count-write f p log words views id (old + 1) kept identity;
      first = first-write f p log words views id (old + 1) kept identity;
      slots = λ j there. elim (cases_eq j id) [
        | inl at ↦
            ap (λ (k : ℕ). slice_index new k) at ∙ here-write f p log words views id (old + 1) kept identity
            ∙ ap (λ (n : ℕ). n + 1) log_word ∙ sym (retired_word (state f log id) o (all.slots id) alive)
            ∙ ap (λ (x : Slot). word_of x o) (sym (put-same (state f log) id (retire_slot (state f log id)) j at))
            ∙ ap (λ (k : ℕ). word_of (after (state f log) e j) (stored_in (spelling_of f p log) k)) (sym at)
            ∙ ap (λ (xs : List Spelling). word_of (after (state f log) e j) (stored_in xs j)) (sym same)
        | inr other ↦
            slots-write f p log words views id (old + 1) kept identity j other there
            ∙ ap (λ (x : Slot). word_of x (stored_in (spelling_of f p log) j))
            (sym (put-other (state f log) id (retire_slot (state f log id)) j other))
            ∙ ap (λ (xs : List Spelling). word_of (after (state f log) e j) (stored_in xs j)) (sym same)
      ];
      texts = λ j text there. texts-write f p log words views id (old + 1) kept identity j text
          (ap (λ (xs : List Spelling). stored_in xs j) (sym same) ∙ there);
      others = λ q other there. drafts-write f p log words views id (old + 1) kept identity q there;
    } in
    let top : top_after p s (v.view.mine ++ e ∷ []) ≡ v.top = omega (arith, event_top p s v.view.mine e refl, agrees.top) in
    let done = advance v more words new views seat e v.draft kept here refl alive owns (omega (arith, agrees.room)) serves
    (subst (λ (place : ℕ). LiesAt new place v.draft) (sym top) (drafts-write f p log words views id (old + 1) kept identity v agrees)) in
    let w : ThreadState = advanced v more e v.draft in
    let hit : either (eqb (slice_index words id) old) (old + 1) (slice_index words id) ≡ old + 1 =
    ap (λ b. either b (old + 1) (slice_index words id)) (eq-eqb (slice_index words id) old found) in (
      w,
      log ++ e ∷ [],
      subst (λ (n : ℕ). Keeps f p (log ++ e ∷ []) (slice_set words id n) (set views seat (w ∷ []))) (sym hit) done.0,
      record {
        calls = done.1;
        live = subst (λ (x : Slot). IsLive x) slot alive;
        top = top;
        draft = refl;
      },
    )
