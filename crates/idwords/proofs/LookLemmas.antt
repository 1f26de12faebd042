-- Lemmas about steps that change no word: fetches, and all other events that don't change the map.
use Rattle.std.proofs.Common.{◌≡◌, ℕ, ◌<◌, ◌≤◌, cond, eqb, List, [], ◌∷◌, ◌++◌, length, set, slice_index, slice_set, Option, None, Some}
use Rattle.std.proofs.Common.{refl, sym, ap, subst, ◌∙◌, arith, append-nil, eq-eqb, ne_eqb}
use mathlib.Core.Option.{some}
use lib.ListN.{get_elem?}
use Rattle.std.proofs.lemmas.Bool.{cond-true, cond-false}
use Rattle.std.proofs.lemmas.List.{set-get_or}
use Rattle.lrup_model.specs.Clause.{Clause}
use Rattle.lrup_model.specs.Formula.{Cnf}
use Rattle.lrup_model.specs.Layout.{LayoutValue, IsIdentity}
use Rattle.lrup_model.specs.Event as events
use Rattle.lrup_model.specs.Event.{Event, Reply, History, stream_of, size_of}
use Rattle.lrup_model.specs.State.{State, Slot, absent, live, retired, after, state, Answers}
use Rattle.lrup_model.specs.History.{IsAllowed}
use Rattle.lrup_model.specs.CallerView.{StoredClause, literals_in}
use Rattle.lrup_model.specs.Pass.{Spelling, stored_in, Spells, IsSpelt}
use Rattle.idwords.specs.Words.{word_state, ShowsStored, reply_in}
use Rattle.idwords.specs.internal.RowWords.{identity_word, word_of, LiesAt}
use Rattle.idwords.specs.Spelling.{top_after, event_spelling, spelling_of}
use Rattle.idwords.specs.Seats.{ThreadState}
use Rattle.idwords.specs.internal.Rule.{thread_stream, Keeps}
use Rattle.idwords.specs.RowCalls.{Calls}
use Rattle.idwords.specs.internal.Steps.{Looks}
use Rattle.idwords.proofs.SpellingLemmas.{spelling-snoc, spelt, short}
use Rattle.idwords.proofs.WordLemmas.{IsShort, shows_slot, state-identity_word}
use Rattle.idwords.proofs.RuleLemmas.{OwnKeeps, advanced, event_top, agrees_at, Serves, advance}
use Rattle.idwords.proofs.StepLemmas.{OwnStep}

-- An event that doesn't change the map

pub record IsPlain (f : Cnf) (p : LayoutValue) (log : History) (e : Event) : Type 0 where
  pub state : (id : ℕ) → after (state f log) e id ≡ state f log id
  pub spelling : event_spelling p log e ≡ []
  pub size : size_of e ≡ 0

plain_spelling : (f : Cnf) (p : LayoutValue) (log : History) (e : Event) → IsPlain f p log e
    → spelling_of f p log ++ event_spelling p log e ≡ spelling_of f p log
plain_spelling f p log e plain = ap (λ (xs : List Spelling). spelling_of f p log ++ xs) plain.spelling ∙ append-nil (spelling_of f p log)

module _ (v : ThreadState) (more : History) (words : List ℕ) (views : List (List ThreadState)) (id : ℕ) (e : Event) (draft : Clause) where
  pub plain_step : OwnKeeps v more words views → get_elem? views id ≡ some (v ∷ [])
      → stream_of e ≡ thread_stream v → Answers (state v.view.caller.formula (v.view.seen ++ more)) e
      → IsAllowed v.view.caller.formula v.view.caller.layout e
      → IsPlain v.view.caller.formula v.view.caller.layout (v.view.seen ++ more) e → LiesAt words v.top draft
      → length draft ≤ length v.draft
      → Keeps v.view.caller.formula v.view.caller.layout (v.view.seen ++ more ++ e ∷ []) words (set views id (advanced v more e draft ∷ []))
      × Calls v.view (advanced v more e draft).view e × ((advanced v more e draft).top ≡ v.top)
  plain_step kept here mine answers allowed plain lies shorter =
      let f = v.view.caller.formula in
      let p = v.view.caller.layout in
      let s = thread_stream v in
      let log = v.view.seen ++ more in
      let agrees = agrees_at v more words views id kept here in
      let same = plain_spelling f p log e plain in
      let top : top_after p s (v.view.mine ++ e ∷ []) ≡ v.top = omega (arith, event_top p s v.view.mine e mine, plain.size, agrees.top) in
      let serves : Serves f p log words e words = record {
        count = kept.count;
        first = kept.first;
        slots = λ j identity. kept.slots j identity ∙ ap (λ (xs : List Spelling). word_of (state f log j) (stored_in xs j)) (sym same)
            ∙ ap (λ (slot : Slot). word_of slot (stored_in (spelling_of f p log ++ event_spelling p log e) j)) (sym (plain.state j));
        texts = λ j text there. kept.texts j text (ap (λ (xs : List Spelling). stored_in xs j) (sym same) ∙ there);
        others = λ q other there. there.draft;
      } in
      let done = advance v more words words views id e draft kept here mine answers allowed (omega (arith, plain.size, agrees.room)) serves
      (subst (λ (place : ℕ). LiesAt words place draft) (sym top) lies) in
      (done.0, done.1, top)

-- A fetch

-- the reply to a fetch that finds this slot
abbrev pub slot_reply : Slot → Reply
slot_reply absent = events.vacant
slot_reply (live c) = events.live c
slot_reply (retired c) = events.retired

slot_answers : (m : State) (s id : ℕ) (slot : Slot) → m id ≡ slot → Answers m (events.fetch s id (slot_reply slot))
slot_answers m s id absent is = is
slot_answers m s id (live c) is = is
slot_answers m s id (retired c) is = subst (λ (x : Slot). Rattle.lrup_model.specs.State.IsRetired x) (sym is) tt

reply_one : (o : Option StoredClause) (word : ℕ) → word_state word ≡ 1 → reply_in o word ≡ events.live (literals_in o)
reply_one o word is =
    cond-false (eqb (word_state word) 0) events.vacant (cond (eqb (word_state word) 1) (events.live (literals_in o)) events.retired)
    (ne_eqb (word_state word) 0 (λ nil. omega arith))
    ∙ cond-true (eqb (word_state word) 1) (events.live (literals_in o)) events.retired (eq-eqb (word_state word) 1 is)

reply_two : (o : Option StoredClause) (word : ℕ) → word_state word ≡ 2 → reply_in o word ≡ events.retired
reply_two o word is =
    cond-false (eqb (word_state word) 0) events.vacant (cond (eqb (word_state word) 1) (events.live (literals_in o)) events.retired)
    (ne_eqb (word_state word) 0 (λ nil. omega arith))
    ∙ cond-false (eqb (word_state word) 1) (events.live (literals_in o)) events.retired (ne_eqb (word_state word) 1 (λ one. omega arith))

pub reply_slot : (slot : Slot) (o : Option StoredClause) → Spells slot o → reply_in o (word_of slot o) ≡ slot_reply slot
reply_slot absent o spells = refl
reply_slot (live c) None spells = absurd spells
reply_slot (live c) (Some stored) spells =
    reply_one (Some stored) (identity_word 1 (length stored.literals) stored.start)
    (state-identity_word 1 (length stored.literals) stored.start
    (omega arith)) ∙ ap events.live spells
reply_slot (retired c) None spells = absurd spells
reply_slot (retired c) (Some stored) spells =
    reply_two (Some stored) (identity_word 2 (length stored.literals) stored.start)
    (state-identity_word 2 (length stored.literals) stored.start (omega arith))

short_option : (o o' : Option StoredClause) → o ≡ o' → ((stored : StoredClause) → o ≡ Some stored → length stored.literals < 1048576)
    → IsShort o'
short_option o None same all = tt
short_option o (Some stored) same all = all stored same

-- the word of an identity shows what is stored for the identity, and determines the reply to a
-- fetch
pub shown : (f : Cnf) (p : LayoutValue) (log : History) (words : List ℕ) (views : List (List ThreadState)) (id : ℕ)
    → Keeps f p log words views
    → IsIdentity p id → ShowsStored (stored_in (spelling_of f p log) id) (slice_index words id)
    × (reply_in (stored_in (spelling_of f p log) id) (slice_index words id) ≡ slot_reply (state f log id))
shown f p log words views id kept identity =
    let all : IsSpelt f log (spelling_of f p log) = spelt f p log kept.legal.events in
    let o : Option StoredClause = stored_in (spelling_of f p log) id in
    let word = kept.slots id identity in
    let small : IsShort o = short_option o o refl (λ k there. short f p log id k kept.plan.formula kept.legal.events there) in (
      subst (λ (n : ℕ). ShowsStored o n) (sym word) (shows_slot (state f log id) o (all.slots id) small),
      ap (λ (n : ℕ). reply_in o n) word ∙ reply_slot (state f log id) o (all.slots id),
    )

pub looks : (v : ThreadState) (seat id : ℕ) → IsIdentity v.view.caller.layout id → OwnStep v seat id (λ n. n) (λ n w. Looks id v n w)
looks v seat id identity more words views kept here small =
    let f = v.view.caller.formula in
    let p = v.view.caller.layout in
    let log = v.view.seen ++ more in
    let slot : Slot = state f log id in
    let e : Event = events.fetch (thread_stream v) id (slot_reply slot) in
    let plain : IsPlain f p log e = record { state = λ j. refl; spelling = refl; size = refl } in
    let agrees = agrees_at v more words views seat kept here in
    let done = plain_step v more words views seat e v.draft kept here refl
    (slot_answers (state f log) (thread_stream v) id slot refl) identity plain agrees.draft (omega arith) in
    let same : slice_set words id (slice_index words id) ≡ words = set-get_or words id 0 in
    let there : spelling_of f p (log ++ e ∷ []) ≡ spelling_of f p log = spelling-snoc f p log e ∙ append-nil (spelling_of f p log) in
    let known = shown f p log words views id kept identity in
    let w : ThreadState = advanced v more e v.draft in (
      w,
      log ++ e ∷ [],
      rw same done.0,
      record {
        shows = rw there known.0;
        calls = rw (ap (λ (xs : List Spelling). reply_in (stored_in xs id) (slice_index words id)) there ∙ known.1) done.1;
        top = done.2;
        draft = refl;
      },
    )
