-- Lemmas about the rule: it holds after one more event, for the thread state of the event's stream
-- and for all others.
use Rattle.std.proofs.Common.{◌≡◌, ◌≢◌, ℕ, ◌+◌, ◌≤◌, List, [], ◌∷◌, ◌++◌, length, set, slice_index, Some, refl, sym, ap, ap₂, subst, ◌∙◌}
use Rattle.std.proofs.Common.{inl, inr, arith, append-nil, append_assoc, length-append}
use Rattle.std.specs.List.{AllByRecursion, sum_by}
use mathlib.Core.Option.{some}
use lib.ListN.{get_elem?}
use Rattle.std.proofs.lemmas.Bool.{cases_eq}
use Rattle.lrup_model.specs.Clause.{Clause}
use Rattle.lrup_model.specs.Formula.{Cnf}
use Rattle.lrup_model.specs.Layout.{LayoutValue, IsIdentity, row_words}
use Rattle.lrup_model.specs.Event.{Event, History, stream_of, own, published, spent, size_of}
use Rattle.lrup_model.specs.State.{State, Slot, opening, after, state, Answers}
use Rattle.lrup_model.specs.History.{IsAllowed, IsLegal}
use Rattle.lrup_model.specs.CallerView.{StoredClause, KeepsSpelt}
use Rattle.lrup_model.specs.Pass.{Spelling, stored_in, IsSpelt, IsFair}
use Rattle.lrup_model.specs.lemmas.PassLemmas.{stepped, moves_step}
use Rattle.lrup_model.specs.lemmas.RunningLemmas.{run-append, legal-append, own-append, spent-append}
use Rattle.lrup_model.specs.lemmas.HistoryLemmas.{IsLegal-front, own-mine, own-other, spent-own, spent_one}
use Rattle.idwords.specs.internal.RowWords.{word_of, LiesAt}
use Rattle.idwords.specs.Spelling.{words_taken, words_spent, top_after, event_spelling, spelling_of}
use Rattle.idwords.specs.Seats.{ThreadState}
use Rattle.idwords.specs.internal.Rule.{thread_stream, Agrees, Keeps, IsPlan}
use Rattle.idwords.specs.RowCalls.{Calls}
use Rattle.idwords.proofs.SpellingLemmas.{words_spent-append, words_spent_one, lies_within, spelling-snoc, keeps_spelt, spelt}
use Rattle.idwords.proofs.ViewLemmas.{all_at, moved, times-same}

-- Own events

pub own_rest : (g h k : History) → k ≡ g → g ++ h ≡ k → h ≡ []
own_rest g [] k same all = refl
own_rest g (e ∷ h) k same all =
    absurd (let len : length (g ++ e ∷ h) ≡ length g = ap length (all ∙ same) in omega (arith, length-append g (e ∷ h)))

others_from_own : (h : History) (s : ℕ) → own h s ≡ [] → AllByRecursion (λ d. stream_of d ≢ s) h
others_from_own [] s none = tt
others_from_own (e ∷ h) s none =
    elim (cases_eq (stream_of e) s) [
      | inl mine ↦ absurd (let own_first : own (e ∷ h) s ≡ e ∷ own h s = own-mine e h s mine in cc)
      | inr other ↦ (other, others_from_own h s (sym (own-other e h s other) ∙ none))
    ]

-- in the rest of the log, after what a thread state has seen, its stream makes no call
pub between : (seen more mine : History) (s : ℕ) → own seen s ≡ mine → own (seen ++ more) s ≡ mine
    → AllByRecursion (λ d. stream_of d ≢ s) more
between seen more mine s here all =
    others_from_own more s (own_rest (own seen s) (own more s) mine (sym here) (sym (own-append seen more s) ∙ all))

-- a thread state's calls spent as much as its stream did in the whole log
pub spent_log : (log mine : History) (s : ℕ) → own log s ≡ mine → spent s mine ≡ spent s log
spent_log log mine s all = ap (λ (h : History). spent s h) (sym all) ∙ spent-own s log

-- A thread state with its own formula and layout

module _ (v : ThreadState) (more : History) where
  abbrev pub own_log : History
  own_log = v.view.seen ++ more

  -- the row fits this log, with the thread state's own formula and layout
  abbrev pub OwnKeeps : List ℕ → List (List ThreadState) → Type 0
  OwnKeeps words views = Keeps v.view.caller.formula v.view.caller.layout (v.view.seen ++ more) words views

-- the thread state after it saw more of the log and made a call, with this draft
abbrev pub advanced : ThreadState → History → Event → Clause → ThreadState
advanced v more e draft = record {
  view = stepped v.view more e (spelling_of v.view.caller.formula v.view.caller.layout (v.view.seen ++ more ++ e ∷ []));
  top = top_after v.view.caller.layout (thread_stream v) (v.view.mine ++ e ∷ []);
  draft = draft;
}

pub agrees_at : (v : ThreadState) (more : History) (words : List ℕ) (views : List (List ThreadState)) (id : ℕ) → OwnKeeps v more words views
    → get_elem? views id ≡ some (v ∷ []) → Agrees v.view.caller.formula v.view.caller.layout (v.view.seen ++ more) words v
agrees_at v more words views id keeps here =
    (all_at (Agrees v.view.caller.formula v.view.caller.layout (v.view.seen ++ more) words) views id (v ∷ []) here keeps.threads).0

-- a thread state that agrees with the log is fair
pub fair_thread : (v : ThreadState) (more : History) (words : List ℕ) (plan : IsPlan v.view.caller.formula v.view.caller.layout)
    → IsLegal v.view.caller.formula v.view.caller.layout (v.view.seen ++ more)
    → Agrees v.view.caller.formula v.view.caller.layout (v.view.seen ++ more) words v → IsFair v.view
fair_thread v more words plan legal agrees =
    let f = v.view.caller.formula in
    let p = v.view.caller.layout in
    let front : IsLegal f p v.view.seen = IsLegal-front f p v.view.seen more legal in
    record {
      caller = record { formula = plan.formula; layout = plan.layout; fits = plan.fits; stream = agrees.stream };
      legal = front;
      mine = agrees.seen;
      spelt = subst (λ (xs : List Spelling). IsSpelt f v.view.seen xs) (sym agrees.spelt) (spelt f p v.view.seen front.events);
    }

-- One more event

own_past : (log : History) (e : Event) (t : ℕ) → (stream_of e ≡ t → ⊥) → own (log ++ e ∷ []) t ≡ own log t
own_past log e t other = own-append log (e ∷ []) t ∙ ap (λ (h : History). own log t ++ h) (own-other e [] t other) ∙ append-nil (own log t)

own_next : (log : History) (e : Event) (s : ℕ) → stream_of e ≡ s → own (log ++ e ∷ []) s ≡ own log s ++ e ∷ []
own_next log e s mine = own-append log (e ∷ []) s ∙ ap (λ (h : History). own log s ++ h) (own-mine e [] s mine)

legal_next : (f : Cnf) (p : LayoutValue) (log : History) (e : Event) → IsLegal f p log → Answers (state f log) e → IsAllowed f p e
    → spent (stream_of e) log + size_of e ≤ p.room → IsLegal f p (log ++ e ∷ [])
legal_next f p log e legal answers allowed room = record {
  events = legal-append f p (opening f) log (e ∷ []) legal.events (answers, allowed, tt);
  room = λ t. elim (cases_eq (stream_of e) t) [
    | inl mine ↦
        let all : spent t (log ++ e ∷ []) ≡ spent t log + spent t (e ∷ []) = spent-append t log (e ∷ []) in
        let one : spent t (e ∷ []) ≡ size_of e = spent_one t e mine in
        let here : spent (stream_of e) log ≡ spent t log = ap (λ (s : ℕ). spent s log) mine in
        omega arith
    | inr other ↦
        let same : spent t (log ++ e ∷ []) ≡ spent t log =
        ap (λ (es : History). sum_by (λ p. length p.1) (published es)) (own_past log e t other) in
        omega (arith, legal.room t)
  ];
}

-- a thread state agrees with other words, too, if they have its draft
pub agrees_words : (f : Cnf) (p : LayoutValue) (log : History) (words words' : List ℕ) (q : ThreadState) → Agrees f p log words q
    → LiesAt words' q.top q.draft → Agrees f p log words' q
agrees_words f p log words words' q agrees lies = record {
  formula = agrees.formula;
  layout = agrees.layout;
  stream = agrees.stream;
  begins = agrees.begins;
  seen = agrees.seen;
  mine = agrees.mine;
  spelt = agrees.spelt;
  top = agrees.top;
  room = agrees.room;
  draft = lies;
}

-- another stream's thread state still agrees with the log after the event
agrees_at_once : (f : Cnf) (p : LayoutValue) (log : History) (words words' : List ℕ) (e : Event) (q : ThreadState)
    → (stream_of e ≡ thread_stream q → ⊥)
    → Agrees f p log words q → LiesAt words' q.top q.draft → Agrees f p (log ++ e ∷ []) words' q
agrees_at_once f p log words words' e q other agrees lies = record {
  formula = agrees.formula;
  layout = agrees.layout;
  stream = agrees.stream;
  begins =
      (agrees.begins.0 ++ e ∷ [], ap (λ (h : History). h ++ e ∷ []) agrees.begins.1 ∙ append_assoc q.view.seen agrees.begins.0 (e ∷ []));
  seen = agrees.seen;
  mine = own_past log e (thread_stream q) other ∙ agrees.mine;
  spelt = agrees.spelt;
  top = agrees.top;
  room = agrees.room;
  draft = lies;
}

state_next : (f : Cnf) (log : History) (e : Event) (id : ℕ) → state f (log ++ e ∷ []) id ≡ after (state f log) e id
state_next f log e id = ap (λ (m : State). m id) (run-append (opening f) log (e ∷ []))

-- the top after an event of the stream
pub event_top : (p : LayoutValue) (s : ℕ) (mine : History) (e : Event) → stream_of e ≡ s
    → top_after p s (mine ++ e ∷ []) ≡ top_after p s mine + words_taken e
event_top p s mine e is =
    let all : words_spent s (mine ++ e ∷ []) ≡ words_spent s mine + words_spent s (e ∷ []) = words_spent-append s mine (e ∷ []) in
    let one : words_spent s (e ∷ []) ≡ words_taken e = words_spent_one s e is in
    omega arith

-- The new words fit the log with this event: they show each identity's state, and have the literals
-- of each clause and the drafts of other streams.
pub record Serves (f : Cnf) (p : LayoutValue) (log : History) (words : List ℕ) (e : Event) (words' : List ℕ) : Type 0 where
  pub count : length words' ≡ row_words p
  pub first : slice_index words' 0 ≡ 0
  pub slots : (id : ℕ) → IsIdentity p id
      → slice_index words' id ≡ word_of (after (state f log) e id) (stored_in (spelling_of f p log ++ event_spelling p log e) id)
  pub texts : (id : ℕ) (stored : StoredClause) → stored_in (spelling_of f p log ++ event_spelling p log e) id ≡ Some stored
      → LiesAt words' stored.start stored.literals
  pub others : (q : ThreadState) → thread_stream q ≢ stream_of e → Agrees f p log words q → LiesAt words' q.top q.draft

module _ (v : ThreadState) (more : History) (words words' : List ℕ) (views : List (List ThreadState)) (id : ℕ) (e : Event)
    (draft : Clause) where
  pub advance : OwnKeeps v more words views → get_elem? views id ≡ some (v ∷ [])
      → stream_of e ≡ thread_stream v → Answers (state v.view.caller.formula (v.view.seen ++ more)) e
      → IsAllowed v.view.caller.formula v.view.caller.layout e
      → spent (thread_stream v) v.view.mine + size_of e + length draft ≤ v.view.caller.layout.room
      → Serves v.view.caller.formula v.view.caller.layout (v.view.seen ++ more) words e words'
      → LiesAt words' (top_after v.view.caller.layout (thread_stream v) (v.view.mine ++ e ∷ [])) draft
      → Keeps v.view.caller.formula v.view.caller.layout (v.view.seen ++ more ++ e ∷ []) words' (set views id
      (advanced v more e draft ∷ []))
      × Calls v.view (advanced v more e draft).view e
  advance keeps here mine answers allowed room serves lies =
      let f = v.view.caller.formula in
      let p = v.view.caller.layout in
      let s = thread_stream v in
      let log = v.view.seen ++ more in
      let agrees = agrees_at v more words views id keeps here in
      let spent_here : spent s v.view.mine ≡ spent s log = spent_log log v.view.mine s agrees.mine in
      let spent_there : spent (stream_of e) log ≡ spent s log = ap (λ (t : ℕ). spent t log) mine in
      let legal : IsLegal f p (log ++ e ∷ []) = legal_next f p log e keeps.legal answers allowed (omega arith) in
      let all_mine : own (log ++ e ∷ []) s ≡ v.view.mine ++ e ∷ [] = own_next log e s mine
      ∙ ap (λ (h : History). h ++ e ∷ []) agrees.mine in
      let spelling_there : spelling_of f p (log ++ e ∷ []) ≡ spelling_of f p log ++ event_spelling p log e = spelling-snoc f p log e in
      let spent_next : spent s (v.view.mine ++ e ∷ []) ≡ spent s v.view.mine + spent s (e ∷ []) = spent-append s v.view.mine (e ∷ []) in
      let spent_event : spent s (e ∷ []) ≡ size_of e = spent_one s e mine in
      let keeps_on : KeepsSpelt (stored_in v.view.spelt) (stored_in (spelling_of f p (log ++ e ∷ []))) = λ j stored there.
      ap (λ (h : History). stored_in (spelling_of f p h) j) (append_assoc v.view.seen more (e ∷ []))
      ∙ keeps_spelt f p v.view.seen (more ++ e ∷ []) j stored (ap (λ (xs : List Spelling). stored_in xs j) (sym agrees.spelt) ∙ there) in
      let step = moves_step v.view more e (spelling_of f p (log ++ e ∷ [])) (fair_thread v more words keeps.plan keeps.legal agrees)
      (between v.view.seen more v.view.mine s agrees.seen agrees.mine) mine legal (spelt f p (log ++ e ∷ []) legal.events) keeps_on in
      let w : ThreadState = advanced v more e draft in
      let new : Agrees f p (log ++ e ∷ []) words' w = record {
        formula = refl;
        layout = refl;
        stream = agrees.stream;
        begins = ([], sym (append-nil (log ++ e ∷ [])));
        seen = all_mine;
        mine = all_mine;
        spelt = refl;
        top = refl;
        room = omega arith;
        draft = lies;
      } in (
        record {
          plan = keeps.plan;
          legal = legal;
          count = serves.count;
          first = serves.first;
          slots = λ j identity. serves.slots j identity
              ∙ ap₂ (λ (slot : Slot) (xs : List Spelling). word_of slot (stored_in xs j)) (sym (state_next f log e j)) (sym spelling_there);
          texts = λ j stored there. serves.texts j stored (ap (λ (xs : List Spelling). stored_in xs j) (sym spelling_there) ∙ there);
          threads = moved (Agrees f p log words) (Agrees f p (log ++ e ∷ []) words') views id v w here (keeps.once s) keeps.threads
              (λ q other there. agrees_at_once f p log words words' e q (λ same. other (sym same ∙ mine)) there
              (serves.others q (λ same. other (same ∙ mine)) there)) new;
          once = times-same views id v w here refl keeps.once;
        },
        record {
          moves = step.0;
          last = (log, refl);
          fair = step.1;
          within = lies_within f p (log ++ e ∷ []) keeps.plan.layout.some_stream keeps.plan.fits legal;
        },
      )
