-- Lemmas about a stream's own identities: what is stored there depends only on the stream's own
-- calls, and only its own steps change it.
use Rattle.std.proofs.Common.{◌≡◌, ◌≢◌, ℕ, ◌+◌, ◌<◌, List, [], ◌∷◌, ◌++◌, length, slice_index, slice_set, Option, None, Some, refl, sym, ap}
use Rattle.std.proofs.Common.{ap₂, ◌∙◌, inl, inr, arith, length-set, get_or-set_same, get_or-set_other}
use mathlib.Core.Option.{some}
use lib.ListN.{get_elem?}
use Rattle.lrup_model.specs.Clause.{Clause}
use Rattle.lrup_model.specs.Formula.{Cnf}
use Rattle.lrup_model.specs.Layout.{LayoutValue, IsIdentity, Owns, last_identity, row_words}
use Rattle.lrup_model.specs.Event.{History}
use Rattle.lrup_model.specs.State.{Slot, absent, live, retired, opening, state, IsLive, retire_slot}
use Rattle.lrup_model.specs.CallerView.{StoredClause}
use Rattle.lrup_model.specs.Pass.{Spelling, stored_in, Spells}
use Rattle.lrup_model.specs.lemmas.HistoryLemmas.{run-own, legal-front}
use Rattle.lrup_model.specs.lemmas.OwnerLemmas.{owned}
use Rattle.idwords.specs.Words.{word_state}
use Rattle.idwords.specs.internal.RowWords.{word_of, LiesAt}
use Rattle.idwords.specs.Spelling.{spelling_of}
use Rattle.idwords.specs.Seats.{ThreadState}
use Rattle.idwords.specs.internal.Rule.{thread_stream, Keeps, Agrees}
use Rattle.idwords.proofs.SpellingLemmas.{IsLodged, lodged, own_stored}
use Rattle.idwords.proofs.WordLemmas.{lies-set, state-identity_word}
use Rattle.idwords.proofs.RuleLemmas.{OwnKeeps, agrees_at}

-- What a word shows about its slot

pub absent_word : (slot : Slot) (o : Option StoredClause) → Spells slot o → word_of slot o ≡ 0 → slot ≡ absent
absent_word absent o spells nil = refl
absent_word (live c) None spells nil = absurd spells
absent_word (live c) (Some stored) spells nil = absurd (omega arith)
absent_word (retired c) None spells nil = absurd spells
absent_word (retired c) (Some stored) spells nil = absurd (omega arith)

pub live_word : (slot : Slot) (o : Option StoredClause) → Spells slot o → word_state (word_of slot o) ≡ 1 → IsLive slot
live_word absent o spells one = absurd (omega arith)
live_word (live c) o spells one = tt
live_word (retired c) None spells one = absurd spells
live_word (retired c) (Some stored) spells one =
    absurd (omega (arith, state-identity_word 2 (length stored.literals) stored.start (omega arith)))

pub other_word : (slot : Slot) (o : Option StoredClause) → Spells slot o → word_state (word_of slot o) ≢ 1 → ¬ IsLive slot
other_word absent o spells other = λ is. is
other_word (live c) None spells other = absurd spells
other_word (live c) (Some stored) spells other = absurd (other (state-identity_word 1 (length stored.literals) stored.start (omega arith)))
other_word (retired c) o spells other = λ is. is

pub retired_word : (slot : Slot) (o : Option StoredClause) → Spells slot o → IsLive slot → word_of (retire_slot slot) o ≡ word_of slot o + 1
retired_word absent o spells is = absurd is
retired_word (live c) None spells is = absurd spells
retired_word (live c) (Some stored) spells is = omega arith
retired_word (retired c) o spells is = absurd is

-- Own identities

module _ (v : ThreadState) (more : History) (words : List ℕ) (views : List (List ThreadState)) (seat : ℕ)
    (kept : OwnKeeps v more words views)
    (here : get_elem? views seat ≡ some (v ∷ [])) where
  -- what the map has under one of the stream's own identities is what the thread state's calls left
  -- there
  pub own_slot : (id : ℕ) → Owns v.view.caller.layout (thread_stream v) id
      → state v.view.caller.formula (v.view.seen ++ more) id ≡ state v.view.caller.formula v.view.mine id
  own_slot id owns =
      let f = v.view.caller.formula in
      run-own f v.view.caller.layout (opening f) (opening f) (v.view.seen ++ more) (thread_stream v) id kept.legal.events owns refl
      ∙ ap (λ (h : History). state f h id) (agrees_at v more words views seat kept here).mine

  seen_slot : (id : ℕ) → Owns v.view.caller.layout (thread_stream v) id
      → state v.view.caller.formula v.view.seen id ≡ state v.view.caller.formula v.view.mine id
  seen_slot id owns =
      let f = v.view.caller.formula in
      let p = v.view.caller.layout in
      run-own f p (opening f) (opening f) v.view.seen (thread_stream v) id
      (legal-front f p (opening f) v.view.seen more kept.legal.events) owns refl
      ∙ ap (λ (h : History). state f h id) (agrees_at v more words views seat kept here).seen

  -- the thread state knows what is stored for each of the stream's own identities
  pub own_text : (id : ℕ) → Owns v.view.caller.layout (thread_stream v) id
      → stored_in (spelling_of v.view.caller.formula v.view.caller.layout (v.view.seen ++ more)) id ≡ stored_in v.view.spelt id
  own_text id owns =
      let f = v.view.caller.formula in
      let p = v.view.caller.layout in
      own_stored f p v.view.seen more id kept.legal.events (own_slot id owns ∙ sym (seen_slot id owns))
      ∙ ap (λ (xs : List Spelling). stored_in xs id) (sym (agrees_at v more words views seat kept here).spelt)

  pub own_identity : (id : ℕ) → Owns v.view.caller.layout (thread_stream v) id → IsIdentity v.view.caller.layout id
  own_identity id owns =
      let who = owned v.view.caller.layout (thread_stream v) id (omega (arith, kept.plan.layout.some_stream)) owns in
      (omega (arith, who.derived), who.identity)

  -- the word of one of the stream's own identities is what the stream's own calls left there
  pub own_word : (id : ℕ) → Owns v.view.caller.layout (thread_stream v) id
      → slice_index words id ≡ word_of (state v.view.caller.formula v.view.mine id) (stored_in v.view.spelt id)
  own_word id owns = kept.slots id (own_identity id owns)
      ∙ ap₂ (λ (slot : Slot) (o : Option StoredClause). word_of slot o) (own_slot id owns) (own_text id owns)

-- A write of an identity's word

module _ (f : Cnf) (p : LayoutValue) (log : History) (words : List ℕ) (views : List (List ThreadState)) (id new : ℕ)
    (kept : Keeps f p log words views) (identity : IsIdentity p id) where
  pub count-write : length (slice_set words id new) ≡ row_words p
  count-write = length-set words id new ∙ kept.count

  pub first-write : slice_index (slice_set words id new) 0 ≡ 0
  first-write = get_or-set_other words id 0 new 0 (λ same. omega (arith, identity.0)) ∙ kept.first

  pub here-write : slice_index (slice_set words id new) id ≡ new
  here-write = get_or-set_same words id new 0 (omega (arith, kept.count, identity.1))

  pub slots-write : (j : ℕ) → j ≢ id → IsIdentity p j
      → slice_index (slice_set words id new) j ≡ word_of (state f log j) (stored_in (spelling_of f p log) j)
  slots-write j other there = get_or-set_other words id j new 0 other ∙ kept.slots j there

  -- literals stay where they are, since they are stored after all identities
  pub literals-write : (place : ℕ) (c : Clause) → last_identity p < place → LiesAt words place c → LiesAt (slice_set words id new) place c
  literals-write place c above lies = lies-set words place c id new lies (inl (omega (arith, identity.1)))

  above_lodged : (text : StoredClause) → IsLodged p log text → last_identity p < text.start
  above_lodged text (inl formula) = omega (arith, formula.first)
  above_lodged text (inr (s, lodging)) = omega (arith, lodging.first)

  pub texts-write : (j : ℕ) (text : StoredClause) → stored_in (spelling_of f p log) j ≡ Some text
      → LiesAt (slice_set words id new) text.start text.literals
  texts-write j text there =
      literals-write text.start text.literals
      (above_lodged text (lodged f p log j text (omega (arith, kept.plan.layout.some_stream)) kept.plan.fits kept.legal.events there))
      (kept.texts j text there)

  pub drafts-write : (q : ThreadState) → Agrees f p log words q → LiesAt (slice_set words id new) q.top q.draft
  drafts-write q agrees = literals-write q.top q.draft (omega (arith, agrees.top)) agrees.draft
