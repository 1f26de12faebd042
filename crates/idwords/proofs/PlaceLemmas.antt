-- Lemmas about where a stream writes in the row (only into words that no other stream, clause of
-- the formula or identity uses), and about steps on literals.
use Rattle.std.proofs.Common.{◌≡◌, ◌≢◌, ℕ, ℤ, ◌+◌, ◌-◌, ◌*◌, ◌/◌, ◌%◌, ◌<◌, ◌≤◌, ◌⊎◌, List, [], ◌∷◌, ◌++◌, Option, length, set, slice_index}
use Rattle.std.proofs.Common.{slice_set, refl, sym, ap, subst, ◌∙◌, inl, inr, arith, length-append, length-set, get_or-set_same}
use Rattle.std.proofs.Common.{get_or-set_other}
use Rattle.std.proofs.Math.Nat.{mul-le-mul_right}
use Rattle.std.proofs.lemmas.Bool.{cases_eq, cases_lt}
use Rattle.std.proofs.lemmas.List.{set-get_or}
use Rattle.atomic_table.proofs.Lists.{set_again}
use Rattle.std.specs.Prelude.{IfSome}
use Rattle.lrup_model.specs.Clause.{Clause}
use Rattle.lrup_model.specs.Formula.{Cnf}
use Rattle.lrup_model.specs.Layout.{LayoutValue, IsStream, last_identity, row_words}
use Rattle.lrup_model.specs.Event.{History, spent}
use Rattle.lrup_model.specs.History.{IsLegal}
use Rattle.lrup_model.specs.CallerView.{StoredClause}
use Rattle.lrup_model.specs.Pass.{Spelling, stored_in}
use Rattle.lrup_model.specs.lemmas.PassLemmas.{fair_follows}
use Rattle.idwords.specs.Words.{words_for, pair_of, half_of}
use Rattle.idwords.specs.internal.RowWords.{literal_word}
use Rattle.idwords.specs.Spelling.{first_place, words_spent, top_after}
use Rattle.idwords.specs.Seats.{ThreadState}
use Rattle.idwords.specs.internal.Rule.{thread_stream, Agrees}
use Rattle.idwords.specs.internal.Steps.{Reads, Writes}
use Rattle.idwords.proofs.SpellingLemmas.{words_spent-own, words_within, IsLodged, lodged, keeps_spelt}
use Rattle.idwords.proofs.WordLemmas.{HasCode, some_literals, lies_get, lies-pair, lies-set, word_injective}
use Rattle.idwords.proofs.ViewLemmas.{moved, times-same}
use Rattle.idwords.proofs.RuleLemmas.{agrees_at, agrees_words, fair_thread}
use Rattle.idwords.proofs.StepLemmas.{OwnStep}

-- Rooms are disjoint

-- a stream's room ends before the room of a later stream begins
rooms_apart : (p : LayoutValue) (s t : ℕ) → 0 < s → s < t → first_place p s + p.room ≤ first_place p t
rooms_apart p s t positive less =
    let more : (s - 1 + 1) * p.room ≤ (t - 1) * p.room = mul-le-mul_right p.room (omega arith) in
    omega arith

-- an index in a stream's room is outside every part of another stream's room
outside_room : (p : LayoutValue) (s t place from to : ℕ) → IsStream p s → IsStream p t → t ≢ s → first_place p s ≤ place
    → place < first_place p s + p.room → first_place p t ≤ from → to ≤ first_place p t + p.room → (place < from) ⊎ (to ≤ place)
outside_room p s t place from to mine theirs other above below first last =
    elim (cases_lt s t) [
      | inl less ↦ let apart = rooms_apart p s t mine.0 less in inl (omega arith)
      | inr more ↦ let apart = rooms_apart p t s theirs.0 (omega arith) in inr (omega arith)
    ]

module _ (f : Cnf) (p : LayoutValue) (log : History) (legal : IsLegal f p log) where
  -- in a stream's room, no stored clause has literals at the top or after it
  pub outside_text : (s place : ℕ) (stored : StoredClause) → IsStream p s → top_after p s log ≤ place → place < first_place p s + p.room
      → IsLodged p log stored → (place < stored.start) ⊎ (stored.start + words_for (length stored.literals) ≤ place)
  outside_text s place stored mine above below (inl formula) = inr (omega (arith, formula.last))
  outside_text s place stored mine above below (inr (t, lodging)) =
      elim (cases_eq t s) [
        | inl same ↦
            let top : top_after p t log ≡ top_after p s log = ap (λ (u : ℕ). top_after p u log) same in
            inr (omega (arith, lodging.last))
        | inr other ↦ outside_room p s t place stored.start (stored.start + words_for (length stored.literals)) mine lodging.stream other
            (omega arith) below lodging.first
            (omega (arith, lodging.last, legal.room t, words_within t log))
      ]

-- a stream's room is inside the row
pub within_row : (p : LayoutValue) (s place all : ℕ) → IsStream p s → all ≡ row_words p → place < first_place p s + p.room → place < all
within_row p s place all mine count below =
    let more : (s - 1 + 1) * p.room ≤ p.streams * p.room = mul-le-mul_right p.room (omega (arith, mine.0, mine.1)) in
    omega arith

-- the words of a stream's clauses, and of a draft that fits into the room left, are inside the row
pub top_within : (p : LayoutValue) (s top n room : ℕ) (mine : History) → IsStream p s → top ≡ top_after p s mine
    → room + spent s mine ≡ p.room → n ≤ room → top + n ≤ row_words p
top_within p s top n room mine stream at left short =
    let more : (s - 1 + 1) * p.room ≤ p.streams * p.room = mul-le-mul_right p.room (omega (arith, stream.0, stream.1)) in
    omega (arith, words_within s mine)

-- A load of literals

pub reads : (v : ThreadState) (seat place : ℕ) → OwnStep v seat place (λ n. n) (λ n w. Reads place v n w)
reads v seat place more words views kept here small =
    let f = v.view.caller.formula in
    let p = v.view.caller.layout in
    let log = v.view.seen ++ more in
    let agrees = agrees_at v more words views seat kept here in
    let same_words : slice_set words place (slice_index words place) ≡ words = set-get_or words place 0 in
    let same_views : set views seat (v ∷ []) ≡ views = set_again views seat (v ∷ []) here in (
      v,
      log,
      rw (same_words, same_views) kept,
      record {
        same = refl;
        text = λ id k text l there at here_is.
            let derived = (fair_follows v.view (fair_thread v more words kept.plan kept.legal agrees)).each id text there in
            ap (λ (n : ℕ). half_of (k % 2) (slice_index words n)) here_is
            ∙ lies_get f.vars words text.start text.literals k l kept.plan.formula.vars derived.0.literals
            (kept.texts id text
            (keeps_spelt f p v.view.seen more id text (ap (λ (xs : List Spelling). stored_in xs id) (sym agrees.spelt) ∙ there))) at;
      },
    )

-- A store of literals

written : (v : ThreadState) (seat : ℕ) (l : ℤ) (m : Option ℤ) → length v.draft % 2 ≡ 0
    → spent (thread_stream v) v.view.mine + length (v.draft ++ pair_of l m) ≤ v.view.caller.layout.room
    → HasCode l → IfSome m HasCode
    → OwnStep v seat (v.top + length v.draft / 2) (λ _. literal_word l m) (λ n w. Writes (literal_word l m) v w)
written v seat l m even room first second more words views kept here small =
    let f = v.view.caller.formula in
    let p = v.view.caller.layout in
    let s = thread_stream v in
    let log = v.view.seen ++ more in
    let word : ℕ = literal_word l m in
    let place : ℕ = v.top + length v.draft / 2 in
    let some = some_literals l m in
    let longer : length (v.draft ++ pair_of l m) ≡ length v.draft + length (pair_of l m) = length-append v.draft (pair_of l m) in
    let agrees = agrees_at v more words views seat kept here in
    let all : words_spent s v.view.mine ≡ words_spent s log = words_spent-own log v.view.mine s agrees.mine in
    let few : words_spent s v.view.mine ≤ spent s v.view.mine = words_within s v.view.mine in
    let top : v.top ≡ top_after p s v.view.mine = agrees.top in
    let new : List ℕ = slice_set words place word in
    let above : last_identity p < place = omega arith in
    let below : place < first_place p s + p.room = omega arith in
    let within : place < length words = within_row p s place (length words) agrees.stream kept.count below in
    let w : ThreadState = record v { draft = v.draft ++ pair_of l m } in
    let elsewhere : (q : ThreadState) → thread_stream q ≢ s → Agrees f p log words q → Agrees f p log new q = λ q other there.
    agrees_words f p log words new q there
    (lies-set words q.top q.draft place word there.draft
    (outside_room p s (thread_stream q) place q.top (q.top + words_for (length q.draft)) agrees.stream there.stream other
    (omega arith) below
    (omega (arith, there.top))
    (omega (arith, there.top, there.room, words_within (thread_stream q) q.view.mine)))) in
    let mine : Agrees f p log new w = record {
      formula = agrees.formula;
      layout = agrees.layout;
      stream = agrees.stream;
      begins = agrees.begins;
      seen = agrees.seen;
      mine = agrees.mine;
      spelt = agrees.spelt;
      top = agrees.top;
      room = room;
      draft = lies-pair new v.top v.draft l m even (lies-set words v.top v.draft place word agrees.draft (inr (omega arith)))
          (get_or-set_same words place word 0 within);
    } in (
      w,
      log,
      record {
        plan = kept.plan;
        legal = kept.legal;
        count = length-set words place word ∙ kept.count;
        first = get_or-set_other words place 0 word 0 (λ same. omega arith) ∙ kept.first;
        slots = λ id identity. get_or-set_other words place id word 0 (λ same. omega (arith, identity.1)) ∙ kept.slots id identity;
        texts = λ id text there. lies-set words text.start text.literals place word (kept.texts id text there)
            (outside_text f p log kept.legal s place text agrees.stream (omega arith) below
            (lodged f p log id text (omega (arith, kept.plan.layout.some_stream)) kept.plan.fits kept.legal.events there));
        threads = moved (Agrees f p log words) (Agrees f p log new) views seat v w here (kept.once s) kept.threads elsewhere mine;
        once = times-same views seat v w here refl kept.once;
      },
      λ k n code code' same. ap (λ (d : Clause). record v { draft = v.draft ++ d }) (word_injective l k m n first code second code' same),
    )

-- a store of one or two literals, whose index and word are given by equations
pub written_at : (v : ThreadState) (seat : ℕ) (l : ℤ) (m : Option ℤ) (place word : ℕ) → length v.draft % 2 ≡ 0
    → spent (thread_stream v) v.view.mine + length (v.draft ++ pair_of l m) ≤ v.view.caller.layout.room → HasCode l → IfSome m HasCode
    → v.top + length v.draft / 2 ≡ place → literal_word l m ≡ word → OwnStep v seat place (λ _. word) (λ n w. Writes word v w)
written_at v seat l m place word even room first second at is =
    let here : OwnStep v seat place (λ _. literal_word l m) (λ n w. Writes (literal_word l m) v w) =
    subst (λ (i : ℕ). OwnStep v seat i (λ _. literal_word l m) (λ n w. Writes (literal_word l m) v w)) at
    (written v seat l m even room first second) in
    subst (λ (k : ℕ). OwnStep v seat place (λ _. k) (λ n w. Writes k v w)) is here
