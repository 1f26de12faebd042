-- The premise about what is retired, stated for the final state, for events, and for the streams'
-- lines.
use Rattle.std.proofs.Common.{◌≡◌, ◌⊎◌, ◌&&◌, ◌||◌, ℕ, Bool, eqb, List, [], ◌∷◌, length, refl, sym, subst, inl, inr, ltb}
use Rattle.std.proofs.Common.{leb, eq-eqb, arith}
use Rattle.std.specs.Prelude.{IsTrue}
use Rattle.std.specs.List.{AllByRecursion, list_any}
use Rattle.std.proofs.lemmas.Bool.{cases_eq, cases_Bool, cond-true, cond-false, or_right, or_left}
use Rattle.lrup_model.specs.Formula.{Cnf, clause_at}
use Rattle.lrup_model.specs.Layout.{LayoutValue, Owns}
use Rattle.lrup_model.specs.Event as events
use Rattle.lrup_model.specs.Event.{Event, History, stream_of, own}
use Rattle.lrup_model.specs.State.{State, absent, live, IsRetired, retire_slot, opening, after, run, state}
use Rattle.lrup_model.specs.History.{IsAllowed, LegalFrom}
use Rattle.lrup_model.specs.lemmas.HistoryLemmas.{put-same, put-other, own-mine, own-other}
use Rattle.lrup_model.specs.lemmas.OwnerLemmas.{IsOwned, owned}
use Rattle.lrup_model.specs.declared.clause_map.Published.TheVariants as publishing
use Rattle.lrup_model.specs.declared.clause_map.Retired.TheVariants as retiring
use Rattle.lrup_text.specs.Lines.{StreamLine}
use Rattle.stream_check.specs.StreamContext.{is_among, deleted_by}
use Rattle.stream_check.specs.Laws.{cited_by, FetchesOnly, CitedFetched}
use Rattle.stream_check.specs.Streams.{stream_params}
use Rattle.stream_check.specs.Closed.{CiteWithin}
use Rattle.run_laws.specs.Premises.{FindsKept, MeetsUnretired, IsRetireOf, HistoryRetires, cites, deletes}
use Rattle.run_laws.specs.OrderLaws.{OwnersAloneSuffices, SharedStays, RetiresOnly, DeletedRetired}
use Rattle.run_laws.proofs.WalkLemmas.{own-calls}
use Rattle.run_laws.proofs.GroupLemmas.{is_within, owners_within}
use Rattle.run_laws.proofs.StreamLemmas.{IsJudgedStream, judged_stream, fetched_inside}

-- If an identity is retired after a history, it was retired in the history or before it

gone_back : (m : State) (e : Event) (id : ℕ) → IsRetired (after m e id) → IsRetired (m id) ⊎ IsRetireOf id e
gone_back m (events.publish s j c publishing.Done) id is_dropped =
    elim (cases_eq id j) [
      | inl same ↦ absurd (subst IsRetired (put-same m j (live c) id same) is_dropped)
      | inr other ↦ inl (subst IsRetired (put-other m j (live c) id other) is_dropped)
    ]
gone_back m (events.retire s j retiring.Done) id is_dropped =
    elim (cases_eq id j) [
      | inl same ↦ inr (sym same)
      | inr other ↦ inl (subst IsRetired (put-other m j (retire_slot (m j)) id other) is_dropped)
    ]
gone_back m _ id is_dropped = inl is_dropped

gone_retires : (m : State) (h : History) (id : ℕ) → IsRetired (run m h id) → IsRetired (m id) ⊎ HistoryRetires h id
gone_retires m [] id is_dropped = inl is_dropped
gone_retires m (e ∷ h) id is_dropped =
    elim (gone_retires (after m e) h id is_dropped) [
      | inl before ↦ elim (gone_back m e id before) [
        | inl first ↦ inl first
        | inr here ↦ inr (inl here)
      ]
      | inr later ↦ inr (inr later)
    ]

opening_kept : (f : Cnf) (id : ℕ) → IsRetired (opening f id) → ⊥
opening_kept f id is_dropped =
    elim (cases_Bool (ltb 0 id && leb id (length f.clauses))) [
      | inl formula ↦ absurd (rw (cond-true (ltb 0 id && leb id (length f.clauses)) (live (clause_at f id)) absent formula) at is_dropped)
      | inr other ↦ absurd (rw (cond-false (ltb 0 id && leb id (length f.clauses)) (live (clause_at f id)) absent other) at is_dropped)
    ]

opening_retires : (f : Cnf) (h : History) (id : ℕ) → IsRetired (state f h id) → HistoryRetires h id
opening_retires f h id is_dropped =
    elim (gone_retires (opening f) h id is_dropped) [
      | inl before ↦ absurd (opening_kept f id before)
      | inr retires ↦ retires
    ]

-- Only owners find what is retired

kept_found : (f : Cnf) (p : LayoutValue) (h : History) (e : Event) → MeetsUnretired p h e → FindsKept p (state f h) e
kept_found f p h (events.fetch s id (events.live c)) meets = λ other is_dropped. meets tt other (opening_retires f h id is_dropped)
kept_found f p h _ meets = tt

all_kept : (f : Cnf) (p : LayoutValue) (h : History) (es : History)
    → AllByRecursion (MeetsUnretired p h) es → AllByRecursion (FindsKept p (state f h)) es
all_kept f p h [] all = tt
all_kept f p h (e ∷ es) all = (kept_found f p h e all.0, all_kept f p h es all.1)

pub owners_alone_suffices : OwnersAloneSuffices
owners_alone_suffices f p set h alone s is member = all_kept f p h (own h s) (alone s is member)

-- Who retires an identity

its_owner : (f : Cnf) (p : LayoutValue) (e : Event) (id : ℕ) → IsAllowed f p e → IsRetireOf id e → Owns p (stream_of e) id
its_owner f p (events.retire s j retiring.Done) id allowed is = subst (λ (i : ℕ). Owns p s i) is allowed
its_owner f p _ id allowed is = absurd is

retires_more : (e : Event) (h : History) (t id : ℕ) → HistoryRetires (own h t) id → HistoryRetires (own (e ∷ h) t) id
retires_more e h t id retires =
    elim (cases_eq (stream_of e) t) [
      | inl mine ↦ subst (λ (g : History). HistoryRetires g id) (sym (own-mine e h t mine)) (inr retires)
      | inr other ↦ subst (λ (g : History). HistoryRetires g id) (sym (own-other e h t other)) retires
    ]

-- if a legal history retires an identity, a stream that owns the identity retires it in its own
-- calls
retirer : (f : Cnf) (p : LayoutValue) (m : State) (h : History) (id : ℕ) → LegalFrom f p m h → HistoryRetires h id
    → (t : ℕ) × Owns p t id × HistoryRetires (own h t) id
retirer f p m [] id legal retires = absurd retires
retirer f p m (e ∷ h) id legal (inl here) = (
  stream_of e,
  its_owner f p e id legal.1 here,
  subst (λ (g : History). HistoryRetires g id) (sym (own-mine e h (stream_of e) refl)) (inl here),
)
retirer f p m (e ∷ h) id legal (inr later) =
    let found : (t : ℕ) × Owns p t id × HistoryRetires (own h t) id = retirer f p (after m e) h id legal.2 later in
    (found.0, found.1, retires_more e h found.0 id found.2)

retire_passes : (test : ℕ → Bool) (id : ℕ) (e : Event) → RetiresOnly test e → IsRetireOf id e → IsTrue (test id)
retire_passes test id (events.retire s j retiring.Done) only is = subst (λ (i : ℕ). IsTrue (test i)) is only
retire_passes test id _ only is = absurd is

retired_passes : (test : ℕ → Bool) (id : ℕ) (es : History) → AllByRecursion (RetiresOnly test) es → HistoryRetires es id → IsTrue (test id)
retired_passes test id [] all retires = absurd retires
retired_passes test id (e ∷ es) all (inl here) = retire_passes test id e all.0 here
retired_passes test id (e ∷ es) all (inr later) = retired_passes test id es all.1 later

-- What lines name

passes_more : (first : ℕ → Bool) (test : ℕ → Bool) (ids : List ℕ)
    → AllByRecursion (λ id. IsTrue (test id)) ids → AllByRecursion (λ id. IsTrue (first id || test id)) ids
passes_more first test [] all = tt
passes_more first test (id ∷ ids) all = (or_right (first id) (test id) all.0, passes_more first test ids all.1)

passes_first : (first : ℕ → Bool) (test : ℕ → Bool) (ids : List ℕ)
    → AllByRecursion (λ id. IsTrue (first id)) ids → AllByRecursion (λ id. IsTrue (first id || test id)) ids
passes_first first test [] all = tt
passes_first first test (id ∷ ids) all = (or_left (first id) (test id) all.0, passes_first first test ids all.1)

all_among : (ids : List ℕ) → AllByRecursion (λ id. IsTrue (is_among ids id)) ids
all_among [] = tt
all_among (id ∷ ids) = (
  or_left (eqb id id) (is_among ids id) (eq-eqb id id refl),
  passes_more (λ j. eqb id j) (is_among ids) ids (all_among ids),
)

module _ (named : StreamLine → List ℕ) where
  -- one of the lines names the identity
  abbrev is_named : List StreamLine → ℕ → Bool
  is_named lines id = list_any (λ line. is_among (named line) id) lines

  abbrev AreNamed : (ℕ → Bool) → List StreamLine → Type 0
  AreNamed test lines = AllByRecursion (λ line. AllByRecursion (λ id. IsTrue (test id)) (named line)) lines

  named_more : (first : ℕ → Bool) (test : ℕ → Bool) (lines : List StreamLine)
      → AreNamed test lines → AreNamed (λ id. first id || test id) lines
  named_more first test [] all = tt
  named_more first test (line ∷ lines) all = (passes_more first test (named line) all.0, named_more first test lines all.1)

  pub all_named : (lines : List StreamLine) → AreNamed (is_named lines) lines
  all_named [] = tt
  all_named (line ∷ lines) = (
    passes_first (is_among (named line)) (is_named lines) (named line) (all_among (named line)),
    named_more (is_among (named line)) (is_named lines) lines (all_named lines),
  )

-- Shared clauses stay

shared_each : (p : LayoutValue) (final : State) (s : ℕ) (lines : List StreamLine) (inside : ℕ → Bool)
    → ((id : ℕ) → IsTrue (cites lines id) → IsTrue (inside id) → ¬ Owns p s id → ¬ IsRetired (final id))
    → (es : History) → AllByRecursion (λ e. stream_of e ≡ s) es
    → AllByRecursion (FetchesOnly (cites lines)) es → AllByRecursion (FetchesOnly inside) es
    → AllByRecursion (FindsKept p final) es
shared_each p final s lines inside stays [] calls cited within = tt
shared_each p final s lines inside stays (events.fetch t id (events.live c) ∷ es) calls cited within = (
  λ other. stays id cited.0 within.0 (λ mine. other (subst (λ (i : ℕ). Owns p i id) (sym calls.0) mine)),
  shared_each p final s lines inside stays es calls.1 cited.1 within.1,
)
shared_each p final s lines inside stays (_ ∷ es) calls cited within =
    (tt, shared_each p final s lines inside stays es calls.1 cited.1 within.1)

pub shared_stays : CitedFetched → DeletedRetired → SharedStays
shared_stays cited_fetched deleted_retired f run_params set h streams reports fits count legal judged closed keeps s is member =
    let p : LayoutValue = run_params.layout in
    let mine : IsJudgedStream run_params h streams s = judged_stream run_params set h streams reports count judged s is member in
    let my_lines : CiteWithin p set mine.stream.bytes = closed s mine.stream member mine.at in
    let cited : AllByRecursion (FetchesOnly (cites my_lines.lines)) (own h s)
    = subst (AllByRecursion (FetchesOnly (cites my_lines.lines))) (sym mine.own_events)
    (cited_fetched (stream_params run_params s) mine.stream.bytes mine.end mine.blocks mine.report my_lines.lines my_lines.rest
    (cites my_lines.lines) mine.judges my_lines.cut (all_named cited_by my_lines.lines)) in
    shared_each p (state f h) s my_lines.lines (is_within p set)
    (λ id is_cited inside other is_dropped.
    let retires : (t : ℕ) × Owns p t id × HistoryRetires (own h t) id
    = retirer f p (opening f) h id legal.events (opening_retires f h id is_dropped) in
    let t : ℕ = retires.0 in
    let theirs : IsOwned p t id = owned p t id (omega (arith, is.0, is.1)) retires.1 in
    let also : IsTrue (set t) = owners_within p set id t inside retires.1 in
    let your : IsJudgedStream run_params h streams t
    = judged_stream run_params set h streams reports count judged t (theirs.first, theirs.last) also in
    let your_lines : CiteWithin p set your.stream.bytes = closed t your.stream also your.at in
    let only : AllByRecursion (RetiresOnly (deletes your_lines.lines)) (own h t)
    = subst (AllByRecursion (RetiresOnly (deletes your_lines.lines))) (sym your.own_events)
    (deleted_retired (stream_params run_params t) your.stream.bytes your.end your.blocks your.report your_lines.lines your_lines.rest
    (deletes your_lines.lines) your.judges your_lines.cut (all_named deleted_by your_lines.lines)) in
    keeps s t id mine.stream your.stream (λ same. other (subst (λ (i : ℕ). Owns p i id) (sym same) retires.1)) member also
    mine.at your.at retires.1
    (my_lines.lines, my_lines.rest, my_lines.cut, is_cited)
    (your_lines.lines, your_lines.rest, your_lines.cut, retired_passes (deletes your_lines.lines) id (own h t) only retires.2))
    (own h s) (own-calls h s) cited (fetched_inside cited_fetched run_params set h streams s mine my_lines)
