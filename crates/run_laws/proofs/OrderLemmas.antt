-- The lines of a set of streams have an order.
use Rattle.std.proofs.Common.{◌≡◌, ◌&&◌, ◌+◌, ℕ, Bool, true, false, cond, ltb, leb, not, List, [], ◌∷◌, ◌++◌, map, refl, sym, ap, subst}
use Rattle.std.proofs.Common.{◌∙◌, inl, inr, arith, le-leb, lt-ltb}
use Rattle.std.specs.Prelude.{IsTrue}
use Rattle.std.specs.List.{AllByRecursion, list_all, sum_by}
use Rattle.std.proofs.lemmas.Bool.{cases_eq, cases_Bool, cond-true, cond-false, true≢false, and_from, leb-true, ltb-true, and_parts}
use Rattle.std.proofs.lemmas.List.Sums.{sum_by-append, sum_by-cons}
use Rattle.lrup_model.specs.Formula.{Cnf}
use Rattle.lrup_model.specs.Layout.{LayoutValue, Fits, IsStream}
use Rattle.lrup_model.specs.Event as events
use Rattle.lrup_model.specs.Event.{Event, History, stream_of, own, spent, size_of}
use Rattle.lrup_model.specs.State.{State, IsRetired, retire_slot, opening, after, run, state}
use Rattle.lrup_model.specs.History.{LegalFrom, IsLegal}
use Rattle.lrup_model.specs.lemmas.RunningLemmas.{spent-sizes, own-append}
use Rattle.lrup_model.specs.lemmas.HistoryLemmas.{put-same, own-mine, own-other, own-all}
use Rattle.lrup_model.specs.lemmas.EntryLemmas.{run-advances, retired_now}
use Rattle.lrup_model.specs.lemmas.OwnerLemmas.{IsOwned, owned}
use Rattle.lrup_model.specs.lemmas.RestrictionLemmas.{among, restriction_legal, among-members, own-among}
use Rattle.lrup_model.specs.Laws.{FindsWithin}
use Rattle.lrup_model.specs.declared.clause_map.Retired.TheVariants as retiring
use Rattle.stream_check.specs.Judging.{joined}
use Rattle.stream_check.specs.Reducing.{is_vacant, reduced}
use Rattle.stream_check.specs.lemmas.ReducingLemmas.{reduced_kept, reduced_left_out}
use Rattle.stream_check.specs.Streams.{Block, blocks_of, events_in, IsBlockWithin}
use Rattle.stream_check.specs.lemmas.StreamLemmas.{blocks-same, blocks-other}
use Rattle.run_laws.specs.Lines.{IsLineBlock, IsOrder}
use Rattle.run_laws.specs.Premises.{FindsKept, FoundStays}
use Rattle.run_laws.specs.OrderLaws.{LinesOrdered}
use Rattle.run_laws.proofs.SwapLemmas.{Settles, gone_stays}
use Rattle.run_laws.proofs.BlockLemmas.{IsSettled}
use Rattle.run_laws.proofs.AheadLemmas.{Lines, HasOrder}
use Rattle.run_laws.proofs.WalkLemmas.{walk}

-- What events say about retired identities

settles_one : (f : Cnf) (p : LayoutValue) (final m : State) (e : Event) (h : History) → LegalFrom f p m (e ∷ h)
    → ((id : ℕ) → IsRetired (run m (e ∷ h) id) → IsRetired (final id)) → FindsKept p final e → Settles p final e
settles_one f p final m (events.fetch s id (events.live c)) h legal later cites = cites
settles_one f p final m (events.retire s id retiring.Done) h legal later cites =
    let e : Event = events.retire s id retiring.Done in
    later id (gone_stays (after m e id) (run (after m e) h id) (run-advances f p (after m e) h id legal.2)
    (subst IsRetired (sym (put-same m id (retire_slot (m id)) id refl)) (retired_now (m id) legal.0)))
settles_one f p final m _ h legal later cites = tt

settles_among : (f : Cnf) (p : LayoutValue) (set : ℕ → Bool) (final m : State) (h : History) → LegalFrom f p m h
    → ((id : ℕ) → IsRetired (run m h id) → IsRetired (final id))
    → AllByRecursion (λ e. IsTrue (set (stream_of e)) → FindsKept p final e) h → AllByRecursion (Settles p final) (among set h)
settles_among f p set final m [] legal later cites = tt
settles_among f p set final m (e ∷ h) legal later cites =
    let rest : AllByRecursion (Settles p final) (among set h) = settles_among f p set final (after m e) h legal.2 later cites.1 in
    elim (cases_Bool (set (stream_of e))) [
      | inl member ↦ rw (cond-true (set (stream_of e)) (e ∷ among set h) (among set h) member)
          (settles_one f p final m e h legal later (cites.0 member), rest)
      | inr other ↦ rw (cond-false (set (stream_of e)) (e ∷ among set h) (among set h) other) rest
    ]

-- Room

reduced_size : (es : History) → sum_by size_of (reduced es) ≡ sum_by size_of es
reduced_size [] = refl
reduced_size (events.fetch s id events.vacant ∷ es) =
    elim (cases_Bool (list_all is_vacant es)) [
      | inl all ↦ ap (sum_by size_of) (reduced_kept (events.fetch s id events.vacant) es (ap not all)) ∙ reduced_size es
      | inr some ↦ ap (sum_by size_of) (reduced_left_out (events.fetch s id events.vacant) es (ap not some)) ∙ reduced_size es
    ]
reduced_size (events.publish s id c r ∷ es) =
    sum_by-cons size_of (events.publish s id c r) (reduced es)
    ∙ ap (λ (n : ℕ). size_of (events.publish s id c r) + n) (reduced_size es)
    ∙ sym (sum_by-cons size_of (events.publish s id c r) es)
reduced_size (_ ∷ es) = reduced_size es

joined_size : (bs : List History) → sum_by size_of (joined (map reduced bs)) ≡ sum_by size_of (joined bs)
joined_size [] = refl
joined_size (b ∷ bs) =
    sum_by-append size_of (reduced b) (joined (map reduced bs))
    ∙ ap (λ (n : ℕ). n + sum_by size_of (joined (map reduced bs))) (reduced_size b)
    ∙ ap (λ (n : ℕ). sum_by size_of b + n) (joined_size bs)
    ∙ sym (sum_by-append size_of b (joined bs))

own_none : (s t : ℕ) (es : History) → (t ≡ s → ⊥) → AllByRecursion (λ e. stream_of e ≡ t) es → own es s ≡ []
own_none s t [] other all = refl
own_none s t (e ∷ es) other all = own-other e es s (λ mine. other (sym all.0 ∙ mine)) ∙ own_none s t es other all.1

pub own-blocks : (p : LayoutValue) (final : State) (s : ℕ) (blocks : List Block) → AllByRecursion (IsSettled p final) blocks
    → own (events_in blocks) s ≡ joined (blocks_of s blocks)
own-blocks p final s [] all = refl
own-blocks p final s (block ∷ blocks) all =
    own-append block.events (events_in blocks) s
    ∙ elim (cases_eq block.stream s) [
      | inl same ↦ ap (λ (g : History). g ++ own (events_in blocks) s) (own-all s block.events (rw same at all.0.calls))
          ∙ ap (λ (g : History). block.events ++ g) (own-blocks p final s blocks all.1)
          ∙ sym (ap joined (blocks-same block blocks s same))
      | inr other ↦
          ap (λ (g : History). g ++ own (events_in blocks) s) (own_none s block.stream block.events other all.0.calls)
          ∙ own-blocks p final s blocks all.1
          ∙ sym (ap joined (blocks-other block blocks s other))
    ]

-- A set of streams of the layout

abbrev pub streams_in : LayoutValue → (ℕ → Bool) → ℕ → Bool
streams_in p set s = set s && (ltb 0 s && leb s p.streams)

pub streams_are : (p : LayoutValue) (set : ℕ → Bool) (s : ℕ) → streams_in p set s ≡ true → IsTrue (set s) × IsStream p s
streams_are p set s is =
    let parts : (set s ≡ true) × ((ltb 0 s && leb s p.streams) ≡ true) = and_parts (set s) (ltb 0 s && leb s p.streams) is in
    let within : (ltb 0 s ≡ true) × (leb s p.streams ≡ true) = and_parts (ltb 0 s) (leb s p.streams) parts.1 in
    (parts.0, (ltb-true 0 s within.0, leb-true s p.streams within.1))

pub are_streams : (p : LayoutValue) (set : ℕ → Bool) (s : ℕ) → IsTrue (set s) → IsStream p s → streams_in p set s ≡ true
are_streams p set s member is =
    and_from (set s) (ltb 0 s && leb s p.streams) member (and_from (ltb 0 s) (leb s p.streams) (lt-ltb 0 s is.0) (le-leb s p.streams is.1))

finds_less : (p : LayoutValue) (set : ℕ → Bool) (h : History) → AllByRecursion (FindsWithin p set) h
    → AllByRecursion (FindsWithin p (streams_in p set)) h
finds_less p set [] all = tt
finds_less p set (events.fetch s id r ∷ h) all = (
  λ member found t owns.
      let caller : IsTrue (set s) × IsStream p s = streams_are p set s member in
      let theirs : IsOwned p t id = owned p t id (omega (arith, caller.1.0, caller.1.1)) owns in
      are_streams p set t (all.0 caller.0 found t owns) (theirs.first, theirs.last),
  finds_less p set h all.1,
)
finds_less p set (events.publish s id c r ∷ h) all = (tt, finds_less p set h all.1)
finds_less p set (events.retire s id r ∷ h) all = (tt, finds_less p set h all.1)

-- what holds for each own event of a set's streams holds for the set's events
pub own_each : (P : Event → Type 0) (set : ℕ → Bool) (h : History)
    → ((s : ℕ) → IsTrue (set s) → AllByRecursion P (own h s))
    → AllByRecursion (λ e. IsTrue (set (stream_of e)) → P e) h
own_each P set [] all = tt
own_each P set (e ∷ h) all = (
  (λ member. (subst (AllByRecursion P) (own-mine e h (stream_of e) refl) (all (stream_of e) member)).0),
  own_each P set h (λ s member. elim (cases_eq (stream_of e) s) [
    | inl mine ↦ (subst (AllByRecursion P) (own-mine e h s mine) (all s member)).1
    | inr other ↦ subst (AllByRecursion P) (own-other e h s other) (all s member)
  ]),
)

members_are : (p : LayoutValue) (set : ℕ → Bool) (h : History) → AllByRecursion (λ e. IsTrue (streams_in p set (stream_of e))) h
    → AllByRecursion (λ e. IsStream p (stream_of e)) h
members_are p set [] all = tt
members_are p set (e ∷ h) all = ((streams_are p set (stream_of e) all.0).1, members_are p set h all.1)

-- only the lines of the set's streams
abbrev lines_in : LayoutValue → (ℕ → Bool) → Lines → Lines
lines_in p set blocks = λ s. cond (streams_in p set s) (blocks s) []

in-lines : (p : LayoutValue) (set : ℕ → Bool) (blocks : Lines) (s : ℕ) → streams_in p set s ≡ true → lines_in p set blocks s ≡ blocks s
in-lines p set blocks s is = cond-true (streams_in p set s) (blocks s) [] is

out-lines : (p : LayoutValue) (set : ℕ → Bool) (blocks : Lines) (s : ℕ) → streams_in p set s ≡ false → lines_in p set blocks s ≡ []
out-lines p set blocks s is = cond-false (streams_in p set s) (blocks s) [] is

none-of : (set : ℕ → Bool) (s : ℕ) (h : History) → set s ≡ false → AllByRecursion (λ e. IsTrue (set (stream_of e))) h → own h s ≡ []
none-of set s [] out all = refl
none-of set s (e ∷ h) out all = own-other e h s (λ mine. true≢false (sym all.0 ∙ ap set mine ∙ out)) ∙ none-of set s h out all.1

some_block : (b : History) (bs gs : List History) → gs ≡ b ∷ bs → gs ≡ [] → ⊥
some_block b bs gs is none = absurd (cc)

-- each block belongs to a stream of the set
within_set : (p : LayoutValue) (set : ℕ → Bool) (final : State) (rest : Lines) (blocks : List Block)
    → AllByRecursion (IsSettled p final) blocks
    → ((s : ℕ) → streams_in p set s ≡ false → blocks_of s blocks ≡ []) → AllByRecursion (IsBlockWithin p set) blocks
within_set p set final rest [] all none = tt
within_set p set final rest (block ∷ blocks) all none = (
  elim (cases_Bool (streams_in p set block.stream)) [
    | inl member ↦ (all.0.stream, (streams_are p set block.stream member).0, all.0.calls)
    | inr out ↦ absurd (some_block block.events (blocks_of block.stream blocks) (blocks_of block.stream (block ∷ blocks))
        (blocks-same block blocks block.stream refl) (none block.stream out))
  ],
  within_set p set final rest blocks all.1 (λ s out. elim (cases_eq block.stream s) [
    | inl same ↦
        absurd (some_block block.events (blocks_of s blocks) (blocks_of s (block ∷ blocks)) (blocks-same block blocks s same) (none s out))
    | inr other ↦ sym (blocks-other block blocks s other) ∙ none s out
  ]),
)

pub lines_in_order : (f : Cnf) (p : LayoutValue) (set : ℕ → Bool) (h : History) (blocks : ℕ → List History)
    → Fits p f → IsLegal f p h → AllByRecursion (FindsWithin p (streams_in p set)) h
    → ((s : ℕ) → IsStream p s → IsTrue (set s) → own h s ≡ joined (blocks s))
    → ((s : ℕ) → IsStream p s → IsTrue (set s) → AllByRecursion IsLineBlock (blocks s))
    → FoundStays f p set h
    → (order : List Block) × IsOrder f p set blocks order
lines_in_order f p set h blocks fits legal finds owns lines stays =
    let inside : ℕ → Bool = streams_in p set in
    let part : History = among inside h in
    let rest : Lines = lines_in p set blocks in
    let is_legal : IsLegal f p part = restriction_legal f p inside h fits legal finds in
    let members : AllByRecursion (λ e. IsTrue (inside (stream_of e))) part = among-members inside h in
    let own_events : (s : ℕ) → own part s ≡ joined (rest s)
    = λ s. elim (cases_Bool (inside s)) [
      | inl member ↦
          let is : IsTrue (set s) × IsStream p s = streams_are p set s member in
          own-among inside h s member ∙ owns s is.1 is.0 ∙ sym (ap joined (in-lines p set blocks s member))
      | inr out ↦ none-of inside s part out members ∙ sym (ap joined (out-lines p set blocks s out))
    ] in
    let made : HasOrder f p (state f h) (opening f) rest
    = walk f p (state f h) part (members_are p set part members)
    (settles_among f p inside (state f h) (opening f) h legal.events (λ id is_dropped. is_dropped)
    (own_each (FindsKept p (state f h)) inside h (λ s member. stays s (streams_are p set s member).1 (streams_are p set s member).0)))
    (opening f) rest is_legal.events
    (record {
      own_events = own_events;
      lines = λ s. elim (cases_Bool (inside s)) [
        | inl member ↦
            let is : IsTrue (set s) × IsStream p s = streams_are p set s member in
            subst (AllByRecursion IsLineBlock) (sym (in-lines p set blocks s member)) (lines s is.1 is.0)
        | inr out ↦ subst (AllByRecursion IsLineBlock) (sym (out-lines p set blocks s out)) tt
      ];
      outside = λ s not_one. elim (cases_Bool (inside s)) [
        | inl member ↦ absurd (not_one (streams_are p set s member).1)
        | inr out ↦ out-lines p set blocks s out
      ];
    }) in
    let order : List Block = made.0 in (
      order,
      record {
        within = within_set p set (state f h) rest order made.1.settled
            (λ s out. made.1.lines s ∙ ap (map reduced) (out-lines p set blocks s out));
        legal = record {
          events = made.1.legal;
          room = λ s.
              let same : spent s (events_in order) ≡ spent s part
              = spent-sizes s (events_in order)
              ∙ ap (sum_by size_of) (own-blocks p (state f h) s order made.1.settled ∙ ap joined (made.1.lines s))
              ∙ joined_size (rest s) ∙ sym (spent-sizes s part ∙ ap (sum_by size_of) (own_events s)) in
              omega (arith, same, is_legal.room s);
        };
        lines = λ s is member. made.1.lines s ∙ ap (map reduced) (in-lines p set blocks s (are_streams p set s member is));
      },
    )

pub lines_ordered : LinesOrdered
lines_ordered f p set h blocks fits legal finds owns lines stays =
    lines_in_order f p set h blocks fits legal (finds_less p set h finds) owns lines stays
