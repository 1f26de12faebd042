-- The blocks of a run on one thread: the blocks of one more turn, and rounds.
use Rattle.std.proofs.Common.{◌≡◌, ◌≢◌, IsSome, ℕ, zero, suc, ◌+◌, ◌-◌, ◌<◌, ◌≤◌, true, false, List, [], ◌∷◌, ◌++◌, length, set, slice_get}
use Rattle.std.proofs.Common.{Option, Some, None, refl, sym, ap, subst, ◌∙◌, inl, inr, arith, append-nil, eqb, eq-eqb, ne_eqb}
use Rattle.std.specs.List.{AllByRecursion}
use Rattle.std.proofs.lemmas.Bool.{cases_eq, cases_lt, cond-true, cond-false}
use Rattle.std.proofs.lemmas.Grind.{flat_map-append}
use Rattle.std.proofs.lemmas.Option.{slice_get_within}
use Rattle.lrup_model.specs.Event.{History, stream_of}
use Rattle.lrup_model.specs.Layout.{LayoutValue, IsStream}
use Rattle.lrup_model.specs.lemmas.ListLemmas.{All-front}
use Rattle.stream_check.specs.declared.report.Ending.{Ending}
use Rattle.stream_check.specs.Judging.{joined}
use Rattle.stream_check.specs.Closed.{IsOfStream}
use Rattle.stream_check.specs.Streams.{Block, blocks_of, events_in, IsBlockWithin}
use Rattle.stream_check.specs.lemmas.StreamLemmas.{same_at}
use Rattle.stream_check.specs.lemmas.TurnLemmas.{blocks_of-append, lines_beside, lines_pushed, streams_of, streams_of-push, turns-pushed}
use Rattle.stream_check.specs.Turns.{IsRoundRobin, IsTurnOf, line_count}
use Rattle.stream_turns.specs.internal.Turns.{IsInRound}
use Rattle.stream_turns.specs.internal.Working.{AreBlocksOfTurn, WorkerValue}

-- ---- the blocks of one stream's lines, after others

-- the blocks of one stream's lines
pub tagged : ℕ → List History → List Block
tagged s [] = []
tagged s (events ∷ blocks) = record { stream = s; events = events } ∷ tagged s blocks

events_in-append : (xs ys : List Block) → events_in (xs ++ ys) ≡ events_in xs ++ events_in ys
events_in-append xs ys = flat_map-append (λ (block : Block). block.events) xs ys

events_in-tagged : (s : ℕ) (bs : List History) → events_in (tagged s bs) ≡ joined bs
unfolding tagged
events_in-tagged s [] = refl
events_in-tagged s (b ∷ bs) = ap (λ (es : History). b ++ es) (events_in-tagged s bs)

-- appending a stream's further blocks appends their events
pub events_more : (s : ℕ) (blocks : List Block) (bs : List History) → events_in (blocks ++ tagged s bs) ≡ events_in blocks ++ joined bs
events_more s blocks bs = events_in-append blocks (tagged s bs) ∙ ap (λ (es : History). events_in blocks ++ es) (events_in-tagged s bs)

blocks_of-own : (s : ℕ) (bs : List History) → blocks_of s (tagged s bs) ≡ bs
unfolding tagged
blocks_of-own s [] = refl
blocks_of-own s (b ∷ bs) =
    let here = blocks_of s (tagged s bs) in
    cond-true (eqb s s) (b ∷ here) here (eq-eqb s s refl) ∙ ap (λ (xs : List History). b ∷ xs) (blocks_of-own s bs)

blocks_of-other : (s t : ℕ) (bs : List History) → s ≢ t → blocks_of t (tagged s bs) ≡ []
unfolding tagged
blocks_of-other s t [] other = refl
blocks_of-other s t (b ∷ bs) other =
    let here = blocks_of t (tagged s bs) in
    cond-false (eqb s t) (b ∷ here) here (ne_eqb s t other) ∙ blocks_of-other s t bs other

pub blocks_more : (s : ℕ) (blocks : List Block) (bs : List History) → blocks_of s (blocks ++ tagged s bs) ≡ blocks_of s blocks ++ bs
blocks_more s blocks bs = blocks_of-append s blocks (tagged s bs)
    ∙ ap (λ (xs : List History). blocks_of s blocks ++ xs) (blocks_of-own s bs)

pub blocks_beside : (s t : ℕ) (blocks : List Block) (bs : List History) → s ≢ t → blocks_of t (blocks ++ tagged s bs) ≡ blocks_of t blocks
blocks_beside s t blocks bs other =
    blocks_of-append t blocks (tagged s bs) ∙ ap (λ (xs : List History). blocks_of t blocks ++ xs) (blocks_of-other s t bs other)
    ∙ append-nil (blocks_of t blocks)

all-back : {X : Type 0} (P : X → Type 0) (xs ys : List X) → AllByRecursion P (xs ++ ys) → AllByRecursion P ys
all-back P [] ys all = all
all-back P (x ∷ xs) ys all = all-back P xs ys all.1

-- the blocks of a stream are within the layout if the stream is
pub within-tagged : (p : LayoutValue) (s : ℕ) (bs : List History) → IsStream p s → AllByRecursion (λ e. stream_of e ≡ s) (joined bs)
    → AllByRecursion (IsBlockWithin p (λ t. true)) (tagged s bs)
unfolding tagged
within-tagged p s [] stream calls = tt
within-tagged p s (b ∷ bs) stream calls = (
  (stream, refl, All-front (λ e. stream_of e ≡ s) b (joined bs) calls),
  within-tagged p s bs stream (all-back (λ e. stream_of e ≡ s) b (joined bs) calls),
)

-- ---- the blocks of one turn

at_most_one : (ending : Option Ending) (bs : List History) → AreBlocksOfTurn ending bs → length bs ≤ 1
at_most_one None bs are = omega (arith, are)
at_most_one (Some ending) bs are = are

just_one : (ending : Option Ending) (bs : List History) → ending ≡ None → AreBlocksOfTurn ending bs → length bs ≡ 1
just_one None bs going are = are
just_one (Some ending) bs going are = cc

-- if a turn appends at most one block of stream s, the stream's count of lines grows by the number
-- of blocks
own_lines : (s : ℕ) (blocks : List Block) (bs : List History) → length bs ≤ 1
    → line_count s (streams_of (blocks ++ tagged s bs)) ≡ line_count s (streams_of blocks) + length bs
unfolding tagged
own_lines s blocks [] few = omega (arith, ap (λ (xs : List Block). line_count s (streams_of xs)) (append-nil blocks))
own_lines s blocks (b ∷ []) few =
    let block : Block = record { stream = s; events = b } in
    ap (line_count s) (streams_of-push blocks block) ∙ lines_pushed (streams_of blocks) s
own_lines s blocks (b ∷ c ∷ bs) few = absurd (omega (arith, few))

other_lines : (s t : ℕ) (blocks : List Block) (bs : List History) → length bs ≤ 1 → s ≢ t
    → line_count t (streams_of (blocks ++ tagged s bs)) ≡ line_count t (streams_of blocks)
unfolding tagged
other_lines s t blocks [] few other = ap (λ (xs : List Block). line_count t (streams_of xs)) (append-nil blocks)
other_lines s t blocks (b ∷ []) few other =
    let block : Block = record { stream = s; events = b } in
    ap (line_count t) (streams_of-push blocks block) ∙ lines_beside (streams_of blocks) s t other
other_lines s t blocks (b ∷ c ∷ bs) few other = absurd (omega (arith, few))

turn_taken : (s : ℕ) (blocks : List Block) (bs : List History) → length bs ≤ 1 → IsRoundRobin (streams_of blocks)
    → IsTurnOf s (streams_of blocks) → IsRoundRobin (streams_of (blocks ++ tagged s bs))
unfolding tagged
turn_taken s blocks [] few turns its = subst (λ (xs : List Block). IsRoundRobin (streams_of xs)) (sym (append-nil blocks)) turns
turn_taken s blocks (b ∷ []) few turns its =
    let block : Block = record { stream = s; events = b } in
    subst IsRoundRobin (sym (streams_of-push blocks block)) (turns-pushed [] (streams_of blocks) s turns its)
turn_taken s blocks (b ∷ c ∷ bs) few turns its = absurd (omega (arith, few))

-- ---- workers

module _ {S : Type 0} where
  at_set : (ws : List (WorkerValue S)) (i : ℕ) (v : WorkerValue S) → i < length ws → slice_get (set ws i v) i ≡ Some v
  at_set [] i v within = absurd (omega (arith, within))
  at_set (w ∷ ws) zero v within = refl
  at_set (w ∷ ws) (suc i) v within = at_set ws i v (omega (arith, within))

  at_other : (ws : List (WorkerValue S)) (i k : ℕ) (v : WorkerValue S) → k ≢ i → slice_get (set ws i v) k ≡ slice_get ws k
  at_other [] i k v other = refl
  at_other (w ∷ ws) zero zero v other = absurd (other refl)
  at_other (w ∷ ws) zero (suc k) v other = refl
  at_other (w ∷ ws) (suc i) zero v other = refl
  at_other (w ∷ ws) (suc i) (suc k) v other = at_other ws i k v (λ is. other (ap suc is))

  -- the worker at index i is the worker of stream i + 1
  stream_at : (ws : List (WorkerValue S)) (i : ℕ) (w : WorkerValue S) → slice_get ws i ≡ Some w → IsOfStream ws (i + 1) w
  stream_at ws i w at = let place : i ≡ i + 1 - 1 = omega arith in (omega arith, subst (λ k. slice_get ws k ≡ Some w) place at)

  -- another stream's worker is unchanged
  stream_beside : (ws : List (WorkerValue S)) (i s : ℕ) (v w : WorkerValue S) → i + 1 ≢ s → IsOfStream (set ws i v) s w → IsOfStream ws s w
  stream_beside ws i s v w other at =
      let apart : s - 1 ≢ i = λ is. other (omega (arith, is, at.0)) in
      (at.0, sym (at_other ws i (s - 1) v apart) ∙ at.1)

  -- ---- rounds

  -- new workers are in the first round, before the first turn
  pub round_opened : (ws : List (WorkerValue S)) → IsInRound 0 0 [] ws
  round_opened ws = record {
    before = λ s few. omega arith;
    following = λ s more. omega arith;
    going_before = λ s w at going few. absurd (omega (arith, at.0, few));
    going_later = λ s w at going more. refl;
    turns = tt;
  }

  module _ (rounds i : ℕ) (blocks : List Block) (ws : List (WorkerValue S)) (w : WorkerValue S) (at : slice_get ws i ≡ Some w)
      (now : IsInRound rounds i (streams_of blocks) ws) where
    -- the round after the turn of stream i + 1, which was unfinished before
    pub round_turned : (v : WorkerValue S) (bs : List History) → w.checker.ending ≡ None → AreBlocksOfTurn v.checker.ending bs
        → IsInRound rounds (i + 1) (streams_of (blocks ++ tagged (i + 1) bs)) (set ws i v)
    round_turned v bs going are =
        let own : line_count (i + 1) (streams_of blocks) ≡ rounds = now.going_later (i + 1) w (stream_at ws i w at) going (omega arith) in
        let few : length bs ≤ 1 = at_most_one v.checker.ending bs are in
        let all = streams_of (blocks ++ tagged (i + 1) bs) in
        let set_at : IsOfStream (set ws i v) (i + 1) v = stream_at (set ws i v) i v (at_set ws i v (slice_get_within ws i w at)) in
        record {
          before = λ s most. elim (cases_eq (i + 1) s) [
            | inl is ↦ subst (λ t. line_count t all ≤ rounds + 1) is (omega (arith, own_lines (i + 1) blocks bs few, own, few))
            | inr other ↦ omega (arith, other_lines (i + 1) s blocks bs few other, now.before s (omega (arith, most, other)))
          ];
          following = λ s more.
              omega (arith, other_lines (i + 1) s blocks bs few (λ is. omega (arith, is, more)), now.following s (omega (arith, more)));
          going_before = λ s u here still most. elim (cases_eq (i + 1) s) [
            | inl is ↦
                let same : v ≡ u = same_at (set ws i v) s v u (subst (λ t. IsOfStream (set ws i v) t v) is set_at) here in
                let one : length bs ≡ 1 = just_one v.checker.ending bs (ap (λ (x : WorkerValue S). x.checker.ending) same ∙ still) are in
                subst (λ t. line_count t all ≡ rounds + 1) is (omega (arith, own_lines (i + 1) blocks bs few, own, one))
            | inr other ↦ omega (
              arith,
              other_lines (i + 1) s blocks bs few other,
              now.going_before s u (stream_beside ws i s v u other here) still (omega (arith, most, other)),
            )
          ];
          going_later = λ s u here still more.
              let other : i + 1 ≢ s = λ is. omega (arith, is, more) in
              omega (
                arith,
                other_lines (i + 1) s blocks bs few other,
                now.going_later s u (stream_beside ws i s v u other here) still (omega (arith, more)),
              );
          turns = turn_taken (i + 1) blocks bs few now.turns (λ t. (
            λ following. omega (arith, own, now.following t (omega (arith, following))),
            λ before. omega (arith, own, now.before t (omega (arith, before))),
          ));
        }

    -- the round after stream i + 1, which is finished, and so has no turn
    pub round_passed : IsSome w.checker.ending → IsInRound rounds (i + 1) (streams_of blocks) ws
    round_passed finished = record {
      before = λ s most. elim (cases_lt i s) [
        | inl above ↦ omega (arith, now.following s above)
        | inr within ↦ now.before s within
      ];
      following = λ s more. now.following s (omega (arith, more));
      going_before = λ s u here going most. elim (cases_eq (i + 1) s) [
        | inl is ↦
            let same : w ≡ u = same_at ws s w u (subst (λ t. IsOfStream ws t w) is (stream_at ws i w at)) here in
            let none : w.checker.ending ≡ None = ap (λ (x : WorkerValue S). x.checker.ending) same ∙ going in
            absurd (let no : false ≡ true = subst IsSome none finished in cc)
        | inr other ↦ now.going_before s u here going (omega (arith, most, other))
      ];
      going_later = λ s u here going more. now.going_later s u here going (omega (arith, more));
      turns = now.turns;
    }

  -- after the turns of all streams the next round begins
  pub round_finished : (rounds : ℕ) (order : List ℕ) (ws : List (WorkerValue S)) → IsInRound rounds (length ws) order ws
      → IsInRound (rounds + 1) 0 order ws
  round_finished rounds order ws now = record {
    before = λ s few. omega (arith, now.before s (omega (arith, few)));
    following = λ s more. elim (cases_lt (length ws) s) [
      | inl above ↦ omega (arith, now.following s above)
      | inr within ↦ now.before s within
    ];
    going_before = λ s w at going few. absurd (omega (arith, at.0, few));
    going_later = λ s w at going more. now.going_before s w at going (omega (arith, slice_get_within ws (s - 1) w at.1));
    turns = now.turns;
  }
