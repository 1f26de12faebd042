-- Two orders of the same streams are the same if both take the streams in turn.
use Rattle.std.proofs.Common.{◌≡◌, ◌≢◌, ◌<◌, ◌≤◌, ◌+◌, ℕ, true, List, [], ◌∷◌, ◌++◌, length, Bool, cond, eqb, eq-eqb, ne_eqb, inl, inr}
use Rattle.std.proofs.Common.{refl, sym, ap, ap₂, subst, ◌∙◌, arith, append_assoc}
use Rattle.std.specs.List.{AllByRecursion}
use Rattle.std.proofs.lemmas.Bool.{cases_eq, cases_lt}
use Rattle.std.proofs.lemmas.List.Sums.{sum_by-cons}
use Rattle.lrup_model.specs.Event.{History}
use Rattle.lrup_model.specs.Formula.{Cnf}
use Rattle.lrup_model.specs.History.{LegalFrom}
use Rattle.lrup_model.specs.lemmas.HistoryLemmas.{legal-back}
use Rattle.lrup_model.specs.Layout.{IsStream}
use Rattle.lrup_model.specs.State.{State, opening, run}
use Rattle.lrup_text.specs.declared.device.StreamEnd.{StreamEnd}
use Rattle.stream_check.specs.declared.report.Report.{Report}
use Rattle.stream_check.specs.Judging.{JudgesBlocks}
use Rattle.stream_check.specs.Excuses.{OutOfMemory, IsExcused}
use Rattle.stream_check.specs.Laws.{BlocksGoAlike, GoAlike, LegalNeverFork}
use Rattle.stream_check.specs.StreamParams.{StreamParams}
use Rattle.stream_check.specs.Streams.{Block, blocks_of, events_in, IsBlockWithin, RunParamsValue, stream_params}
use Rattle.stream_check.specs.lemmas.StreamLemmas.{blocks-same, blocks-other}
use Rattle.stream_check.specs.lemmas.TurnLemmas.{blocks_of-append, lines_before, lines_beside, lines_pushed, streams_of, streams_of-push}
use Rattle.stream_check.specs.Turns.{AreTurns, IsRoundRobin, IsTurnOf, line_count}

-- Turns

lines_own : (s : ℕ) (order : List ℕ) → line_count s (s ∷ order) ≡ 1 + line_count s order
lines_own s order =
    let one : ◌≡◌ {A = ℕ} (cond (eqb s s) 1 0) 1 = ap (λ (b : Bool). cond {A = ℕ} b 1 0) (eq-eqb s s refl) in
    omega (arith, sum_by-cons (λ t. cond (eqb t s) 1 0) s order, one)

lines_other : (t s : ℕ) (order : List ℕ) → t ≢ s → line_count s (t ∷ order) ≡ line_count s order
lines_other t s order other =
    let none : ◌≡◌ {A = ℕ} (cond (eqb t s) 1 0) 0 = ap (λ (b : Bool). cond {A = ℕ} b 1 0) (ne_eqb t s other) in
    omega (arith, sum_by-cons (λ u. cond (eqb u s) 1 0) t order, none)

-- if a stream has a line left, it may have the next turn
waits : (before order : List ℕ) (t : ℕ) → AreTurns before order → 0 < line_count t order → IsTurnOf t before
waits before [] t turns some = absurd (omega (arith, some))
waits before (s ∷ order) t turns some = elim (cases_eq s t) [
  | inl same ↦ subst (λ u. IsTurnOf u before) same turns.0
  | inr other ↦
      let later = waits (before ++ s ∷ []) order t turns.1 (omega (arith, some, lines_other s t order other)) in
      let own = lines_beside before s t other in
      λ u. (
        λ following. omega (arith, (later u).0 following, lines_before before (s ∷ []) u, own),
        λ ahead. omega (arith, (later u).1 ahead, lines_before before (s ∷ []) u, own),
      )
]

-- if the next line is stream s's and stream t has a line left, s has had at most as many turns as
-- t, and fewer if t comes before s
waits_for : (before order : List ℕ) (s t : ℕ) → AreTurns before (s ∷ order) → s ≢ t → 0 < line_count t (s ∷ order)
    → (t ≤ s → line_count s before + 1 ≤ line_count t before) × (s < t → line_count s before ≤ line_count t before)
waits_for before order s t turns other some =
    let later = waits (before ++ s ∷ []) order t turns.1 (omega (arith, some, lines_other s t order other)) s in
    let mine = lines_pushed before s in
    let own = lines_beside before s t other in (
      λ following. omega (arith, later.0 following, mine, own),
      λ ahead. omega (arith, later.1 ahead, mine, own),
    )

-- two orders continue with the same stream, if the next stream of each has a line left in the other
same_turn : (before xs ys : List ℕ) (s t : ℕ) → AreTurns before (s ∷ xs) → AreTurns before (t ∷ ys)
    → 0 < line_count t (s ∷ xs) → 0 < line_count s (t ∷ ys) → s ≡ t
same_turn before xs ys s t turns others left too = elim (cases_eq s t) [
  | inl same ↦ same
  | inr other ↦
      let one = waits_for before xs s t turns other left in
      let two = waits_for before ys t s others (λ is. other (sym is)) too in
      elim (cases_lt s t) [
        | inl less ↦ absurd (omega (arith, one.1 less, two.0 (omega (arith, less))))
        | inr more ↦ absurd (omega (arith, one.0 more, two.1 (omega (arith, more, other))))
      ]
]

-- a stream has as many lines as blocks
lines_are : (s : ℕ) (blocks : List Block) → line_count s (streams_of blocks) ≡ length (blocks_of s blocks)
lines_are s [] = refl
lines_are s (x ∷ blocks) = elim (cases_eq x.stream s) [
  | inl same ↦
      let own : line_count s (x.stream ∷ streams_of blocks) ≡ 1 + line_count s (streams_of blocks) =
      rw same (lines_own s (streams_of blocks)) in
      omega (arith, own, lines_are s blocks, ap (λ (bs : List History). length bs) (blocks-same x blocks s same))
  | inr other ↦
      omega (
        arith,
        lines_other x.stream s (streams_of blocks) other,
        lines_are s blocks,
        ap (λ (bs : List History). length bs) (blocks-other x blocks s other),
      )
]

-- Lists of blocks that continue alike

some_alike : (xs ys : List History) → GoAlike xs ys → 0 < length ys → 0 < length xs
some_alike [] [] alike some = some
some_alike [] (y ∷ ys) alike some = absurd alike
some_alike (x ∷ xs) ys alike some = omega arith

alike_some : (xs ys : List History) → GoAlike xs ys → 0 < length xs → 0 < length ys
alike_some [] [] alike some = some
alike_some (x ∷ xs) [] alike some = absurd alike
alike_some xs (y ∷ ys) alike some = omega arith

-- a stream that is judged twice, by blocks of two orders, without running out of memory
pub record JudgedTwice (c : StreamParams) (xs ys : List History) : Type 0 where
  pub bytes : List ℕ
  pub end : StreamEnd
  pub report : Report
  pub other : Report
  pub first : JudgesBlocks c bytes end xs report
  pub second : JudgesBlocks c bytes end ys other
  pub memory : ¬ IsExcused OutOfMemory report
  pub none : ¬ IsExcused OutOfMemory other

module _ (alike : BlocksGoAlike) (forks : LegalNeverFork) (f : Cnf) (run_params : RunParamsValue) (ps qs : List Block)
    (both : (s : ℕ) → IsStream run_params.layout s → JudgedTwice (stream_params run_params s) (blocks_of s ps) (blocks_of s qs)) where
  -- after the same lines, each stream continues alike in both orders
  alike_at : (before xs ys : List Block) (s : ℕ) → IsStream run_params.layout s → ps ≡ before ++ xs → qs ≡ before ++ ys
      → GoAlike (blocks_of s xs) (blocks_of s ys)
  alike_at before xs ys s stream is also =
      let j = both s stream in
      alike (stream_params run_params s) j.bytes j.end (blocks_of s before) (blocks_of s xs) (blocks_of s ys) j.report j.other
      (rw (ap (blocks_of s) is ∙ blocks_of-append s before xs) at j.first)
      (rw (ap (blocks_of s) also ∙ blocks_of-append s before ys) at j.second)
      j.memory j.none

  -- the next lines of both orders are the same
  same_line : (before xs ys : List Block) (x y : Block) (m : State) → IsStream run_params.layout x.stream → x.stream ≡ y.stream
      → ps ≡ before ++ x ∷ xs → qs ≡ before ++ y ∷ ys
      → LegalFrom f run_params.layout m (events_in (x ∷ xs)) → LegalFrom f run_params.layout m (events_in (y ∷ ys)) → x ≡ y
  same_line before xs ys x y m stream same is also legal lawful =
      let s = x.stream in
      let go = subst (λ (hs : List History). GoAlike (x.events ∷ blocks_of s xs) hs) (blocks-same y ys s (sym same))
      (subst (λ (hs : List History). GoAlike hs (blocks_of s (y ∷ ys))) (blocks-same x xs s refl)
      (alike_at before (x ∷ xs) (y ∷ ys) s stream is also)) in
      let events : x.events ≡ y.events =
      go (events_in xs) (events_in ys) (forks f run_params.layout m (x.events ++ events_in xs) (y.events ++ events_in ys) legal lawful) in
      ap₂ (λ (t : ℕ) (es : History). record { stream = t; events = es }) same events

  -- if a stream has a line left in one of the orders, it has one in the other
  left_in_both : (before xs ys : List Block) (s : ℕ) → IsStream run_params.layout s → ps ≡ before ++ xs → qs ≡ before ++ ys
      → (0 < line_count s (streams_of xs) → 0 < line_count s (streams_of ys))
      × (0 < line_count s (streams_of ys) → 0 < line_count s (streams_of xs))
  left_in_both before xs ys s stream is also =
      let go = alike_at before xs ys s stream is also in (
        λ some. omega (arith, lines_are s ys, alike_some (blocks_of s xs) (blocks_of s ys) go (omega (arith, some, lines_are s xs))),
        λ some. omega (arith, lines_are s xs, some_alike (blocks_of s xs) (blocks_of s ys) go (omega (arith, some, lines_are s ys))),
      )

  one_order : (before xs ys : List Block) (m : State) → ps ≡ before ++ xs → qs ≡ before ++ ys
      → AllByRecursion (IsBlockWithin run_params.layout (λ s. true)) xs → AllByRecursion (IsBlockWithin run_params.layout (λ s. true)) ys
      → LegalFrom f run_params.layout m (events_in xs) → LegalFrom f run_params.layout m (events_in ys)
      → AreTurns (streams_of before) (streams_of xs) → AreTurns (streams_of before) (streams_of ys) → xs ≡ ys
  one_order before [] [] m is also within too legal lawful turns others = refl
  one_order before [] (y ∷ ys) m is also within too legal lawful turns others =
      let none = (left_in_both before [] (y ∷ ys) y.stream too.0.0 is also).1 (omega (arith, lines_own y.stream (streams_of ys))) in
      absurd (omega (arith, none))
  one_order before (x ∷ xs) [] m is also within too legal lawful turns others =
      let none = (left_in_both before (x ∷ xs) [] x.stream within.0.0 is also).0 (omega (arith, lines_own x.stream (streams_of xs))) in
      absurd (omega (arith, none))
  one_order before (x ∷ xs) (y ∷ ys) m is also within too legal lawful turns others =
      let left = (left_in_both before (x ∷ xs) (y ∷ ys) y.stream too.0.0 is also).1 (omega (arith, lines_own y.stream (streams_of ys))) in
      let valid =
      (left_in_both before (x ∷ xs) (y ∷ ys) x.stream within.0.0 is also).0 (omega (arith, lines_own x.stream (streams_of xs))) in
      let stream = same_turn (streams_of before) (streams_of xs) (streams_of ys) x.stream y.stream turns others left valid in
      let same = same_line before xs ys x y m within.0.0 stream is also legal lawful in
      let rest = one_order (before ++ x ∷ []) xs ys (run m x.events)
      (is ∙ sym (append_assoc before (x ∷ []) xs))
      (also ∙ ap (λ (b : Block). before ++ b ∷ ys) (sym same) ∙ sym (append_assoc before (x ∷ []) ys))
      within.1 too.1
      (legal-back f run_params.layout m x.events (events_in xs) legal)
      (legal-back f run_params.layout m x.events (events_in ys)
      (subst (λ (b : Block). LegalFrom f run_params.layout m (b.events ++ events_in ys)) (sym same) lawful))
      (subst (λ (order : List ℕ). AreTurns order (streams_of xs)) (sym (streams_of-push before x)) turns.1)
      (subst (λ (order : List ℕ). AreTurns order (streams_of ys)) (sym (streams_of-push before x))
      (subst (λ t. AreTurns (streams_of before ++ t ∷ []) (streams_of ys)) (sym stream) others.1)) in
      ap₂ (λ (b : Block) (zs : List Block). b ∷ zs) same rest

  pub same_order : AllByRecursion (IsBlockWithin run_params.layout (λ s. true)) ps
      → AllByRecursion (IsBlockWithin run_params.layout (λ s. true)) qs
      → LegalFrom f run_params.layout (opening f) (events_in ps) → LegalFrom f run_params.layout (opening f) (events_in qs)
      → IsRoundRobin (streams_of ps) → IsRoundRobin (streams_of qs) → ps ≡ qs
  same_order within too legal lawful turns others = one_order [] ps qs (opening f) refl refl within too legal lawful turns others
