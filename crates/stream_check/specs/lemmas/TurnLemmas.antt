-- Lemmas about appending to an order of lines, and about turns.
use Rattle.std.proofs.Common.{◌≡◌, ◌≢◌, ◌++◌, ◌+◌, ◌≤◌, ℕ, List, [], ◌∷◌, map, Bool, cond, true, false, eqb, refl, sym, ap, subst, append_assoc, append-nil, arith, eq-eqb, ne_eqb}
use Rattle.std.proofs.lemmas.List.{map-append}
use Rattle.std.proofs.lemmas.List.Sums.{sum_by_push, sum_by-append}
use Rattle.lrup_model.specs.Event.{History}
use Rattle.stream_check.specs.Streams.{Block, blocks_of}
use Rattle.stream_check.specs.Turns.{AreTurns, IsTurnOf, line_count}

pub blocks_of-append : (s : ℕ) (xs ys : List Block)
    → blocks_of s (xs ++ ys) ≡ blocks_of s xs ++ blocks_of s ys
blocks_of-append s [] ys = refl
blocks_of-append s (x ∷ xs) ys =
    let rest = blocks_of-append s xs ys in
    elim (eqb x.stream s) as (λ b. cond b (x.events ∷ blocks_of s (xs ++ ys)) (blocks_of s (xs ++ ys)) ≡ cond b (x.events ∷ blocks_of s xs) (blocks_of s xs) ++ blocks_of s ys) [
      | true ↦ ap (λ (bs : List History). x.events ∷ bs) rest
      | false ↦ rest
    ]

-- the streams of some blocks, in order
abbrev pub streams_of : List Block → List ℕ
streams_of blocks = map (λ block. block.stream) blocks

pub streams_of-push : (blocks : List Block) (block : Block)
    → streams_of (blocks ++ block ∷ []) ≡ streams_of blocks ++ block.stream ∷ []
streams_of-push blocks block = map-append (λ (b : Block). b.stream) blocks (block ∷ [])

-- one more line of stream s raises the stream's count by 1
pub lines_pushed : (order : List ℕ) (s : ℕ)
    → line_count s (order ++ s ∷ []) ≡ line_count s order + 1
lines_pushed order s =
    let one : ◌≡◌ {A = ℕ} (cond (eqb s s) 1 0) 1 = ap (λ (b : Bool). cond {A = ℕ} b 1 0) (eq-eqb s s refl) in
    omega (arith, sum_by_push (λ t. cond (eqb t s) 1 0) order s, one)

-- a line of another stream doesn't change the count of stream s
pub lines_beside : (order : List ℕ) (t s : ℕ) → t ≢ s
    → line_count s (order ++ t ∷ []) ≡ line_count s order
lines_beside order t s other =
    let none : ◌≡◌ {A = ℕ} (cond (eqb t s) 1 0) 0 = ap (λ (b : Bool). cond {A = ℕ} b 1 0) (ne_eqb t s other) in
    omega (arith, sum_by_push (λ u. cond (eqb u s) 1 0) order t, none)

pub lines_before : (order more : List ℕ) (s : ℕ)
    → line_count s order ≤ line_count s (order ++ more)
lines_before order more s = omega (arith, sum_by-append (λ t. cond (eqb t s) 1 0) order more)

-- one more line can be appended if its stream may have a turn
pub turns-pushed : (before later : List ℕ) (s : ℕ) → AreTurns before later
    → IsTurnOf s (before ++ later) → AreTurns before (later ++ s ∷ [])
turns-pushed before [] s turns its = (subst (IsTurnOf s) (append-nil before) its, tt)
turns-pushed before (x ∷ later) s turns its =
    (turns.0, turns-pushed (before ++ x ∷ []) later s turns.1 (subst (IsTurnOf s) (sym (append_assoc before (x ∷ []) later)) its))
