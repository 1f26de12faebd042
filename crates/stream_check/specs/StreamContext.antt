-- What good lines leave for the line after them (this project's own). It depends on the lines, not
-- on a checker.
use Rattle.std.specs.Prelude.{◌==◌, ◌-◌, ◌^◌, ◌&&◌, ℕ, neg_ℤ, Bool, List, [], ◌∷◌, length, map, max, min}
use Rattle.std.specs.List.{fold, list_all, list_any, sum_by}
use Rattle.std.specs.Ordering.{int_eq}
use Rattle.lrup_model.specs.Clause.{Clause}
use Rattle.lrup_model.specs.Cube.{CubeValue}
use Rattle.lrup_text.specs.Lines.{StreamLine, Addition, Deletion, Import}
use Rattle.lrup_model.specs.Distinct.{distinct}
use Rattle.stream_check.specs.StreamParams.{StreamParams, ownership_of, is_shared}

-- the largest identity that was added, the room that is left, in literals, and the identities that
-- were dropped
pub record StreamContext : Type 0 where
  pub last : ℕ
  pub free : ℕ
  pub is_dropped : ℕ → Bool

-- the identity and the clause of each addition among the lines, in order
abbrev pub additions_of : List StreamLine → List (ℕ × Clause)
additions_of [] = []
additions_of (Addition id lits hints ∷ lines) = (id, distinct lits) ∷ additions_of lines
additions_of (Deletion lead ids ∷ lines) = additions_of lines
additions_of (Import id lits ∷ lines) = additions_of lines

-- the identities that a line deletes
abbrev pub deleted_by : StreamLine → List ℕ
deleted_by (Addition id lits hints) = []
deleted_by (Deletion lead ids) = ids
deleted_by (Import id lits) = []

-- the number is in the list
abbrev pub is_among : List ℕ → ℕ → Bool
is_among ids id = list_any (λ j. j == id) ids

-- The context that these lines leave if all are good: the largest identity of the additions, or the
-- formula's last one if there are none; the room minus the sizes of the added clauses; and the
-- deleted identities that are the formula's or another stream's.
abbrev pub context_of : StreamParams → List StreamLine → StreamContext
context_of params lines = record {
  last = fold max params.layout.clauses (map (λ addition. addition.0) (additions_of lines));
  free = params.layout.room - sum_by (λ addition. length addition.1) (additions_of lines);
  is_dropped = λ id.
      is_shared (ownership_of params id) && list_any (λ line. is_among (deleted_by line) id) lines;
}

-- A count in 64 bits, which stops at 2^64 - 1. Counts of additions never reach it, since identities
-- don't; in a legal history, neither do counts of deletions.
abbrev pub capped : ℕ → ℕ
capped count = min count (2 ^ 64 - 1)

-- the complement of each literal of the clause is in the cube
abbrev pub is_within : CubeValue → Clause → Bool
is_within cube clause = list_all (λ l. list_any (λ k. int_eq k (neg_ℤ l)) cube) clause
