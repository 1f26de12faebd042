-- Valid proofs: what has to be in a stream that cites only its own clauses and the formula's. The
-- lines are replayed over a database of clauses, as LRAT proofs are (Cruz-Filipe et al., CADE
-- 2017), without RAT. These are this project's own: identities by residue, each above the earlier
-- ones; room; imports; and the rules that no hint comes after the conflict and that only existing
-- clauses are deleted. All of this depends only on the lines: there is no history here, and no
-- checker.
use Rattle.std.specs.Prelude.{◌≡◌, ◌≤◌, ◌-◌, ◌==◌, ◌&&◌, ◌++◌, ℕ, nat_lt, nat_le, false, IsTrue, List, [], ◌∷◌, length, Option, None, Some, IsSome, if◌then◌else◌, Bool, map}
use Rattle.std.specs.List.{AllByRecursion, AllZip, Any, flat_map}
use Rattle.lrup_model.specs.Clause.{Clause}
use Rattle.lrup_model.specs.Distinct.{distinct}
use Rattle.lrup_model.specs.Formula.{Cnf, clause_at}
use Rattle.lrup_model.specs.Layout.{LayoutValue, owner}
use Rattle.lrup_model.specs.declared.layout.Owner.TheVariants as owners
use Rattle.lrup_text.specs.Lines.{StreamLine, Addition, Deletion, Import, IsWithinLimits, line_text}
use Rattle.stream_check.specs.declared.report.Ending.TheVariants as endings
use Rattle.stream_check.specs.declared.report.Report.{Report}
use Rattle.stream_check.specs.Additions.{IsValidAddition}
use Rattle.stream_check.specs.Imports.{IsValidImport}
use Rattle.stream_check.specs.StreamContext.{is_among}
use Rattle.stream_check.specs.Judging.{report_of}
use Rattle.stream_check.specs.Streams.{RunParamsValue, stream_params}

-- What the lines so far leave: the clauses that may be cited, imported and deleted, by identity;
-- the largest identity that was added, or the formula's last one; and the room that is left, in
-- literals.
pub record Database : Type 0 where
  pub clauses : ℕ → Option Clause
  pub last : ℕ
  pub free : ℕ

-- before the first line: the formula's clauses, under the identities from 1 on
abbrev pub first_database : Cnf → LayoutValue → Database
first_database formula layout = record {
  clauses = λ id.
      if nat_lt 0 id && nat_le id (length formula.clauses) then Some (clause_at formula id)
      else None;
  last = layout.clauses;
  free = layout.room;
}

-- after a line: an addition puts its clause under its identity, with each literal once; a deletion
-- removes clauses; an import changes nothing
abbrev pub after_line : Database → StreamLine → Database
after_line base (Addition id lits hints) = record {
  clauses = λ j. if j == id then Some (distinct lits) else base.clauses j;
  last = id;
  free = base.free - length (distinct lits);
}
after_line base (Deletion lead ids) = record {
  clauses = λ j. if is_among ids j then None else base.clauses j;
  last = base.last;
  free = base.free;
}
after_line base (Import id lits) = base

-- no number occurs twice
abbrev pub AreDistinct : List ℕ → Type 0
AreDistinct [] = Unit {0}
AreDistinct (id ∷ ids) = (is_among ids id ≡ false) × AreDistinct ids

-- A deletion is valid: each of its identities has a clause, and none occurs twice.
pub record IsValidDeletion (base : Database) (ids : List ℕ) : Type 0 where
  pub there : AllByRecursion (λ id. IsSome (base.clauses id)) ids
  pub once : AreDistinct ids

-- a line of stream s is valid after lines that left this database, which has the clauses that the
-- line names
abbrev pub IsValidLine : LayoutValue → ℕ → Database → StreamLine → Type 0
IsValidLine layout s base (Addition id lits hints) =
    IsValidAddition layout s base.last base.free
    (AllZip (λ named clause. base.clauses named ≡ Some clause)) id lits hints
IsValidLine layout s base (Deletion lead ids) = IsValidDeletion base ids
IsValidLine layout s base (Import id lits) =
    IsValidImport layout s (AllZip (λ named clause. base.clauses named ≡ Some clause)) id lits

-- Lines of several streams, in some order. Each stream has a database.

-- a line, and the number (from 1) of the stream that wrote it
pub record Step : Type 0 where
  pub stream : ℕ
  pub line : StreamLine

-- the stream owns the identity
abbrev pub is_own : LayoutValue → ℕ → ℕ → Bool
is_own layout s id =
    elim (owner layout id) [
      | owners.Formula ↦ false
      | owners.Stream t ↦ t == s
      | owners.Outside ↦ false
    ]

-- another stream's database after a line of stream s: an addition puts its clause there, too, and a
-- deletion removes only those of its clauses that stream s owns
abbrev pub beside_line : LayoutValue → ℕ → Database → StreamLine → Database
beside_line layout s base (Addition id lits hints) = record {
  clauses = λ j. if j == id then Some (distinct lits) else base.clauses j;
  last = base.last;
  free = base.free;
}
beside_line layout s base (Deletion lead ids) = record {
  clauses = λ j. if is_among ids j && is_own layout s j then None else base.clauses j;
  last = base.last;
  free = base.free;
}
beside_line layout s base (Import id lits) = base

-- the databases of all streams after a line of one stream
abbrev pub after_step : LayoutValue → Step → (ℕ → Database) → ℕ → Database
after_step layout step bases t =
    if t == step.stream then after_line (bases t) step.line
    else beside_line layout step.stream (bases t) step.line

-- each line is valid after those before it
abbrev pub AreValidTogether : LayoutValue → (ℕ → Database) → List Step → Type 0
AreValidTogether layout bases [] = Unit {0}
AreValidTogether layout bases (step ∷ steps) =
    IsValidLine layout step.stream (bases step.stream) step.line
    × AreValidTogether layout (after_step layout step bases) steps

-- The bytes are a valid proof, as stream s, with these lines: the bytes are the lines' texts and
-- nothing else, and each line is valid after those before it, with no lines of other streams.
pub record IsValidProof (formula : Cnf) (layout : LayoutValue) (s : ℕ) (bytes : List ℕ)
    (lines : List StreamLine) : Type 0 where
  pub text : bytes ≡ flat_map line_text lines
  pub fits : AllByRecursion IsWithinLimits lines
  pub valid : AreValidTogether layout (λ t. first_database formula layout)
      (map (λ line. record { stream = s; line = line }) lines)

-- the line adds the empty clause
abbrev pub AddsEmpty : StreamLine → Type 0
AddsEmpty (Addition id lits hints) = lits ≡ []
AddsEmpty (Deletion lead ids) = ⊥
AddsEmpty (Import id lits) = ⊥

-- The bytes are a valid refutation of the formula, as stream s: they begin with a valid proof, one
-- of whose lines adds the empty clause. Anything may come after the proof.
pub record IsValidRefutation (formula : Cnf) (layout : LayoutValue) (s : ℕ)
    (bytes : List ℕ) : Type 0 where
  pub proof : List ℕ
  pub more : List ℕ
  pub begins : bytes ≡ proof ++ more
  pub lines : List StreamLine
  pub valid : IsValidProof formula layout s proof lines
  pub empty : Any AddsEmpty lines

-- The report of a valid proof: that it ended; what was added and deleted, counted from the lines;
-- and whether a line adds the empty clause, or one within the cube.
abbrev pub valid_report : RunParamsValue → ℕ → List StreamLine → Report
valid_report run_params s lines = report_of (stream_params run_params s) lines 0 endings.Ended

-- the report says at least what the other one says; the endings may differ
pub record SaysAtLeast (report least : Report) : Type 0 where
  pub added : least.added ≤ report.added
  pub deleted : least.deleted ≤ report.deleted
  pub empty : IsTrue least.empty → IsTrue report.empty
  pub within : IsTrue least.within → IsTrue report.within
