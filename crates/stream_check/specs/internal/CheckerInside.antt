-- How a checker's value is made from its fields, and the fields' invariants (this project's own).
use Rattle.std.specs.Prelude.{◌≡◌, ◌≤◌, ◌<◌, ◌^◌, ◌+◌, ℕ, ℤ, nat_abs, Bool, true, false, List, [], length, Option, None, IfSome, Result, Ok, Err}
use Rattle.std.specs.List.{AllByRecursion}
use Rattle.lrup_model.specs.Clause.{IsClause, IsTautology}
use Rattle.lrup_model.specs.Layout.{Owns}
use Rattle.lrup_model.specs.Distinct.{distinct}
use Rattle.lrup_text.specs.Feeding.{ReaderState}
use Rattle.propagate.specs.Marks.{Propagation}
use Rattle.stream_check.specs.declared.fault.Fault.{Fault}
use Rattle.stream_check.specs.declared.report.Ending.{Ending}
use Rattle.stream_check.specs.DroppedIdsValue.{DroppedIdsValue}
use Rattle.stream_check.specs.StreamParams.{StreamParams}
use Rattle.stream_check.specs.StreamContext.{capped, StreamContext, is_among}
use Rattle.stream_check.specs.Additions.{BeforeHints}
use Rattle.stream_check.specs.Stopping.{IsFullAtMemory}
use Rattle.stream_check.specs.CheckerValue.{Tally, CheckerValue}
use Rattle.stream_check.specs.declared.params.Ownership.{Ownership}
use Rattle.stream_check.specs.declared.params.Ownership.TheVariants as ownerships

-- the parameters; the last identity added, or the formula's last one; the dropped identities; how
-- many identities were retired; how many clauses were added, whether one is empty, and whether one
-- is within the cube; and the next line's number
pub record StreamStateValue : Type 0 where
  pub params : StreamParams
  pub last : ℕ
  pub dropped : DroppedIdsValue
  pub retired : ℕ
  pub added : ℕ
  pub empty : Bool
  pub within : Bool
  pub line : ℕ

-- the state before the first line, with these identities dropped
abbrev pub fresh_state : StreamParams → DroppedIdsValue → StreamStateValue
fresh_state params dropped = record {
  params = params;
  last = params.layout.clauses;
  dropped = dropped;
  retired = 0;
  added = 0;
  empty = false;
  within = false;
  line = 1;
}

-- the context that the good lines so far leave, if this much room is left
abbrev pub context_at : StreamStateValue → ℕ → StreamContext
context_at state free =
    record { last = state.last; free = free; is_dropped = is_among state.dropped.ids }

-- how many identities were deleted
abbrev pub deleted_at : StreamStateValue → ℕ
deleted_at state = capped (state.retired + length state.dropped.ids)

abbrev pub tally_at : StreamStateValue → Tally
tally_at state = record {
  added = state.added;
  deleted = deleted_at state;
  empty = state.empty;
  within = state.within;
}

-- nothing has changed but the dropped and the retired identities
abbrev pub KeepsLines : StreamStateValue → StreamStateValue → Type 0
KeepsLines old new = new ≡ record old { dropped = new.dropped; retired = new.retired }

-- All tests before those of the hints succeed, and the marks have the addition's clause.
pub record Admits (params : StreamParams) (context : StreamContext) (id : ℕ) (lits : List ℤ)
    (marks : Propagation) : Type 0 where
  pub owns : Owns params.layout params.stream id
  pub above : context.last < id
  pub literals : AllByRecursion (λ l. nat_abs l ≤ params.layout.vars) lits
  pub fits : length (distinct lits) ≤ context.free
  pub clause : IsClause params.layout.vars (distinct lits)
  pub consistent : ¬ IsTautology (distinct lits)
  pub marks_are : marks
      ≡ record {
        vars = params.layout.vars;
        clause = distinct lits;
        falses = distinct lits;
        ready = true;
      }

-- all tests before those of the hints succeed, or the addition fails one of them
abbrev pub AdmitsBy : StreamParams → StreamContext → ℕ → List ℤ → Propagation
    → Result (Unit {0}) Fault
    → Type 0
AdmitsBy params context id lits marks (Ok _) = Admits params context id lits marks
AdmitsBy params context id lits marks (Err fault) =
    BeforeHints params context id lits [] fault ⊥

-- what a reader has read of a line's text
abbrev pub read_of : ReaderState → List ℕ
read_of (Ok read) = read
read_of (Err fault) = []

-- a checker with these parts
abbrev pub value_of : StreamStateValue → List ℕ → Option Ending → CheckerValue
value_of state pending ending = record {
  params = state.params;
  tally = tally_at state;
  last = state.last;
  dropped = state.dropped;
  retired = state.retired;
  pending = pending;
  line = state.line;
  ending = ending;
}

-- An unfinished checker can read on; a checker that ran out of memory has no room for another
-- dropped identity; `vars` is the layout's number of variables; and there are fewer than 2^63
-- tries.
pub record IsSound (params : StreamParams) (dropped : DroppedIdsValue) (vars : ℕ)
    (reader : ReaderState) (ending : Option Ending) : Type 0 where
  pub reads : ending ≡ None → reader ≡ Ok (read_of reader)
  pub variables : params.layout.vars ≡ vars
  pub tries : params.tries < 2 ^ 63
  pub full : IfSome ending (λ stopped. IsFullAtMemory stopped dropped)

-- how many times a hint with this ownership may be fetched again: `tries` if it is another
-- stream's, and 0 otherwise
abbrev pub tries_on : Ownership → ℕ → ℕ
tries_on ownerships.Formula tries = 0
tries_on ownerships.Own tries = 0
tries_on ownerships.Foreign tries = tries
tries_on ownerships.Outside tries = 0
