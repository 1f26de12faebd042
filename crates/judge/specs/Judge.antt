-- The judge: a function that gives a stream's report for its lines, its end and its events. It
-- tests each line by the rules, in their order, over sets and lists (this project's own).
use Rattle.std.specs.Prelude.{◌==◌, ◌+◌, ◌++◌, ◌&&◌, ◌||◌, ℕ, zero, suc, ℤ, neg_ℤ, nat_abs, nat_lt, nat_le, Bool, true, false, not, if◌then◌else◌, List, [], ◌∷◌, length, Option, Some, None, Result, Ok, Err}
use Rattle.std.specs.List.{filter, list_all, list_any}
use Rattle.std.specs.Ordering.{int_eq}
use lib.Pointwise.{pointwise}
use Rattle.lrup_model.specs.Clause.{Clause}
use Rattle.lrup_model.specs.Distinct.{distinct}
use Rattle.lrup_model.specs.Event as events
use Rattle.lrup_model.specs.Event.{Event, History, Reply}
use Rattle.lrup_model.specs.Layout.{LayoutValue, owner, last_identity}
use Rattle.lrup_model.specs.declared.clause_map.Published.TheVariants as publishing
use Rattle.lrup_model.specs.declared.clause_map.Retired.TheVariants as retiring
use Rattle.lrup_model.specs.declared.layout.Owner.{Owner}
use Rattle.lrup_model.specs.declared.layout.Owner.TheVariants as owners
use Rattle.lrup_text.specs.Lines.{StreamLine, Addition, Deletion, Import}
use Rattle.lrup_text.specs.declared.LineFault.{LineFault}
use Rattle.lrup_text.specs.declared.device.StreamEnd.{StreamEnd}
use Rattle.stream_check.specs.declared.fault.Fault.{Fault}
use Rattle.stream_check.specs.declared.fault.Fault.TheVariants as faults
use Rattle.stream_check.specs.declared.params.Ownership.{Ownership}
use Rattle.stream_check.specs.declared.params.Ownership.TheVariants as ownerships
use Rattle.stream_check.specs.declared.report.Ending.{Ending}
use Rattle.stream_check.specs.declared.report.Ending.TheVariants as endings
use Rattle.stream_check.specs.declared.report.Report.{Report}
use Rattle.stream_check.specs.StreamParams.{StreamParams, ownership_of}
use Rattle.stream_check.specs.StreamContext.{StreamContext, capped, is_among}
use Rattle.stream_check.specs.Verdicts.{LineVerdict, Good, Bad}
use Rattle.stream_check.specs.Lookup.{answer_of}
use Rattle.stream_check.specs.CheckerValue.{Tally, report_of_tally}
use Rattle.stream_check.specs.Reaching.{context_after, tally_after}
use Rattle.stream_check.specs.Judging.{ending_at}

-- What a part of the judge gives: a value, and the events that come after those that the part
-- took; or nothing, if the next events aren't those of the part's calls.
abbrev pub Given : Type 0 → Type 0
Given X = Option (X × History)

-- Looking up an identity

-- the last reply to fetches of one identity by stream s, which fetches it again while it is vacant,
-- this many times at most
abbrev pub fetched : ℕ → ℕ → ℕ → History → Given Reply
fetched more s id [] = None
fetched zero s id (events.fetch t j events.vacant ∷ history) =
    if s == t && id == j then Some (events.vacant, history) else None
fetched (suc more) s id (events.fetch t j events.vacant ∷ history) =
    if s == t && id == j then fetched more s id history else None
fetched more s id (events.fetch t j (events.live clause) ∷ history) =
    if s == t && id == j then Some (events.live clause, history) else None
fetched more s id (events.fetch t j events.retired ∷ history) =
    if s == t && id == j then Some (events.retired, history) else None
fetched more s id (events.publish t j clause reply ∷ history) = None
fetched more s id (events.retire t j reply ∷ history) = None

-- the clause, or the fault, that the last reply gives
abbrev pub answered : ℕ → Given Reply → Given (Result Clause Fault)
answered id None = None
answered id (Some (reply, history)) = Some (answer_of id reply, history)

-- the identity is asked for: once if it is the formula's or the stream's own, up to `tries` more
-- times if it is another stream's, and never if it isn't an identity
abbrev pub asked : Ownership → StreamParams → ℕ → History → Given (Result Clause Fault)
asked ownerships.Formula params id history = answered id (fetched 0 params.stream id history)
asked ownerships.Own params id history = answered id (fetched 0 params.stream id history)
asked ownerships.Foreign params id history =
    answered id (fetched params.tries params.stream id history)
asked ownerships.Outside params id history = Some (Err (faults.Missing id), history)

-- the clause under an identity, or the fault: it was dropped, is missing, or was retired
abbrev pub looked_up : StreamParams → (ℕ → Bool) → ℕ → History → Given (Result Clause Fault)
looked_up params is_dropped id history =
    if is_dropped id then Some (Err (faults.Dropped id), history)
    else asked (ownership_of params id) params id history

-- Propagation

-- the literal is in the list
abbrev pub is_in : List ℤ → ℤ → Bool
is_in literals literal = list_any (λ k. int_eq k literal) literals

-- what a clause is with some literals false: a conflict, or unit with this literal, or neither
pub data Help : Type 0 where
  Conflict : Help
  UnitWith : (literal : ℤ) → Help
  Neither : Help

-- the same, by the clause's literals that aren't false
abbrev pub help_of : List ℤ → List ℤ → Help
help_of falses [] = Conflict
help_of falses (literal ∷ others) =
    if list_all (λ other. int_eq other literal) others && not (is_in falses (neg_ℤ literal))
    then UnitWith literal
    else Neither

abbrev pub help : List ℤ → Clause → Help
help falses clause = help_of falses (filter (λ literal. not (is_in falses literal)) clause)

-- what a hint with this clause does: the later hints follow, with the conflict found or with one
-- more literal false; or it is a fault, since the clause is neither unit nor a conflict
abbrev pub helped : Help → List ℤ → ℕ → History → (Bool → List ℤ → History → Given LineVerdict)
    → Given LineVerdict
helped Conflict falses hint history later = later true falses history
helped (UnitWith literal) falses hint history later =
    later false (falses ++ neg_ℤ literal ∷ []) history
helped Neither falses hint history later = Some (Bad 0 (faults.NotUnit hint), history)

abbrev pub hinted_by : Given (Result Clause Fault) → List ℤ → ℕ
    → (Bool → List ℤ → History → Given LineVerdict) → Given LineVerdict
hinted_by None falses hint later = None
hinted_by (Some (Err fault, history)) falses hint later = Some (Bad 0 fault, history)
hinted_by (Some (Ok clause, history)) falses hint later =
    helped (help falses clause) falses hint history later

-- Hint by hint: it is a fault if the hint comes after the conflict; then if its look-up gives one;
-- then if its clause is neither unit nor a conflict. At last it is a fault if there is no conflict.
abbrev pub hinted : StreamParams → (ℕ → Bool) → Bool → List ℤ → List ℕ → History
    → Given LineVerdict
hinted params is_dropped true falses [] history = Some (Good, history)
hinted params is_dropped true falses (hint ∷ hints) history =
    Some (Bad 0 (faults.Excess hint), history)
hinted params is_dropped false falses [] history = Some (Bad 0 faults.NoConflict, history)
hinted params is_dropped false falses (hint ∷ hints) history =
    hinted_by (looked_up params is_dropped hint history) falses hint
    (λ is_over more_falses rest. hinted params is_dropped is_over more_falses hints rest)

-- Lines

-- if the test fails, the line has this fault, and no event follows
abbrev pub tested : Bool → Fault → History → Given LineVerdict → Given LineVerdict
tested true fault history next = next
tested false fault history next = Some (Bad 0 fault, history)

abbrev pub is_stream : Owner → ℕ → Bool
is_stream owners.Formula s = false
is_stream (owners.Stream t) s = t == s
is_stream owners.Outside s = false

-- the stream owns the identity
abbrev pub owns : LayoutValue → ℕ → ℕ → Bool
owns layout s id = is_stream (owner layout id) s

-- each literal's variable is one of the formula's
abbrev pub are_over : ℕ → List ℤ → Bool
are_over vars lits = list_all (λ literal. nat_le (nat_abs literal) vars) lits

-- the event publishes this clause, with the reply Done
abbrev pub is_publish : ℕ → ℕ → Clause → Event → Bool
is_publish s id clause (events.fetch t j reply) = false
is_publish s id clause (events.publish t j other publishing.Done) =
    (s == t && id == j) && pointwise int_eq clause other
is_publish s id clause (events.publish t j other publishing.Taken) = false
is_publish s id clause (events.retire t j reply) = false

-- after a good addition's look-ups comes the event that publishes its clause
abbrev pub with_publish : Given LineVerdict → ℕ → ℕ → Clause → Given LineVerdict
with_publish None s id clause = None
with_publish (Some (Bad deleted fault, history)) s id clause = Some (Bad deleted fault, history)
with_publish (Some (Good, [])) s id clause = None
with_publish (Some (Good, event ∷ history)) s id clause =
    if is_publish s id clause event then Some (Good, history) else None

-- an addition: its identity, literals, no tautology, room, in this order, and then the hints
abbrev pub judged_addition : StreamParams → StreamContext → ℕ → List ℤ → List ℕ → History
    → Given LineVerdict
judged_addition params context id lits hints history =
    tested (owns params.layout params.stream id && nat_lt context.last id) faults.Identity history
    (tested (are_over params.layout.vars lits) faults.Literal history
    (tested (not (list_any (λ literal. is_in lits (neg_ℤ literal)) lits)) faults.Tautology history
    (tested (nat_le (length (distinct lits)) context.free) faults.NoRoom history
    (with_publish (hinted params context.is_dropped false (distinct lits) hints history)
    params.stream id (distinct lits)))))

-- both lists have the same literals
abbrev pub are_same : List ℤ → List ℤ → Bool
are_same literals others = list_all (is_in others) literals && list_all (is_in literals) others

abbrev pub compared : ℕ → List ℤ → Given (Result Clause Fault) → Given LineVerdict
compared id lits None = None
compared id lits (Some (Err fault, history)) = Some (Bad 0 fault, history)
compared id lits (Some (Ok clause, history)) =
    tested (are_same clause lits) (faults.Differs id) history (Some (Good, history))

-- an import: its number is an identity, but not the stream's own; its literals; its look-up; and
-- whether the literals are those of the clause
abbrev pub judged_import : StreamParams → StreamContext → ℕ → List ℤ → History → Given LineVerdict
judged_import params context id lits history =
    tested
    ((nat_lt 0 id && nat_le id (last_identity params.layout))
    && not (owns params.layout params.stream id))
    faults.Identity history
    (tested (are_over params.layout.vars lits) faults.Literal history
    (compared id lits (looked_up params context.is_dropped id history)))

-- what comes of a line: its verdict; or memory is refused, after it has deleted this many identities
pub data LineOutcome : Type 0 where
  Judged : (verdict : LineVerdict) → LineOutcome
  OutOfMemory : (deleted : ℕ) → LineOutcome

-- one of the stream's own identities is retired; it is a fault if the reply says that it isn't live
abbrev pub retired : ℕ → ℕ → ℕ → History → (History → Given LineOutcome) → Given LineOutcome
retired s count id [] later = None
retired s count id (events.fetch t j reply ∷ history) later = None
retired s count id (events.publish t j clause reply ∷ history) later = None
retired s count id (events.retire t j retiring.Done ∷ history) later =
    if s == t && id == j then later history else None
retired s count id (events.retire t j retiring.NotLive ∷ history) later =
    if s == t && id == j then Some (Judged (Bad count (faults.NotLive id)), history) else None

-- an identity of the formula or of another stream is dropped; it is a fault if it was before, and
-- memory may be refused
abbrev pub dropped : Bool → Bool → ℕ → ℕ → History → (History → Given LineOutcome)
    → Given LineOutcome
dropped true is_refused count id history later =
    Some (Judged (Bad count (faults.NotLive id)), history)
dropped false true count id history later = Some (OutOfMemory count, history)
dropped false false count id history later = later history

-- what deleting an identity does, by its owner; a number that isn't an identity is a fault
abbrev pub delete_one : Ownership → ℕ → Bool → Bool → ℕ → ℕ → History
    → (History → Given LineOutcome) → Given LineOutcome
delete_one ownerships.Formula s is_gone is_refused count id history later =
    dropped is_gone is_refused count id history later
delete_one ownerships.Own s is_gone is_refused count id history later =
    retired s count id history later
delete_one ownerships.Foreign s is_gone is_refused count id history later =
    dropped is_gone is_refused count id history later
delete_one ownerships.Outside s is_gone is_refused count id history later =
    Some (Judged (Bad count (faults.NotLive id)), history)

-- Memory is refused at the first of these identities. If memory is refused at one of them, the
-- number says how many of them come before it.
abbrev pub is_refused : Option ℕ → Bool
is_refused None = false
is_refused (Some zero) = true
is_refused (Some (suc before)) = false

-- how many of the identities after the first come before that one
abbrev pub past_identity : Option ℕ → Option ℕ
past_identity None = None
past_identity (Some zero) = None
past_identity (Some (suc before)) = Some before

-- A deletion, identity by identity from the left. Earlier lines dropped the identities in
-- `is_dropped`, and this line has deleted those in `earlier`.
abbrev pub judged_deletion : StreamParams → (ℕ → Bool) → Option ℕ → List ℕ → List ℕ → History
    → Given LineOutcome
judged_deletion params is_dropped refusal earlier [] history = Some (Judged Good, history)
judged_deletion params is_dropped refusal earlier (id ∷ ids) history =
    delete_one (ownership_of params id) params.stream (is_dropped id || is_among earlier id)
    (is_refused refusal) (length earlier) id history
    (λ rest.
    judged_deletion params is_dropped (past_identity refusal) (earlier ++ id ∷ []) ids rest)

abbrev pub outcome_by : Given LineVerdict → Given LineOutcome
outcome_by None = None
outcome_by (Some (verdict, history)) = Some (Judged verdict, history)

abbrev pub judged_line : StreamParams → StreamContext → Option ℕ → StreamLine → History
    → Given LineOutcome
judged_line params context refusal (Addition id lits hints) history =
    outcome_by (judged_addition params context id lits hints history)
judged_line params context refusal (Deletion lead ids) history =
    judged_deletion params context.is_dropped refusal [] ids history
judged_line params context refusal (Import id lits) history =
    outcome_by (judged_import params context id lits history)

-- Streams

-- between two lines: what the good lines so far leave, their counts, and the next line's number
pub record LineState : Type 0 where
  pub context : StreamContext
  pub tally : Tally
  pub number : ℕ

abbrev pub first_state : StreamParams → LineState
first_state params = record {
  context = record {
    last = params.layout.clauses;
    free = params.layout.room;
    is_dropped = λ id. false;
  };
  tally = record { added = 0; deleted = 0; empty = false; within = false };
  number = 1;
}

-- after one more good line
abbrev pub next_state : StreamParams → LineState → StreamLine → LineState
next_state params state line = record {
  context = context_after params state.context line;
  tally = tally_after params state.tally line;
  number = state.number + 1;
}

-- the report of a stream that ends in a line, or is stopped by it after this many deletions
abbrev pub report_at : Tally → ℕ → Ending → Report
report_at tally deleted ending =
    report_of_tally (record tally { deleted = capped (tally.deleted + deleted) }) ending

-- how a stream of good lines ends, with this rest, and the fault of the rest's text, if it has one
abbrev pub ending_by : StreamEnd → List ℕ → Option LineFault → ℕ → Ending
ending_by end rest None number = ending_at end rest number
ending_by end rest (Some fault) number = endings.Bad number (faults.Text fault)

-- where in a stream memory is refused, if at all: how many lines come before that line, and how many
-- of its identities before that identity
abbrev pub Refusal : Type 0
Refusal = Option (ℕ × ℕ)

-- the refusal in the first line, and in the lines after it
abbrev pub in_line : Refusal → Option ℕ
in_line None = None
in_line (Some (zero, before)) = Some before
in_line (Some (suc lines, before)) = None

abbrev pub past_line : Refusal → Refusal
past_line None = None
past_line (Some (zero, before)) = None
past_line (Some (suc lines, before)) = Some (lines, before)

-- what comes after a line: further lines, if it is good; otherwise no event is left
abbrev pub reported : Given LineOutcome → LineState → (History → Option Report) → Option Report
reported None state later = None
reported (Some (Judged Good, history)) state later = later history
reported (Some (Judged (Bad deleted fault), [])) state later =
    Some (report_at state.tally deleted (endings.Bad (capped state.number) fault))
reported (Some (Judged (Bad deleted fault), event ∷ history)) state later = None
reported (Some (OutOfMemory deleted, [])) state later =
    Some (report_at state.tally deleted (endings.Memory (capped state.number)))
reported (Some (OutOfMemory deleted, event ∷ history)) state later = None

-- the lines from one on
abbrev pub judged_from : StreamParams → StreamEnd → List ℕ → Option LineFault → Refusal → LineState
    → List StreamLine → History → Option Report
judged_from params end rest fault refusal state [] [] =
    Some (report_at state.tally 0 (ending_by end rest fault (capped state.number)))
judged_from params end rest fault refusal state [] (event ∷ history) = None
judged_from params end rest fault refusal state (line ∷ lines) history =
    reported (judged_line params state.context (in_line refusal) line history) state
    (λ left.
    judged_from params end rest fault (past_line refusal) (next_state params state line) lines left)

-- The report of a stream with these lines, then this rest, whose text has this fault, if any, and
-- this end. Nothing is given if the events aren't those of a stream with these lines.
abbrev pub judged : StreamParams → List StreamLine → List ℕ → Option LineFault → StreamEnd → Refusal
    → History → Option Report
judged params lines rest fault end refusal history =
    judged_from params end rest fault refusal (first_state params) lines history
