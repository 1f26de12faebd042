-- The laws of the judge, each of which is the contract of a function in `src/`, and the relations
-- that they compare its parts with.
use Rattle.std.specs.Prelude.{◌≡◌, ◌⊎◌, ◌↔◌, ◌++◌, ℕ, ℤ, Bool, false, List, length, Option, Some, None}
use Rattle.lrup_model.specs.Clause.{Clause}
use Rattle.lrup_model.specs.Event.{History}
use Rattle.lrup_model.specs.Propagation.{Refutes}
use Rattle.lrup_text.specs.declared.LineFault.{LineFault}
use Rattle.lrup_text.specs.declared.device.StreamEnd.{StreamEnd}
use Rattle.lrup_text.specs.Faults.{HasTextFault}
use Rattle.lrup_text.specs.Grammar.{Begins}
use Rattle.lrup_text.specs.Lines.{StreamLine, Deletion, Cut}
use Rattle.stream_check.specs.declared.report.Report.{Report}
use Rattle.stream_check.specs.StreamParams.{StreamParams}
use Rattle.stream_check.specs.StreamContext.{StreamContext}
use Rattle.stream_check.specs.Verdicts.{LineVerdict, Good, Bad}
use Rattle.stream_check.specs.Lookup.{LooksUp, AreFound}
use Rattle.stream_check.specs.Additions.{FailsHints}
use Rattle.stream_check.specs.Deletions.{StopsDeletion}
use Rattle.stream_check.specs.Judging.{JudgesLine, Judges}
use Rattle.stream_check.specs.Excuses.{OutOfMemory as memory_excuse, IsExcused}
use Rattle.judge.specs.Judge.{Given, looked_up, hinted, LineOutcome, Judged, OutOfMemory, judged_line, Refusal, judged}

-- The part of the judge computes the relation: it gives this value and leaves these events exactly
-- if the events before them have this value by the relation.
abbrev pub Computes : {X : Type 0} → (History → Given X) → (History → X → Type 0) → Type 0
Computes {X} part Relation = (history rest : History) (value : X)
    → (part history ≡ Some (value, rest))
    ↔ ((taken : History) × (history ≡ taken ++ rest) × Relation taken value)

-- a look-up
abbrev pub LookUpJudged : Type 0
LookUpJudged = (params : StreamParams) (is_dropped : ℕ → Bool) (id : ℕ)
    → Computes (looked_up params is_dropped id) (LooksUp params is_dropped id)

-- the hints derive a clause, or one of them, or their end, is a fault
abbrev pub JudgesHints : StreamParams → (ℕ → Bool) → List ℤ → List ℕ → History → LineVerdict
    → Type 0
JudgesHints params is_dropped falses hints history Good =
    (clauses : List Clause) × AreFound params is_dropped hints clauses history
    × Refutes falses clauses
JudgesHints params is_dropped falses hints history (Bad deleted fault) =
    (deleted ≡ 0) × FailsHints params is_dropped falses hints history fault

-- the hints of an addition
abbrev pub HintsJudged : Type 0
HintsJudged = (params : StreamParams) (is_dropped : ℕ → Bool) (falses : List ℤ) (hints : List ℕ)
    → Computes (hinted params is_dropped false falses hints)
    (JudgesHints params is_dropped falses hints)

-- the line has this verdict; or it is a deletion that runs out of memory after deleting this many
-- identities
abbrev pub HasOutcome : StreamParams → StreamContext → StreamLine → History → LineOutcome → Type 0
HasOutcome params context line history (Judged verdict) =
    JudgesLine params context line history verdict
HasOutcome params context line history (OutOfMemory deleted) =
    (lead : ℕ) × (ids earlier : List ℕ) × (line ≡ Deletion lead ids)
    × StopsDeletion params context.is_dropped ids history earlier × (deleted ≡ length earlier)

-- a line, if memory isn't refused
abbrev pub LineJudged : Type 0
LineJudged = (params : StreamParams) (context : StreamContext) (line : StreamLine)
    (history rest : History) (verdict : LineVerdict)
    → (judged_line params context None line history ≡ Some (Judged verdict, rest))
    ↔ ((taken : History) × (history ≡ taken ++ rest)
    × JudgesLine params context line taken verdict)

-- a line, wherever memory may be refused
abbrev pub LineJudgedOnRefusal : Type 0
LineJudgedOnRefusal = (params : StreamParams) (context : StreamContext) (line : StreamLine)
    (history rest : History) (outcome : LineOutcome)
    → ((refusal : Option ℕ)
    × (judged_line params context refusal line history ≡ Some (outcome, rest)))
    ↔ ((taken : History) × (history ≡ taken ++ rest) × HasOutcome params context line taken outcome)

-- the text of the rest: it begins a line, or has this fault
abbrev pub RestHas : List ℕ → Option LineFault → Type 0
RestHas rest None = Begins rest
RestHas rest (Some fault) = HasTextFault rest fault

-- the bytes are read as these lines and this rest, whose text has this fault, if any
pub record AreReadAs (bytes : List ℕ) (lines : List StreamLine) (rest : List ℕ)
    (fault : Option LineFault) : Type 0 where
  pub cut : Cut bytes lines rest
  pub text : RestHas rest fault

-- A report is right for a stream's bytes, end and events, by the relation that the contracts cite,
-- exactly if it is the judge's, for one of the places where memory may be refused, or for none.
abbrev pub StreamJudged : Type 0
StreamJudged = (params : StreamParams) (bytes : List ℕ) (lines : List StreamLine) (rest : List ℕ)
    (fault : Option LineFault) (end : StreamEnd) (history : History) (report : Report)
    → AreReadAs bytes lines rest fault
    → Judges params bytes end history report
    ↔ ((refusal : Refusal) × (judged params lines rest fault end refusal history ≡ Some report))

-- A report that doesn't say that memory ran out is right exactly if it is the judge's with no
-- refusal.
abbrev pub StreamJudgedWithMemory : Type 0
StreamJudgedWithMemory = (params : StreamParams) (bytes : List ℕ) (lines : List StreamLine)
    (rest : List ℕ) (fault : Option LineFault) (end : StreamEnd) (history : History)
    (report : Report)
    → AreReadAs bytes lines rest fault → ¬ IsExcused memory_excuse report
    → Judges params bytes end history report
    ↔ (judged params lines rest fault end None history ≡ Some report)

-- this is so for the fault that the text of the rest has, if any; or it is so for each fault
abbrev pub HoldsForRest : List ℕ → (Option LineFault → Type 0) → Type 0
HoldsForRest rest Holds =
    ((fault : Option LineFault) × RestHas rest fault × Holds fault)
    ⊎ ((fault : Option LineFault) → Holds fault)

-- The first of these laws without the fault of the rest as a premise, for any stream: if a line
-- stops the stream, the judge gives the report whatever the rest.
abbrev pub AnyStreamJudged : Type 0
AnyStreamJudged = (params : StreamParams) (bytes : List ℕ) (lines : List StreamLine) (rest : List ℕ)
    (end : StreamEnd) (history : History) (report : Report)
    → Cut bytes lines rest
    → Judges params bytes end history report
    ↔ ((refusal : Refusal)
    × HoldsForRest rest (λ fault. judged params lines rest fault end refusal history ≡ Some report))
