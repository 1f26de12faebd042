-- What the judge's rows are about: stream 1 of two over the clauses `1 2`, `-1 2`, `1 -2` and
-- `-1 -2`, with three identities and room for three literals for each stream, and two tries. Some
-- rows are about another stream, or other sizes.
use Rattle.std.specs.Prelude.{◌≡◌, ℕ, negsuc, Bool, List, [], ◌∷◌, map, Some, None}
use Rattle.lrup_model.specs.Clause.{Clause}
use Rattle.lrup_model.specs.Cube.{CubeValue}
use Rattle.lrup_model.specs.Event as events
use Rattle.lrup_model.specs.Event.{Event, History, Reply}
use Rattle.lrup_model.specs.declared.clause_map.Published.TheVariants as publishing
use Rattle.lrup_model.specs.declared.clause_map.Retired.TheVariants as retiring
use Rattle.lrup_text.specs.declared.device.StreamEnd.TheVariants as stream_ends
use Rattle.lrup_text.specs.Lines.{StreamLine, Addition}
use Rattle.stream_check.specs.declared.fault.Fault.TheVariants as faults
use Rattle.stream_check.specs.declared.report.Ending.{Ending}
use Rattle.stream_check.specs.declared.report.Report.{Report}
use Rattle.stream_check.specs.StreamParams.{StreamParams}
use Rattle.stream_check.specs.Verdicts.{LineVerdict, Good, Bad}
use Rattle.test_support.specs.Worked.{first, second, third, fourth, unit}
use Rattle.judge.specs.Judge.{Judged, judged_line, LineState, first_state, next_state, judged}

abbrev pub row_params : StreamParams
row_params = record {
  layout = record { vars = 2; clauses = 4; literals = 8; streams = 2; lines = 3; room = 3 };
  cube = [];
  stream = 1;
  tries = 2;
}

-- this stream, of so many streams, each of which has so many identities
abbrev pub stream_in : ℕ → ℕ → ℕ → StreamParams
stream_in stream streams lines = record row_params {
  layout = record row_params.layout { streams = streams; lines = lines };
  stream = stream;
}

abbrev pub with_room : ℕ → StreamParams
with_room room = record row_params { layout = record row_params.layout { room = room } }

abbrev pub with_tries : ℕ → StreamParams
with_tries tries = record row_params { tries = tries }

abbrev pub assuming : CubeValue → StreamParams
assuming cube = record row_params { cube = cube }

-- Events of stream 1

abbrev pub found : ℕ → Clause → Event
found id clause = events.fetch 1 id (events.live clause)

abbrev pub publishes : ℕ → Clause → Event
publishes id clause = events.publish 1 id clause publishing.Done

abbrev pub retires : ℕ → Event
retires id = events.retire 1 id retiring.Done

abbrev pub does_not_retire : ℕ → Event
does_not_retire id = events.retire 1 id retiring.NotLive

-- fetches of identity 6, which is stream 2's
abbrev pub fetches_six : List Reply → History
fetches_six replies = map (λ reply. events.fetch 1 6 reply) replies

-- Lines

-- `5 2 0 1 2 0`, and so on, with this identity
abbrev pub adds_unit : ℕ → StreamLine
adds_unit id = Addition id unit (1 ∷ 2 ∷ [])

abbrev pub unit_events : ℕ → History
unit_events id = found 1 first ∷ found 2 second ∷ publishes id unit ∷ []

-- `5 1 2 0 1 0`
abbrev pub adds_first : StreamLine
adds_first = Addition 5 first (1 ∷ [])

abbrev pub first_events : History
first_events = found 1 first ∷ publishes 5 first ∷ []

-- `7 0 5 3 4 0`
abbrev pub adds_empty : StreamLine
adds_empty = Addition 7 [] (5 ∷ 3 ∷ 4 ∷ [])

abbrev pub empty_events : History
empty_events = found 5 unit ∷ found 3 third ∷ found 4 fourth ∷ publishes 7 [] ∷ []

-- the clause `-2`, and the line `5 -2 0 6 0`
abbrev pub other_unit : Clause
other_unit = negsuc 1 ∷ []

abbrev pub cites_six : StreamLine
cites_six = Addition 5 other_unit (6 ∷ [])

-- Rows

-- what these lines leave
abbrev pub state_after : StreamParams → List StreamLine → LineState → LineState
state_after params [] state = state
state_after params (line ∷ lines) state = state_after params lines (next_state params state line)

-- after these lines, the line has this block of events, none of which is left, and this verdict
abbrev pub LineRow : StreamParams → List StreamLine → StreamLine → History → LineVerdict → Type 0
LineRow params lines line block verdict =
    judged_line params (state_after params lines (first_state params)).context None line block
    ≡ Some (Judged verdict, [])

-- after these lines, the stream may add the clause `2` under this identity, with these three events
abbrev pub MayAdd : StreamParams → List StreamLine → ℕ → Type 0
MayAdd params lines id =
    LineRow params lines (adds_unit id) (events.fetch params.stream 1 (events.live first)
    ∷ events.fetch params.stream 2 (events.live second)
    ∷ events.publish params.stream id unit publishing.Done ∷ []) Good

-- after these lines, the stream may not add it, because of the identity
abbrev pub MayNotAdd : StreamParams → List StreamLine → ℕ → Type 0
MayNotAdd params lines id = LineRow params lines (adds_unit id) [] (Bad 0 faults.Identity)

-- an ended stream of these lines, with these events, has this report
abbrev pub StreamRow : StreamParams → List StreamLine → History → Report → Type 0
StreamRow params lines history report =
    judged params lines [] None stream_ends.Ended None history ≡ Some report

-- a report with these counts, which says whether a clause was empty, whether one was within the
-- cube, and how the stream ended
abbrev pub reports : ℕ → ℕ → Bool → Bool → Ending → Report
reports added deleted empty within ending = record {
  added = added;
  deleted = deleted;
  empty = empty;
  within = within;
  ending = ending;
}
