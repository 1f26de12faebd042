-- The worked example: four clauses over two variables, and two streams with two identities each and
-- room for one literal.
use Rattle.std.specs.Prelude.{[], ◌∷◌}
use Rattle.lrup_model.specs.Event.{Event, vacant, live, fetch, publish, retire}
use Rattle.lrup_model.specs.Layout.{LayoutValue}
use Rattle.lrup_model.specs.declared.clause_map.Published.TheVariants as publishing
use Rattle.lrup_model.specs.declared.clause_map.Retired.TheVariants as retiring
use Rattle.test_support.specs.Worked.{first, second, unit}
use Rattle.lrup_text.specs.Lines.{Deletion}
use Rattle.stream_check.specs.StreamParams.{StreamParams}
use Rattle.stream_check.specs.StreamContext.{StreamContext, context_of}

abbrev pub two_streams : LayoutValue
two_streams = record { vars = 2; clauses = 4; literals = 8; streams = 2; lines = 2; room = 1 }

-- stream 1, with one try
abbrev pub first_stream : StreamParams
first_stream = record { layout = two_streams; cube = []; stream = 1; tries = 1 }

-- before the first line, and after the line `5 d 1 0`
abbrev pub at_start : StreamContext
at_start = context_of first_stream []

abbrev pub after_drop : StreamContext
after_drop = context_of first_stream (Deletion 5 (1 ∷ []) ∷ [])

-- fetches that find the first two clauses of the formula, one that finds nothing under 6, and the
-- publish of the unit clause
abbrev pub first_found : Event
first_found = fetch 1 1 (live first)

abbrev pub second_found : Event
second_found = fetch 1 2 (live second)

abbrev pub six_vacant : Event
six_vacant = fetch 1 6 vacant

abbrev pub unit_published : Event
unit_published = publish 1 5 unit publishing.Done

abbrev pub five_retired : Event
five_retired = retire 1 5 retiring.Done

abbrev pub five_refused : Event
five_refused = retire 1 5 retiring.NotLive
