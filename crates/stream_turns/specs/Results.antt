-- Streams whose lines were taken in turn on one thread (this project's own).
use Rattle.std.specs.Prelude.{◌≡◌, List, replicate}
use Rattle.std.specs.List.{AllZip}
use Rattle.lrup_model.specs.Formula.{Cnf}
use Rattle.lrup_model.specs.Layout.{LayoutValue, Fits}
use Rattle.lrup_model.specs.Plain.{Plain, formula_of, plain_state}
use Rattle.lrup_model.specs.State.{opening, state}
use Rattle.lrup_text.specs.ReadOut.{SourceView}
use Rattle.stream_check.specs.declared.report.Report.{Report}
use Rattle.stream_check.specs.DroppedIdsValue.{DroppedIdsValue}
use Rattle.stream_check.specs.Dropping.{HaveDropped}
use Rattle.stream_check.specs.Readings.{AreRead}
use Rattle.stream_check.specs.Streams.{Stream, MatchesInput, RunParamsValue, blocks_of, events_in, observations}
use Rattle.stream_check.specs.Turns.{IsOrderedRoundRobin}

-- The map has this layout. It is as it was at its opening: it has only its formula's clauses, and
-- each stream has all its room left.
pub record IsJustOpened (its_layout : LayoutValue) (map : Plain) : Type 0 where
  pub layout : map.layout ≡ its_layout
  pub fits : Fits its_layout (formula_of map)
  pub clauses : plain_state map ≡ opening (formula_of map)
  pub room : map.free ≡ replicate its_layout.streams its_layout.room

-- What streams leave if they were checked with a map of this formula, a line of each in turn.
-- `firsts` are their readers before the first read, and `lasts` the readers at the end. The
-- readers' reads gave the streams; the streams' reports have an order of lines that takes the
-- streams in turn; each stream dropped exactly what its lines drop, up to the line that stopped it,
-- if any; and the map has what the events of the order leave.
pub record AreCheckedInTurn {S : Type 0} (view : SourceView S) (its_formula : Cnf)
    (run_params : RunParamsValue) (firsts lasts : List S) (reports : List Report)
    (dropped : List DroppedIdsValue) (map : Plain) : Type 0 where
  pub streams : List Stream
  pub match_inputs : AllZip MatchesInput (observations view firsts lasts) streams
  pub read : AreRead S view.reads firsts lasts streams
  pub ordered : IsOrderedRoundRobin its_formula run_params streams reports
  pub have_dropped : HaveDropped run_params (λ s blocks. blocks ≡ blocks_of s ordered.order.blocks)
      1 streams reports dropped
  pub layout : map.layout ≡ run_params.layout
  pub formula : formula_of map ≡ its_formula
  pub clauses : plain_state map ≡ state its_formula (events_in ordered.order.blocks)
