use Rattle.std.proofs.Common.{◌≡◌, false, true}
use Rattle.stream_check.specs.Readings.{readers_view}
use Rattle.stream_turns.proofs.TurnsLemmas.{running_on}
use Rattle.stream_turns.proofs.turns.take_turns.Goals as goal

pub take_round-requires : goal.take_round-requires
take_round-requires g c = record {
  running = running_on (readers_view g.R.Source) 0 0 c.args.map.now c.loop.map c.args.workers.now
      c.loop.workers c.requires.running c.loop.invariant;
}

-- the loop ends only through its return
pub returns-clause-finished : goal.returns-clause-finished
returns-clause-finished g c = let never : false ≡ true = c.in-None.ensures.steps in absurd (cc)
