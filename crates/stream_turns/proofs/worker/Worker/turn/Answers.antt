use Rattle.std.proofs.Common.{◌≡◌, ◌≢◌, ◌∙◌, List, [], false, true, refl, subst, rules}
use Rattle.std.specs.Prelude.{IsSome}
use Rattle.lrup_model.specs.Event.{History}
use Rattle.stream_check.specs.Judging.{joined}
use Rattle.stream_check.specs.declared.progress.CheckStatus.{CheckStatus}
use Rattle.stream_check.specs.declared.progress.CheckStatus.TheVariants as statuses
use Rattle.stream_check.specs.Checker.{AreBlocksOf}
use Rattle.stream_check.specs.Readings.{readers_view}
use Rattle.stream_turns.specs.internal.Working.{WorkerStep}
use Rattle.stream_turns.proofs.WorkingLemmas.{finished_without, turn_blocks, worker_append, worker_none, worker_turn}
use Rattle.stream_turns.proofs.worker.Worker.turn.Goals as goal

pub loop-init : goal.loop-init
loop-init g c = record {
  going = c.requires.going;
  ready = c.requires.ready;
  params = refl;
  holds = (
    g.met.M.ClauseMap.moves_none c.args.map.now,
    worker_none (readers_view g.R.Source) c.args.self.now
        (g.M.ClauseMap.caller_view c.args.map.now).room,
  );
}

pub returns-then-ne-clause-holds : goal.returns-then-ne-clause-holds
returns-then-ne-clause-holds g c =
    let start = c.args.map.now in
    let mid = c.loop.map in
    let end = c.feed.new.map in
    let old = c.loop.invariant.holds in
    let fed = c.feed.ensures.holds in
    let room = (g.M.ClauseMap.caller_view mid).room in
    let differs : c.feed.result ≢ statuses.More = search rules in (
      fed.0,
      g.met.M.ClauseMap.moves_append start mid end [] (joined fed.0) old.0 fed.1,
      turn_blocks c.feed.result c.feed.new.self.checker.ending fed.0 differs c.feed.ensures.finished fed.2,
      worker_turn (readers_view g.R.Source) c.args.self.now c.loop.self
          c.read.new.self c.feed.new.self (g.M.ClauseMap.caller_view start).room room (g.M.ClauseMap.caller_view end).room [] fed.0 old.1
          (c.read.ensures.holds room) fed.3,
    )

pub returns-then-not-read-clause-holds : goal.returns-then-not-read-clause-holds
returns-then-not-read-clause-holds g c =
    let start = c.args.map.now in
    let old = c.loop.invariant.holds in
    let view = readers_view g.R.Source in
    let room = (g.M.ClauseMap.caller_view c.loop.map).room in
    let finished : IsSome c.read.new.self.checker.ending = search rules in (
      [],
      old.0,
      finished_without c.read.new.self.checker.ending finished,
      worker_append view c.args.self.now c.loop.self c.read.new.self (g.M.ClauseMap.caller_view start).room room room [] [] old.1
          (c.read.ensures.holds room),
    )

pub loop-preserved : goal.loop-preserved
loop-preserved g c =
    let start = c.args.map.now in
    let mid = c.loop.map in
    let end = c.feed.new.map in
    let old = c.loop.invariant.holds in
    let fed = c.feed.ensures.holds in
    let view = readers_view g.R.Source in
    let room = (g.M.ClauseMap.caller_view mid).room in
    let more : c.feed.result ≡ statuses.More = search rules in
    let none : fed.0 ≡ [] = subst (λ (status : CheckStatus). AreBlocksOf status fed.0) more fed.2 in
    record {
      going = search rules;
      ready = c.feed.ensures.ready;
      params = c.feed.ensures.params ∙ c.read.ensures.params ∙ c.loop.invariant.params;
      holds = (
        subst (λ (bs : List History). g.M.ClauseMap.moves start end (joined bs)) none
            (g.met.M.ClauseMap.moves_append start mid end [] (joined fed.0) old.0 fed.1),
        subst (λ (bs : List History). WorkerStep view c.args.self.now (g.M.ClauseMap.caller_view start).room bs c.feed.new.self
            (g.M.ClauseMap.caller_view end).room) none
            (worker_turn view c.args.self.now c.loop.self c.read.new.self c.feed.new.self (g.M.ClauseMap.caller_view start).room room
            (g.M.ClauseMap.caller_view end).room [] fed.0 old.1 (c.read.ensures.holds room) fed.3),
      );
    }

-- the loop ends only through its returns
pub returns : goal.returns
returns g c = let never : false ≡ true = c.in-None.ensures.steps in absurd (cc)
