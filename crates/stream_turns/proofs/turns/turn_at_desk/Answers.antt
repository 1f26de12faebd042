use Rattle.std.proofs.Common.{ℕ, sym, subst}
use Rattle.lrup_model.specs.Plain.{Plain, plain_caller_view}
use Rattle.lrup_model.specs.Desk.{map_of}
use Rattle.stream_check.specs.Checker.{IsReadyAt}
use Rattle.stream_turns.proofs.turns.turn_at_desk.Goals as goal

pub turn-requires-clause-ready : goal.turn-requires-clause-ready
turn-requires-clause-ready g c =
    let desk = c.desk.ensures in
    let worker = c.args.worker.now in
    subst (λ (s : ℕ). IsReadyAt worker.checker (plain_caller_view (map_of c.desk.result) s)) (sym desk.stream)
    (subst (λ (m : Plain). IsReadyAt worker.checker (plain_caller_view m c.args.s)) (sym desk.map_now) c.requires.ready)
