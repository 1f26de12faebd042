use Rattle.std.proofs.Common.{None, Some, refl}
use Rattle.checkpoint.specs.declared.saving.SaveFault.TheVariants as faults
use Rattle.run_files.specs.Files.{effects_of}
use Rattle.run_files.proofs.ClosingLemmas.{saves_and_closes}
use Rattle.run_files.proofs.closing.save_and_close.Goals as goal

pub returns-in-Ok-keep-clause-closes : goal.returns-in-Ok-keep-clause-closes
returns-in-Ok-keep-clause-closes g c f h has =
    let its = effects_of g.F.Files g.F.Machine g.F.Input.Source g.F.Output.Sink in
    let saved = c.save.ensures in
    saves_and_closes its f h c.args.clauses c.args.dropped.now has c.args.files.now c.keep.new.self c.args.output c.save.new.sink
    c.save.result saved.checkpoint saved.saves saved.failed None c.in-Ok.next _ c.in-Ok.is (refl, c.in-Ok-keep.ensures.keeps)

pub returns-in-Err-keep-clause-closes : goal.returns-in-Err-keep-clause-closes
returns-in-Err-keep-clause-closes g c f h has =
    let its = effects_of g.F.Files g.F.Machine g.F.Input.Source g.F.Output.Sink in
    let saved = c.save.ensures in
    let closed = c.without_next.ensures in
    rw (closed.unsaved, closed.next) (saves_and_closes its f h c.args.clauses c.args.dropped.now has c.args.files.now c.keep.new.self
    c.args.output c.save.new.sink
    c.save.result saved.checkpoint saved.saves saved.failed (Some faults.Unwritten) None _ c.in-Ok.is
    (refl, refl, c.in-Err-keep.ensures.loses))

pub returns-in-Err-clause-closes : goal.returns-in-Err-clause-closes
returns-in-Err-clause-closes g c f h has =
    let its = effects_of g.F.Files g.F.Machine g.F.Input.Source g.F.Output.Sink in
    let saved = c.save.ensures in
    let closed = c.without_next-in-Err.ensures in
    rw (closed.unsaved, closed.next) (saves_and_closes its f h c.args.clauses c.args.dropped.now has c.args.files.now c.discard.new.self
    c.args.output c.save.new.sink
    c.save.result saved.checkpoint saved.saves saved.failed (Some c.in-Err.fault) None _ c.in-Err.is (refl, refl, c.discard.ensures))
