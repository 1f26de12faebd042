use Rattle.std.proofs.Common.{◌∙◌, ◌≡◌, [], false, inl, inr, refl, sym, subst, arith}
use Rattle.std.specs.List.{AllByRecursion}
use Rattle.lrup_model.specs.lemmas.ListLemmas.{All-push}
use Rattle.clap.specs.Walk.{texts}
use Rattle.run_files.specs.Causes.{IsOpenCause}
use Rattle.run_files.specs.Files.{effects_of}
use Rattle.run_files.specs.declared.fault.CommandFault.{CommandFault}
use Rattle.run_files.specs.declared.fault.CommandFault.TheVariants as faults
use Rattle.run_files.specs.lemmas.ResultLemmas.{err_given}
use Rattle.run_files.proofs.OpeningLemmas.{all_opened_more, opened_more, refused_at}
use Rattle.run_files.proofs.opening.open_streams.Goals as goal

pub loop-path-preserved : goal.loop-path-preserved
loop-path-preserved g c =
    let now = c.loop-path in
    let left = g.F.Input.Source.left in
    let files = g.F.Files.contents in
    let pushed = c.push_reserved.ensures in
    record {
      left = opened_more left (files c.args.files.now) (files now.files)
          (λ p. p.now) now.readers.items c.push_reserved.new.self.items c.in-Ok.reader c.args.paths.now now.path-index _
          c.loop-path-test.true pushed.items now.invariant.left now.invariant.stays c.in-Ok.ensures.left;
      opened = all_opened_more g.F.Files.opens
          (λ p. p.now) c.args.files.now now.readers.items c.push_reserved.new.self.items c.in-Ok.reader c.args.paths.now now.path-index _
          now.files c.open_watched.new.files c.loop-path-test.true pushed.items now.invariant.opened c.in-Ok.ensures.opens;
      running = subst (AllByRecursion (λ r. g.F.Input.Source.has_failed r ≡ false)) (sym pushed.items)
          (All-push (λ r. g.F.Input.Source.has_failed r ≡ false) now.readers.items c.in-Ok.reader now.invariant.running
          c.in-Ok.ensures.running);
      count = omega (arith, pushed.len, now.invariant.count);
      room = omega (arith, pushed.capacity, now.invariant.room);
      stays = c.open_watched.ensures.stays ∙ now.invariant.stays;
    }

pub returns-in-Err-NotOpened-clause-cause : goal.returns-in-Err-NotOpened-clause-cause
returns-in-Err-NotOpened-clause-cause g c =
    let now = c.loop-path in
    let its = effects_of g.F.Files g.F.Machine g.F.Input.Source g.F.Output.Sink in (
      now.path-index,
      (let count : c.len.result ≡ now.path-index = c.len.ensures ∙ now.invariant.count in omega (arith, count)),
      refused_at its (λ p. p.now) c.args.files.now c.args.paths.now now.readers.items now.files now.path-index _ _ c.open_watched.new.files
          c.loop-path-test.true now.invariant.opened (rw c.in-Err-NotOpened.field-0-is at c.in-Err-NotOpened.ensures.refuses),
    )

-- memory ran out while a file was opened
pub returns-in-Err-Memory-clause-cause : goal.returns-in-Err-Memory-clause-cause
returns-in-Err-Memory-clause-cause g c =
    let now = c.loop-path in
    let its = effects_of g.F.Files g.F.Machine g.F.Input.Source g.F.Output.Sink in
    inl (
      now.path-index,
      refused_at its (λ p. p.now) c.args.files.now c.args.paths.now now.readers.items now.files now.path-index _ _ c.open_watched.new.files
          c.loop-path-test.true now.invariant.opened (rw c.in-Err-Memory.field-0-is at c.in-Err-Memory.ensures.refuses),
    )

-- memory ran out before the first file was opened
pub returns-in_err-readers-clause-cause : goal.returns-in_err-readers-clause-cause
returns-in_err-readers-clause-cause g c =
    let before = c.args.files.now in
    let Cause : CommandFault → Type 0 = λ fault. IsOpenCause (effects_of g.F.Files g.F.Machine g.F.Input.Source g.F.Output.Sink) 0 before
    (texts c.args.paths.now) fault before in
    let cause : Cause faults.Memory = inr (0, [], refl) in
    err_given c.from_residual.result _ Cause (λ fault is. subst Cause (sym is) cause) c.from_residual.ensures.1
