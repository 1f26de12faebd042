use Rattle.std.proofs.Common.{◌≡◌, ◌∙◌, Bool, true, ap, sym, subst}
use Rattle.std.specs.Prelude.{is_err}
use Rattle.command.specs.Commands.{SaysOfRound, change}
use Rattle.command.proofs.WritingLemmas.{says_both}
use Rattle.command.proofs.program.report.Goals as goal

pub returns-in-Err-clause-said : goal.returns-in-Err-clause-said
returns-in-Err-clause-said g c =
    let written = g.E.Sink.written in
    let has_failed = g.E.Sink.has_failed in
    let last = c.args.last.now in
    let err = change g.E.Sink c.args.err.now c.say.new.err in
    let failed : g.O.Sink.has_failed c.write_last.new.out ≡ true = c.write_last.ensures.failed ∙ ap is_err c.in-Err.is in
    subst (λ (b : Bool). SaysOfRound last.number b last.unsaved err) (sym failed)
    (says_both last.number (written c.args.err.now) (written c.say_unsaved.new.err) (written c.say.new.err)
    (has_failed c.say_unsaved.new.err) (has_failed c.say.new.err) last.unsaved c.say_unsaved.ensures
    (λ broken. let same = c.say.ensures.failed broken in (ap written same, ap has_failed same ∙ broken))
    c.say.ensures.said)
