use Rattle.std.proofs.Common.{subst, sym, ◌∙◌}
use Rattle.command.proofs.ArgumentLemmas.{other_status, other_text}
use Rattle.command.specs.Commands.{SinkTook, change}
use Rattle.command.proofs.arguments.refuse.Goals as goal

pub returns-in_default : goal.returns-in_default
returns-in_default g c =
    let other = c.in_default.not-OutOfMemory in
    let said = c.say_not_utf8 in
    let err = change g.E.Sink c.args.err.now said.new.err in
    record {
      said = subst (SinkTook err) (sym (other_text c.args.kind other)) said.ensures.said;
      status = said.ensures.status ∙ sym (other_status c.args.kind other);
    }
