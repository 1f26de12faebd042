use Rattle.std.proofs.Common.{◌+◌, refl}
use Rattle.std.proofs.lemmas.List.{take_rest}
use Rattle.lrup_text.proofs.Readers.{ahead_then, ahead_byte, steps_byte}
use Rattle.lrup_text.proofs.partial_line.PartialLine.read_bytes.Goals as goal

pub loop-used-preserved-in-More-1 : goal.loop-used-preserved-in-More-1
loop-used-preserved-in-More-1 c =
    ahead_byte c.args.self.now c.read_ahead-used.new.self c.step-step.new.self c.args.piece.now
    (c.loop-used.used + c.read_ahead-used.result) _
    (ahead_then c.args.self.now c.loop-used.self c.read_ahead-used.new.self c.args.piece.now _ c.loop-used.used c.read_ahead-used.result
    c.loop-used.invariant
    (take_rest c.args.piece.now c.loop-used.used) c.read_ahead-used.ensures)
    c.if-used-piece.true refl c.in-More.ensures

pub returns-in_default : goal.returns-in_default
returns-in_default c =
    steps_byte c.args.self.now c.read_ahead-used.new.self c.step-step.new.self c.args.piece.now
    (c.loop-used.used + c.read_ahead-used.result) _ c.step-step.result
    (ahead_then c.args.self.now c.loop-used.self c.read_ahead-used.new.self c.args.piece.now _ c.loop-used.used c.read_ahead-used.result
    c.loop-used.invariant
    (take_rest c.args.piece.now c.loop-used.used) c.read_ahead-used.ensures)
    c.if-used-piece.true refl c.in_default.not-More c.step-step.ensures
