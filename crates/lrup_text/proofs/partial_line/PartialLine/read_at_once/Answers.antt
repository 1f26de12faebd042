use Rattle.std.proofs.Common.{◌≤◌, ◌+◌, length, refl, sym, ◌∙◌, arith}
use Rattle.lrup_text.proofs.Readers.{is_empty}
use Rattle.lrup_text.proofs.partial_line.PartialLine.read_at_once.Goals as goal

pub returns-then-read_whole-clause-whole : goal.returns-then-read_whole-clause-whole
returns-then-read_whole-clause-whole c =
    let inside : c.in_ok-used.field-0 + 1 ≤ length c.args.piece.now = omega (arith, c.in_ok-used.ensures) in
    let whole = c.if-read_whole.ensures in (
      omega arith,
      inside,
      whole.reads,
      whole.empty,
      rw (is_empty c.args.self.now c.in-Start.is) (whole.line refl),
    )

pub returns-else-read_whole-clause-same : goal.returns-else-read_whole-clause-same
returns-else-read_whole-clause-same c = c.if-read_whole.ensures.empty ∙ sym (is_empty c.args.self.now c.in-Start.is)
