use Rattle.std.proofs.Common.{length, ◌∙◌, ap, sym, arith, eq-eqb}
use Rattle.std.proofs.lemmas.Bool.{ne_eqb}
use Rattle.dimacs.specs.internal.Places.{lines_at}
use Rattle.dimacs.proofs.LineLemmas.{lines_at-line_end, lines_at-separator}
use Rattle.dimacs.proofs.tokens.Tokens.skip.Goals as goal

pub loop-byte-preserved-then-byte-eq10 : goal.loop-byte-preserved-then-byte-eq10
loop-byte-preserved-then-byte-eq10 c =
    let n = c.loop-byte.self.line in
    let byte = c.in-Some.field-0-0.now in
    let whole = c.in-Some.ensures.cases.0 in record {
      same = c.skip_comments.ensures.same ∙ sym (lines_at-line_end n byte c.in-Some.rest.now (eq-eqb byte 10 c.if-byte-eq10.true))
          ∙ ap (lines_at n) (sym whole) ∙ c.loop-byte.invariant.same;
      shorter = omega (arith, ap length whole);
    }

pub loop-byte-preserved : goal.loop-byte-preserved
loop-byte-preserved c =
    let n = c.loop-byte.self.line in
    let byte = c.in-Some.field-0-0.now in
    let whole = c.in-Some.ensures.cases.0 in record {
      same = sym (lines_at-separator n byte c.in-Some.rest.now (sym c.if-is_separator.ensures) (ne_eqb byte 10 c.if-byte-eq10.false))
          ∙ ap (lines_at n) (sym whole) ∙ c.loop-byte.invariant.same;
      shorter = omega (arith, ap length whole);
    }
