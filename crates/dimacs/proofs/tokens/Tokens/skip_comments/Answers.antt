use Rattle.std.proofs.Common.{◌+◌, length, ◌∙◌, ap, sym, arith}
use Rattle.std.proofs.lemmas.List.{take_rest, length-drop, nil_from_length}
use Rattle.dimacs.specs.internal.Places.{lines_at, lines_at_start}
use Rattle.dimacs.proofs.LineLemmas.{lines_at_start-comment, lines_at_start-last_comment, lines_at_start-no_comment, lines_at_start-nil}
use Rattle.dimacs.proofs.LineLemmas.{lines_at-nil}
use Rattle.dimacs.proofs.tokens.Tokens.skip_comments.Goals as goal

pub loop-first-preserved-in-Some-memchr : goal.loop-first-preserved-in-Some-memchr
loop-first-preserved-in-Some-memchr c =
    let n = c.loop-first.self.line in
    let after = c.in-Some.after.now in
    let whole = c.in-Some.ensures.cases.0 in
    let rest = take_rest after (c.in-Some-memchr.end + 1) in record {
      same = ap (lines_at_start (n + 1)) rest ∙ sym (lines_at_start-comment n c.in-Some.field-0-0.now after c.in-Some-memchr.end
          c.if-first-ne-COMMENT.false c.in-Some-memchr.ensures.0 c.in-Some-memchr.ensures.1) ∙ ap (lines_at_start n) (sym whole)
          ∙ c.loop-first.invariant.same;
      shorter = omega (arith, ap length rest, length-drop (c.in-Some-memchr.end + 1) after, ap length whole);
    }

pub loop-first-preserved : goal.loop-first-preserved
loop-first-preserved c =
    let n = c.loop-first.self.line in
    let after = c.in-Some.after.now in
    let whole = c.in-Some.ensures.cases.0 in record {
      same = lines_at_start-nil n
          ∙ sym (lines_at_start-last_comment n c.in-Some.field-0-0.now after c.if-first-ne-COMMENT.false c.in-None.ensures)
          ∙ ap (lines_at_start n) (sym whole) ∙ c.loop-first.invariant.same;
      shorter = omega arith;
    }

pub returns-then-first-ne-COMMENT-clause-same : goal.returns-then-first-ne-COMMENT-clause-same
returns-then-first-ne-COMMENT-clause-same c =
    let n = c.loop-first.self.line in
    let whole = c.in-Some.ensures.cases.0 in
    ap (lines_at n) whole ∙ sym (lines_at_start-no_comment n c.in-Some.field-0-0.now c.in-Some.after.now c.if-first-ne-COMMENT.true)
    ∙ ap (lines_at_start n) (sym whole) ∙ c.loop-first.invariant.same

pub returns-in_default-clause-same : goal.returns-in_default-clause-same
returns-in_default-clause-same c =
    let n = c.loop-first.self.line in
    let none = nil_from_length c.loop-first.self.rest.now c.in_default.ensures.cases in
    ap (lines_at n) none ∙ lines_at-nil n ∙ sym (lines_at_start-nil n) ∙ ap (lines_at_start n) (sym none) ∙ c.loop-first.invariant.same
