use Rattle.std.proofs.Common.{◌∙◌, ap, sym, arith, length, ℕ, List, ◌∷◌, drop}
use Rattle.std.proofs.lemmas.List.{nil_from_length}
use Rattle.std.proofs.lemmas.Bool.{eqb-true, eqb-false}
use Rattle.dimacs.specs.internal.Places.{lines_at}
use Rattle.dimacs.specs.Lines.{runs}
use Rattle.dimacs.proofs.LineLemmas.{lines_at-nil, lines_at-line}
use Rattle.dimacs.proofs.tokens.Tokens.next_line.Goals as goal

pub returns-then-is_empty : goal.returns-then-is_empty
returns-then-is_empty c =
    let n = c.skip.new.self.line in
    let rest = c.skip.new.self.rest.now in
    sym c.skip.ensures.same ∙ ap (lines_at n) (nil_from_length rest (eqb-true (length rest) 0 (sym c.if-is_empty.ensures))) ∙ lines_at-nil n

pub returns : goal.returns
returns c =
    let n = c.skip.new.self.line in
    let rest = c.skip.new.self.rest.now in
    let none = eqb-false (length rest) 0 (sym c.if-is_empty.ensures) in
    sym c.skip.ensures.same ∙ lines_at-line n rest c.memchr.result c.unwrap_or-end.result c.skip.ensures.place
    (omega (arith, none)) c.memchr.ensures c.unwrap_or-end.ensures
    ∙ ap (λ (x : List ℕ). record { number = n; tokens = runs x } ∷ lines_at n (drop c.unwrap_or-end.result rest))
    (sym c.split_at.ensures.front)
    ∙ ap (λ (x : List ℕ). record { number = n; tokens = runs c.split_at.result.0.now } ∷ lines_at n x) (sym c.split_at.ensures.back)
