use Rattle.std.proofs.Common.{◌≡◌, ◌∷◌, ◌∙◌, ℕ, List, drop, sym, ap, inl, inr, arith, below_more}
use Rattle.dimacs.specs.Lines.{runs}
use Rattle.model_check.proofs.PieceLemmas.{token_ends}
use Rattle.model_check.proofs.pieces.split_token.Goals as goal
use Rattle.model_check.proofs.pieces.split_token.Goals.{then-loop-end-test+else-not-is_separator, else-loop-end-test}

pub loop-end-init : goal.loop-end-init
loop-end-init c = record {
  some = omega arith;
  within = omega (arith, c.requires.some);
  none = λ i lt. let e : i ≡ 0 = omega arith in rw e c.requires.begins;
}

pub loop-end-preserved : goal.loop-end-preserved
loop-end-preserved c = record {
  some = omega arith;
  within = omega (arith, c.loop-end-test.true);
  none = below_more _ _ c.loop-end.invariant.none (sym c.if-not-is_separator.ensures);
}

pub returns-clause-token : goal.returns-clause-token
returns-clause-token c =
    let text = c.args.text.now in
    let k = c.loop-end.end in
    token_ends text k c.loop-end.invariant.some c.loop-end.invariant.within c.loop-end.invariant.none
    (elim c.loop-end-test.branch [
      | then-loop-end-test+else-not-is_separator w ↦ inl (w.loop-end-test.true, sym w.if-not-is_separator.ensures)
      | else-loop-end-test w ↦ inr w.loop-end-test.false
    ])
    ∙ ap (λ (x : List ℕ). x ∷ runs (drop k text)) (sym c.split_at.ensures.front)
    ∙ ap (λ (x : List ℕ). c.split_at.result.0.now ∷ runs x) (sym c.split_at.ensures.back)
