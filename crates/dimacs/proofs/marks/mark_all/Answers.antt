use Rattle.std.proofs.Common.{◌≡◌, [], ◌∷◌, ◌++◌, ◌+◌, ℤ, take, ap, sym, ◌∙◌}
use Rattle.std.proofs.lemmas.List.{take_more}
use Rattle.dimacs.proofs.SetLemmas.{MarksAre-push}
use Rattle.dimacs.proofs.marks.mark_all.Goals as goal

pub loop-l-preserved : goal.loop-l-preserved
loop-l-preserved c =
    let all = c.args.literals.now in
    let i = c.loop-l.l-index in
    let l = c.l-item.result in
    let e : take (i + 1) all ≡ take i all ++ l ∷ [] = take_more all i l c.loop-l-test.true
    ∙ ap (λ (x : ℤ). take i all ++ x ∷ []) (sym c.l-item.is) in
    rw e (MarksAre-push c.loop-l.words c.set_mark.new.words (take i all) l c.set_mark.ensures c.loop-l.invariant)
