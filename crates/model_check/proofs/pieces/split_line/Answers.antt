use Rattle.std.proofs.Common.{◌∷◌, ◌+◌, ◌-◌, ◌∙◌, ℕ, List, length, take, drop, sym, ap, arith, length-drop}
use Rattle.std.proofs.lemmas.Bool.{false_from_ne_true}
use Rattle.std.proofs.lemmas.List.{take_all}
use Rattle.std.specs.List.{slice_split}
use Rattle.dimacs.specs.Lines.{ends_line}
use Rattle.model_check.proofs.PieceLemmas.{one_part, part_at}
use Rattle.model_check.proofs.pieces.split_line.Goals as goal

pub returns-in-Some-clause-lines : goal.returns-in-Some-clause-lines
returns-in-Some-clause-lines c =
    let text = c.args.text.now in
    let k = c.in-Some.end in
    let found = c.in-Some.ensures in
    part_at ends_line text k found.0.high (λ i lt. false_from_ne_true _ (found.0.before i (omega arith) lt)) found.1
    ∙ ap (λ (x : List ℕ). take k text ∷ slice_split ends_line x)
    (sym (take_all (length text - (k + 1)) (drop (k + 1) text) (omega (arith, length-drop (k + 1) text))))

pub returns-in-None-clause-lines : goal.returns-in-None-clause-lines
returns-in-None-clause-lines c =
    one_part ends_line c.args.text.now (λ i lt. false_from_ne_true _ (c.in-None.ensures i (omega arith) lt))
