use Rattle.std.proofs.Common.{◌≡◌, ◌++◌, List, ℕ, [], take, drop, ap, sym, ◌∙◌, arith}
use Rattle.std.proofs.lemmas.List.{append-nil}
use Rattle.dimacs.specs.internal.Places.{first_run, after_run}
use Rattle.dimacs.proofs.HeaderLemmas.{run_more, left_more, ended_within, ended_past}
use Rattle.dimacs.proofs.header.split_run.Goals as goal
use Rattle.dimacs.proofs.header.split_run.Goals.{then-loop-end-test+else-not-is_separator, else-loop-end-test}

pub loop-end-preserved : goal.loop-end-preserved
loop-end-preserved c =
    let text = c.args.text.now in
    let k = c.loop-end.end in
    let begins = sym c.if-not-is_separator.ensures in record {
      within = omega arith;
      run_is = run_more text k c.loop-end-test.true begins c.loop-end.invariant.run_is;
      left = left_more text k c.loop-end-test.true begins c.loop-end.invariant.left;
    }

pub returns-clause-run : goal.returns-clause-run
returns-clause-run c =
    let text = c.args.text.now in
    let k = c.loop-end.end in
    let ended : (first_run (drop k text) ≡ []) × (after_run (drop k text) ≡ drop k text) = elim c.loop-end-test.branch [
      | then-loop-end-test+else-not-is_separator w ↦ ended_within text k w.loop-end-test.true (sym w.if-not-is_separator.ensures)
      | else-loop-end-test w ↦ ended_past text k w.loop-end-test.false
    ] in
    c.split_at.ensures.front ∙ sym (append-nil (take k text)) ∙ ap (λ (x : List ℕ). take k text ++ x) (sym ended.0)
    ∙ sym c.loop-end.invariant.run_is

pub returns-clause-after : goal.returns-clause-after
returns-clause-after c =
    let text = c.args.text.now in
    let k = c.loop-end.end in
    let ended : (first_run (drop k text) ≡ []) × (after_run (drop k text) ≡ drop k text) = elim c.loop-end-test.branch [
      | then-loop-end-test+else-not-is_separator w ↦ ended_within text k w.loop-end-test.true (sym w.if-not-is_separator.ensures)
      | else-loop-end-test w ↦ ended_past text k w.loop-end-test.false
    ] in
    c.split_at.ensures.back ∙ sym ended.1 ∙ sym c.loop-end.invariant.left
