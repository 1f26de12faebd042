use Rattle.lrup_model.specs.Clause.{Has}
use Rattle.dimacs.proofs.SetLemmas.{EachOnce-push, MarksAre-push, AddsLiteral-push}
use Rattle.dimacs.proofs.open_clause.add_marked.Goals as goal

pub returns-clause-marks : goal.returns-clause-marks
returns-clause-marks c =
    rw c.in_ok-push.ensures.items
    (MarksAre-push c.args.marks.now c.set_mark.new.words c.args.literals.now.items c.args.l c.set_mark.ensures c.requires.marks)

pub returns-clause-each_once : goal.returns-clause-each_once
returns-clause-each_once c =
    let other : ¬ Has c.args.literals.now.items c.args.l =
    λ has. let wrong = c.if-has_mark.ensures.1 ((c.requires.marks c.args.l).1 has) in cc in
    rw c.in_ok-push.ensures.items (EachOnce-push c.args.literals.now.items c.args.l c.requires.each_once other)

pub returns-clause-ok : goal.returns-clause-ok
returns-clause-ok c =
    let other : ¬ Has c.args.literals.now.items c.args.l =
    λ has. let wrong = c.if-has_mark.ensures.1 ((c.requires.marks c.args.l).1 has) in cc in
    rw c.in_ok-push.ensures.items (AddsLiteral-push c.args.literals.now.items c.args.l c.requires.each_once other)
