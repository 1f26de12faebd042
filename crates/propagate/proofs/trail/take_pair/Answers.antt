use Rattle.std.proofs.Common.{◌*◌, ◌+◌, ◌∙◌}
use Rattle.std.proofs.lemmas.Bool.{iff_false}
use Rattle.propagate.proofs.TakenLemmas.{AreTaken-next, AreTaken-second, AreTaken-single, unmarked-next}
use Rattle.propagate.proofs.trail.take_pair.Goals as goal

pub returns-in-Some-clause-yes : goal.returns-in-Some-clause-yes
returns-in-Some-clause-yes c = λ before d i at at' are yes.
    let one = AreTaken-next before c.args.marks.now c.take_mark.new.marks d (2 * i) c.args.first at are
    (c.take_mark.ensures.found.0 c.if-take_mark.true) c.take_mark.ensures.left in
    AreTaken-second before c.take_mark.new.marks c.take_mark-in-Some.new.marks d i c.in-Some.second (at' ∙ c.in-Some.is) one
    (c.take_mark-in-Some.ensures.found.0 yes) c.take_mark-in-Some.ensures.left

pub returns-in-Some-clause-no : goal.returns-in-Some-clause-no
returns-in-Some-clause-no c = λ before d i once at at' are no.
    let one = AreTaken-next before c.args.marks.now c.take_mark.new.marks d (2 * i) c.args.first at are
    (c.take_mark.ensures.found.0 c.if-take_mark.true) c.take_mark.ensures.left in
    unmarked-next before c.take_mark.new.marks d (2 * i + 1) c.in-Some.second once (at' ∙ c.in-Some.is) one
    (iff_false c.take_mark-in-Some.ensures.found no)

pub returns-in-None-clause-yes : goal.returns-in-None-clause-yes
returns-in-None-clause-yes c = λ before d i at at' are yes.
    let one = AreTaken-next before c.args.marks.now c.take_mark.new.marks d (2 * i) c.args.first at are
    (c.take_mark.ensures.found.0 c.if-take_mark.true) c.take_mark.ensures.left in
    AreTaken-single before c.take_mark.new.marks d i (at' ∙ c.in-None.is) one

pub returns-else-take_mark-clause-no : goal.returns-else-take_mark-clause-no
returns-else-take_mark-clause-no c = λ before d i once at at' are no.
    unmarked-next before c.args.marks.now d (2 * i) c.args.first once at are (iff_false c.take_mark.ensures.found no)
