use Rattle.std.proofs.Common.{◌*◌, ◌∙◌}
use Rattle.propagate.specs.declared.marks.ClauseStatus.TheVariants.{Nothing}
use Rattle.propagate.proofs.StatusLemmas.{HasStatus-next, HasStatus-second, HasStatus-single}
use Rattle.propagate.proofs.marks.status_with_pair.Goals as goal

pub returns-in-Some : goal.returns-in-Some
returns-in-Some c = λ d i once at at' status.
    let n = c.args.falses.now.literals in
    let one = HasStatus-next n d (2 * i) c.args.first Nothing c.status_with-status.result once at status c.status_with-status.ensures in
    HasStatus-second n d i c.in-Some.second c.status_with-status.result c.status_with.result once (at' ∙ c.in-Some.is) one
    c.status_with.ensures

pub returns-in-None : goal.returns-in-None
returns-in-None c = λ d i once at at' status.
    let n = c.args.falses.now.literals in
    let one = HasStatus-next n d (2 * i) c.args.first Nothing c.status_with-status.result once at status c.status_with-status.ensures in
    HasStatus-single n d i c.status_with-status.result (at' ∙ c.in-None.is) one
