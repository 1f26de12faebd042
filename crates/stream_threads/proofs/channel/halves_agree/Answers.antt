use Rattle.std.proofs.Common.{◌++◌, ap, sym, ◌∙◌}
use Rattle.rtrb.specs.Ring.{sent, received, known_items}
use Rattle.stream_threads.proofs.Through.{came_by}
use Rattle.stream_threads.proofs.channel.halves_agree.Goals as goal

pub returns-clause-beginning : goal.returns-clause-beginning
returns-clause-beginning c =
    let beside = c.slots_beside.ensures in
    let known = known_items c.slots_beside.new.self in
    (known, sym (ap (λ u. u ++ known) (sym beside.looked.1) ∙ (beside.fifo ∙ beside.producer.1)))

pub returns-clause-same : goal.returns-clause-same
returns-clause-same c =
    let beside = c.slots_beside.ensures in
    let known = known_items c.slots_beside.new.self in
    came_by (sent c.args.producer.now) (received c.args.consumer.now) known
    (ap (λ u. u ++ known) (sym beside.looked.1) ∙ (beside.fifo ∙ beside.producer.1))
