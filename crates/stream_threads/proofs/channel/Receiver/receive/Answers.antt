use Rattle.std.proofs.Common.{rules, ◌≡◌, ◌<◌, ◌≤◌, ◌-◌, length, nat_eq, slice_index_or, drop}
use Rattle.rtrb.specs.Ring.{received}
use Rattle.stream_threads.specs.Items.{end_of_mark}
use Rattle.stream_threads.proofs.Through.{byte_is_last, ends_there}
use Rattle.stream_threads.proofs.channel.Receiver.receive.Goals as goal

pub returns-clause-mark : goal.returns-clause-mark
returns-clause-mark g c = λ count end e.
    let n = c.pop_some-count.result in
    let t = c.pop_some-count.new.items in
    let past = received c.args.self.now.consumer in
    let some : 0 < n = search rules in
    let fits : n ≤ length t = search rules in
    let at : n - 1 ≡ count = cc in
    let is : end_of_mark (slice_index_or t (n - 1) 0) ≡ end = cc in
    rw c.pop_some-count.ensures.received
    (ends_there past t c.narrow.new.bytes (drop n c.args.bytes.now) n count end some fits (search rules) c.narrow.ensures at is)

pub returns-clause-no_mark : goal.returns-clause-no_mark
returns-clause-no_mark g c = λ count e.
    let n = c.pop_some-count.result in
    let t = c.pop_some-count.new.items in
    let past = received c.args.self.now.consumer in
    let some : 0 < n = search rules in
    let fits : n ≤ length t = search rules in
    rw c.pop_some-count.ensures.received (byte_is_last past t n some fits (search rules))
