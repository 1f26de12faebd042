use Rattle.std.proofs.Common.{◌≡◌, ◌<◌, ◌-◌, ◌∙◌, ℕ, List, [], None, Some, length, sym, ap, subst, take, drop, arith}
use Rattle.std.specs.Io.KnownBytes.{Consumes}
use Rattle.std.specs.Vec.{with_items}
use Rattle.std.proofs.lemmas.List.{length-take-le, with_items_is}
use Rattle.std.proofs.KnownBytes.{Consumes-nil, Consumes-kept}
use Rattle.lrup_text.specs.declared.device.StreamEnd.TheVariants as stream_ends
use Rattle.lrup_text.specs.ReadOut.{EndsSo}
use Rattle.stream_check.specs.Readings.{readers_view}
use Rattle.stream_turns.specs.internal.Working.{WorkerValue, WorkerStep}
use Rattle.stream_turns.proofs.WorkingLemmas.{worker_of, worker_read, worker_finished, none_between}
use Rattle.stream_turns.proofs.worker.Worker.read.Goals as goal

pub read-requires : goal.read-requires
read-requires g c = c.self.invariant.running (ap (λ (v : WorkerValue g.row.R.Denot). v.checker.ending) c.self.view_is ∙ c.requires)

pub returns-in-Ok-eq0-clause-holds : goal.returns-in-Ok-eq0-clause-holds
returns-in-Ok-eq0-clause-holds g c room =
    let w = c.self.inside in
    let old = g.R.Source.left w.reader in
    let new = g.R.Source.left c.read.new.self in
    let has = g.R.Source.has_failed c.read.new.self in
    let view = readers_view g.R.Source in
    let reader = c.read.new.self in
    let rest = take (w.to - w.from) (drop w.from (with_items w.buffer c.read.new.buffer).items) in
    let read = c.in-Ok-eq0.ensures.bytes in
    let going : w.checker.ending ≡ None = ap (λ (v : WorkerValue g.row.R.Denot). v.checker.ending) c.self.view_is ∙ c.requires in
    let taken : take (w.to - w.from) (drop w.from w.buffer.items) ≡ [] = none_between w.buffer.items w.from w.to c.if-self.false in
    let none : Consumes old new [] = subst (Consumes old new) (ap (λ k. take k c.read.new.buffer) c.in-Ok-eq0.field-0-test) read.0 in
    let some : 0 < length c.read.new.buffer =
    omega (arith, c.read.auto.buffer, ap length c.deref_mut.ensures.value, c.self.invariant.some) in
    let last = subst (λ (k : ℕ). view.reads w.reader (length c.read.new.buffer) (Some (take k c.read.new.buffer)) reader)
    c.in-Ok-eq0.field-0-test c.in-Ok-eq0.ensures.reads in
    let stops : EndsSo stream_ends.Ended new has = (read.1 c.in-Ok-eq0.field-0-test some, c.in-Ok-eq0.ensures.failed) in
    let finished = worker_finished view stream_ends.Ended w.reader reader _ rest w.checker c.finish.new.self room stops
    (length c.read.new.buffer, some, last) none taken going c.finish.ensures.ends c.finish.ensures.reports in
    subst (λ (v : WorkerValue g.row.R.Denot). WorkerStep view v room [] (worker_of reader rest c.finish.new.self) room)
    c.self.view_is finished

pub returns-in-Ok-clause-holds : goal.returns-in-Ok-clause-holds
returns-in-Ok-clause-holds g c room =
    let w = c.self.inside in
    let old = g.R.Source.left w.reader in
    let new = g.R.Source.left c.read.new.self in
    let has = g.R.Source.has_failed c.read.new.self in
    let view = readers_view g.R.Source in
    let reader = c.read.new.self in
    let going : w.checker.ending ≡ None = ap (λ (v : WorkerValue g.row.R.Denot). v.checker.ending) c.self.view_is ∙ c.requires in
    let taken : take (w.to - w.from) (drop w.from w.buffer.items) ≡ [] = none_between w.buffer.items w.from w.to c.if-self.false in
    let piece = take (c.in-Ok.count - 0) (with_items w.buffer c.read.new.buffer).items in
    let same = with_items_is w.buffer c.read.new.buffer (c.read.auto.buffer ∙ c.deref_mut.ensures.len) in
    let count : c.in-Ok.count - 0 ≡ c.in-Ok.count = omega arith in
    let is : piece ≡ take c.in-Ok.count c.read.new.buffer = ap (take (c.in-Ok.count - 0)) same ∙ ap (λ k. take k c.read.new.buffer) count in
    let given = subst (Consumes old new) (sym is) c.in-Ok.ensures.bytes.0 in
    let gave = subst (λ (t : List ℕ). view.reads w.reader (length c.read.new.buffer) (Some t) reader) (sym is) c.in-Ok.ensures.reads in
    let long = length-take-le c.in-Ok.count c.read.new.buffer c.in-Ok.ensures.bound in
    let test = c.in-Ok.count-test in
    let some : 0 < length piece = omega (arith, ap length is, long) in
    let more = worker_read view w.reader reader _ piece (length c.read.new.buffer) w.checker room given gave some taken going in
    subst (λ (v : WorkerValue g.row.R.Denot). WorkerStep view v room [] (worker_of reader piece w.checker) room) c.self.view_is more

pub returns-in-Err-clause-holds : goal.returns-in-Err-clause-holds
returns-in-Err-clause-holds g c room =
    let w = c.self.inside in
    let old = g.R.Source.left w.reader in
    let new = g.R.Source.left c.read.new.self in
    let has = g.R.Source.has_failed c.read.new.self in
    let view = readers_view g.R.Source in
    let reader = c.read.new.self in
    let rest = take (w.to - w.from) (drop w.from (with_items w.buffer c.read.new.buffer).items) in
    let going : w.checker.ending ≡ None = ap (λ (v : WorkerValue g.row.R.Denot). v.checker.ending) c.self.view_is ∙ c.requires in
    let taken : take (w.to - w.from) (drop w.from w.buffer.items) ≡ [] = none_between w.buffer.items w.from w.to c.if-self.false in
    let none = Consumes-kept old old new [] (Consumes-nil old) c.in-Err.ensures.bytes in
    let finished = worker_finished view stream_ends.Failed w.reader reader _ rest w.checker c.finish-in-Err.new.self room
    c.in-Err.ensures.failed
    (length c.read.new.buffer, c.in-Err.ensures.reads) none taken going c.finish-in-Err.ensures.ends c.finish-in-Err.ensures.reports in
    subst (λ (v : WorkerValue g.row.R.Denot). WorkerStep view v room [] (worker_of reader rest c.finish-in-Err.new.self) room)
    c.self.view_is finished
