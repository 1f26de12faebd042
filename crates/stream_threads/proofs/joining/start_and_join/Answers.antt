use Rattle.std.proofs.Common.{◌≡◌, ℕ, List, [], length, vec_capacity, vec_len, ◌∙◌, sym, ap, arith, refl, subst, eqb-true}
use Rattle.std.specs.List.{AllByRecursion}
use Rattle.std.specs.Prelude.{IfErr, IfOk}
use Rattle.stream_check.specs.Readings.{readers_view}
use Rattle.stream_threads.specs.Faults.{IsFaultOf}
use Rattle.stream_threads.specs.Jobs.{AreResults, StreamJobsValue, StreamResultsValue}
use Rattle.stream_threads.specs.internal.Workers.{StartedValue}
use Rattle.stream_threads.proofs.ThreadLemmas.{jobs_started, none_found, one_signal, started_count}
use Rattle.stream_threads.proofs.joining.start_and_join.Goals as goal

-- all threads wait for the signal that is set
pub start_all_reading-requires-clause-signal : goal.start_all_reading-requires-clause-signal
start_all_reading-requires-clause-signal g c κs lives =
    one_signal c.lists.inside.signal.now.id c.args.all.items _ c.in_default.ensures.started

pub join_all-requires-clause-signal : goal.join_all-requires-clause-signal
join_all-requires-clause-signal g c =
    let started = c.in_default-start_all_reading.ensures.started ∙ c.in_default.ensures.started in
    subst (λ (signalled : ℕ). AllByRecursion (λ (one : StartedValue g.row.R.Denot). one.signal ≡ signalled)
    c.start_all_reading.new.started.items)
    (sym c.in-Ok.ensures.start.0) (one_signal c.lists.inside.signal.now.id c.args.all.items _ started)

pub join_all-requires-clause-none : goal.join_all-requires-clause-none
join_all-requires-clause-none g c = none_found (readers_view g.R.Source) [] _ c.lists.inside.found refl c.lists.invariant.3

-- there is room for the results of all streams
pub join_all-requires-clause-room : goal.join_all-requires-clause-room
join_all-requires-clause-room g c =
    let started = c.in_default-start_all_reading.ensures.started ∙ c.in_default.ensures.started in
    let count = started_count c.lists.inside.signal.now.id c.args.all.items _ started in
    let size : vec_capacity c.lists.inside.halves ≡ c.args.lists = c.lists.view_is in
    let room = ap (λ (found : StreamResultsValue g.row.R.Denot). found.room) c.lists.invariant.3 in
    omega (arith, c.start_all_reading.new.started.ok.0, count, c.args.all.ok.0, c.requires.room, size, room)

pub returns-in-Err-start_all_reading-clause-fault : goal.returns-in-Err-start_all_reading-clause-fault
returns-in-Err-start_all_reading-clause-fault g c =
    let halves = c.start_all_checking.new.halves in
    let count = started_count c.lists.inside.signal.now.id c.args.all.items halves.items c.in_default.ensures.started in
    let spawn = c.in-Err-start_all_reading.ensures.spawn in
    (spawn.0, omega (arith, spawn.1, halves.ok.0, count))

pub returns-then-is_empty-clause-found : goal.returns-then-is_empty-clause-found
returns-then-is_empty-clause-found g c =
    let all = c.start_all_reading.new.started in
    let started = c.in_default-start_all_reading.ensures.started ∙ c.in_default.ensures.started in
    let count = started_count c.lists.inside.signal.now.id c.args.all.items all.items started in
    let empty : vec_len all ≡ 0 = eqb-true (vec_len all) 0 (sym c.is_empty.ensures ∙ c.if-is_empty.true) in
    let none : length c.args.all.items ≡ 0 = omega (arith, count, all.ok.0, empty) in
    none_found (readers_view g.R.Source) c.args.all.items _ c.lists.inside.found none c.lists.invariant.3

pub returns-clause-found : goal.returns-clause-found
returns-clause-found g c =
    let started = c.in_default-start_all_reading.ensures.started ∙ c.in_default.ensures.started in
    subst (λ (jobs : List (StreamJobsValue g.row.R.Denot)). IfOk c.join_all.result (AreResults (readers_view g.R.Source) jobs))
    (jobs_started c.lists.inside.signal.now.id c.args.all.items _ started) c.join_all.ensures.found

pub returns-clause-fault : goal.returns-clause-fault
returns-clause-fault g c =
    let started = c.in_default-start_all_reading.ensures.started ∙ c.in_default.ensures.started in
    subst (λ (jobs : List (StreamJobsValue g.row.R.Denot)). IfErr c.join_all.result (IsFaultOf (readers_view g.R.Source) jobs))
    (jobs_started c.lists.inside.signal.now.id c.args.all.items _ started) c.join_all.ensures.fault
