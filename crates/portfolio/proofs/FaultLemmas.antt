-- The faults of a run with threads.
use Rattle.std.proofs.Common.{◌≡◌, ℕ, ◌+◌, ◌<◌, ◌≤◌, List, Result, Err, Ok, ap, length, refl, subst, take}
use Rattle.std.specs.Prelude.{◌↔◌}
use Rattle.std.specs.Result.{IsErrAnd}
use Rattle.lrup_model.specs.Formula.{Cnf}
use Rattle.lrup_model.specs.Layout.{IsFault, IsLayout, IsStream, LayoutValue}
use Rattle.lrup_model.specs.Pass.{AreSynced, View}
use Rattle.lrup_model.specs.declared.layout.LayoutFault.{LayoutFault}
use Rattle.lrup_text.specs.ReadOut.{SourceView}
use Rattle.clause_store.specs.Passes.{AreOf, ShareHistory, StoreValue, views}
use Rattle.stream_check.specs.Streams.{RunParamsValue}
use Rattle.stream_threads.specs.Faults.{IsFaultOf}
use Rattle.stream_threads.specs.Jobs.{StreamJobsValue, StreamResultsValue}
use Rattle.stream_threads.specs.declared.stream_jobs.ThreadFault.{ThreadFault}
use Rattle.stream_threads.specs.declared.stream_jobs.ThreadFault.TheVariants as thread_faults
use Rattle.run_outcome.specs.RingStops.{StopsAtRing}
use Rattle.run_outcome.specs.declared.outcome.RunFault.{RunFault}
use Rattle.run_outcome.specs.declared.outcome.RunFault.TheVariants.{Layout, Ring, Spawn}
use Rattle.run_outcome.specs.lemmas.RunLemmas.{no_fault}
use Rattle.portfolio.proofs.ConsistencyLemmas.{IsBegun, begin_take, can_begin, found_of, stops_at_ring, stream_within}

-- if there is a layout, a result that isn't a layout fault is right
pub no_layout_fault : {T : Type 0} (p : LayoutValue) → IsLayout p → (result : Result T RunFault)
    → ((fault : LayoutFault) → result ≡ Err (Layout fault) → ⊥) → (fault : LayoutFault)
    → (result ≡ Err (Layout fault)) ↔ IsFault p fault
no_layout_fault p is result other fault = ((λ e. absurd (other fault e)), (λ bad. absurd (no_fault p fault is bad)))

-- `?` returns only the fault that occurred
pub no_other : {T U : Type 0} (result : Result T RunFault) (fault other : RunFault) → IsErrAnd result (λ e. e ≡ fault)
    → (Path (Result U RunFault) (Err fault) (Err other) → ⊥) → result ≡ Err other → ⊥
no_other (Ok value) fault other is differ same = absurd is
no_other (Err e) fault other is differ same = let this : fault ≡ other = cc in differ (ap Err this)

-- The fault of a run, from the fault of its threads.
module _ {S : Type 0} (view : SourceView S) where
  -- the run's fault isn't a layout fault
  pub not_layout_of : (fault : ThreadFault S) (result : RunFault) (bad : LayoutFault)
      → ((stream : ℕ) → fault ≡ thread_faults.Spawn stream → result ≡ Spawn stream)
      → ((found : StreamResultsValue S) → fault ≡ thread_faults.Ring found → result ≡ Ring (length found.passes + 1))
      → result ≡ Layout bad → ⊥
  not_layout_of (thread_faults.Spawn n) result bad spawn ring is = let this = spawn n refl in cc
  not_layout_of (thread_faults.Ring found) result bad spawn ring is = let this = ring found refl in cc

  -- the stream whose thread couldn't be started is a stream of the layout
  pub spawn_within : {f : Cnf} {run_params : RunParamsValue} {store : StoreValue} {firsts : List S} {js : List (StreamJobsValue S)}
      → IsBegun f run_params store firsts js → (fault : ThreadFault S) (result : RunFault) (stream : ℕ) → IsFaultOf view js fault
      → ((stream : ℕ) → fault ≡ thread_faults.Spawn stream → result ≡ Spawn stream)
      → ((found : StreamResultsValue S) → fault ≡ thread_faults.Ring found → result ≡ Ring (length found.passes + 1))
      → result ≡ Spawn stream → IsStream run_params.layout stream
  spawn_within {js = js} begun (thread_faults.Spawn n) result stream so spawn ring is =
      let this = spawn n refl in
      let here : n ≡ stream = cc in
      stream_within view begun stream (subst (λ s. (0 < s) × (s ≤ length js)) here so)
  spawn_within begun (thread_faults.Ring found) result stream so spawn ring is = absurd (let this = ring found refl in cc)

  -- if a stream's ring stopped the run, the passes of the earlier streams belong to the store
  pub before_of : {f : Cnf} {run_params : RunParamsValue} {store : StoreValue} {firsts : List S} {js : List (StreamJobsValue S)}
      → IsBegun f run_params store firsts js → (fault : ThreadFault S) → IsFaultOf view js fault → (found : StreamResultsValue S)
      → fault ≡ thread_faults.Ring found → AreOf store found.passes
  before_of {js = js} begun fault so found is =
      let n = length found.passes in
      found_of view _ (take n js) found (begin_take view _ n js (can_begin view begun)) (subst (IsFaultOf view js) is so).0

  pub ring_stops : {f : Cnf} {run_params : RunParamsValue} {store : StoreValue} {firsts : List S} {js : List (StreamJobsValue S)}
      → IsBegun f run_params store firsts js → (fault : ThreadFault S) (result : RunFault) (stream : ℕ) → IsFaultOf view js fault
      → ((stream : ℕ) → fault ≡ thread_faults.Spawn stream → result ≡ Spawn stream)
      → ((found : StreamResultsValue S) → fault ≡ thread_faults.Ring found → result ≡ Ring (length found.passes + 1))
      → ((found : StreamResultsValue S) → fault ≡ thread_faults.Ring found
      → (met : List View) × AreSynced (views found.passes) met × ShareHistory met)
      → result ≡ Ring stream → StopsAtRing view f run_params firsts stream
  ring_stops begun (thread_faults.Spawn n) result stream so spawn ring meet is = absurd (let this = spawn n refl in cc)
  ring_stops begun (thread_faults.Ring found) result stream so spawn ring meet is =
      let this = ring found refl in
      let here : length found.passes + 1 ≡ stream = cc in
      let met = meet found refl in
      stops_at_ring view begun found met.0 met.1 met.2 so stream here
