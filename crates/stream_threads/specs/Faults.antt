-- What holds if some stream has no result (this project's own).
use Rattle.std.specs.Prelude.{◌≤◌, ◌<◌, List, IsSomeAnd, length, slice_get, take}
use Rattle.lrup_text.specs.ReadOut.{SourceView}
use Rattle.stream_threads.specs.Jobs.{AreResults, StreamJobsValue, MissesMark}
use Rattle.stream_threads.specs.declared.stream_jobs.ThreadFault.{ThreadFault}
use Rattle.stream_threads.specs.declared.stream_jobs.ThreadFault.TheVariants.{Spawn, Ring}

-- A fault of the threads of these streams. It names one of the streams by number (from 1). For a
-- ring's fault, the streams before the named one have these results, and the named one's mark
-- wasn't received.
abbrev pub IsFaultOf : {S : Type 0} → SourceView S → List (StreamJobsValue S) → ThreadFault S
    → Type 0
IsFaultOf view all (Spawn stream) = (0 < stream) × (stream ≤ length all)
IsFaultOf view all (Ring found) = AreResults view (take (length found.passes) all) found
    × IsSomeAnd (slice_get all (length found.passes)) (λ jobs. MissesMark view jobs.reader)
