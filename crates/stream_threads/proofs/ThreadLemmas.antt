-- What the threads of a stream returned, and lists of such results.
use Rattle.std.proofs.Common.{◌≡◌, ◌++◌, ◌+◌, ◌∙◌, ℕ, List, [], ◌∷◌, Option, Some, None, IfSome, Result, Ok}
use Rattle.std.specs.Prelude.{IsSomeAnd, MatchResult, slice_get}
use Rattle.std.specs.List.{AllByRecursion}
use Rattle.std.proofs.Common.{length, map, take, refl, sym, ap, subst, arith, append_assoc, append-nil}
use Rattle.std.proofs.Math.Seq.{take-append_seam}
use Rattle.std.proofs.lemmas.List.{length-map, map-append, nil_from_length}
use Rattle.std.specs.declared.vec.IntoIter.{IntoIter}
use Rattle.std.specs.Vec.Iter.{into_iter_items, into_iter_len}
use Rattle.lrup_model.specs.Event.{History}
use Rattle.clause_store.specs.Passes.{PassValue}
use Rattle.clause_store.specs.Desks.{desk_caller_view, DeskMoves}
use Rattle.clause_store.specs.declared.desk.Desk.{Desk}
use Rattle.stream_check.specs.declared.report.Report.{Report}
use Rattle.stream_check.specs.CheckerValue.{CheckerValue}
use Rattle.stream_check.specs.DroppedIdsValue.{DroppedIdsValue}
use Rattle.stream_check.specs.Judging.{joined}
use Rattle.stream_threads.specs.Judged.{JudgesAtMark}
use Rattle.lrup_text.specs.ReadOut.{SourceView}
use Rattle.stream_threads.specs.Faults.{IsFaultOf}
use Rattle.stream_threads.specs.internal.Workers.{JudgesAtPass, StartedValue, started_with}
use Rattle.stream_threads.specs.Jobs.{AllFinish, AreResults, AreJobs, Finishes, IsJob, MissesMark, StreamJobsValue, StreamResultValue}
use Rattle.stream_threads.specs.Jobs.{StreamResultsValue}
use Rattle.stream_threads.specs.internal.Workers.{more_results, no_results}
use Rattle.stream_threads.specs.declared.stream_jobs.ThreadFault.TheVariants.{Ring}
use Rattle.stream_check.specs.lemmas.EachLemmas.{zip_count}
use Rattle.stream_check.specs.Streams.{RunParamsValue}

-- what was judged at a desk was judged with the desk's pass
pub judged_at : (v : CheckerValue) (old new : Desk) (from to : PassValue) (items : List ℕ) (dropped : DroppedIdsValue)
    (report : Option Report)
    → old.pass ≡ from → to ≡ new.pass
    → IfSome report (λ r. (blocks : List History) × DeskMoves old new (joined blocks)
    × JudgesAtMark v (desk_caller_view old).room items blocks dropped r)
    → IfSome report (JudgesAtPass v from to items dropped)
judged_at v old new from to items dropped None first last judged = tt
judged_at v old new from to items dropped (Some r) first last judged =
    subst (λ (p : PassValue). JudgesAtPass v p to items dropped r) first
    (subst (λ (q : PassValue). JudgesAtPass v old.pass q items dropped r) (sym last)
    (record { store = judged.1.store; blocks = judged.0; moves = judged.1.moves; judged = judged.2 }))

-- if an element moves from the front of one list to the end of another, the two lists together stay
-- the same
pub moved_more : {A : Type 0} (done before rest all new : List A) (x : A) → before ≡ x ∷ rest → new ≡ done ++ x ∷ [] → done ++ before ≡ all
    → new ++ rest ≡ all
moved_more done before rest all new x taken pushed whole =
    ap (λ xs. xs ++ rest) pushed ∙ append_assoc done (x ∷ []) rest ∙ ap (λ xs. done ++ xs) (sym taken) ∙ whole

-- the job and the result of one more stream can be appended
finish_more : {S : Type 0} (view : SourceView S) (jobs : List (StreamJobsValue S)) (found : List (StreamResultValue S))
    (job : StreamJobsValue S) (one : StreamResultValue S)
    → AllFinish view jobs found → Finishes view job one → AllFinish view (jobs ++ job ∷ []) (found ++ one ∷ [])
finish_more view [] [] job one all here = (here, tt)
finish_more view [] (f ∷ found) job one all here = absurd all
finish_more view (j ∷ jobs) [] job one all here = absurd all
finish_more view (j ∷ jobs) (f ∷ found) job one all here = (all.0, finish_more view jobs found job one all.1 here)

pub found_more : {S : Type 0} (view : SourceView S) (jobs : List (StreamJobsValue S)) (old : StreamResultsValue S)
    (job : StreamJobsValue S) (one : StreamResultValue S)
    → AreResults view jobs old → Finishes view job one → AreResults view (jobs ++ job ∷ []) (more_results old one)
found_more {S} view jobs old job one all here = record {
  found = all.found ++ one ∷ [];
  finish = finish_more view jobs all.found job one all.finish here;
  reports = pushed (λ f. f.report) all.reports;
  readers = pushed (λ f. f.reader) all.readers;
  passes = pushed (λ f. f.pass) all.passes;
  dropped = pushed (λ f. f.dropped) all.dropped;
}
  where
    pushed : {X : Type 0} {parts : List X} (part : StreamResultValue S → X) → parts ≡ map part all.found
        → parts ++ part one ∷ [] ≡ map part (all.found ++ one ∷ [])
    pushed {X} part are = ap (λ (xs : List X). xs ++ part one ∷ []) are ∙ sym (map-append part all.found (one ∷ []))

-- if there are no jobs, the empty list of results is right
pub none_found : {S : Type 0} (view : SourceView S) (jobs : List (StreamJobsValue S)) (room : ℕ) (found : StreamResultsValue S)
    → length jobs ≡ 0 → found ≡ no_results room → AreResults view jobs found
none_found view [] room found none is =
    subst (AreResults view []) (sym is)
    (record { found = []; finish = tt; reports = refl; readers = refl; passes = refl; dropped = refl })
none_found view (j ∷ jobs) room found none is = cc

-- the element after a prefix has the prefix's length as its index
following : {A : Type 0} (before after : List A) (x : A) → slice_get (before ++ x ∷ after) (length before) ≡ Some x
following [] after x = refl
following (b ∷ before) after x = following before after x

pub ring_after : {S : Type 0} (view : SourceView S) (before after jobs : List (StreamJobsValue S)) (job : StreamJobsValue S)
    (found : StreamResultsValue S)
    → AreResults view before found → MissesMark view job.reader → before ++ job ∷ after ≡ jobs → IsFaultOf view jobs (Ring found)
ring_after {S} view before after jobs job found all missed whole =
    let count : length before ≡ length found.passes =
    sym (ap length all.passes ∙ length-map all.found (λ one. one.pass) ∙ zip_count (Finishes view) before all.found all.finish) in
    subst (λ js. IsFaultOf view js (Ring found)) whole (
      subst (λ (n : ℕ). AreResults view (take n (before ++ job ∷ after)) found) count
          (subst (λ js. AreResults view js found) (sym (take-append_seam before (job ∷ after))) all),
      subst (λ (n : ℕ). IsSomeAnd (slice_get (before ++ job ∷ after) n) (λ j. MissesMark view j.reader)) count
          (subst (λ one. IsSomeAnd one (λ j. MissesMark view j.reader)) (sym (following before after job)) missed),
    )

-- ---- the jobs of all streams

jobs_more : {S : Type 0} (run_params : RunParamsValue) (k : ℕ) (readers : List S) (ps : List PassValue) (js : List (StreamJobsValue S))
    (reader : S)
    (p : PassValue) (j : StreamJobsValue S)
    → AreJobs run_params k readers ps js → IsJob run_params (k + length js) reader p j
    → AreJobs run_params k (readers ++ reader ∷ []) (ps ++ p ∷ []) (js ++ j ∷ [])
jobs_more run_params k [] [] [] reader p j all here =
    let place : k + 0 ≡ k = omega arith in (subst (λ s. IsJob run_params s reader p j) place here, tt)
jobs_more run_params k [] [] (i ∷ js) reader p j all here = absurd all
jobs_more run_params k [] (q ∷ ps) js reader p j all here = absurd all
jobs_more run_params k (e ∷ readers) [] js reader p j all here = absurd all
jobs_more run_params k (e ∷ readers) (q ∷ ps) [] reader p j all here = absurd all
jobs_more run_params k (e ∷ readers) (q ∷ ps) (i ∷ js) reader p j all here =
    let place : k + length (i ∷ js) ≡ k + 1 + length js = omega arith in
    (all.0, jobs_more run_params (k + 1) readers ps js reader p j all.1 (subst (λ s. IsJob run_params s reader p j) place here))

-- the jobs of one more stream can be appended
pub jobs_pushed : {S X : Type 0} (run_params : RunParamsValue) (s : ℕ) (read : X → S) (pass : X → PassValue) (xs : List X) (x : X)
    (js new : List (StreamJobsValue S)) (j : StreamJobsValue S)
    → new ≡ js ++ j ∷ [] → s ≡ length js + 1 → AreJobs run_params 1 (map read xs) (map pass xs) js → IsJob run_params s (read x) (pass x) j
    → AreJobs run_params 1 (map read (xs ++ x ∷ [])) (map pass (xs ++ x ∷ [])) new
jobs_pushed {S} {X} run_params s read pass xs x js new j pushed place all here =
    let next : s ≡ 1 + length js = omega (arith, place) in
    subst (AreJobs run_params 1 (map read (xs ++ x ∷ [])) (map pass (xs ++ x ∷ []))) (sym pushed)
    (subst (λ (rs : List S). AreJobs run_params 1 rs (map pass (xs ++ x ∷ [])) (js ++ j ∷ [])) (sym (map-append read xs (x ∷ [])))
    (subst (λ (ps : List PassValue). AreJobs run_params 1 (map read xs ++ read x ∷ []) ps (js ++ j ∷ []))
    (sym (map-append pass xs (x ∷ [])))
    (jobs_more run_params 1 (map read xs) (map pass xs) js (read x) (pass x) j all
    (subst (λ k. IsJob run_params k (read x) (pass x) j) next here))))

-- an iterator with no step left has no item left
pub none_to_come : {A Z : Type 0} (s : IntoIter A Z) → into_iter_len s ≡ 0 → into_iter_items s ≡ []
none_to_come s none = nil_from_length s.rest.items (sym s.rest.ok.0 ∙ none)

-- once no reader and no pass is left, these are the jobs of all streams
pub jobs_whole : {S : Type 0} (run_params : RunParamsValue) (rs readers more : List S) (ps passes others : List PassValue)
    (js : List (StreamJobsValue S))
    → AreJobs run_params 1 rs ps js → rs ++ more ≡ readers → ps ++ others ≡ passes → more ≡ [] → others ≡ []
    → AreJobs run_params 1 readers passes js
jobs_whole {S} run_params rs readers more ps passes others js all first second none no_more =
    let here : rs ≡ readers = sym (append-nil rs) ∙ ap (λ xs. rs ++ xs) (sym none) ∙ first in
    let there : ps ≡ passes = sym (append-nil ps) ∙ ap (λ xs. ps ++ xs) (sym no_more) ∙ second in
    subst (λ (xs : List S). AreJobs run_params 1 xs passes js) here
    (subst (λ (xs : List PassValue). AreJobs run_params 1 rs xs js) there all)

-- ---- threads that wait for a signal

-- all threads wait for the signal with which they were started
pub one_signal : {S : Type 0} (signal : ℕ) (jobs : List (StreamJobsValue S)) (all : List (StartedValue S))
    → all ≡ map (started_with signal) jobs → AllByRecursion (λ one. one.signal ≡ signal) all
one_signal {S} signal jobs all is = subst (AllByRecursion (λ (one : StartedValue S). one.signal ≡ signal)) (sym is) (at jobs)
  where
    at : (js : List (StreamJobsValue S)) → AllByRecursion (λ (one : StartedValue S). one.signal ≡ signal) (map (started_with signal) js)
    at [] = tt
    at (j ∷ js) = (refl, at js)

-- the threads' jobs are those with which they were started
pub jobs_started : {S : Type 0} (signal : ℕ) (jobs : List (StreamJobsValue S)) (all : List (StartedValue S))
    → all ≡ map (started_with signal) jobs → map (λ one. one.jobs) all ≡ jobs
jobs_started {S} signal jobs all is = ap (map (λ (one : StartedValue S). one.jobs)) is ∙ at jobs
  where
    at : (js : List (StreamJobsValue S)) → map (λ (one : StartedValue S). one.jobs) (map (started_with signal) js) ≡ js
    at [] = refl
    at (j ∷ js) = ap (λ (rest : List (StreamJobsValue S)). j ∷ rest) (at js)

-- as many streams were started as there are jobs
pub started_count : {S : Type 0} (signal : ℕ) (jobs : List (StreamJobsValue S)) (all : List (StartedValue S))
    → all ≡ map (started_with signal) jobs → length all ≡ length jobs
started_count signal jobs all is = ap length is ∙ length-map jobs (started_with signal)

-- a thread's promise about its result holds if the thread returned a result
pub if_stayed : {A E : Type 0} (end : Result A E) (P : A → Type 0) (Q : E → Type 0) → MatchResult end P Q
    → (found : A) → end ≡ Ok found → P found
if_stayed end P Q kept found is = subst (λ r. MatchResult r P Q) is kept
