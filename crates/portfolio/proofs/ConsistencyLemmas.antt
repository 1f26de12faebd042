-- The one history of a run with threads, and what it says about the reports.
use Rattle.std.proofs.Common.{◌≡◌, ℕ, zero, suc, ◌+◌, ◌-◌, ◌<◌, ◌≤◌, true, List, [], ◌∷◌, ◌++◌, length, map}
use Rattle.std.proofs.Common.{take}
use Rattle.std.proofs.Common.{Some, refl, sym, ap, ap₂, subst, ◌∙◌, arith, append-nil}
use Rattle.std.specs.Prelude.{IsSome, IsSomeAnd, Option, None, slice_get}
use Rattle.std.specs.List.{AllByRecursion, AllZip}
use Rattle.std.proofs.lemmas.List.{length-take-le}
use Rattle.std.proofs.lemmas.Option.{slice_get_within}
use Rattle.lrup_model.specs.Event.{History, own, spent}
use Rattle.lrup_model.specs.Formula.{Cnf}
use Rattle.lrup_model.specs.History.{IsLegal}
use Rattle.lrup_model.specs.lemmas.HistoryLemmas.{opening-owned}
use Rattle.lrup_model.specs.Layout.{LayoutValue, IsLayout, IsStream, Fits, Owns}
use Rattle.lrup_model.specs.Pass.{View, IsFair, PassMoves, AreSynced, AllSaw, pass_caller_view}
use Rattle.lrup_model.specs.CallerView.{Caller}
use Rattle.lrup_model.specs.State.{state}
use Rattle.clause_store.specs.Passes.{StoreValue, PassValue, IsOpened, AreOf, ShareHistory, views}
use Rattle.stream_check.specs.declared.report.Report.{Report}
use Rattle.stream_check.specs.Checker.{checker_state}
use Rattle.stream_check.specs.Judging.{joined}
use Rattle.stream_check.specs.Reaching.{ReachesState}
use Rattle.stream_check.specs.DroppedIdsValue.{DroppedIdsValue}
use Rattle.stream_check.specs.StreamParams.{StreamParams}
use Rattle.stream_check.specs.Dropping.{HasDropped, HaveDropped}
use Rattle.run_outcome.specs.Histories.{AreReadOut, IsRunOf, IsRunOfSome}
use Rattle.run_outcome.specs.RingStops.{StopsAtRing}
use Rattle.stream_check.specs.Each.{Each, EachOfThree}
use Rattle.stream_check.specs.lemmas.EachLemmas.{each_count, each_take, zip_count}
use Rattle.stream_check.specs.lemmas.StreamLemmas.{IsJudgedBy, observed_as_many, observed_count}
use Rattle.stream_check.specs.SequentialConsistency.{HaveOneHistory, AreJudgedIn, seen_by}
use Rattle.stream_threads.specs.Faults.{IsFaultOf}
use Rattle.stream_threads.specs.Jobs.{StreamJobsValue, StreamResultValue, StreamResultsValue, CanBegin, Finishes, AllFinish, AreResults}
use Rattle.stream_threads.specs.Jobs.{AreJobs, IsJob, MissesMark}
use Rattle.stream_threads.specs.declared.stream_jobs.ThreadFault.TheVariants as thread_faults
use Rattle.lrup_text.specs.ReadOut.{SourceView}
use Rattle.stream_check.specs.Readings.{AreRead, IsStreamOf}
use Rattle.stream_check.specs.Streams.{Stream, observations, MatchesInput, JudgesStream, RunParamsValue, stream_params}
use Rattle.portfolio.proofs.DroppingLemmas.{job_drops}

-- ---- the opening

-- the passes of these streams, the first of which is stream s, as the store opened them
abbrev pub AreOpened : StoreValue → Cnf → ℕ → List PassValue → Type 0
AreOpened store f s [] = Unit {0}
AreOpened store f s (p ∷ ps) = IsOpened store f s p × AreOpened store f (s + 1) ps

opened_from : (store : StoreValue) (f : Cnf) (s : ℕ) (ps : List PassValue)
    → ((k : ℕ) (p : PassValue) → slice_get ps k ≡ Some p → IsOpened store f (s + k) p) → AreOpened store f s ps
opened_from store f s [] each = tt
opened_from store f s (p ∷ ps) each =
    let here : s + 0 ≡ s = omega arith in (
      subst (λ (n : ℕ). IsOpened store f n p) here (each 0 p refl),
      opened_from store f (s + 1) ps
          (λ k q at. let next : s + suc k ≡ s + 1 + k = omega arith in subst (λ (n : ℕ). IsOpened store f n q) next (each (suc k) q at)),
    )

-- `AreOpened` holds if the pass at each stream's index is that stream's, as the store opened it
are_opened : (store : StoreValue) (f : Cnf) (p : LayoutValue) (ps : List PassValue) → length ps ≡ p.streams
    → ((s : ℕ) (pass : PassValue) → IsStream p s → slice_get ps (s - 1) ≡ Some pass → IsOpened store f s pass) → AreOpened store f 1 ps
are_opened store f p ps count each = opened_from store f 1 ps (λ k pass at.
    let within : k < length ps = slice_get_within ps k pass at in
    let stream : (0 < 1 + k) × (1 + k ≤ p.streams) = (omega arith, omega arith) in
    let place : k ≡ 1 + k - 1 = omega arith in
    each (1 + k) pass stream (subst (λ (n : ℕ). slice_get ps n ≡ Some pass) place at))

-- ---- the jobs

-- the effect of a pass's calls

-- a pass from its opening to the meeting: it belongs to stream s, and `es` are the calls that were
-- made through it
pub record Ends (f : Cnf) (p : LayoutValue) (s : ℕ) (es : History) (v : View) : Type 0 where
  pub caller : v.caller ≡ record { formula = f; layout = p; stream = s }
  pub mine : v.mine ≡ es
  pub fair : IsFair v

-- in the history that a pass has seen, which is legal, its stream's events are its calls
ends_own : (f : Cnf) (p : LayoutValue) (s : ℕ) (es h : History) (v : View) → Ends f p s es v → v.seen ≡ h → v.mine ≡ own h s
ends_own f p s es h v e saw = sym e.fair.mine ∙ ap₂ (λ (g : History) (n : ℕ). own g n) saw (ap (λ (c : Caller). c.stream) e.caller)

ends_legal : (f : Cnf) (p : LayoutValue) (s : ℕ) (es h : History) (v : View) → Ends f p s es v → v.seen ≡ h → IsLegal f p h
ends_legal f p s es h v e saw = subst (λ (c : Caller). IsLegal c.formula c.layout h) e.caller
    (subst (λ (g : History). IsLegal v.caller.formula v.caller.layout g) saw e.fair.legal)

first_saw : (h : History) (vs : List View) → AllSaw h vs → 0 < length vs → h ≡ seen_by vs
first_saw h [] saw some = absurd (omega arith)
first_saw h (v ∷ vs) saw some = sym saw.0

-- a pass without calls has all its room left
opened_room : (f : Cnf) (p : LayoutValue) (store : StoreValue) (s : ℕ) (q : PassValue) → store.layout ≡ p → IsOpened store f s q
    → p.room ≡ (pass_caller_view q.view).room
opened_room f p store s q same opened =
    let whole : p.room ≡ p.room - 0 = omega arith in
    whole ∙ sym (ap₂ (λ (c : Caller) (m : History). c.layout.room - spent c.stream m) opened.caller opened.mine
    ∙ ap (λ (l : LayoutValue). l.room - 0) same)

-- Each of these streams, the first of which is stream s, is judged as its report says, by the calls
-- of its pass.
abbrev pub AreJudgedBy : RunParamsValue → ℕ → List Stream → List View → List Report → Type 0
AreJudgedBy run_params s streams vs reports =
    EachOfThree (λ t stream v report. IsJudgedBy (stream_params run_params t) stream v.mine report) s streams vs reports

-- if the passes' calls are the streams' own events in the one history, that history judges the
-- streams
judged_in : (run_params : RunParamsValue) (h : History) (s : ℕ) (streams : List Stream) (vs : List View) (reports : List Report)
    → AreJudgedBy run_params s streams vs reports → ((k : ℕ) (v : View) → slice_get vs k ≡ Some v → v.mine ≡ own h (s + k))
    → AreJudgedIn run_params (λ t. true) h s streams reports
judged_in run_params h s [] [] [] judged calls = tt
judged_in run_params h s [] [] (r ∷ rs) judged calls = absurd judged
judged_in run_params h s [] (v ∷ vs) rs judged calls = absurd judged
judged_in run_params h s (t ∷ ts) [] rs judged calls = absurd judged
judged_in run_params h s (t ∷ ts) (v ∷ vs) [] judged calls = absurd judged
judged_in run_params h s (t ∷ ts) (v ∷ vs) (r ∷ rs) judged calls =
    let here : s + 0 ≡ s = omega arith in
    let mine : v.mine ≡ own h s = subst (λ (n : ℕ). v.mine ≡ own h n) here (calls 0 v refl) in (
      λ all. subst (λ (es : History). IsJudgedBy (stream_params run_params s) t es r) mine judged.0,
      judged_in run_params h (s + 1) ts vs rs judged.1
          (λ k w at. let next : s + suc k ≡ s + 1 + k = omega arith in subst (λ (n : ℕ). w.mine ≡ own h n) next (calls (suc k) w at)),
    )

-- the pass is stream s's, it has seen the history, and its calls are the stream's events in it
abbrev HasCalls : Cnf → LayoutValue → History → ℕ → View → Type 0
HasCalls f p h s v = (v.caller ≡ record { formula = f; layout = p; stream = s }) × (v.seen ≡ h) × (v.mine ≡ own h s)

-- ---- readers of one kind

-- the jobs of stream s before its first byte, with the pass that the store opened
abbrev pub HasReadyJobs : {S : Type 0} → StoreValue → Cnf → RunParamsValue → ℕ → S → StreamJobsValue S → Type 0
HasReadyJobs store f run_params s first jobs = IsJob run_params s first jobs.pass jobs × IsOpened store f s jobs.pass

-- the ready jobs of these streams, the first of which is stream s
abbrev pub HaveReadyJobs : {S : Type 0} → StoreValue → Cnf → RunParamsValue → ℕ → List S → List (StreamJobsValue S) → Type 0
HaveReadyJobs store f run_params s firsts all = Each (HasReadyJobs store f run_params) s firsts all

-- a run with these parameters before its threads start: the store, and the jobs of all readers
pub record IsBegun {S : Type 0} (f : Cnf) (run_params : RunParamsValue) (store : StoreValue) (firsts : List S)
    (all : List (StreamJobsValue S)) : Type 0 where
  pub is : IsLayout run_params.layout
  pub fits : Fits run_params.layout f
  pub count : length firsts ≡ run_params.layout.streams
  pub store_is : store.layout ≡ run_params.layout
  pub ready : HaveReadyJobs store f run_params 1 firsts all

module _ {S : Type 0} (view : SourceView S) where
  are_ready : (store : StoreValue) (f : Cnf) (run_params : RunParamsValue) (s : ℕ) (firsts : List S) (ps : List PassValue)
      (js : List (StreamJobsValue S))
      → AreJobs run_params s firsts ps js → AreOpened store f s ps → HaveReadyJobs store f run_params s firsts js
  are_ready store f run_params s [] [] [] all opened = tt
  are_ready store f run_params s [] [] (j ∷ js) all opened = absurd all
  are_ready store f run_params s [] (q ∷ ps) js all opened = absurd all
  are_ready store f run_params s (e ∷ es) [] js all opened = absurd all
  are_ready store f run_params s (e ∷ es) (q ∷ ps) [] all opened = absurd all
  are_ready store f run_params s (e ∷ es) (q ∷ ps) (j ∷ js) all opened = (
    (
      record { reader_is = all.0.reader_is; checker = all.0.checker; pass = refl },
      subst (IsOpened store f s) (sym all.0.pass) opened.0,
    ),
    are_ready store f run_params (s + 1) es ps js all.1 opened.1,
  )

  -- the jobs of a run are ready with the passes that its store opened
  pub run_ready : {store : StoreValue} {f : Cnf} {n : ℕ} (run_params : RunParamsValue) (p : LayoutValue) (firsts : List S)
      (passes : List PassValue) (js : List (StreamJobsValue S)) → n ≡ length passes → n ≡ p.streams
      → ((s : ℕ) (pass : PassValue) → IsStream p s → slice_get passes (s - 1) ≡ Some pass → IsOpened store f s pass)
      → AreJobs run_params 1 firsts passes js → HaveReadyJobs store f run_params 1 firsts js
  run_ready {store = store} {f = f} run_params p firsts passes js are count opened jobs =
      are_ready store f run_params 1 firsts passes js jobs (are_opened store f p passes (sym are ∙ count) opened)

  -- before any call, the first byte may be taken
  ready_can : (f : Cnf) (run_params : RunParamsValue) (store : StoreValue) (s : ℕ) (first : S) (j : StreamJobsValue S)
      → Fits run_params.layout f → store.layout ≡ run_params.layout → HasReadyJobs store f run_params s first j → CanBegin store j
  ready_can f run_params store s first j fits same ready =
      let opened = ready.1 in
      let params = ready.0.checker.params in
      let layout : j.pass.view.caller.layout ≡ run_params.layout = ap (λ (c : Caller). c.layout) opened.caller ∙ same in
      let stream : j.pass.view.caller.stream ≡ s = ap (λ (c : Caller). c.stream) opened.caller in
      let formula : j.pass.view.caller.formula ≡ f = ap (λ (c : Caller). c.formula) opened.caller in
      record {
        here = opened.store;
        ready = record {
          at = record {
            layout = layout ∙ sym (ap (λ (c : StreamParams). c.layout) params);
            stream = stream ∙ sym (ap (λ (c : StreamParams). c.stream) params);
          };
          vacant = λ id owns above.
              let here = subst (λ (n : ℕ). Owns run_params.layout n id) stream
              (subst (λ (q : LayoutValue). Owns q j.pass.view.caller.stream id) layout owns) in
              ap₂ (λ (g : Cnf) (h : History). state g h id) formula opened.mine ∙ opening-owned f run_params.layout s id fits here;
        };
      }

  pub all_can_begin : (f : Cnf) (run_params : RunParamsValue) (store : StoreValue) → Fits run_params.layout f
      → store.layout ≡ run_params.layout
      → (s : ℕ) (firsts : List S) (js : List (StreamJobsValue S)) → HaveReadyJobs store f run_params s firsts js
      → AllByRecursion (CanBegin store) js
  all_can_begin f run_params store fits same s [] [] ready = tt
  all_can_begin f run_params store fits same s [] (j ∷ js) ready = absurd ready
  all_can_begin f run_params store fits same s (e ∷ es) [] ready = absurd ready
  all_can_begin f run_params store fits same s (e ∷ es) (j ∷ js) ready =
      (ready_can f run_params store s e j fits same ready.0, all_can_begin f run_params store fits same (s + 1) es js ready.1)

  pub ready_count : (store : StoreValue) (f : Cnf) (run_params : RunParamsValue) (s : ℕ) (firsts : List S) (js : List (StreamJobsValue S))
      → HaveReadyJobs store f run_params s firsts js → length js ≡ length firsts
  ready_count store f run_params s firsts js ready = each_count _ s firsts js ready

  -- ---- what was found, and the passes once all have met

  finish_of : (store : StoreValue) (js : List (StreamJobsValue S)) (fs : List (StreamResultValue S))
      → AllByRecursion (CanBegin store) js → AllFinish view js fs → AreOf store (map (λ x. x.pass) fs)
  finish_of store [] [] begin all = tt
  finish_of store [] (x ∷ fs) begin all = absurd all
  finish_of store (j ∷ js) [] begin all = absurd all
  finish_of store (j ∷ js) (x ∷ fs) begin all = (all.0.store ∙ begin.0.here, finish_of store js fs begin.1 all.1)

  pub found_of : (store : StoreValue) (js : List (StreamJobsValue S)) (results : StreamResultsValue S)
      → AllByRecursion (CanBegin store) js → AreResults view js results → AreOf store results.passes
  found_of store js results begin so =
      subst (λ (ps : List PassValue). AreOf store ps) (sym so.passes) (finish_of store js so.found begin so.finish)

  pub begin_take : (store : StoreValue) (n : ℕ) (js : List (StreamJobsValue S)) → AllByRecursion (CanBegin store) js
      → AllByRecursion (CanBegin store) (take n js)
  begin_take store zero [] begin = tt
  begin_take store zero (j ∷ js) begin = tt
  begin_take store (suc n) [] begin = tt
  begin_take store (suc n) (j ∷ js) begin = (begin.0, begin_take store n js begin.1)

  pub finish_count : (js : List (StreamJobsValue S)) (fs : List (StreamResultValue S)) → AllFinish view js fs → length fs ≡ length js
  finish_count js fs all = zip_count (Finishes view) js fs all

  synced_count : (fs : List (StreamResultValue S)) (vs : List View) → AreSynced (views (map (λ x. x.pass) fs)) vs → length vs ≡ length fs
  synced_count [] [] synced = refl
  synced_count [] (v ∷ vs) synced = absurd synced
  synced_count (x ∷ fs) [] synced = absurd synced
  synced_count (x ∷ fs) (v ∷ vs) synced = omega (arith, synced_count fs vs synced.2)

  ends : (f : Cnf) (p : LayoutValue) (store : StoreValue) (s : ℕ) (j : StreamJobsValue S) (x : StreamResultValue S) (v : View)
      → store.layout ≡ p → IsOpened store f s j.pass → (fin : Finishes view j x) → PassMoves x.pass.view v [] → IsFair v
      → Ends f p s (joined fin.blocks) v
  ends f p store s j x v same opened fin synced fair = record {
    caller = synced.caller ∙ fin.moves.caller ∙ opened.caller
        ∙ ap (λ (l : LayoutValue). record { formula = f; layout = l; stream = s }) same;
    mine = synced.mine ∙ append-nil x.pass.view.mine ∙ fin.moves.mine ∙ ap (λ (es : History). es ++ joined fin.blocks) opened.mine;
    fair = fair;
  }

  have_calls : (f : Cnf) (run_params : RunParamsValue) (store : StoreValue) (h : History) → store.layout ≡ run_params.layout
      → (s : ℕ) (firsts : List S) (js : List (StreamJobsValue S)) (fs : List (StreamResultValue S)) (vs : List View)
      → HaveReadyJobs store f run_params s firsts js → AllFinish view js fs → AreSynced (views (map (λ x. x.pass) fs)) vs → AllSaw h vs
      → (k : ℕ) (w : View) → slice_get vs k ≡ Some w → HasCalls f run_params.layout h (s + k) w
  have_calls f run_params store h same s [] [] [] [] ready all synced saw k w at = absurd (cc)
  have_calls f run_params store h same s [] [] [] (v ∷ vs) ready all synced saw k w at = absurd synced
  have_calls f run_params store h same s [] [] (x ∷ fs) vs ready all synced saw k w at = absurd all
  have_calls f run_params store h same s [] (j ∷ js) fs vs ready all synced saw k w at = absurd ready
  have_calls f run_params store h same s (e ∷ es) [] fs vs ready all synced saw k w at = absurd ready
  have_calls f run_params store h same s (e ∷ es) (j ∷ js) [] vs ready all synced saw k w at = absurd all
  have_calls f run_params store h same s (e ∷ es) (j ∷ js) (x ∷ fs) [] ready all synced saw k w at = absurd synced
  have_calls f run_params store h same s (e ∷ es) (j ∷ js) (x ∷ fs) (v ∷ vs) ready all synced saw zero w at =
      let end = ends f run_params.layout store s j x v same ready.0.1 all.0 synced.0 synced.1 in
      let this : v ≡ w = cc in
      let here : s ≡ s + 0 = omega arith in
      subst (λ (n : ℕ). HasCalls f run_params.layout h n w) here
      (subst (HasCalls f run_params.layout h s) this
      (end.caller, saw.0, ends_own f run_params.layout s (joined all.0.blocks) h v end saw.0))
  have_calls f run_params store h same s (e ∷ es) (j ∷ js) (x ∷ fs) (v ∷ vs) ready all synced saw (suc k) w at =
      let next : s + 1 + k ≡ s + suc k = omega arith in
      subst (λ (n : ℕ). HasCalls f run_params.layout h n w) next
      (have_calls f run_params store h same (s + 1) es js fs vs ready.1 all.1 synced.2 saw.1 k w at)

  have_legal : (f : Cnf) (run_params : RunParamsValue) (store : StoreValue) (h : History) → store.layout ≡ run_params.layout
      → (s : ℕ) (firsts : List S) (js : List (StreamJobsValue S)) (fs : List (StreamResultValue S)) (vs : List View)
      → HaveReadyJobs store f run_params s firsts js → AllFinish view js fs → AreSynced (views (map (λ x. x.pass) fs)) vs
      → AllSaw h vs → 0 < length js
      → IsLegal f run_params.layout h
  have_legal f run_params store h same s firsts [] fs vs ready all synced saw some = absurd (omega arith)
  have_legal f run_params store h same s [] (j ∷ js) fs vs ready all synced saw some = absurd ready
  have_legal f run_params store h same s (e ∷ es) (j ∷ js) [] vs ready all synced saw some = absurd all
  have_legal f run_params store h same s (e ∷ es) (j ∷ js) (x ∷ fs) [] ready all synced saw some = absurd synced
  have_legal f run_params store h same s (e ∷ es) (j ∷ js) (x ∷ fs) (v ∷ vs) ready all synced saw some =
      ends_legal f run_params.layout s (joined all.0.blocks) h v
      (ends f run_params.layout store s j x v same ready.0.1 all.0 synced.0 synced.1) saw.0

  -- all passes of a run have one history
  pub one_history : (f : Cnf) (run_params : RunParamsValue) (store : StoreValue) (firsts : List S) (js : List (StreamJobsValue S))
      (fs : List (StreamResultValue S)) (vs : List View)
      → IsLayout run_params.layout → store.layout ≡ run_params.layout → length js ≡ run_params.layout.streams
      → HaveReadyJobs store f run_params 1 firsts js → AllFinish view js fs → AreSynced (views (map (λ x. x.pass) fs)) vs → ShareHistory vs
      → HaveOneHistory f run_params.layout (seen_by vs) vs
  one_history f run_params store firsts js fs vs is same count ready all synced one =
      let each : length vs ≡ run_params.layout.streams = synced_count fs vs synced ∙ finish_count js fs all ∙ count in
      let seen : one.0 ≡ seen_by vs = first_saw one.0 vs one.1 (omega (arith, is.some_stream, each)) in
      let saw : AllSaw (seen_by vs) vs = subst (λ (h : History). AllSaw h vs) seen one.1 in
      record {
        legal = have_legal f run_params store (seen_by vs) same 1 firsts js fs vs ready all synced saw
            (omega (arith, is.some_stream, count));
        count = each;
        calls = λ s v at.
            let first = at.0 in
            let here : 1 + (s - 1) ≡ s = omega (arith, first) in
            subst (λ (n : ℕ). HasCalls f run_params.layout (seen_by vs) n v) here
            (have_calls f run_params store (seen_by vs) same 1 firsts js fs vs ready all synced saw (s - 1) v at.1);
      }

  -- the calls of the pass at each index are its stream's events in the history
  mine_at : (f : Cnf) (p : LayoutValue) (vs : List View) → HaveOneHistory f p (seen_by vs) vs
      → (k : ℕ) (v : View) → slice_get vs k ≡ Some v → v.mine ≡ own (seen_by vs) (1 + k)
  mine_at f p vs one k v at =
      let place : k ≡ 1 + k - 1 = omega arith in
      (one.calls (1 + k) v (omega arith, subst (λ (n : ℕ). slice_get vs n ≡ Some v) place at)).2

  -- ---- the reports

  -- The streams that match what is observed of the readers and what their reads gave; the reports
  -- and the dropped identities are right for them.
  pub record Judged (run_params : RunParamsValue) (s : ℕ) (firsts : List S) (fs : List (StreamResultValue S))
      (vs : List View) : Type 0 where
    pub streams : List Stream
    pub out : AllByRecursion (λ stream. IsSome stream.end) streams
    pub known : AllZip MatchesInput (observations view firsts (map (λ x. x.reader) fs)) streams
    pub judged : AreJudgedBy run_params s streams vs (map (λ x. x.report) fs)
    pub read : AreRead S view.reads firsts (map (λ x. x.reader) fs) streams
    pub dropped : (h : History) → ((k : ℕ) (v : View) → slice_get vs k ≡ Some v → v.mine ≡ own h (s + k))
        → HaveDropped run_params (λ t blocks. own h t ≡ joined blocks) s streams (map (λ x. x.report) fs) (map (λ x. x.dropped) fs)

  pub judged_by : (f : Cnf) (run_params : RunParamsValue) (store : StoreValue) → store.layout ≡ run_params.layout
      → (s : ℕ) (firsts : List S) (js : List (StreamJobsValue S)) (fs : List (StreamResultValue S)) (vs : List View)
      → HaveReadyJobs store f run_params s firsts js → AllFinish view js fs → AreSynced (views (map (λ x. x.pass) fs)) vs
      → Judged run_params s firsts fs vs
  judged_by f run_params store same s [] [] [] [] ready all synced = record {
    streams = [];
    out = tt;
    known = tt;
    judged = tt;
    read = tt;
    dropped = λ h at. tt;
  }
  judged_by f run_params store same s [] [] [] (v ∷ vs) ready all synced = absurd synced
  judged_by f run_params store same s [] [] (x ∷ fs) vs ready all synced = absurd all
  judged_by f run_params store same s [] (j ∷ js) fs vs ready all synced = absurd ready
  judged_by f run_params store same s (e ∷ es) [] fs vs ready all synced = absurd ready
  judged_by f run_params store same s (e ∷ es) (j ∷ js) [] vs ready all synced = absurd all
  judged_by f run_params store same s (e ∷ es) (j ∷ js) (x ∷ fs) [] ready all synced = absurd synced
  judged_by f run_params store same s (e ∷ es) (j ∷ js) (x ∷ fs) (v ∷ vs) ready all synced =
      let here = ready.0.0 in
      let opened = ready.0.1 in
      let fresh = subst (λ (n : ℕ). ReachesState j.checker.params [] [] (checker_state j.checker n))
      (opened_room f run_params.layout store s j.pass same opened) here.checker.left in
      let one = all.0.judged fresh in
      let of = subst (λ (r : S). IsStreamOf view r x.reader one.0) here.reader_is one.2 in
      let calls = (ends f run_params.layout store s j x v same opened all.0 synced.0 synced.1).mine in
      let judged = subst (λ (c : StreamParams). JudgesStream c one.0 all.0.blocks x.report) here.checker.params one.3 in
      let dropped = subst (λ (c : StreamParams). HasDropped c one.0.bytes all.0.blocks x.report x.dropped) here.checker.params
      (job_drops j.checker (pass_caller_view j.pass.view).room one.0.bytes all.0.blocks x.report x.dropped fresh one.4) in
      let more = judged_by f run_params store same (s + 1) es js fs vs ready.1 all.1 synced.2 in
      record {
        streams = one.0 ∷ more.streams;
        out = (one.1, more.out);
        known = (of.0, more.known);
        judged = ((all.0.blocks, calls, judged), more.judged);
        read = (of.1, more.read);
        dropped = λ h at.
            let now : s + 0 ≡ s = omega arith in
            let mine : v.mine ≡ own h s = subst (λ (n : ℕ). v.mine ≡ own h n) now (at 0 v refl) in (
              (all.0.blocks, sym mine ∙ calls, dropped),
              more.dropped h (λ k w is.
                  let next : s + suc k ≡ s + 1 + k = omega arith in
                  subst (λ (n : ℕ). w.mine ≡ own h n) next (at (suc k) w is)),
            );
      }

  -- A legal history that has the passes' calls gives a run of the first streams.
  first_run : (f : Cnf) (run_params : RunParamsValue) (h : History) (firsts : List S) (js : List (StreamJobsValue S))
      (results : StreamResultsValue S) (vs : List View)
      → (so : AreResults view js results) → Judged run_params 1 firsts so.found vs → IsLegal f run_params.layout h
      → ((k : ℕ) (v : View) → slice_get vs k ≡ Some v → v.mine ≡ own h (1 + k))
      → (ran : IsRunOfSome (length firsts) view f run_params firsts results.readers results.reports results.dropped)
      × (ran.run.history ≡ h) × AreReadOut ran.run.streams
  first_run f run_params h firsts js results vs so j legal calls =
      rw (so.readers, so.reports, so.dropped) (
        record {
          run = record {
            streams = j.streams;
            match_inputs = j.known;
            count = observed_count _ _ j.known ∙ observed_as_many view firsts (map (λ x. x.reader) so.found) j.streams j.read;
            history = h;
            legal = legal;
            judged = judged_in run_params h 1 j.streams vs (map (λ x. x.report) so.found) j.judged calls;
          };
          read = j.read;
          have_dropped = j.dropped h calls;
        },
        refl,
        j.out,
      )

  -- ---- the run as a whole

  begun_count : {f : Cnf} {run_params : RunParamsValue} {store : StoreValue} {firsts : List S} {js : List (StreamJobsValue S)}
      → IsBegun f run_params store firsts js → length js ≡ run_params.layout.streams
  begun_count begun = ready_count _ _ _ _ _ _ begun.ready ∙ begun.count

  pub can_begin : {f : Cnf} {run_params : RunParamsValue} {store : StoreValue} {firsts : List S} {js : List (StreamJobsValue S)}
      → IsBegun f run_params store firsts js → AllByRecursion (CanBegin store) js
  can_begin begun = all_can_begin _ _ _ begun.fits begun.store_is _ _ _ begun.ready

  -- each job belongs to a stream of the layout
  pub stream_within : {f : Cnf} {run_params : RunParamsValue} {store : StoreValue} {firsts : List S} {js : List (StreamJobsValue S)}
      → IsBegun f run_params store firsts js → (s : ℕ) → (0 < s) × (s ≤ length js) → IsStream run_params.layout s
  stream_within begun s within = (omega (arith, within.0), omega (arith, within.1, begun_count begun))

  met : (js : List (StreamJobsValue S)) (results : StreamResultsValue S) (vs : List View) → (so : AreResults view js results)
      → AreSynced (views results.passes) vs → AreSynced (views (map (λ x. x.pass) so.found)) vs
  met js results vs so synced = subst (λ (ps : List PassValue). AreSynced (views ps) vs) so.passes synced

  pub run_history : {f : Cnf} {run_params : RunParamsValue} {store : StoreValue} {firsts : List S} {js : List (StreamJobsValue S)}
      → IsBegun f run_params store firsts js
      → (results : StreamResultsValue S) (vs : List View) → AreResults view js results → AreSynced (views results.passes) vs
      → ShareHistory vs → HaveOneHistory f run_params.layout (seen_by vs) vs
  run_history {f} {run_params} begun results vs so synced one =
      one_history f run_params _ _ _ so.found vs begun.is begun.store_is (begun_count begun) begun.ready so.finish
      (met _ results vs so synced) one

  pub run_reports : {f : Cnf} {run_params : RunParamsValue} {store : StoreValue} {firsts : List S} {js : List (StreamJobsValue S)}
      → IsBegun f run_params store firsts js
      → (results : StreamResultsValue S) (vs : List View) → AreResults view js results → AreSynced (views results.passes) vs
      → ShareHistory vs
      → (ran : IsRunOf view f run_params firsts results.readers results.reports results.dropped)
      × (ran.run.history ≡ seen_by vs) × AreReadOut ran.run.streams
  run_reports {f} {run_params} {store} {firsts} {js} begun results vs so synced one =
      let one = run_history begun results vs so synced one in
      let j = judged_by f run_params store begun.store_is 1 firsts js so.found vs begun.ready so.finish (met js results vs so synced) in
      subst (λ (n : ℕ). (ran : IsRunOfSome n view f run_params firsts results.readers results.reports results.dropped)
      × (ran.run.history ≡ seen_by vs) × AreReadOut ran.run.streams) begun.count
      (first_run f run_params (seen_by vs) firsts js results vs so j one.legal (mine_at f run_params.layout vs one))

  -- If the passes of the first streams have met, there is a run of only these streams.
  run_before : (f : Cnf) (run_params : RunParamsValue) (store : StoreValue) → store.layout ≡ run_params.layout
      → (firsts : List S) (js : List (StreamJobsValue S)) → HaveReadyJobs store f run_params 1 firsts js
      → (results : StreamResultsValue S) (vs : List View) → AreResults view js results → AreSynced (views results.passes) vs
      → ShareHistory vs
      → (lasts : List S) × (reports : List Report) × (dropped : List DroppedIdsValue)
      × (ran : IsRunOfSome (length firsts) view f run_params firsts lasts reports dropped) × AreReadOut ran.run.streams
  run_before f run_params store same [] [] ready results vs so synced one = (
    [],
    [],
    [],
    record {
      run = record {
        streams = [];
        match_inputs = tt;
        count = refl;
        history = [];
        legal = record { events = tt; room = λ s. omega arith };
        judged = tt;
      };
      read = tt;
      have_dropped = tt;
    },
    tt,
  )
  run_before f run_params store same [] (j ∷ js) ready results vs so synced one = absurd ready
  run_before f run_params store same (e ∷ es) [] ready results vs so synced one = absurd ready
  run_before f run_params store same (e ∷ es) (j ∷ js) ready results vs so synced one =
      let fs = so.found in
      let synced = met (j ∷ js) results vs so synced in
      let judged = judged_by f run_params store same 1 (e ∷ es) (j ∷ js) fs vs ready so.finish synced in
      let calls = have_calls f run_params store one.0 same 1 (e ∷ es) (j ∷ js) fs vs ready so.finish synced one.1 in
      let legal =
      have_legal f run_params store one.0 same 1 (e ∷ es) (j ∷ js) fs vs ready so.finish synced one.1 (omega arith) in
      let ran = first_run f run_params one.0 (e ∷ es) (j ∷ js) results vs so judged legal (λ k v at. (calls k v at).2) in
      (results.readers, results.reports, results.dropped, ran.0, ran.2)

  -- the reader was read to its end, or to the read that failed, and a stream matches what is
  -- observed of the reader. This holds for each reader whose mark was missed.
  abbrev WasReadOut : S → Type 0
  WasReadOut reader = (last : S) × (its : Stream) × IsSome its.end × IsStreamOf view reader last its

  pub read_out_of : (one : Option (StreamJobsValue S)) → IsSomeAnd one (λ j. MissesMark view j.reader)
      → IsSomeAnd one (λ j. WasReadOut j.reader)
  read_out_of None missed = absurd missed
  read_out_of (Some j) missed = (missed.last, missed.stream, missed.ended, missed.read)

  reader_read_out : (f : Cnf) (run_params : RunParamsValue) (store : StoreValue) (s : ℕ) (firsts : List S) (js : List (StreamJobsValue S))
      (n : ℕ)
      → HaveReadyJobs store f run_params s firsts js → IsSomeAnd (slice_get js n) (λ one. WasReadOut one.reader)
      → IsSomeAnd (slice_get firsts n) WasReadOut
  reader_read_out f run_params store s [] [] n ready read = absurd read
  reader_read_out f run_params store s [] (j ∷ js) n ready read = absurd ready
  reader_read_out f run_params store s (e ∷ es) [] n ready read = absurd ready
  reader_read_out f run_params store s (e ∷ es) (j ∷ js) zero ready read = subst WasReadOut ready.0.0.reader_is read
  reader_read_out f run_params store s (e ∷ es) (j ∷ js) (suc n) ready read =
      reader_read_out f run_params store (s + 1) es js n ready.1 read

  some_within : {A : Type 0} (P : A → Type 0) (xs : List A) (n : ℕ) → IsSomeAnd (slice_get xs n) P → n < length xs
  some_within P [] n at = absurd at
  some_within P (x ∷ xs) zero at = omega arith
  some_within P (x ∷ xs) (suc n) at = omega (arith, some_within P xs n at)

  -- the run stops at the ring of the stream after those that have results
  pub stops_at_ring : {f : Cnf} {run_params : RunParamsValue} {store : StoreValue} {firsts : List S} {js : List (StreamJobsValue S)}
      → IsBegun f run_params store firsts js → (results : StreamResultsValue S) (vs : List View)
      → AreSynced (views results.passes) vs → ShareHistory vs
      → IsFaultOf view js (thread_faults.Ring results) → (stream : ℕ) → length results.passes + 1 ≡ stream
      → StopsAtRing view f run_params firsts stream
  stops_at_ring {f} {run_params} {store} {firsts} {js} begun results vs synced one so stream is =
      let n : length results.passes ≡ stream - 1 = omega (arith, is) in
      let at = subst (λ (k : ℕ). AreResults view (take k js) results × IsSomeAnd (slice_get js k) (λ j. MissesMark view j.reader)) n so in
      let within : stream - 1 < length js = some_within _ js (stream - 1) at.1 in
      let ran = run_before f run_params store begun.store_is (take (stream - 1) firsts) (take (stream - 1) js)
      (each_take _ (stream - 1) 1 firsts js begun.ready) results vs at.0 synced one in
      let many : length (take (stream - 1) firsts) ≡ stream - 1 =
      length-take-le (stream - 1) firsts (omega (arith, within, begun_count begun, begun.count)) in
      let before = subst (λ (k : ℕ). (earlier : IsRunOfSome k view f run_params (take (stream - 1) firsts) ran.0 ran.1 ran.2)
      × AreReadOut earlier.run.streams) many (ran.3, ran.4) in
      record {
        is_stream = stream_within begun stream (omega (arith, is), omega (arith, is, within));
        lasts = ran.0;
        reports = ran.1;
        dropped = ran.2;
        before = before.0;
        before_end = before.1;
        read_out = reader_read_out f run_params store 1 firsts js (stream - 1) begun.ready
            (read_out_of (slice_get js (stream - 1)) at.1);
      }
