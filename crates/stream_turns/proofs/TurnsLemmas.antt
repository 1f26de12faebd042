-- A run on one thread: before the first turn, after one more turn, and when all streams are
-- finished.
use Rattle.std.proofs.Common.{◌≡◌, ◌≢◌, IsSome, IfSome, ℕ, zero, suc, ◌+◌, ◌-◌, ◌<◌, ◌≤◌, Bool, true, false, eqb, List, [], ◌∷◌, ◌++◌}
use Rattle.std.proofs.Common.{length, get_or, set, map, Option, Some, None, refl, sym, ap, subst, ◌∙◌, inl, inr, arith}
use Rattle.std.proofs.Common.{length-set, ne_eqb}
use borrow.Author.Count.{below_more}
use Rattle.std.specs.Prelude.{◌||◌, ◌↔◌, IsTrue, slice_get}
use Rattle.std.specs.List.{AllByRecursion, sum_by, AllZip}
use Rattle.std.proofs.lemmas.Option.{slice_get-get_or}
use Rattle.std.proofs.lemmas.Bool.{cases_eq, cases_lt, cond-false}
use Rattle.std.proofs.lemmas.List.{map-append, get_or_default, get_or-replicate}
use Rattle.lrup_model.specs.Formula.{Cnf}
use Rattle.lrup_model.specs.Layout.{LayoutValue, Owns, IsStream}
use Rattle.lrup_model.specs.Event.{History, stream_of, own, published, spent}
use Rattle.lrup_model.specs.State.{State, opening, run}
use Rattle.lrup_model.specs.History.{LegalFrom}
use Rattle.lrup_model.specs.lemmas.HistoryLemmas.{opening-owned}
use Rattle.lrup_model.specs.lemmas.RunningLemmas.{run-append, legal-append, spent-append}
use Rattle.lrup_model.specs.Plain.{Plain, formula_of, free_at, plain_caller_view, PlainMoves}
use Rattle.lrup_model.specs.lemmas.ListLemmas.{All-append}
use Rattle.stream_check.specs.declared.report.Ending.{Ending}
use Rattle.stream_check.specs.declared.report.Report.{Report}
use Rattle.stream_check.specs.StreamParams.{StreamParams}
use Rattle.stream_check.specs.Judging.{joined}
use Rattle.stream_check.specs.CheckerValue.{Tally, report_of_tally}
use Rattle.stream_check.specs.Checker.{IsReadyAt}
use Rattle.stream_check.specs.Laws.{ReadyBeside}
use Rattle.stream_turns.proofs.RoundLemmas.{tagged, within-tagged, events_more, blocks_more, blocks_beside, round_opened, round_turned}
use Rattle.stream_turns.proofs.RoundLemmas.{round_passed, round_finished}
use Rattle.stream_turns.proofs.WorkingLemmas.{not_finished}
use Rattle.stream_check.specs.Dropping.{HasDropped, HaveDropped}
use Rattle.lrup_text.specs.ReadOut.{SourceView}
use Rattle.stream_check.specs.Readings.{AreRead, IsStreamOf}
use Rattle.stream_check.specs.Streams.{Stream, observations, MatchesInput, JudgesStream, Block, blocks_of, events_in, IsBlockWithin}
use Rattle.stream_check.specs.Streams.{stream_params}
use Rattle.stream_check.specs.Streams.{AreJudged}
use Rattle.stream_check.specs.Streams.{RunParamsValue}
use Rattle.stream_check.specs.lemmas.EachLemmas.{each_count, each_push, each_second, each_set, each_within}
use Rattle.stream_check.specs.lemmas.StreamLemmas.{observed_as_many, observed_count}
use Rattle.stream_check.specs.lemmas.TurnLemmas.{streams_of}
use Rattle.stream_turns.specs.Results.{AreCheckedInTurn, IsJustOpened}
use Rattle.stream_turns.specs.internal.Working.{AreBlocksOfTurn, WorkerValue, WorkerInvariantBy, WorkerInvariant, WorkerStep, IsStarted}
use Rattle.stream_turns.specs.internal.Turns.{HasRun, IsWorking, AreWorking, SerialInvariant}
use Rattle.stream_turns.specs.internal.Turns.{IsInSerialRun, SerialStep, IsFinished, AreFinished}
use Rattle.stream_turns.specs.internal.Turns.{IsFinishedAt, AreStarted, HaveReports}

-- ---- room

-- what a stream publishes takes no room from other streams
spent-others : (s t : ℕ) (es : History) → AllByRecursion (λ e. stream_of e ≡ s) es → s ≢ t → spent t es ≡ 0
spent-others s t [] calls other = refl
spent-others s t (e ∷ es) calls other =
    let not_mine : eqb (stream_of e) t ≡ false = ne_eqb (stream_of e) t (λ same. other (sym calls.0 ∙ same)) in
    ap (λ (h : History). sum_by (λ p. length p.1) (published h)) (cond-false (eqb (stream_of e) t) (e ∷ own es t) (own es t) not_mine)
    ∙ spent-others s t es calls.1 other

-- if no stream has the number t, no room is used under it
spent-outside : (p : LayoutValue) (t : ℕ) (blocks : List Block) → AllByRecursion (IsBlockWithin p (λ s. true)) blocks → ¬ IsStream p t
    → spent t (events_in blocks) ≡ 0
spent-outside p t [] within outside = refl
spent-outside p t (block ∷ blocks) within outside =
    let other : block.stream ≢ t = λ same. outside (subst (IsStream p) same within.0.0) in
    omega (
      arith,
      spent-append t block.events (events_in blocks),
      spent-others block.stream t block.events within.0.2 other,
      spent-outside p t blocks within.1 outside,
    )

-- the events of a run on one thread are within the streams' room
within_room : (f : Cnf) (p : LayoutValue) (blocks : List Block) (m : Plain) → HasRun f p blocks m → (t : ℕ)
    → spent t (events_in blocks) ≤ p.room
within_room f p blocks m has t =
    elim (cases_lt 0 t) [
      | inl positive ↦ elim (cases_lt p.streams t) [
        | inl above ↦ omega (arith, spent-outside p t blocks has.within (λ stream. omega (arith, above, stream.1)))
        | inr below ↦ omega (arith, has.room t (positive, below))
      ]
      | inr none ↦ omega (arith, spent-outside p t blocks has.within (λ stream. omega (arith, none, stream.0)))
    ]

-- ---- a turn

-- the map after the events of a stream's further blocks
pub run_more : (f : Cnf) (p : LayoutValue) (blocks : List Block) (m n : Plain) (s : ℕ) (bs : List History) → HasRun f p blocks m
    → IsStream p s → PlainMoves m n s (joined bs) → HasRun f p (blocks ++ tagged s bs) n
run_more f p blocks m n s bs has stream moves =
    let before = events_in blocks in
    let same : before ++ joined bs ≡ events_in (blocks ++ tagged s bs) = sym (events_more s blocks bs) in
    let later : LegalFrom f p (run (opening f) before) (joined bs) =
    subst (λ (g : Cnf). LegalFrom g p (run (opening f) before) (joined bs)) has.formula
    (subst (λ (q : LayoutValue). LegalFrom (formula_of m) q (run (opening f) before) (joined bs)) has.layout
    (subst (λ (state : State). LegalFrom (formula_of m) m.layout state (joined bs)) has.state moves.answers)) in
    let room : (t : ℕ) → IsStream p t → free_at n t + spent t (before ++ joined bs) ≡ p.room = λ t here.
    elim (cases_eq s t) [
      | inl mine ↦
          let left : free_at n t + spent t (joined bs) ≡ free_at m t =
          subst (λ k. free_at n k + spent k (joined bs) ≡ free_at m k) mine moves.room in
          omega (arith, spent-append t before (joined bs), left, has.room t here)
      | inr other ↦ omega (
        arith,
        spent-append t before (joined bs),
        spent-others s t (joined bs) moves.callers other,
        moves.others t here.0 (λ is. other (sym is)),
        has.room t here,
      )
    ] in
    record {
      layout = moves.layout ∙ has.layout;
      formula = moves.formula ∙ has.formula;
      within = All-append (IsBlockWithin p (λ t. true)) blocks (tagged s bs) has.within (within-tagged p s bs stream moves.callers);
      legal = subst (LegalFrom f p (opening f)) same (legal-append f p (opening f) before (joined bs) has.legal later);
      state = moves.state ∙ ap (λ (state : State). run state (joined bs)) has.state ∙ sym (run-append (opening f) before (joined bs))
          ∙ ap (run (opening f)) same;
      room = subst (λ (es : History). (t : ℕ) → IsStream p t → free_at n t + spent t es ≡ p.room) same room;
    }

report_at_end : (o : Option Ending) (t : Tally) (r : Report) → IsSome o → IfSome o (λ ending. r ≡ report_of_tally t ending)
    → (ending : Ending) × (o ≡ Some ending) × (r ≡ report_of_tally t ending)
report_at_end None t r finished is = absurd (let none : false ≡ true = finished in cc)
report_at_end (Some ending) t r finished is = (ending, refl, is)

module _ {S : Type 0} (view : SourceView S) where
  -- the worker that had the turn has reached its state through its blocks
  working_on : (run_params : RunParamsValue) (blocks : List Block) (m n : Plain) (s : ℕ) (bs : List History) (first : S)
      (w v : WorkerValue S)
      → IsWorking view run_params blocks m s first w
      → WorkerStep view w (free_at m s) bs v (free_at n s) → IsReadyAt v.checker (plain_caller_view n s)
      → v.checker.params ≡ w.checker.params
      → IsWorking view run_params (blocks ++ tagged s bs) n s first v
  working_on run_params blocks m n s bs first w v working on ready params = record {
    params = params ∙ working.params;
    holds = subst (WorkerInvariant view first v (free_at n s)) (sym (blocks_more s blocks bs))
        (on first (blocks_of s blocks) working.holds);
    ready = ready;
  }

  -- `IsWorking` still holds for the other workers
  module _ (law : ReadyBeside) (run_params : RunParamsValue) (blocks : List Block) (m n : Plain) (s : ℕ) (bs : List History)
      (moves : PlainMoves m n s (joined bs)) where
    working_beside : (t : ℕ) (first : S) (w : WorkerValue S) → 0 < t → s ≢ t → IsWorking view run_params blocks m t first w
        → IsWorking view run_params (blocks ++ tagged s bs) n t first w
    working_beside t first w positive other working =
        let stream : w.checker.params.stream ≡ t = ap (λ (c : StreamParams). c.stream) working.params in
        let here : IsReadyAt w.checker (plain_caller_view m w.checker.params.stream) =
        subst (λ k. IsReadyAt w.checker (plain_caller_view m k)) (sym stream) working.ready in
        record {
          params = working.params;
          holds =
              subst (λ k. WorkerInvariant view first w k (blocks_of t (blocks ++ tagged s bs)))
              (sym (moves.others t positive (λ is. other (sym is))))
              (subst (WorkerInvariant view first w (free_at m t)) (sym (blocks_beside s t blocks bs other)) working.holds);
          ready = subst (λ k. IsReadyAt w.checker (plain_caller_view n k)) stream
              (law w.checker m n s (joined bs) here moves (λ is. other (is ∙ stream)));
        }

    -- all workers, after the turn of the worker at index i, which is now v
    turn_at : (i : ℕ) (firsts : List S) (ws : List (WorkerValue S)) (w v : WorkerValue S) → s ≡ 1 + i → slice_get ws i ≡ Some w
        → WorkerStep view w (free_at m s) bs v (free_at n s) → IsReadyAt v.checker (plain_caller_view n s)
        → v.checker.params ≡ w.checker.params
        → AreWorking view run_params blocks m 1 firsts ws → AreWorking view run_params (blocks ++ tagged s bs) n 1 firsts (set ws i v)
    turn_at i firsts ws w v place at on ready params working =
        each_set 1 i firsts ws v working
        (λ t first other from apart its. working_beside t first other (omega (arith, from)) (λ same. apart (sym same ∙ place)) its)
        (λ first was there its.
        let same : was ≡ w = let e : Some was ≡ Some w = sym there ∙ at in cc in
        let mine : IsWorking view run_params blocks m s first w = subst (λ k. IsWorking view run_params blocks m k first w) (sym place)
        (subst (λ (x : WorkerValue S). IsWorking view run_params blocks m (1 + i) first x) same its) in
        subst (λ k. IsWorking view run_params (blocks ++ tagged s bs) n k first v) place
        (working_on run_params blocks m n s bs first w v mine on ready params))

  -- ---- what a worker has before its turn

  -- the worker at this index is unfinished
  pub going_at : (ws : List (WorkerValue S)) (i : ℕ) (d e : WorkerValue S) (finished : Bool) → i < length ws
      → (IsTrue finished ↔ IsSome (get_or ws i d).checker.ending) → finished ≡ false → (get_or ws i e).checker.ending ≡ None
  going_at ws i d e finished within is going =
      ap (λ (w : WorkerValue S). w.checker.ending) (get_or_default ws i e d within)
      ∙ not_finished finished (get_or ws i d).checker.ending is going

  -- in any run, the worker of stream i + 1 can be fed
  pub ready_at : (taken : ℕ) (m : Plain) (ws : List (WorkerValue S)) (i : ℕ) (d : WorkerValue S) → IsInSerialRun view taken m ws
      → i < length ws
      → IsReadyAt (get_or ws i d).checker (plain_caller_view m (i + 1))
  ready_at taken m ws i d running within =
      let runs = running.3 in
      let here = each_second _ 1 running.2 ws runs.workers_are i (get_or ws i d) (slice_get-get_or ws i d within) in
      let place : 1 + i ≡ i + 1 = omega arith in
      subst (λ t. IsReadyAt (get_or ws i d).checker (plain_caller_view m t)) place here.1.ready

  -- a run continues with a turn of the worker at index i
  pub serial_more : (law : ReadyBeside) (f : Cnf) (run_params : RunParamsValue) (firsts : List S) (m n : Plain)
      (ws : List (WorkerValue S)) (i : ℕ)
      (d v : WorkerValue S) (bs : List History)
      → i < length ws → (get_or ws i d).checker.ending ≡ None → PlainMoves m n (i + 1) (joined bs) → AreBlocksOfTurn v.checker.ending bs
      → WorkerStep view (get_or ws i d) (free_at m (i + 1)) bs v (free_at n (i + 1)) → IsReadyAt v.checker (plain_caller_view n (i + 1))
      → v.checker.params ≡ (get_or ws i d).checker.params
      → SerialInvariant view f run_params firsts i m ws → SerialInvariant view f run_params firsts (i + 1) n (set ws i v)
  serial_more law f run_params firsts m n ws i d v bs within going moves are on ready params runs =
      let count : length (set ws i v) ≡ run_params.layout.streams = omega (arith, length-set {A = WorkerValue S}, runs.count) in
      record {
        count = count;
        blocks = runs.blocks ++ tagged (i + 1) bs;
        map_is = run_more f run_params.layout runs.blocks m n (i + 1) bs runs.map_is (omega arith, omega (arith, within, runs.count)) moves;
        workers_are = turn_at law run_params runs.blocks m n (i + 1) bs moves i firsts ws (get_or ws i d) v (omega arith)
            (slice_get-get_or ws i d within) on ready params runs.workers_are;
        rounds = runs.rounds;
        in_round = round_turned runs.rounds i runs.blocks ws (get_or ws i d) (slice_get-get_or ws i d within) runs.in_round v bs going are;
      }

  -- a finished stream has no turn
  pub serial_past : (f : Cnf) (run_params : RunParamsValue) (firsts : List S) (m : Plain) (ws : List (WorkerValue S)) (i : ℕ)
      (d : WorkerValue S)
      → i < length ws → IsSome (get_or ws i d).checker.ending → SerialInvariant view f run_params firsts i m ws
      → SerialInvariant view f run_params firsts (i + 1) m ws
  serial_past f run_params firsts m ws i d within finished runs = record {
    count = runs.count;
    blocks = runs.blocks;
    map_is = runs.map_is;
    workers_are = runs.workers_are;
    rounds = runs.rounds;
    in_round = round_passed runs.rounds i runs.blocks ws (get_or ws i d) (slice_get-get_or ws i d within) runs.in_round finished;
  }

  -- after the last stream's turn the next round begins
  pub serial_round : (f : Cnf) (run_params : RunParamsValue) (firsts : List S) (m : Plain) (ws : List (WorkerValue S))
      → SerialInvariant view f run_params firsts (length ws) m ws → SerialInvariant view f run_params firsts 0 m ws
  serial_round f run_params firsts m ws runs = record {
    count = runs.count;
    blocks = runs.blocks;
    map_is = runs.map_is;
    workers_are = runs.workers_are;
    rounds = runs.rounds + 1;
    in_round = round_finished runs.rounds (streams_of runs.blocks) ws runs.in_round;
  }

  -- two steps, one after the other, are one step
  pub step_twice : (i j k : ℕ) (a b c : Plain) (us vs ws : List (WorkerValue S)) → SerialStep view i a us j b vs
      → SerialStep view j b vs k c ws
      → SerialStep view i a us k c ws
  step_twice i j k a b c us vs ws front back f run_params firsts runs = back f run_params firsts (front f run_params firsts runs)

  -- after a step there is still a run
  pub running_on : (i j : ℕ) (a b : Plain) (us vs : List (WorkerValue S)) → IsInSerialRun view i a us → SerialStep view i a us j b vs
      → IsInSerialRun view j b vs
  running_on i j a b us vs running on = (running.0, running.1, running.2, on running.0 running.1 running.2 running.3)

  -- if neither this stream nor any stream before it had a turn, all of them are finished and
  -- unchanged
  pub finished_more : (i : ℕ) (going turned : Bool) (first old new : List (WorkerValue S)) → (going || turned) ≡ false
      → (going ≡ false → (old ≡ first) × ((k : ℕ) → k < i → IsFinishedAt old k)) → (turned ≡ false → IsFinishedAt old i × (new ≡ old))
      → (new ≡ first) × ((k : ℕ) → k < i + 1 → IsFinishedAt new k)
  finished_more i true turned first old new none before here = absurd (cc)
  finished_more i false turned first old new none before here =
      let finished = before refl in
      let last = here none in (
        last.1 ∙ finished.0,
        λ k below. subst (λ (ws : List (WorkerValue S)). IsFinishedAt ws k) (sym last.1)
            (below_more (IsFinishedAt old) i finished.1 last.0 k below),
      )

  -- if the worker at each index is finished, all workers are
  pub finished_each : (ws : List (WorkerValue S)) → ((k : ℕ) → k < length ws → IsFinishedAt ws k) → AreFinished ws
  finished_each [] finished = tt
  finished_each (w ∷ ws) finished = (finished zero (omega arith), finished_each ws (λ k below. finished (suc k) (omega arith)))

  -- ---- the reports

  reports_more : (ws : List (WorkerValue S)) (rs : List Report) (w : WorkerValue S) (r : Report) → HaveReports ws rs → IsFinished w
      → IfSome w.checker.ending (λ ending. r ≡ report_of_tally w.checker.tally ending) → HaveReports (ws ++ w ∷ []) (rs ++ r ∷ [])
  reports_more [] [] w r have finished is = (report_at_end w.checker.ending w.checker.tally r finished is, tt)
  reports_more [] (x ∷ rs) w r have finished is = absurd have
  reports_more (v ∷ ws) [] w r have finished is = absurd have
  reports_more (v ∷ ws) (x ∷ rs) w r have finished is = (have.0, reports_more ws rs w r have.1 finished is)

  -- one more worker's report is appended
  pub reports_pushed : (ws : List (WorkerValue S)) (rs ts : List Report) (w : WorkerValue S) (r : Report) → ts ≡ rs ++ r ∷ []
      → HaveReports ws rs → IsFinished w
      → IfSome w.checker.ending (λ ending. r ≡ report_of_tally w.checker.tally ending) → HaveReports (ws ++ w ∷ []) ts
  reports_pushed ws rs ts w r pushed have finished is = subst (HaveReports (ws ++ w ∷ [])) (sym pushed)
      (reports_more ws rs w r have finished is)

  -- ---- before the first turn

  -- one more worker is appended
  pub started_pushed : {X : Type 0} (run_params : RunParamsValue) (s : ℕ) (f : X → S) (xs : List X) (x : X) (ws vs : List (WorkerValue S))
      (w : WorkerValue S)
      → vs ≡ ws ++ w ∷ [] → s ≡ length ws + 1 → AreStarted view run_params 1 (map f xs) ws → IsStarted view run_params s (f x) w
      → AreStarted view run_params 1 (map f (xs ++ x ∷ [])) vs
  started_pushed {X} run_params s f xs x ws vs w pushed place started here =
      let next : s ≡ 1 + length ws = omega (arith, place) in
      let more : AreStarted view run_params 1 (map f xs ++ f x ∷ []) (ws ++ w ∷ []) =
      each_push _ 1 (map f xs) ws (f x) w started (subst (λ k. IsStarted view run_params k (f x) w) next here) in
      subst (AreStarted view run_params 1 (map f (xs ++ x ∷ []))) (sym pushed)
      (subst (λ firsts. AreStarted view run_params 1 firsts (ws ++ w ∷ [])) (sym (map-append f xs (x ∷ []))) more)

  module _ (run_params : RunParamsValue) (m : Plain) (opened : IsJustOpened run_params.layout m) where
    room_opened : (s : ℕ) → IsStream run_params.layout s → free_at m s ≡ run_params.layout.room
    room_opened s stream = ap (λ (rooms : List ℕ). get_or rooms (s - 1) 0) opened.room
        ∙ get_or-replicate run_params.layout.streams (s - 1) run_params.layout.room 0 (omega (arith, stream.0, stream.1))

    ready_opened : (s : ℕ) (first : S) (w : WorkerValue S) → IsStarted view run_params s first w
        → IsReadyAt w.checker (plain_caller_view m s)
    ready_opened s first w started = record {
      at = record {
        layout = opened.layout ∙ sym (ap (λ (c : StreamParams). c.layout) started.params);
        stream = sym (ap (λ (c : StreamParams). c.stream) started.params);
      };
      vacant = λ id owns above.
          ap (λ (state : State). state id) opened.clauses
          ∙ opening-owned (formula_of m) run_params.layout s id opened.fits (subst (λ (q : LayoutValue). Owns q s id) opened.layout owns);
    }

    working_started : (firsts : List S) (ws : List (WorkerValue S)) → length firsts ≡ run_params.layout.streams
        → AreStarted view run_params 1 firsts ws → AreWorking view run_params [] m 1 firsts ws
    working_started firsts ws count started =
        each_within run_params.layout.streams 1 firsts ws (omega (arith, count)) started (λ s first w from to its. record {
          params = its.params;
          holds = subst (λ free. WorkerInvariant view first w free []) (sym (room_opened s (omega (arith, from), to))) its.holds;
          ready = ready_opened s first w its;
        })

    run_opened : HasRun (formula_of m) run_params.layout [] m
    run_opened = record {
      layout = opened.layout;
      formula = refl;
      within = tt;
      legal = tt;
      state = opened.clauses;
      room = λ s stream. omega (arith, room_opened s stream);
    }

    -- new workers, with the map, are a run before its first turn
    pub serial_opened : (firsts : List S) (ws : List (WorkerValue S)) → length firsts ≡ run_params.layout.streams
        → AreStarted view run_params 1 firsts ws → SerialInvariant view (formula_of m) run_params firsts 0 m ws
    serial_opened firsts ws count started =
        let same : length ws ≡ run_params.layout.streams = each_count _ 1 firsts ws started ∙ count in
        record {
          count = same;
          blocks = [];
          map_is = run_opened;
          workers_are = working_started firsts ws count started;
          rounds = 0;
          in_round = round_opened ws;
        }

  -- ---- when all streams are finished

  -- a finished worker's report is a judgement of its stream
  known_finished : (o : Option Ending) (ending : Ending) (first : S) (w : WorkerValue S) (free : ℕ) (blocks : List History)
      → o ≡ Some ending
      → WorkerInvariantBy view o first w free blocks
      → (stream : Stream) × IsStreamOf view first w.reader stream
      × JudgesStream w.checker.params stream blocks (report_of_tally w.checker.tally ending)
      × HasDropped w.checker.params stream.bytes blocks (report_of_tally w.checker.tally ending) w.checker.dropped
  known_finished o ending first w free blocks is holds =
      let at : WorkerInvariantBy view (Some ending) first w free blocks = subst (λ e. WorkerInvariantBy view e first w free blocks)
      is holds in at

  -- each stream matches what is observed of its reader, is judged by its blocks, and dropped what
  -- its bytes and its report say
  pub streams_finished : (run_params : RunParamsValue) (blocks : List Block) (m : Plain) (k : ℕ) (firsts : List S)
      (ws : List (WorkerValue S))
      (reports : List Report)
      → AreWorking view run_params blocks m k firsts ws → HaveReports ws reports
      → (streams : List Stream) × AllZip MatchesInput (observations view firsts (map (λ w. w.reader) ws)) streams
      × AreRead S view.reads firsts
      (map (λ w. w.reader) ws) streams × AreJudged run_params (λ s. true) (λ s events. events ≡ blocks_of s blocks) k streams reports
      × HaveDropped run_params (λ s events. events ≡ blocks_of s blocks) k streams reports (map (λ w. w.checker.dropped) ws)
  streams_finished run_params blocks m k [] [] [] working have = ([], tt, tt, tt, tt)
  streams_finished run_params blocks m k [] [] (r ∷ reports) working have = absurd have
  streams_finished run_params blocks m k [] (w ∷ ws) reports working have = absurd working
  streams_finished run_params blocks m k (first ∷ firsts) [] reports working have = absurd working
  streams_finished run_params blocks m k (first ∷ firsts) (w ∷ ws) [] working have = absurd have
  streams_finished run_params blocks m k (first ∷ firsts) (w ∷ ws) (r ∷ reports) working have =
      let others = streams_finished run_params blocks m (k + 1) firsts ws reports working.1 have.1 in
      let known = known_finished w.checker.ending have.0.0 first w (free_at m k) (blocks_of k blocks) have.0.1 working.0.holds in
      let judged : JudgesStream (stream_params run_params k) known.0 (blocks_of k blocks) r =
      subst (λ (c : StreamParams). JudgesStream c known.0 (blocks_of k blocks) r) working.0.params
      (subst (λ (x : Report). JudgesStream w.checker.params known.0 (blocks_of k blocks) x) (sym have.0.2) known.2) in
      let dropped : HasDropped (stream_params run_params k) known.0.bytes (blocks_of k blocks) r w.checker.dropped =
      subst (λ (c : StreamParams). HasDropped c known.0.bytes (blocks_of k blocks) r w.checker.dropped) working.0.params
      (subst (λ (x : Report). HasDropped w.checker.params known.0.bytes (blocks_of k blocks) x w.checker.dropped) (sym have.0.2)
      known.3) in (
        known.0 ∷ others.0,
        (known.1.0, others.1),
        (known.1.1, others.2),
        (λ all. (blocks_of k blocks, refl, judged), others.3),
        ((blocks_of k blocks, refl, dropped), others.4),
      )

  -- what the streams leave when all are finished
  pub checked_over : (f : Cnf) (run_params : RunParamsValue) (firsts : List S) (m : Plain) (ws : List (WorkerValue S))
      (reports : List Report) → length firsts ≡ run_params.layout.streams
      → SerialInvariant view f run_params firsts 0 m ws → HaveReports ws reports
      → AreCheckedInTurn view f run_params firsts (map (λ w. w.reader) ws) reports (map (λ w. w.checker.dropped) ws) m
  checked_over f run_params firsts m ws reports count runs have =
      let streams = streams_finished run_params runs.blocks m 1 firsts ws reports runs.workers_are have in
      record {
        streams = streams.0;
        match_inputs = streams.1;
        read = streams.2;
        ordered = record {
          order = record {
            count = observed_count _ _ streams.1 ∙ observed_as_many view firsts _ streams.0 streams.2 ∙ count;
            blocks = runs.blocks;
            within = runs.map_is.within;
            legal = record { events = runs.map_is.legal; room = within_room f run_params.layout runs.blocks m runs.map_is };
            judged = streams.3;
          };
          turns = runs.in_round.turns;
        };
        have_dropped = streams.4;
        layout = runs.map_is.layout;
        formula = runs.map_is.formula;
        clauses = runs.map_is.state;
      }
