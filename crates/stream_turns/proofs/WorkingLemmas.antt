-- What a worker's steps leave: a read, what the checker takes from a piece, and the end.
use Rattle.std.proofs.Common.{◌≡◌, ℕ, ◌+◌, ◌-◌, ◌<◌, ◌≤◌, Bool, true, false, List, [], ◌++◌, length, take, drop, arith, length-take, Option}
use Rattle.std.proofs.Common.{None, Some, refl, sym, ap, subst, ◌∙◌, append_assoc, append-nil}
use Rattle.std.specs.Prelude.{◌↔◌, IfSome, IsSome, IsTrue}
use Rattle.std.specs.Io.KnownBytes.{Consumes}
use Rattle.std.proofs.KnownBytes.{Consumes-trans}
use Rattle.std.proofs.Math.Seq.{take-add}
use Rattle.std.proofs.lemmas.List.{take-take, drop-drop}
use Rattle.lrup_model.specs.Event.{History}
use Rattle.lrup_text.specs.declared.device.StreamEnd.{StreamEnd}
use Rattle.lrup_text.specs.declared.device.StreamEnd.TheVariants as stream_ends
use Rattle.stream_check.specs.declared.report.Ending.{Ending}
use Rattle.stream_check.specs.declared.report.Report.{Report}
use Rattle.stream_check.specs.StreamParams.{StreamParams}
use Rattle.stream_check.specs.Judging.{ending_at, JudgesBlocks}
use Rattle.stream_check.specs.declared.progress.CheckStatus.{CheckStatus}
use Rattle.stream_check.specs.declared.progress.CheckStatus.TheVariants as statuses
use Rattle.stream_check.specs.Reaching.{ReachesState}
use Rattle.stream_check.specs.Stopping.{IsFullAtMemory}
use Rattle.stream_check.specs.CheckerValue.{Tally, report_of_tally, CheckerValue}
use Rattle.stream_check.specs.Checker.{AreBlocksOf, state_by, checker_state, Extends, EndsBy, Ends, ReportsEnd}
use Rattle.lrup_text.specs.lemmas.ReadLemmas.{gave_more}
use Rattle.lrup_text.specs.ReadOut.{EndsSo, IsLastRead, SourceView}
use Rattle.lrup_text.specs.Reads.{Gave}
use Rattle.stream_check.specs.lemmas.StreamLemmas.{judged_out}
use Rattle.stream_check.specs.Dropping.{HasDropped}
use Rattle.stream_turns.specs.internal.Working.{AreBlocksOfTurn, WorkerValue, WorkerInvariantBy, WorkerInvariant, WorkerStep}
use Rattle.stream_check.specs.lemmas.DroppingLemmas.{going_drops, stopped_drops}

-- ---- unfinished checkers

none_of : (ending : Option Ending) → (IsSome ending → ⊥) → ending ≡ None
none_of None none = refl
none_of (Some ending) none = absurd (none refl)

-- an unfinished checker has no ending
pub not_finished : (finished : Bool) (ending : Option Ending) → (IsTrue finished ↔ IsSome ending) → finished ≡ false → ending ≡ None
not_finished finished ending is going = none_of ending (λ some. let yes : finished ≡ true = is.1 some in cc)

-- ---- a judgement for both ends is a judgement for each

pub either_end : (c : StreamParams) (bytes : List ℕ) (blocks : List History) (report : Report) (end : StreamEnd)
    → JudgesBlocks c bytes stream_ends.Ended blocks report → JudgesBlocks c bytes stream_ends.Failed blocks report
    → JudgesBlocks c bytes end blocks report
either_end c bytes blocks report stream_ends.Ended at_end at_failure = at_end
either_end c bytes blocks report stream_ends.Failed at_end at_failure = at_failure

-- ---- the blocks of a turn

pub turn_blocks : (status : CheckStatus) (ending : Option Ending) (blocks : List History) → (status ≡ statuses.More → ⊥)
    → (status ≡ statuses.Over → IsSome ending) → AreBlocksOf status blocks → AreBlocksOfTurn ending blocks
turn_blocks statuses.Line None blocks ends finished are = are
turn_blocks statuses.Line (Some ending) blocks ends finished are = omega (arith, are)
turn_blocks statuses.More ending blocks ends finished are = absurd (ends refl)
turn_blocks statuses.Over None blocks ends finished are = absurd (let none : false ≡ true = finished refl in cc)
turn_blocks statuses.Over (Some ending) blocks ends finished are = are

-- a turn in which the stream finishes may have no block
pub finished_without : (ending : Option Ending) → IsSome ending → AreBlocksOfTurn ending []
finished_without None finished = absurd (let none : false ≡ true = finished in cc)
finished_without (Some ending) finished = omega arith

-- ---- what is dropped

-- what an unfinished checker has dropped is what the stream has dropped when it ends
end_drops : (end : StreamEnd) (v u : CheckerValue) (room : ℕ) (bytes : List ℕ) (blocks : List History) (ending : Ending)
    → v.ending ≡ None → ReachesState v.params bytes blocks (checker_state v room) → EndsBy None end v u → u.ending ≡ Some ending
    → HasDropped u.params bytes blocks (report_of_tally u.tally ending) u.dropped
end_drops end v u room bytes blocks ending going reaches ended is =
    let its = ending_at end v.pending v.line in
    let same : its ≡ ending = let e : Some its ≡ Some ending = sym ended.2 ∙ is in cc in
    let drops : HasDropped v.params bytes blocks (report_of_tally v.tally its) v.dropped =
    going_drops v.params v room bytes blocks end going reaches in
    subst (λ (c : StreamParams). HasDropped c bytes blocks (report_of_tally u.tally ending) u.dropped) (sym ended.0)
    (subst (HasDropped v.params bytes blocks (report_of_tally u.tally ending)) (sym ended.4)
    (subst (λ (e : Ending). HasDropped v.params bytes blocks (report_of_tally u.tally e) v.dropped) same
    (subst (λ (t : Tally). HasDropped v.params bytes blocks (report_of_tally t its) v.dropped) (sym ended.1) drops)))

-- ---- a worker's steps

abbrev pub worker_of : {S : Type 0} → S → List ℕ → CheckerValue → WorkerValue S
worker_of reader unread v = record { reader = reader; unread = unread; checker = v }

module _ {S : Type 0} (view : SourceView S) where
  pub worker_none : (w : WorkerValue S) (room : ℕ) → WorkerStep view w room [] w room
  worker_none w room entry before holds = subst (WorkerInvariant view entry w room) (sym (append-nil before)) holds

  pub worker_append : (a b c : WorkerValue S) (i j k : ℕ) (front back : List History) → WorkerStep view a i front b j
      → WorkerStep view b j back c k → WorkerStep view a i (front ++ back) c k
  worker_append a b c i j k front back first second entry before holds =
      subst (WorkerInvariant view entry c k) (append_assoc before front back) (second entry (before ++ front) (first entry before holds))

  -- the earlier steps, a read, and what the checker took, are one step
  pub worker_turn : (a b c d : WorkerValue S) (i j k : ℕ) (front back : List History) → WorkerStep view a i front b j
      → WorkerStep view b j [] c j
      → WorkerStep view c j back d k → WorkerStep view a i (front ++ back) d k
  worker_turn a b c d i j k front back first read fed =
      worker_append a b d i j k front back first (worker_append b c d j j k [] back read fed)

  -- a read is a step, if all earlier bytes were taken
  pub worker_read : (old new : S) (unread piece : List ℕ) (size : ℕ) (v : CheckerValue) (room : ℕ)
      → Consumes (view.left old) (view.left new) piece → view.reads old size (Some piece) new → 0 < length piece → unread ≡ []
      → v.ending ≡ None → WorkerStep view (worker_of old unread v) room [] (worker_of new piece v) room
  worker_read old new unread piece size v room known read some none going first before holds =
      let here = subst (λ e. WorkerInvariantBy view e first (worker_of old unread v) room before) going holds in
      let same : here.0 ++ unread ≡ here.0 = ap (λ (t : List ℕ). here.0 ++ t) none ∙ append-nil here.0 in
      let given : Consumes (view.left first) (view.left old) here.0 = subst (Consumes (view.left first) (view.left old)) same here.1 in
      let gave : Gave S view.reads first here.0 old = subst (λ (t : List ℕ). Gave S view.reads first t old) same here.2 in
      subst (λ e. WorkerInvariantBy view e first (worker_of new piece v) room (before ++ [])) (sym going)
      (subst (λ (bs : List History). WorkerInvariantBy view None first (worker_of new piece v) room bs) (sym (append-nil before)) (
        here.0,
        Consumes-trans (view.left first) (view.left old) (view.left new) here.0 piece given known,
        gave_more S view.reads first old new here.0 piece (here.0 ++ piece) size gave read some refl,
        here.3,
      ))

  -- the end, or a read that failed, is a step
  pub worker_finished : (end : StreamEnd) (old new : S) (unread rest : List ℕ) (v u : CheckerValue) (room : ℕ)
      → EndsSo end (view.left new) (view.has_failed new) → IsLastRead S view.reads end old new
      → Consumes (view.left old) (view.left new) [] → unread ≡ [] → v.ending ≡ None → Ends end v u → ReportsEnd end v u
      → WorkerStep view (worker_of old unread v) room [] (worker_of new rest u) room
  worker_finished end old new unread rest v u room stops last known none going ends reports first before holds =
      let here = subst (λ e. WorkerInvariantBy view e first (worker_of old unread v) room before) going holds in
      let all : here.0 ++ unread ≡ here.0 = ap (λ (t : List ℕ). here.0 ++ t) none ∙ append-nil here.0 in
      let given : Consumes (view.left first) (view.left old) here.0 = subst (Consumes (view.left first) (view.left old)) all here.1 in
      let gave : Gave S view.reads first here.0 old = subst (λ (t : List ℕ). Gave S view.reads first t old) all here.2 in
      let ended : EndsBy None end v u = subst (λ e. EndsBy e end v u) going ends in
      let same : u.params ≡ v.params = ended.0 in
      let judged = reports here.0 before room here.3 in
      let report = report_of_tally u.tally judged.0 in
      subst (λ e. WorkerInvariantBy view e first (worker_of new rest u) room (before ++ [])) (sym judged.1)
      (subst (λ (bs : List History). WorkerInvariantBy view (Some judged.0) first (worker_of new rest u) room bs)
      (sym (append-nil before)) (
        record { bytes = here.0; unneeded = []; end = Some end },
        (
          record {
            consumes = Consumes-trans (view.left first) (view.left old) (view.left new) here.0 [] given known;
            ends = stops;
            needed = λ out. refl;
          },
          record { last = old; given = gave; ends = last },
        ),
        judged_out u.params here.0 [] end before report
            (subst (λ (c : StreamParams). JudgesBlocks c here.0 end before report) (sym same) judged.2),
        end_drops end v u room here.0 before judged.0 going here.3 ended judged.1,
      ))

  -- the worker's invariant holds if the bytes so far led to its checker, finished or not
  worker_at : (ending : Option Ending) (first reader : S) (bytes rest : List ℕ) (v : CheckerValue) (room : ℕ) (blocks : List History)
      → v.ending ≡ ending → view.has_failed reader ≡ false → Consumes (view.left first) (view.left reader) (bytes ++ rest)
      → Gave S view.reads first (bytes ++ rest) reader → ReachesState v.params bytes blocks (state_by v room ending)
      → IfSome ending (λ e. IsFullAtMemory e v.dropped)
      → WorkerInvariantBy view ending first (worker_of reader rest v) room blocks
  worker_at None first reader bytes rest v room blocks is running given gave reaches full =
      (bytes, given, gave, subst (λ e. ReachesState v.params bytes blocks (state_by v room e)) (sym is) reaches)
  worker_at (Some ending) first reader bytes rest v room blocks is running given gave reaches full = (
    record { bytes = bytes; unneeded = rest; end = None },
    (record { consumes = given; ends = running; needed = λ out. absurd (let no : false ≡ true = out in cc) }, gave),
    λ end may. either_end v.params bytes blocks (report_of_tally v.tally ending) end reaches.0.0 reaches.0.1,
    stopped_drops ending v.params bytes blocks v.tally v.dropped reaches.1 full,
  )

  -- feeding the checker bytes that were read is a step
  pub worker_fed : (reader : S) (unread front rest : List ℕ) (v u : CheckerValue) (room after : ℕ) (blocks : List History)
      → view.has_failed reader ≡ false → unread ≡ front ++ rest → v.ending ≡ None → u.params ≡ v.params
      → Extends v.params (checker_state v room) front blocks (checker_state u after)
      → IfSome u.ending (λ e. IsFullAtMemory e u.dropped)
      → WorkerStep view (worker_of reader unread v) room blocks (worker_of reader rest u) after
  worker_fed reader unread front rest v u room after blocks running split going same reaches full first before holds =
      let here = subst (λ e. WorkerInvariantBy view e first (worker_of reader unread v) room before) going holds in
      let all : here.0 ++ unread ≡ (here.0 ++ front) ++ rest = ap (λ (t : List ℕ). here.0 ++ t) split
      ∙ sym (append_assoc here.0 front rest) in
      let given : Consumes (view.left first) (view.left reader) ((here.0 ++ front) ++ rest) =
      subst (Consumes (view.left first) (view.left reader)) all here.1 in
      let gave : Gave S view.reads first ((here.0 ++ front) ++ rest) reader =
      subst (λ (t : List ℕ). Gave S view.reads first t reader) all here.2 in
      let there : ReachesState u.params (here.0 ++ front) (before ++ blocks) (checker_state u after) =
      subst (λ (c : StreamParams). ReachesState c (here.0 ++ front) (before ++ blocks) (checker_state u after)) (sym same)
      (reaches here.0 before here.3) in
      worker_at u.ending first reader (here.0 ++ front) rest u after (before ++ blocks) refl running given gave there full

-- ---- the buffer

-- the bytes between two indices are the first ones, which the checker took, and the rest
pub unread_split : (xs now : List ℕ) (start end used : ℕ) → now ≡ xs → used ≤ length (take (end - start) (drop start now))
    → take (end - start) (drop start xs)
    ≡ take used (take (end - start) (drop start now)) ++ take (end - (start + used)) (drop (start + used) xs)
unread_split xs now start end used same few =
    let rest = drop start now in
    let some : used ≤ end - start = omega (arith, few, length-take (end - start) rest) in
    let count : used + (end - (start + used)) ≡ end - start = omega (arith, some) in
    ap (λ (t : List ℕ). take (end - start) (drop start t)) (sym same)
    ∙ ap (λ n. take n rest) (sym count)
    ∙ take-add used (end - (start + used)) rest
    ∙ ap (λ (t : List ℕ). take used rest ++ take (end - (start + used)) t) (drop-drop used start now ∙ ap (drop (start + used)) same)
    ∙ ap (λ (t : List ℕ). t ++ take (end - (start + used)) (drop (start + used) xs)) (sym (take-take used (end - start) rest some))

pub none_between : (xs : List ℕ) (start end : ℕ) → end ≤ start → take (end - start) (drop start xs) ≡ []
none_between xs start end h = let none : end - start ≡ 0 = omega (arith, h) in ap (λ n. take n (drop start xs)) none
