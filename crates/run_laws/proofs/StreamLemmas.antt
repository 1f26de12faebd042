-- The order of the streams' lines: each stream's blocks, taken from its judgement.
use Rattle.std.proofs.Common.{◌≡◌, ◌+◌, ◌-◌, ◌<◌, ◌≤◌, ℕ, Bool, true, cond, eqb, List, [], ◌∷◌, map, length, Some, refl, sym}
use Rattle.std.proofs.Common.{subst, ◌∙◌, inl, inr, arith, ne_eqb, eq-eqb}
use Rattle.std.specs.Prelude.{IsTrue, slice_get}
use Rattle.std.specs.List.{AllByRecursion}
use Rattle.std.proofs.lemmas.Bool.{cases_Bool, cond-true, cond-false, true≢false}
use Rattle.lrup_model.specs.Layout.{LayoutValue, IsStream, owner}
use Rattle.lrup_model.specs.declared.layout.Owner.{Owner}
use Rattle.lrup_model.specs.declared.layout.Owner.TheVariants as owners
use Rattle.lrup_model.specs.Event as events
use Rattle.lrup_model.specs.Event.{History, stream_of, own}
use Rattle.lrup_model.specs.lemmas.OwnerLemmas.{IsOwned, owned}
use Rattle.lrup_model.specs.Laws.{FindsWithin}
use Rattle.lrup_text.specs.Lines.{StreamLine}
use Rattle.lrup_text.specs.Laws.{EveryCut}
use Rattle.lrup_text.specs.declared.device.StreamEnd.{StreamEnd}
use Rattle.stream_check.specs.declared.report.Report.{Report}
use Rattle.stream_check.specs.StreamParams.{StreamParams}
use Rattle.stream_check.specs.Judging.{joined, JudgesBlocks}
use Rattle.stream_check.specs.Reducing.{reduced}
use Rattle.stream_check.specs.Laws.{cited_by, FetchesOnly, CitedFetched, ReducedStream}
use Rattle.stream_check.specs.Streams.{Stream, JudgesStream, Block, blocks_of, IsBlockWithin, AreJudged, RunParamsValue, stream_params}
use Rattle.stream_check.specs.SequentialConsistency.{AreJudgedIn}
use Rattle.stream_check.specs.Closed.{IsOfStream, IsOwnedWithin, CiteWithin}
use Rattle.stream_check.specs.Each.{Each}
use Rattle.stream_check.specs.lemmas.EachLemmas.{each_at, each_count, each_more, each_within}
use Rattle.stream_check.specs.lemmas.StreamLemmas.{IsJudgedBy, some_end}
use Rattle.run_laws.specs.Lines.{IsOrder}
use Rattle.run_laws.specs.OrderLaws.{JudgedBlocks, LinesOrdered, ClosedOrdered, AllClosed, AllOrdered, RunSerializable}
use Rattle.run_laws.proofs.GroupLemmas.{owned_by, is_within, owners_within}
use Rattle.run_laws.proofs.OrderLemmas.{streams_in, streams_are, are_streams, own_each}
use Rattle.run_laws.proofs.Places.{has_place}

-- One stream's blocks

reduced_judged : ReducedStream → (c : StreamParams) (stream : Stream) (blocks : List History) (report : Report)
    → JudgesStream c stream blocks report → JudgesStream c stream (map reduced blocks) report
reduced_judged law c stream blocks report judged = λ end its. law c stream.bytes end blocks report (judged end its)

module _ (run_params : RunParamsValue) (set : ℕ → Bool) (h : History) where
  -- if stream s is in the set, these blocks are its own events and judge it
  abbrev IsJudgedWith : ℕ → Stream → Report → List History → Type 0
  IsJudgedWith s stream report bs = IsTrue (set s) → (own h s ≡ joined bs) × JudgesStream (stream_params run_params s) stream bs report

  chosen : (s : ℕ) (stream : Stream) (report : Report) → (IsTrue (set s) → IsJudgedBy (stream_params run_params s) stream (own h s) report)
      → (bs : List History) × IsJudgedWith s stream report bs
  chosen s stream report judged =
      elim (cases_Bool (set s)) [
        | inl member ↦ ((judged member).0, (λ also. ((judged member).1, (judged member).2)))
        | inr out ↦ ([], (λ member. absurd (true≢false (sym member ∙ out))))
      ]

  -- each stream of the set, from stream s on, is judged by its blocks, which are its own events
  abbrev AreJudgedWith : (ℕ → List History) → ℕ → List Stream → List Report → Type 0
  AreJudgedWith blocks s streams reports = Each (λ t stream report. IsJudgedWith t stream report (blocks t)) s streams reports

  judged_alike : (blocks others : ℕ → List History) (s : ℕ) (streams : List Stream) (reports : List Report)
      → ((t : ℕ) → s ≤ t → blocks t ≡ others t) → AreJudgedWith blocks s streams reports → AreJudgedWith others s streams reports
  judged_alike blocks others s streams reports same judged =
      each_within (s + length streams) s streams reports (omega arith) judged
      (λ t stream report from to j. subst (IsJudgedWith t stream report) (same t from) j)

  gathered : (s : ℕ) (streams : List Stream) (reports : List Report) → AreJudgedIn run_params set h s streams reports
      → (blocks : ℕ → List History) × AreJudgedWith blocks s streams reports
  gathered s [] [] judged = ((λ t. []), tt)
  gathered s [] (report ∷ reports) judged = absurd judged
  gathered s (stream ∷ streams) [] judged = absurd judged
  gathered s (stream ∷ streams) (report ∷ reports) judged =
      let rest : (blocks : ℕ → List History) × AreJudgedWith blocks (s + 1) streams reports = gathered (s + 1) streams reports judged.1 in
      let mine : (bs : List History) × IsJudgedWith s stream report bs = chosen s stream report judged.0 in
      let blocks : ℕ → List History = λ t. cond (eqb t s) mine.0 (rest.0 t) in (
        blocks,
        (
          subst (IsJudgedWith s stream report) (sym (cond-true (eqb s s) mine.0 (rest.0 s) (eq-eqb s s refl))) mine.1,
          judged_alike rest.0 blocks (s + 1) streams reports
              (λ t above. sym (cond-false (eqb t s) mine.0 (rest.0 t) (ne_eqb t s (λ same. omega (arith, above, same))))) rest.1,
        ),
      )

  -- a stream of the set, at its index in the list
  record IsJudgedAt (blocks : ℕ → List History) (streams : List Stream) (k s : ℕ) : Type 0 where
    stream : Stream
    report : Report
    at : slice_get streams k ≡ Some stream
    own_events : own h s ≡ joined (blocks s)
    judges : JudgesStream (stream_params run_params s) stream (blocks s) report

  judged_at : (blocks : ℕ → List History) (streams : List Stream) (reports : List Report) → AreJudgedWith blocks 1 streams reports
      → (s : ℕ) → 0 < s → s ≤ length streams → IsTrue (set s) → IsJudgedAt blocks streams (s - 1) s
  judged_at blocks streams reports judged s first last member =
      let stream = has_place streams s first last in
      let many : length reports ≡ length streams = each_count _ 1 streams reports judged in
      let report = has_place reports s first (omega (arith, last, many)) in
      let mine = each_at _ streams reports judged s stream.0 report.0 stream.1 report.1 member in
      record { stream = stream.0; report = report.0; at = stream.1.1; own_events = mine.0; judges = mine.1 }

  -- in an order of these lines, each one reduced, each stream is judged as before
  are_judged : ReducedStream → (blocks : ℕ → List History) (order : List Block) (s : ℕ) (streams : List Stream) (reports : List Report)
      → ((t : ℕ) → IsStream run_params.layout t → IsTrue (set t) → blocks_of t order ≡ map reduced (blocks t))
      → 0 < s → s + length streams ≤ run_params.layout.streams + 1
      → AreJudgedWith blocks s streams reports → AreJudged run_params set (λ t events. events ≡ blocks_of t order) s streams reports
  are_judged law blocks order s streams reports lines first last judged =
      each_within run_params.layout.streams s streams reports last judged (λ t stream report from to j member. (
        map reduced (blocks t),
        sym (lines t (omega (arith, first, from), to) member),
        reduced_judged law (stream_params run_params t) stream (blocks t) report (j member).1,
      ))

-- Each stream of a set, and its own events

-- what is known about a stream of the set that one history judges
pub record IsJudgedStream (run_params : RunParamsValue) (h : History) (streams : List Stream) (s : ℕ) : Type 0 where
  pub stream : Stream
  pub report : Report
  pub end : StreamEnd
  pub blocks : List History
  pub at : IsOfStream streams s stream
  pub own_events : own h s ≡ joined blocks
  pub judges : JudgesBlocks (stream_params run_params s) stream.bytes end blocks report

pub judged_stream : (run_params : RunParamsValue) (set : ℕ → Bool) (h : History) (streams : List Stream) (reports : List Report)
    → length streams ≡ run_params.layout.streams → AreJudgedIn run_params set h 1 streams reports
    → (s : ℕ) → IsStream run_params.layout s → IsTrue (set s) → IsJudgedStream run_params h streams s
judged_stream run_params set h streams reports count judged s is member =
    let all : (blocks : ℕ → List History) × AreJudgedWith run_params set h blocks 1 streams reports
    = gathered run_params set h 1 streams reports judged in
    let found : IsJudgedAt run_params set h all.0 streams (s - 1) s
    = judged_at run_params set h all.0 streams reports all.1 s is.0 (omega (arith, is.1, count)) member in
    let way : (end : StreamEnd) × JudgesBlocks (stream_params run_params s) found.stream.bytes end (all.0 s) found.report
    = some_end (stream_params run_params s) found.stream (all.0 s) found.report found.judges in
    record {
      stream = found.stream;
      report = found.report;
      end = way.0;
      blocks = all.0 s;
      at = (is.0, found.at);
      own_events = found.own_events;
      judges = way.1;
    }

-- Closed sets

within_inside : (p : LayoutValue) (set : ℕ → Bool) (id : ℕ) (o : Owner) → owner p id ≡ o → IsOwnedWithin p set id
    → IsTrue (owned_by set o)
unfolding owned_by
within_inside p set id owners.Formula is within = refl
within_inside p set id (owners.Stream t) is within = within t is
within_inside p set id owners.Outside is within = refl

ids_inside : (p : LayoutValue) (set : ℕ → Bool) (ids : List ℕ)
    → AllByRecursion (IsOwnedWithin p set) ids → AllByRecursion (λ id. IsTrue (is_within p set id)) ids
unfolding is_within
ids_inside p set [] all = tt
ids_inside p set (id ∷ ids) all = (within_inside p set id (owner p id) refl all.0, ids_inside p set ids all.1)

lines_inside : (p : LayoutValue) (set : ℕ → Bool) (lines : List StreamLine)
    → AllByRecursion (λ line. AllByRecursion (IsOwnedWithin p set) (cited_by line)) lines
    → AllByRecursion (λ line. AllByRecursion (λ id. IsTrue (is_within p set id)) (cited_by line)) lines
lines_inside p set [] all = tt
lines_inside p set (line ∷ lines) all = (ids_inside p set (cited_by line) all.0, lines_inside p set lines all.1)

-- a stream of a closed set fetches no identity of a stream outside it
pub fetched_inside : CitedFetched → (run_params : RunParamsValue) (set : ℕ → Bool) (h : History) (streams : List Stream) (s : ℕ)
    → (judged : IsJudgedStream run_params h streams s) → CiteWithin run_params.layout set judged.stream.bytes
    → AllByRecursion (FetchesOnly (is_within run_params.layout set)) (own h s)
fetched_inside law run_params set h streams s judged closed =
    subst (AllByRecursion (FetchesOnly (is_within run_params.layout set))) (sym judged.own_events)
    (law (stream_params run_params s) judged.stream.bytes judged.end judged.blocks judged.report closed.lines closed.rest
    (is_within run_params.layout set) judged.judges closed.cut (lines_inside run_params.layout set closed.lines closed.within))

finds_within : (p : LayoutValue) (set : ℕ → Bool) (h : History)
    → AllByRecursion (λ e. IsTrue (streams_in p set (stream_of e)) → FetchesOnly (is_within p set) e) h
    → AllByRecursion (FindsWithin p (streams_in p set)) h
finds_within p set [] all = tt
finds_within p set (events.fetch s id r ∷ h) all = (
  λ member found t owns.
      let caller : IsTrue (set s) × IsStream p s = streams_are p set s member in
      let theirs : IsOwned p t id = owned p t id (omega (arith, caller.1.0, caller.1.1)) owns in
      are_streams p set t (owners_within p set id t (all.0 member) owns) (theirs.first, theirs.last),
  finds_within p set h all.1,
)
finds_within p set (events.publish s id c r ∷ h) all = (tt, finds_within p set h all.1)
finds_within p set (events.retire s id r ∷ h) all = (tt, finds_within p set h all.1)

-- The order

blocks_within : (p : LayoutValue) (set : ℕ → Bool) (order : List Block)
    → AllByRecursion (IsBlockWithin p (streams_in p set)) order → AllByRecursion (IsBlockWithin p set) order
blocks_within p set [] all = tt
blocks_within p set (block ∷ order) all =
    ((all.0.0, (streams_are p set block.stream all.0.1).0, all.0.2), blocks_within p set order all.1)

pub closed_ordered : LinesOrdered → JudgedBlocks → CitedFetched → ReducedStream → ClosedOrdered
closed_ordered lines_ordered judged_blocks cited_fetched reduced_stream f run_params set h streams reports fits count legal judged
    closed stays =
    let p : LayoutValue = run_params.layout in
    let inside : ℕ → Bool = streams_in p set in
    let all : (blocks : ℕ → List History) × AreJudgedWith run_params set h blocks 1 streams reports
    = gathered run_params set h 1 streams reports judged in
    let found : (s : ℕ) → IsStream p s → IsTrue (set s) → IsJudgedAt run_params set h all.0 streams (s - 1) s
    = λ s is member. judged_at run_params set h all.0 streams reports all.1 s is.0 (omega (arith, is.1, count)) member in
    let finds : AllByRecursion (FindsWithin p inside) h
    = finds_within p set h (own_each (FetchesOnly (is_within p set)) inside h (λ s member.
    let is : IsTrue (set s) × IsStream p s = streams_are p set s member in
    let one : IsJudgedStream run_params h streams s = judged_stream run_params set h streams reports count judged s is.1 is.0 in
    fetched_inside cited_fetched run_params set h streams s one (closed s one.stream is.0 one.at))) in
    let made : (order : List Block) × IsOrder f p inside all.0 order
    = lines_ordered f p inside h all.0 fits legal finds
    (λ s is member. (found s is (streams_are p set s member).0).own_events)
    (λ s is member.
    let one : IsJudgedAt run_params set h all.0 streams (s - 1) s = found s is (streams_are p set s member).0 in
    let way : (end : StreamEnd) × JudgesBlocks (stream_params run_params s) one.stream.bytes end (all.0 s) one.report
    = some_end (stream_params run_params s) one.stream (all.0 s) one.report one.judges in
    judged_blocks (stream_params run_params s) one.stream.bytes way.0 (all.0 s) one.report way.1)
    (λ s is member. stays s is (streams_are p set s member).0) in
    record {
      count = count;
      blocks = made.0;
      within = blocks_within p set made.0 made.1.within;
      legal = made.1.legal;
      judged = are_judged run_params set h reduced_stream all.0 made.0 1 streams reports
          (λ s is member. made.1.lines s is (are_streams p set s member is)) (omega arith) (omega (arith, count)) all.1;
    }

-- All streams

ids_of_all : (p : LayoutValue) (ids : List ℕ) → AllByRecursion (IsOwnedWithin p (λ s. true)) ids
ids_of_all p [] = tt
ids_of_all p (id ∷ ids) = ((λ t owns. refl), ids_of_all p ids)

lines_of_all : (p : LayoutValue) (lines : List StreamLine)
    → AllByRecursion (λ line. AllByRecursion (IsOwnedWithin p (λ s. true)) (cited_by line)) lines
lines_of_all p [] = tt
lines_of_all p (line ∷ lines) = (ids_of_all p (cited_by line), lines_of_all p lines)

pub all_closed : EveryCut → AllClosed
all_closed every_cut p streams s stream member at =
    let cut = every_cut stream.bytes in
    record { lines = cut.0; rest = cut.1; cut = cut.2; within = lines_of_all p cut.0 }

-- Runs

-- if all streams are judged by this history, so are the streams of a set
judged_members : (run_params : RunParamsValue) (set : ℕ → Bool) (h : History) (s : ℕ) (streams : List Stream) (reports : List Report)
    → AreJudgedIn run_params (λ t. true) h s streams reports → AreJudgedIn run_params set h s streams reports
judged_members run_params set h s streams reports judged = each_more s streams reports judged (λ t stream report j member. j refl)

pub run_serializable : ClosedOrdered → AllOrdered → RunSerializable
run_serializable closed_ordered all_ordered f run_params observed reports fits run = record {
  sets = λ set closed stays. closed_ordered f run_params set run.history run.streams reports fits run.count run.legal
      (judged_members run_params set run.history 1 run.streams reports run.judged) closed stays;
  all = λ stays. all_ordered f run_params run.history run.streams reports fits run.count run.legal run.judged stays;
}
