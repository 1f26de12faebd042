-- The verdict of an order of lines: some stream says that it added the empty clause, or a clause
-- within the cube, exactly if the order publishes such a clause.
use Rattle.std.proofs.Common.{◌≡◌, ◌||◌, ◌+◌, ◌-◌, ◌<◌, ◌≤◌, ℕ, zero, suc, ℤ, Bool, true, false, List, [], ◌∷◌, ◌++◌, length, refl, sym, ap}
use Rattle.std.proofs.Common.{subst, ◌∙◌, inl, inr, arith}
use Rattle.std.specs.Prelude.{◌==◌}
use Rattle.std.specs.List.{AllByRecursion, list_any}
use Rattle.std.proofs.lemmas.Bool.{cases_eq, cases_Bool, true≢false, or_right, or_left, or_cases}
use Rattle.std.proofs.lemmas.List.Folds.{list_any-append}
use Rattle.std.proofs.Math.Bool.{or-false}
use Rattle.lrup_model.specs.Clause.{Clause}
use Rattle.lrup_model.specs.Cube.{CubeValue}
use Rattle.lrup_model.specs.Distinct.{distinct}
use Rattle.lrup_model.specs.Layout.{LayoutValue, IsStream}
use Rattle.lrup_model.specs.Event as events
use Rattle.lrup_model.specs.Event.{Event, History, Reply}
use Rattle.lrup_model.specs.declared.clause_map.Retired.{Retired}
use Rattle.lrup_text.specs.Lines.{StreamLine, Addition, Deletion, Import}
use Rattle.lrup_text.specs.declared.device.StreamEnd.{StreamEnd}
use Rattle.stream_check.specs.declared.fault.Fault.{Fault}
use Rattle.stream_check.specs.declared.report.Report.{Report}
use Rattle.stream_check.specs.StreamParams.{StreamParams}
use Rattle.stream_check.specs.StreamContext.{StreamContext, context_of, additions_of, is_within}
use Rattle.stream_check.specs.Verdicts.{Good, Bad}
use Rattle.stream_check.specs.Additions.{published_by}
use Rattle.stream_check.specs.lemmas.EventLemmas.{addition_all, import_all}
use Rattle.stream_check.specs.Judging.{JudgesLine, AreGood, EndsAfter, at_bad_line, at_bad_text, at_memory, at_end, joined, JudgesBlocks}
use Rattle.stream_check.specs.lemmas.ReportLemmas.{additions-append, said_empty, said_within, joined-append}
use Rattle.stream_check.specs.Streams.{Stream, JudgesStream, Block, blocks_of, events_in, IsBlockWithin, AreJudged, RunParamsValue}
use Rattle.stream_check.specs.Streams.{stream_params}
use Rattle.stream_check.specs.Streams.{IsOrdered}
use Rattle.stream_check.specs.lemmas.StreamLemmas.{blocks-same, blocks-other, some_end}
use Rattle.run_laws.specs.lemmas.PublishLemmas.{publishes_empty, publishes_within, published_some}
use Rattle.run_laws.specs.OrderLaws.{ClosedOrdered, AllClosed, AllOrdered}
use Rattle.run_laws.proofs.KindLemmas.{identities_all}

-- Truth values

pub or_none : (a b : Bool) → a ≡ false → b ≡ false → (a || b) ≡ false
or_none true b first rest = first
or_none false b first rest = rest

both_ways : (a b : Bool) → (a ≡ true → b ≡ true) → (b ≡ true → a ≡ true) → a ≡ b
both_ways true b to back = sym (to refl)
both_ways false true to back = back refl
both_ways false false to back = refl

-- What a test is about

-- Three tests that agree, of events, of additions and of reports: no fetch or retire passes, the
-- publish of an addition passes exactly if the addition does, and a report passes exactly if a good
-- addition does.
record CallerStep (c : StreamParams) (passes : Event → Bool) (adds : ℕ × Clause → Bool) (says : Report → Bool) : Type 0 where
  fetches_none : (id : ℕ) (r : Reply) → passes (events.fetch c.stream id r) ≡ false
  retires_none : (id : ℕ) (r : Retired) → passes (events.retire c.stream id r) ≡ false
  publishes_added : (id : ℕ) (lits : List ℤ) → passes (published_by c id lits) ≡ adds (id, distinct lits)
  of_good : (lines : List StreamLine) (rest : List ℕ) (end : StreamEnd) (back : List History) (report : Report)
      → EndsAfter c lines rest end back report → says report ≡ list_any adds (additions_of lines)

-- the clause is empty
abbrev adds_empty : ℕ × Clause → Bool
adds_empty a = length a.1 == 0

-- the clause is within the cube
abbrev adds_within : CubeValue → ℕ × Clause → Bool
adds_within cube a = is_within cube a.1

-- the tests for the empty clause agree
empty_says : (c : StreamParams) → CallerStep c publishes_empty adds_empty (λ report. report.empty)
empty_says c = record {
  fetches_none = λ id r. refl;
  retires_none = λ id r. refl;
  publishes_added = λ id lits. refl;
  of_good = said_empty c;
}

-- the tests for a clause within the cube agree
within_says : (c : StreamParams) → CallerStep c (publishes_within c.cube) (adds_within c.cube) (λ report. report.within)
within_says c = record {
  fetches_none = λ id r. refl;
  retires_none = λ id r. refl;
  publishes_added = λ id lits. refl;
  of_good = said_within c;
}

-- The events of a line

module _ (passes : Event → Bool) where
  -- the event doesn't pass
  abbrev IsQuiet : Event → Type 0
  IsQuiet e = passes e ≡ false

  quiet_none : (es : History) → AllByRecursion IsQuiet es → list_any passes es ≡ false
  quiet_none [] all = refl
  quiet_none (e ∷ es) all = or_none (passes e) (list_any passes es) all.0 (quiet_none es all.1)

module _ (c : StreamParams) (passes : Event → Bool) (adds : ℕ × Clause → Bool) (says : Report → Bool)
    (shows : CallerStep c passes adds says) where
  quiet_retires : (ids : List ℕ) → AllByRecursion (λ id. (r : Retired) → IsQuiet passes (events.retire c.stream id r)) ids
  quiet_retires [] = tt
  quiet_retires (id ∷ ids) = (shows.retires_none id, quiet_retires ids)

  -- a good line has an event that `passes` accepts if and only if it adds a clause that `adds`
  -- accepts
  good_line : (st : StreamContext) (line : StreamLine) (es : History) → JudgesLine c st line es Good
      → list_any passes es ≡ list_any adds (additions_of (line ∷ []))
  good_line st (Addition id lits hints) es judged =
      elim (cases_Bool (adds (id, distinct lits))) [
        | inl is ↦
            let last : list_any passes (published_by c id lits ∷ []) ≡ true
            = or_left (passes (published_by c id lits)) false (shows.publishes_added id lits ∙ is) in
            ap (list_any passes) judged.2
            ∙ list_any-append passes judged.0 (published_by c id lits ∷ [])
            ∙ or_right (list_any passes judged.0) (list_any passes (published_by c id lits ∷ [])) last
            ∙ sym (or_left (adds (id, distinct lits)) false is)
        | inr none ↦
            quiet_none passes es (addition_all c (IsQuiet passes) shows.fetches_none id lits Good
            (λ good. shows.publishes_added id lits ∙ none) st hints es judged)
            ∙ sym (or_none (adds (id, distinct lits)) false none refl)
      ]
  good_line st (Import id lits) es judged =
      quiet_none passes es (import_all c (IsQuiet passes) shows.fetches_none st id lits es Good judged)
  good_line st (Deletion lead ids) es judged =
      quiet_none passes es (identities_all c (IsQuiet passes) st.is_dropped [] ids es Good (quiet_retires ids) judged)

  -- a bad line publishes nothing that passes
  bad_line : (st : StreamContext) (line : StreamLine) (es : History) (deleted : ℕ) (fault : Fault)
      → JudgesLine c st line es (Bad deleted fault) → list_any passes es ≡ false
  bad_line st (Addition id lits hints) es deleted fault judged =
      quiet_none passes es
      (addition_all c (IsQuiet passes) shows.fetches_none id lits (Bad deleted fault) (λ good. absurd (cc)) st hints es judged)
  bad_line st (Import id lits) es deleted fault judged =
      quiet_none passes es (import_all c (IsQuiet passes) shows.fetches_none st id lits es (Bad deleted fault) judged)
  bad_line st (Deletion lead ids) es deleted fault judged =
      quiet_none passes es (identities_all c (IsQuiet passes) st.is_dropped [] ids es (Bad deleted fault) (quiet_retires ids) judged)

  -- The events of a stream

  good_lines : (before lines : List StreamLine) (blocks : List History)
      → AreGood c before lines blocks → list_any passes (joined blocks) ≡ list_any adds (additions_of lines)
  good_lines before [] [] good = refl
  good_lines before [] (block ∷ blocks) good = absurd good
  good_lines before (line ∷ lines) [] good = absurd good
  good_lines before (line ∷ lines) (block ∷ blocks) good =
      list_any-append passes block (joined blocks)
      ∙ ap (λ (b : Bool). b || list_any passes (joined blocks)) (good_line (context_of c before) line block good.0)
      ∙ ap (λ (b : Bool). list_any adds (additions_of (line ∷ [])) || b) (good_lines (before ++ line ∷ []) lines blocks good.1)
      ∙ sym (ap (list_any adds) (additions-append (line ∷ []) lines) ∙ list_any-append adds (additions_of (line ∷ [])) (additions_of lines))

  one_quiet : (block : History) (back : List History) → back ≡ block ∷ [] → list_any passes block ≡ false
      → list_any passes (joined back) ≡ false
  one_quiet block back is quiet =
      ap (λ (bs : List History). list_any passes (joined bs)) is
      ∙ list_any-append passes block [] ∙ or-false (list_any passes block) ∙ quiet

  no_quiet : (back : List History) → back ≡ [] → list_any passes (joined back) ≡ false
  no_quiet back is = ap (λ (bs : List History). list_any passes (joined bs)) is

  -- the end of a stream publishes nothing that passes
  ends_quiet : (lines : List StreamLine) (rest : List ℕ) (end : StreamEnd) (back : List History) (report : Report)
      → EndsAfter c lines rest end back report → list_any passes (joined back) ≡ false
  ends_quiet lines rest end back report (at_bad_line line more text fits block one_block deleted fault bad observed) =
      one_quiet block back one_block (bad_line (context_of c lines) line block deleted fault bad)
  ends_quiet lines rest end back report (at_bad_text fault text no_block observed) = no_quiet back no_block
  ends_quiet lines rest end back report (at_memory lead ids more text fits block one_block earlier stops observed) =
      one_quiet block back one_block (quiet_none passes block
      (identities_all c (IsQuiet passes) (context_of c lines).is_dropped [] earlier block Good (quiet_retires earlier) stops.before))
  ends_quiet lines rest end back report (at_end pending no_block observed) = no_quiet back no_block

  -- a stream publishes something that passes exactly if its report passes
  stream_says : (bytes : List ℕ) (end : StreamEnd) (blocks : List History) (report : Report)
      → JudgesBlocks c bytes end blocks report → list_any passes (joined blocks) ≡ says report
  stream_says bytes end blocks report j =
      ap (λ (bs : List History). list_any passes (joined bs)) j.split
      ∙ ap (list_any passes) (joined-append j.front j.back)
      ∙ list_any-append passes (joined j.front) (joined j.back)
      ∙ ap (λ (b : Bool). b || list_any passes (joined j.back)) (good_lines [] j.lines j.front j.good)
      ∙ ap (λ (b : Bool). list_any adds (additions_of j.lines) || b) (ends_quiet j.lines j.rest end j.back report j.ends)
      ∙ or-false (list_any adds (additions_of j.lines)) ∙ sym (shows.of_good j.lines j.rest end j.back report j.ends)

-- The blocks of an order

module _ (passes : Event → Bool) where
  -- if a block of a stream publishes something that passes, so does the order
  in_order : (s : ℕ) (order : List Block) → list_any passes (joined (blocks_of s order)) ≡ true
      → list_any passes (events_in order) ≡ true
  in_order s [] is = is
  in_order s (block ∷ order) is =
      list_any-append passes block.events (events_in order)
      ∙ elim (cases_eq block.stream s) [
        | inl same ↦ elim (or_cases (list_any passes block.events) (list_any passes (joined (blocks_of s order)))
            (sym (list_any-append passes block.events (joined (blocks_of s order)))
            ∙ sym (ap (λ (bs : List History). list_any passes (joined bs)) (blocks-same block order s same)) ∙ is)) [
              | inl here ↦ or_left (list_any passes block.events) (list_any passes (events_in order)) here
              | inr later ↦ or_right (list_any passes block.events) (list_any passes (events_in order)) (in_order s order later)
            ]
        | inr other ↦ or_right (list_any passes block.events) (list_any passes (events_in order))
            (in_order s order (sym (ap (λ (bs : List History). list_any passes (joined bs)) (blocks-other block order s other)) ∙ is))
      ]

  one_more : (s : ℕ) (block : Block) (order : List Block) → list_any passes (joined (blocks_of s order)) ≡ true
      → list_any passes (joined (blocks_of s (block ∷ order))) ≡ true
  one_more s block order is =
      elim (cases_eq block.stream s) [
        | inl same ↦ ap (λ (bs : List History). list_any passes (joined bs)) (blocks-same block order s same)
            ∙ list_any-append passes block.events (joined (blocks_of s order))
            ∙ or_right (list_any passes block.events) (list_any passes (joined (blocks_of s order))) is
        | inr other ↦ ap (λ (bs : List History). list_any passes (joined bs)) (blocks-other block order s other) ∙ is
      ]

  -- if the order publishes something that passes, so does a block of one of the streams
  by_stream : (p : LayoutValue) (set : ℕ → Bool) (order : List Block) → AllByRecursion (IsBlockWithin p set) order
      → list_any passes (events_in order) ≡ true
      → (s : ℕ) × IsStream p s × (list_any passes (joined (blocks_of s order)) ≡ true)
  by_stream p set [] within is = absurd (true≢false (sym is))
  by_stream p set (block ∷ order) within is =
      elim (or_cases (list_any passes block.events) (list_any passes (events_in order))
      (sym (list_any-append passes block.events (events_in order)) ∙ is)) [
        | inl here ↦ (
          block.stream,
          within.0.0,
          ap (λ (bs : List History). list_any passes (joined bs)) (blocks-same block order block.stream refl)
              ∙ list_any-append passes block.events (joined (blocks_of block.stream order))
              ∙ or_left (list_any passes block.events) (list_any passes (joined (blocks_of block.stream order))) here,
        )
        | inr later ↦
            let found : (s : ℕ) × IsStream p s × (list_any passes (joined (blocks_of s order)) ≡ true)
            = by_stream p set order within.1 later in
            (found.0, found.1, one_more found.0 block order found.2)
      ]

-- Reports

module _ (run_params : RunParamsValue) (order : List Block) (passes : Event → Bool) (adds : ℕ × Clause → Bool)
    (says : Report → Bool)
    (shows : (s : ℕ) → CallerStep (stream_params run_params s) passes adds says) where
  observed_by : (s : ℕ) (stream : Stream) (report : Report)
      → (events : List History) × (events ≡ blocks_of s order) × JudgesStream (stream_params run_params s) stream events report
      → list_any passes (joined (blocks_of s order)) ≡ says report
  observed_by s stream report judged =
      let way : (end : StreamEnd) × JudgesBlocks (stream_params run_params s) stream.bytes end (blocks_of s order) report
      = some_end (stream_params run_params s) stream (blocks_of s order) report (rw judged.1 at judged.2) in
      stream_says (stream_params run_params s) passes adds says (shows s) stream.bytes way.0 (blocks_of s order) report way.1

  said_published : (s : ℕ) (streams : List Stream) (reports : List Report)
      → AreJudged run_params (λ t. true) (λ t events. events ≡ blocks_of t order) s streams reports
      → list_any says reports ≡ true → list_any passes (events_in order) ≡ true
  said_published s [] [] judged is = absurd (true≢false (sym is))
  said_published s [] (report ∷ reports) judged is = absurd judged
  said_published s (stream ∷ streams) [] judged is = absurd judged
  said_published s (stream ∷ streams) (report ∷ reports) judged is =
      elim (or_cases (says report) (list_any says reports) is) [
        | inl here ↦ in_order passes s order (observed_by s stream report (judged.0 refl) ∙ here)
        | inr later ↦ said_published (s + 1) streams reports judged.1 later
      ]

  published_said : (s : ℕ) (streams : List Stream) (reports : List Report)
      → AreJudged run_params (λ t. true) (λ t events. events ≡ blocks_of t order) s streams reports
      → (k : ℕ) → k < length streams → list_any passes (joined (blocks_of (s + k) order)) ≡ true
      → list_any says reports ≡ true
  published_said s [] [] judged k below is = absurd (omega (arith, below))
  published_said s [] (report ∷ reports) judged k below is = absurd judged
  published_said s (stream ∷ streams) [] judged k below is = absurd judged
  published_said s (stream ∷ streams) (report ∷ reports) judged zero below is =
      let here : s + 0 ≡ s = omega arith in
      or_left (says report) (list_any says reports)
      (sym (observed_by s stream report (judged.0 refl)) ∙ subst (λ (t : ℕ). list_any passes (joined (blocks_of t order)) ≡ true) here is)
  published_said s (stream ∷ streams) (report ∷ reports) judged (suc k) below is =
      let next : s + suc k ≡ s + 1 + k = omega arith in
      or_right (says report) (list_any says reports)
      (published_said (s + 1) streams reports judged.1 k (omega (arith, below))
      (subst (λ (t : ℕ). list_any passes (joined (blocks_of t order)) ≡ true) next is))

  -- some report passes exactly if the order publishes something that passes
  reports_say : (streams : List Stream) (reports : List Report) → length streams ≡ run_params.layout.streams
      → AllByRecursion (IsBlockWithin run_params.layout (λ s. true)) order
      → AreJudged run_params (λ s. true) (λ s events. events ≡ blocks_of s order) 1 streams reports
      → list_any says reports ≡ list_any passes (events_in order)
  reports_say streams reports count within judged =
      both_ways (list_any says reports) (list_any passes (events_in order))
      (said_published 1 streams reports judged)
      (λ is.
      let found : (s : ℕ) × IsStream run_params.layout s × (list_any passes (joined (blocks_of s order)) ≡ true)
      = by_stream passes run_params.layout (λ s. true) order within is in
      let s : ℕ = found.0 in
      let first : 0 < s = found.1.0 in
      let last : s ≤ run_params.layout.streams = found.1.1 in
      let here : s ≡ 1 + (s - 1) = omega (arith, first) in
      published_said 1 streams reports judged (s - 1) (omega (arith, first, last, count))
      (subst (λ (t : ℕ). list_any passes (joined (blocks_of t order)) ≡ true) here found.2))

pub all_ordered : ClosedOrdered → AllClosed → AllOrdered
all_ordered closed_ordered all_closed f run_params h streams reports fits count legal judged stays =
    let order : IsOrdered f run_params (λ s. true) streams reports
    = closed_ordered f run_params (λ s. true) h streams reports fits count legal judged (all_closed run_params.layout streams) stays in (
      order,
      record {
        empty =
            reports_say run_params order.blocks publishes_empty adds_empty (λ report. report.empty)
            (λ s. empty_says (stream_params run_params s))
            streams reports count order.within order.judged
            ∙ published_some (λ c. length c == 0) (events_in order.blocks);
        within = reports_say run_params order.blocks (publishes_within run_params.cube) (adds_within run_params.cube)
            (λ report. report.within)
            (λ s. within_says (stream_params run_params s))
            streams reports count order.within order.judged
            ∙ published_some (is_within run_params.cube) (events_in order.blocks);
      },
    )
