-- What a round with the one line `5 2 0 1 2 0` leaves.
use Rattle.std.proofs.Common.{◌≡◌, ◌∙◌, ◌++◌, ℕ, true, false, List, [], ◌∷◌}
use Rattle.std.proofs.Common.{Option, None, Some, map, length, refl, sym, ap, subst, arith}
use Rattle.std.proofs.Math.Bool.{and-false}
use Rattle.std.proofs.lemmas.Bool.{or_left, or_right}
use Rattle.std.proofs.lemmas.List.{append-nil}
use Rattle.std.specs.Prelude.{◌==◌, not, codes, IfSome, IsSome, MatchOption}
use Rattle.std.specs.Fmt.{digits}
use Rattle.std.specs.Io.KnownBytes.{Consumes, IsAtEnd}
use Rattle.std.specs.List.{AllByRecursion, AllZip, flat_map, list_any}
use Rattle.lrup_model.specs.Event.{History, own}
use Rattle.lrup_model.specs.Formula.{Cnf}
use Rattle.lrup_model.specs.History.{LegalFrom}
use Rattle.lrup_model.specs.Layout.{LayoutValue, Owns}
use Rattle.lrup_model.specs.State as states
use Rattle.lrup_model.specs.State.{State, opening, state}
use Rattle.lrup_model.specs.lemmas.HistoryLemmas.{own_calls_decide}
use Rattle.lrup_model.specs.lemmas.RunningLemmas.{run-append}
use Rattle.lrup_text.specs.Laws.{EmptyPending, OneCut}
use Rattle.lrup_text.specs.Lines.{StreamLine, Cut, IsWithinLimits, line_text}
use Rattle.lrup_text.specs.ReadOut.{EndsSo, SourceView}
use Rattle.lrup_text.specs.declared.device.StreamEnd.{StreamEnd}
use Rattle.lrup_text.specs.declared.device.StreamEnd.TheVariants as stream_ends
use Rattle.stream_check.specs.declared.fault.Fault.TheVariants as line_faults
use Rattle.stream_check.specs.declared.report.Ending.{Ending}
use Rattle.stream_check.specs.declared.report.Ending.TheVariants as endings
use Rattle.stream_check.specs.declared.report.Report.{Report}
use Rattle.stream_check.specs.Additions.{published_by}
use Rattle.stream_check.specs.Dropping.{AreDroppedBy, HasDroppedBy, HaveDropped}
use Rattle.stream_check.specs.DroppedIdsValue.{DroppedIdsValue}
use Rattle.stream_check.specs.Judging.{AreGood, EndsAfter, JudgesBlocks, at_bad_line, at_bad_text, at_end, at_memory, joined}
use Rattle.stream_check.specs.SequentialConsistency.{AreJudgedIn}
use Rattle.stream_check.specs.StreamContext.{context_of, is_among}
use Rattle.stream_check.specs.StreamParams.{StreamParams, is_shared, ownership_of}
use Rattle.stream_check.specs.Streams.{InputObservation, JudgesStream, MatchesInput, RunParamsValue}
use Rattle.stream_check.specs.Streams.{Stream, observation_of, observations, stream_params}
use Rattle.run_outcome.specs.Saving.{is_wanted}
use Rattle.command.specs.Rounds.{HaveEnded}
use Rattle.test_support.specs.Worked.{unit}
use Rattle.test_support.specs.lemmas.WorkedLemmas.{unit_fits}
use Rattle.command_tests.specs.Outcomes.{line_of_round_1}

-- the events of a good addition of the unit clause: some fetches, and then it is published
abbrev pub PublishesUnit : StreamParams → History → Type 0
PublishesUnit params history = (fetches : History) × (history ≡ fetches ++ published_by params 5 unit ∷ [])

-- the line's text, cut into lines
pub unit_cut : EmptyPending → Cut (codes "5 2 0 1 2 0\n") (line_of_round_1 ∷ []) []
unfolding digits
unit_cut pending = record {
  bytes = refl;
  each = (unit_fits 5 (omega arith, omega arith), tt);
  last = pending.whole;
}

module _ (one_cut : OneCut) (pending : EmptyPending) where
  -- the line's text is cut in only one way
  one_line : (bytes : List ℕ) (lines : List StreamLine) (rest : List ℕ) → bytes ≡ codes "5 2 0 1 2 0\n" → Cut bytes lines rest
      → lines ≡ line_of_round_1 ∷ []
  one_line bytes lines rest is cut =
      sym (one_cut (codes "5 2 0 1 2 0\n") (line_of_round_1 ∷ []) lines [] rest (unit_cut pending)
      (subst (λ (b : List ℕ). Cut b lines rest) is cut)).0

  -- after the last line of a stream that has ended, there are no events, and no whole line
  at_the_end : (params : StreamParams) (bytes : List ℕ) (lines : List StreamLine) (rest : List ℕ) (end : StreamEnd)
      (blocks : List History) (report : Report) → report.ending ≡ endings.Ended → bytes ≡ flat_map line_text lines ++ rest
      → AllByRecursion IsWithinLimits lines → EndsAfter params lines rest end blocks report → Cut bytes lines rest × (blocks ≡ [])
  at_the_end params bytes lines rest end blocks report ended text fits
      (at_bad_line line more begins limits block one_block deleted fault bad says) =
      absurd (let no : endings.Bad _ fault ≡ endings.Ended = sym (ap (λ (r : Report). r.ending) says) ∙ ended in cc)
  at_the_end params bytes lines rest end blocks report ended text fits (at_bad_text fault wrong no_block says) =
      absurd (let no : endings.Bad _ (line_faults.Text fault) ≡ endings.Ended = sym (ap (λ (r : Report). r.ending) says) ∙ ended in cc)
  at_the_end params bytes lines rest end blocks report ended text fits
      (at_memory lead ids more begins limits block one_block earlier stops says) =
      absurd (let no : endings.Memory _ ≡ endings.Ended = sym (ap (λ (r : Report). r.ending) says) ∙ ended in cc)
  at_the_end params bytes lines rest end blocks report ended text fits (at_end begins no_block says) =
      (record { bytes = text; each = fits; last = begins.whole }, no_block)

  -- the events of the line
  only_line : (params : StreamParams) (blocks : List History) → AreGood params [] (line_of_round_1 ∷ []) blocks
      → PublishesUnit params (joined blocks)
  only_line params [] none = absurd none
  only_line params (block ∷ []) only = (only.0.0, append-nil block ∙ only.0.2)
  only_line params (block ∷ other ∷ more) two = absurd two.1

  -- a stream that has exactly this line and has ended adds the unit clause
  judged_line : (params : StreamParams) (bytes : List ℕ) (end : StreamEnd) (blocks : List History) (report : Report)
      → bytes ≡ codes "5 2 0 1 2 0\n" → report.ending ≡ endings.Ended → JudgesBlocks params bytes end blocks report
      → PublishesUnit params (joined blocks)
  judged_line params bytes end blocks report is ended judges =
      let finish = at_the_end params bytes judges.lines judges.rest end judges.back report ended judges.text judges.fits judges.ends in
      let lines = one_line bytes judges.lines judges.rest is finish.0 in
      let all : blocks ≡ judges.front =
      judges.split ∙ ap (λ (back : List History). judges.front ++ back) finish.1 ∙ append-nil judges.front in
      let adds = only_line params judges.front (subst (λ (ls : List StreamLine). AreGood params [] ls judges.front) lines judges.good) in
      (adds.0, ap joined all ∙ adds.1)

  -- the line drops nothing
  drops_nothing : (params : StreamParams) (bytes : List ℕ) (blocks : List History) (report : Report) (dropped : DroppedIdsValue)
      → bytes ≡ codes "5 2 0 1 2 0\n" → report.ending ≡ endings.Ended → HasDroppedBy report.ending params bytes blocks report dropped
      → (id : ℕ) → is_among dropped.ids id ≡ false
  drops_nothing params bytes blocks report dropped is ended drops id =
      let by : AreDroppedBy params bytes blocks dropped.ids =
      subst (λ (ending : Ending). HasDroppedBy ending params bytes blocks report dropped) ended drops in
      let lines = one_line bytes by.lines by.rest is by.cut in
      by.are id ∙ ap (λ (ls : List StreamLine). (context_of params ls).is_dropped id) lines
      ∙ and-false (is_shared (ownership_of params id))

-- A stream that was read

not_failed : (params : StreamParams) (lines : List StreamLine) (rest : List ℕ) (blocks : List History) (report : Report)
    → report.ending ≡ endings.Ended → ¬ EndsAfter params lines rest stream_ends.Failed blocks report
not_failed params lines rest blocks report ended (at_bad_line line more begins limits block one_block deleted fault bad says) =
    let no : endings.Bad _ fault ≡ endings.Ended = sym (ap (λ (r : Report). r.ending) says) ∙ ended in cc
not_failed params lines rest blocks report ended (at_bad_text fault wrong no_block says) =
    let no : endings.Bad _ (line_faults.Text fault) ≡ endings.Ended = sym (ap (λ (r : Report). r.ending) says) ∙ ended in cc
not_failed params lines rest blocks report ended (at_memory lead ids more begins limits block one_block earlier stops says) =
    let no : endings.Memory _ ≡ endings.Ended = sym (ap (λ (r : Report). r.ending) says) ∙ ended in cc
not_failed params lines rest blocks report ended (at_end begins no_block says) =
    let no : endings.ReadFailed _ ≡ endings.Ended = sym (ap (λ (r : Report). r.ending) says) ∙ ended in cc

-- a stream whose report says that it ended did end
has_ended : (params : StreamParams) (bytes : List ℕ) (end : Option StreamEnd) (blocks : List History) (report : Report)
    → report.ending ≡ endings.Ended
    → ((its : StreamEnd) → IfSome end (λ known. known ≡ its) → JudgesBlocks params bytes its blocks report)
    → end ≡ Some stream_ends.Ended
has_ended params bytes None blocks report ended judged =
    let judges = judged stream_ends.Failed tt in
    absurd (not_failed params judges.lines judges.rest judges.back report ended judges.ends)
has_ended params bytes (Some stream_ends.Failed) blocks report ended judged =
    let judges = judged stream_ends.Failed refl in
    absurd (not_failed params judges.lines judges.rest judges.back report ended judges.ends)
has_ended params bytes (Some stream_ends.Ended) blocks report ended judged = refl

all_read : (left : Option (List ℕ)) (whole bytes unneeded : List ℕ) → IsAtEnd left → unneeded ≡ []
    → Consumes (Some whole) left (bytes ++ unneeded) → bytes ≡ whole
all_read None whole bytes unneeded at none consumes = absurd consumes
all_read (Some left) whole bytes unneeded at none consumes =
    sym (consumes ∙ ap (λ (rest : List ℕ). (bytes ++ unneeded) ++ rest) at ∙ append-nil (bytes ++ unneeded)
    ∙ ap (λ (rest : List ℕ). bytes ++ rest) none ∙ append-nil bytes)

-- a stream that ended is judged by all bytes that its reader had at first
whole_stream : (observation : InputObservation) (stream : Stream) (whole : List ℕ) → MatchesInput observation stream
    → observation.entry ≡ Some whole → stream.end ≡ Some stream_ends.Ended → stream.bytes ≡ whole
whole_stream observation stream whole matches entry end =
    let at : EndsSo stream_ends.Ended observation.left observation.has_failed =
    subst
    (λ (its : Option StreamEnd). MatchOption its (observation.has_failed ≡ false)
    (λ e. EndsSo e observation.left observation.has_failed))
    end matches.ends in
    all_read observation.left whole stream.bytes stream.unneeded at.0
    (matches.needed (subst (λ (its : Option StreamEnd). IsSome its) (sym end) refl))
    (subst (λ (known : Option (List ℕ)). Consumes known observation.left (stream.bytes ++ stream.unneeded)) entry matches.consumes)

-- A run whose first stream has this line and has ended

module _ (one_cut : OneCut) (pending : EmptyPending) {S : Type 0} (view : SourceView S) (run_params : RunParamsValue)
    (history : History) where
  abbrev params : StreamParams
  params = stream_params run_params 1

  whole_at : (first last : S) (stream : Stream) (blocks : List History) (report : Report)
      → view.left first ≡ Some (codes "5 2 0 1 2 0\n") → MatchesInput (observation_of view first last) stream
      → report.ending ≡ endings.Ended → JudgesStream params stream blocks report
      → (stream.bytes ≡ codes "5 2 0 1 2 0\n") × JudgesBlocks params stream.bytes stream_ends.Ended blocks report
  whole_at first last stream blocks report left matches ended judged =
      let end = has_ended params stream.bytes stream.end blocks report ended judged in (
        whole_stream (observation_of view first last) stream (codes "5 2 0 1 2 0\n") matches left end,
        judged stream_ends.Ended (subst (λ (its : Option StreamEnd). IfSome its (λ known. known ≡ stream_ends.Ended)) (sym end) refl),
      )

  -- the stream adds the unit clause, and drops nothing
  pub first_adds : (firsts lasts : List S) (streams : List Stream) (reports : List Report) (dropped : List DroppedIdsValue)
      → map view.left firsts ≡ Some (codes "5 2 0 1 2 0\n") ∷ [] → length streams ≡ 1
      → AllZip MatchesInput (observations view firsts lasts) streams
      → AreJudgedIn run_params (λ s. true) history 1 streams reports → HaveEnded reports
      → HaveDropped run_params (λ t blocks. own history t ≡ joined blocks) 1 streams reports dropped
      → PublishesUnit params (own history 1) × ((id : ℕ) → is_wanted dropped id ≡ true)
  first_adds [] lasts streams reports dropped left count matches judged ended drops =
      absurd (let no : [] ≡ Some (codes "5 2 0 1 2 0\n") ∷ [] = left in cc)
  first_adds (f ∷ firsts) lasts [] reports dropped left count matches judged ended drops = absurd (omega (arith, count))
  first_adds (f ∷ firsts) [] (t ∷ ts) reports dropped left count matches judged ended drops = absurd matches
  first_adds (f ∷ firsts) (l ∷ lasts) (t ∷ ts) [] dropped left count matches judged ended drops = absurd judged
  first_adds (f ∷ firsts) (l ∷ lasts) (t ∷ ts) (r ∷ rs) [] left count matches judged ended drops = absurd drops
  first_adds (f ∷ firsts) (l ∷ lasts) (t ∷ ts) (r ∷ rs) (d ∷ ds) left count matches judged ended drops =
      let by = judged.0 refl in
      let known : view.left f ≡ Some (codes "5 2 0 1 2 0\n") =
      let all : view.left f ∷ map view.left firsts ≡ Some (codes "5 2 0 1 2 0\n") ∷ [] = left in cc in
      let whole = whole_at f l t by.0 r known matches.0 ended.0 by.2 in
      let adds = judged_line one_cut pending params t.bytes stream_ends.Ended by.0 r whole.0 ended.0 whole.1 in (
        (adds.0, by.1 ∙ adds.1),
        λ id. or_right (length (d ∷ ds) == 0) (list_any (λ x. not (is_among x.ids id)) (d ∷ ds))
            (or_left (not (is_among d.ids id)) (list_any (λ x. not (is_among x.ids id)) ds)
            (ap not (drops_nothing one_cut pending params t.bytes drops.0.0 r d whole.0 ended.0 drops.0.2 id))),
      )

-- The clauses after such a run

-- identity 5 has the unit clause
pub fifth_added : (formula : Cnf) (layout : LayoutValue) (params : StreamParams) (history : History)
    → LegalFrom formula layout (opening formula) history → Owns layout 1 5 → PublishesUnit params (own history 1)
    → state formula history 5 ≡ states.live unit
fifth_added formula layout params history legal owns adds =
    own_calls_decide formula layout history 1 5 legal owns ∙ ap (λ (h : History). state formula h 5) adds.1
    ∙ ap (λ (slots : State). slots 5) (run-append (opening formula) adds.0 (published_by params 5 unit ∷ []))
