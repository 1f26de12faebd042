-- A closed set of streams in two histories.
use Rattle.std.proofs.Common.{◌≡◌, ◌⊎◌, ◌≤◌, ◌-◌, ◌++◌, ℕ, Bool, true, Option, Some, None, List, [], ◌∷◌, length, inl, inr, refl, sym, ap}
use Rattle.std.proofs.Common.{subst, ◌∙◌, append_assoc, append-nil, arith}
use Rattle.std.specs.Prelude.{IsTrue, IfSome, IsSome}
use Rattle.std.specs.List.{AllByRecursion, flat_map}
use Rattle.std.specs.Io.KnownBytes.{Consumes}
use Rattle.std.proofs.lemmas.Option.{slice_get_within}
use Rattle.lrup_model.specs.Clause.{Clause}
use Rattle.lrup_model.specs.lemmas.EntryLemmas.{published_stay}
use Rattle.lrup_model.specs.Event as events
use Rattle.lrup_model.specs.Event.{History, own, published, stream_of}
use Rattle.lrup_model.specs.Formula.{Cnf}
use Rattle.lrup_model.specs.History.{IsLegal}
use Rattle.lrup_model.specs.lemmas.HistoryLemmas.{opening-owned, run-own}
use Rattle.lrup_model.specs.Laws.{FindsWithin}
use Rattle.lrup_model.specs.Layout.{LayoutValue, Fits, Owns, owner}
use Rattle.lrup_model.specs.State.{opening, run, state, HasClause}
use Rattle.lrup_model.specs.declared.layout.Owner.{Owner}
use Rattle.lrup_model.specs.declared.layout.Owner.TheVariants as owners
use Rattle.lrup_text.specs.Laws.{EmptyPending, OneFault, OneFirstLine, RefusedStays}
use Rattle.lrup_text.specs.Lines.{StreamLine, IsWithinLimits, line_text}
use Rattle.lrup_text.specs.declared.device.StreamEnd.{StreamEnd}
use Rattle.lrup_text.specs.declared.device.StreamEnd.TheVariants as stream_ends
use Rattle.stream_check.specs.declared.report.Ending.TheVariants as endings
use Rattle.stream_check.specs.declared.report.Report.{Report}
use Rattle.stream_check.specs.declared.params.Ownership.TheVariants as ownerships
use Rattle.stream_check.specs.Judging.{EndsAfter, joined, JudgesBlocks}
use Rattle.stream_check.specs.Excuses.{CutOff, Lacking, OutOfMemory, ReadFailed, IsExcused, IsExcusedAt}
use Rattle.stream_check.specs.Laws.{CitedFetched}
use Rattle.stream_check.specs.lemmas.ReportLemmas.{additions-append, joined-append, split_first}
use Rattle.stream_check.specs.StreamParams.{StreamParams}
use Rattle.stream_check.specs.StreamContext.{additions_of}
use Rattle.stream_check.specs.Closed.{IsOfStream, IsClosed}
use Rattle.stream_check.specs.SequentialConsistency.{AreJudgedIn}
use Rattle.stream_check.specs.Streams.{Stream, InputObservation, RunParamsValue, stream_params}
use Rattle.stream_check.specs.lemmas.StreamLemmas.{judged_count, same_at, some_end, observed_count}
use Rattle.run_laws.specs.AnyRun.{ValidInAnyRun}
use Rattle.run_laws.specs.Valid.{SaysAtLeast}
use Rattle.run_laws.specs.Groups.{IsRun}
use Rattle.run_laws.proofs.AnyRunLines.{IsFoundIn, AreFair, FindAlike, same_clause}
use Rattle.run_laws.specs.lemmas.OwnLemmas.{own_all}
use Rattle.run_laws.proofs.AnyRunStreams.{near_fair, IsStillThere, all_still_there, IsIn, in_left, in_all, own_published, left_published}
use Rattle.run_laws.proofs.AnyRunStreams.{stream_publishes, has_ended, fair_front, IsBlameless, GoesOn, lines_go_on, goes_on_says}
use Rattle.run_laws.proofs.AnyRunStreams.{whole_observed}
use Rattle.run_laws.proofs.GroupLemmas.{closed_finds}
use Rattle.run_laws.proofs.OrderLemmas.{streams_in, are_streams, streams_are}
use Rattle.run_laws.proofs.Places.{has_place, judged_at}
use Rattle.run_laws.proofs.ValidLines.{ownership_by}
use Rattle.run_laws.proofs.WalkLemmas.{own-calls}
use Rattle.run_laws.proofs.RunLemmas.{EndsWith, fine_failure, fine_memory, observed_at}

-- an identity of another stream has an owner t
pub foreign_by : (c : StreamParams) (id : ℕ) (o : Owner) → owner c.layout id ≡ o → ownership_by c o ≡ ownerships.Foreign
    → (t : ℕ) × Owns c.layout t id
foreign_by c id owners.Formula is foreign = absurd (let no : ownerships.Formula ≡ ownerships.Foreign = foreign in cc)
foreign_by c id (owners.Stream t) is foreign = (t, is)
foreign_by c id owners.Outside is foreign = absurd (let no : ownerships.Outside ≡ ownerships.Foreign = foreign in cc)

-- What a stream publishes

-- a clause that a legal history leaves at a stream's own identity was published by that stream
own_has : (f : Cnf) (p : LayoutValue) (h : History) (t id : ℕ) (d : Clause) → Fits p f → IsLegal f p h → Owns p t id
    → HasClause (state f h id) d → IsIn (id, d) (published (own h t))
own_has f p h t id d fits legal owns has =
    let its : HasClause (run (opening f) (own h t) id) d = rw (run-own f p (opening f) (opening f) h t id legal.events owns refl) at has in
    elim (left_published (opening f) (own h t) id d its) [
      | inl before ↦ absurd (rw (opening-owned f p t id fits owns) at before)
      | inr later ↦ later
    ]

-- a clause that a stream published in a legal history stays at its identity, live or retired
own_stays : (f : Cnf) (p : LayoutValue) (h : History) (t id : ℕ) (d : Clause) → IsLegal f p h → IsIn (id, d) (published (own h t))
    → HasClause (state f h id) d
own_stays f p h t id d legal is =
    in_all (λ x. HasClause (state f h x.0) x.1) (id, d) (published h) (published_stay f p (opening f) h legal.events)
    (own_published h t (id, d) is)

-- if the same bytes begin with two lists of lines, one of the lists begins with the other
one_begins : OneFirstLine → (a b : List StreamLine) (x y : List ℕ) → AllByRecursion IsWithinLimits a → AllByRecursion IsWithinLimits b
    → flat_map line_text a ++ x ≡ flat_map line_text b ++ y → GoesOn a b ⊎ GoesOn b a
one_begins first [] b x y fit fits is = inl (b, refl)
one_begins first (line ∷ a) [] x y fit fits is = inr (line ∷ a, refl)
one_begins first (line ∷ a) (other ∷ b) x y fit fits is =
    let same = first line other (flat_map line_text a ++ x) (flat_map line_text b ++ y) fit.0 fits.0
    (sym (split_first line a x) ∙ is ∙ split_first other b y) in
    elim (one_begins first a b x y fit.1 fits.1 same.1) [
      | inl on ↦ inl (on.0, ap (λ (l : StreamLine). l ∷ b) (sym same.0) ∙ ap (λ (ls : List StreamLine). line ∷ ls) on.1)
      | inr on ↦ inr (on.0, ap (λ (l : StreamLine). l ∷ a) same.0 ∙ ap (λ (ls : List StreamLine). other ∷ ls) on.1)
    ]

in_more : (x : ℕ × Clause) (a b : List StreamLine) → GoesOn a b → IsIn x (additions_of a) → IsIn x (additions_of b)
in_more x a b on is = rw (ap additions_of on.1 ∙ additions-append a on.0) (in_left x (additions_of a) (additions_of on.0) is)

-- A stream in a run

-- an end that the stream may have had, and what its reader had left after the bytes that were
-- judged: nothing if the stream ended
pub record ReadSo (c : StreamParams) (bytes whole : List ℕ) (blocks : List History) (report : Report) : Type 0 where
  pub end : StreamEnd
  pub judges : JudgesBlocks c bytes end blocks report
  pub left : List ℕ
  pub text : whole ≡ bytes ++ left
  pub ended : end ≡ stream_ends.Ended → left ≡ []

read_so : (c : StreamParams) (its : Option StreamEnd) (bytes unneeded whole : List ℕ) (left : Option (List ℕ)) (has_failed : Bool)
    (blocks : List History) (report : Report)
    → Consumes (Some whole) left (bytes ++ unneeded) → EndsWith its left has_failed → (IsSome its → unneeded ≡ [])
    → ((end : StreamEnd) → IfSome its (λ e. e ≡ end) → JudgesBlocks c bytes end blocks report) → ReadSo c bytes whole blocks report
read_so c its bytes unneeded whole None has_failed blocks report took ends needed j = absurd took
read_so c (Some stream_ends.Ended) bytes unneeded whole (Some left) has_failed blocks report took ends needed j = record {
  end = stream_ends.Ended;
  judges = j stream_ends.Ended refl;
  left = unneeded ++ left;
  text = took ∙ append_assoc bytes unneeded left;
  ended = λ is. ap (λ (b : List ℕ). b ++ left) (needed refl) ∙ ends.0;
}
read_so c (Some stream_ends.Failed) bytes unneeded whole (Some left) has_failed blocks report took ends needed j = record {
  end = stream_ends.Failed;
  judges = j stream_ends.Failed refl;
  left = unneeded ++ left;
  text = took ∙ append_assoc bytes unneeded left;
  ended = λ is. absurd (let no : stream_ends.Failed ≡ stream_ends.Ended = is in cc);
}
read_so c None bytes unneeded whole (Some left) has_failed blocks report took ends needed j = record {
  end = stream_ends.Failed;
  judges = j stream_ends.Failed tt;
  left = unneeded ++ left;
  text = took ∙ append_assoc bytes unneeded left;
  ended = λ is. absurd (let no : stream_ends.Failed ≡ stream_ends.Ended = is in cc);
}

-- what a run says about the stream whose reader has these bytes at the start
pub record IsReadIn (f : Cnf) (run_params : RunParamsValue) (observed : List InputObservation) (reports : List Report)
    (r : IsRun f run_params observed reports)
    (s : ℕ) (whole : List ℕ) (report : Report) : Type 0 where
  pub bytes : List ℕ
  pub blocks : List History
  pub events : own r.history s ≡ joined blocks
  pub reads : ReadSo (stream_params run_params s) bytes whole blocks report

pub read_in : (f : Cnf) (run_params : RunParamsValue) (observed : List InputObservation) (reports : List Report)
    (r : IsRun f run_params observed reports)
    (s : ℕ) (whole : List ℕ) (observation : InputObservation) (report : Report)
    → IsOfStream observed s observation → observation.entry ≡ Some whole → IsOfStream reports s report
    → IsReadIn f run_params observed reports r s whole report
read_in f run_params observed reports r s whole observation report here entry says =
    let first = says.0 in
    let within = slice_get_within reports (s - 1) report says.1 in
    let many = judged_count run_params (λ t. true) r.history 1 r.streams reports r.judged in
    let stream = has_place r.streams s first (omega (arith, within, many, first)) in
    let is = observed_at observed r.streams s observation stream.0 r.match_inputs here stream.1 in
    let j = judged_at run_params (λ t. true) r.history r.streams reports r.judged s stream.0 report refl stream.1 says in
    record {
      bytes = stream.0.bytes;
      blocks = j.0;
      events = j.1;
      reads = read_so (stream_params run_params s) stream.0.end stream.0.bytes stream.0.unneeded whole observation.left
          observation.has_failed j.0 report (rw entry at is.consumes)
          is.ends is.needed j.2;
    }

-- at the start, the readers of the set's streams have these streams' bytes, and maybe more after
-- them
abbrev pub HaveBytesOf : (ℕ → Bool) → List Stream → List InputObservation → Type 0
HaveBytesOf set streams observed =
    (t : ℕ) (stream : Stream) (observation : InputObservation) → IsTrue (set t) → IsOfStream streams t stream
    → IsOfStream observed t observation → (more : List ℕ) × (observation.entry ≡ Some (stream.bytes ++ more))

module _ (first : OneFirstLine) (refused : RefusedStays) (cited : CitedFetched) where
  -- one history judges a closed set of streams; in the other run, the readers' bytes begin with
  -- those of the streams
  module _ (f : Cnf) (run_params : RunParamsValue) (set : ℕ → Bool) (g : History) (streams : List Stream) (reports : List Report)
      (observed : List InputObservation)
      (others : List Report) (fits : Fits run_params.layout f) (count : length streams ≡ run_params.layout.streams)
      (legal : IsLegal f run_params.layout g) (judged : AreJudgedIn run_params set g 1 streams reports)
      (closed : IsClosed run_params.layout set streams) (r : IsRun f run_params observed others)
      (bytes : HaveBytesOf set streams observed) where
    -- a stream of the set in the first history
    record Part (s : ℕ) : Type 0 where
      stream : Stream
      at : IsOfStream streams s stream
      report : Report
      says : IsOfStream reports s report
      blocks : List History
      events : own g s ≡ joined blocks
      end : StreamEnd
      judges : JudgesBlocks (stream_params run_params s) stream.bytes end blocks report

    part_of : (s : ℕ) → IsTrue (streams_in run_params.layout set s) → Part s
    part_of s member =
        let is = streams_are run_params.layout set s member in
        let stream = has_place streams s is.1.0 (omega (arith, is.1.1, count)) in
        let report = has_place reports s is.1.0 (omega (arith, is.1.1, count, judged_count run_params set g 1 streams reports judged)) in
        let j = judged_at run_params set g streams reports judged s stream.0 report.0 is.0 stream.1 report.1 in
        let way = some_end (stream_params run_params s) stream.0 j.0 report.0 j.2 in
        record {
          stream = stream.0;
          at = stream.1;
          report = report.0;
          says = report.1;
          blocks = j.0;
          events = j.1;
          end = way.0;
          judges = way.1;
        }

    -- stream s in the run, where its reader has the bytes `more` after the stream's bytes
    record Other (s : ℕ) (w : Part s) (more : List ℕ) : Type 0 where
      report : Report
      says : IsOfStream others s report
      read : IsReadIn f run_params observed others r s (w.stream.bytes ++ more) report
      texts : flat_map line_text read.reads.judges.lines ++ (read.reads.judges.rest ++ read.reads.left)
          ≡ flat_map line_text w.judges.lines ++ (w.judges.rest ++ more)

    other_of : (s : ℕ) (member : IsTrue (streams_in run_params.layout set s)) (w : Part s) (observation : InputObservation) (more : List ℕ)
        → IsOfStream observed s observation → observation.entry ≡ Some (w.stream.bytes ++ more) → Other s w more
    other_of s member w observation more here entry =
        let place = streams_are run_params.layout set s member in
        let report = has_place others s place.1.0
        (omega (arith, place.1.1, r.count, judged_count run_params (λ t. true) r.history 1 r.streams others r.judged)) in
        let read : IsReadIn f run_params observed others r s (w.stream.bytes ++ more) report.0 =
        read_in f run_params observed others r s (w.stream.bytes ++ more) observation report.0 here entry report.1 in
        let j = read.reads.judges in
        record {
          report = report.0;
          says = report.1;
          read = read;
          texts = sym (append_assoc (flat_map line_text j.lines) j.rest read.reads.left)
              ∙ ap (λ (b : List ℕ). b ++ read.reads.left) (sym j.text) ∙ sym read.reads.text
              ∙ ap (λ (b : List ℕ). b ++ more) w.judges.text
              ∙ append_assoc (flat_map line_text w.judges.lines) w.judges.rest more;
        }

    its_other : (s : ℕ) (member : IsTrue (streams_in run_params.layout set s)) (w : Part s) → (more : List ℕ) × Other s w more
    its_other s member w =
        let is = streams_are run_params.layout set s member in
        let observation = has_place observed s is.1.0 (omega (arith, is.1.1, r.count, observed_count observed r.streams r.match_inputs)) in
        let entry = bytes s w.stream observation.0 is.0 w.at observation.1 in
        (entry.0, other_of s member w observation.0 entry.0 observation.1 entry.1)

    -- if both histories leave a clause at an identity of the set, it is the same clause
    one_clause : (t id : ℕ) (x d : Clause) → IsTrue (streams_in run_params.layout set t) → Owns run_params.layout t id
        → HasClause (state f g id) x → HasClause (state f r.history id) d → x ≡ d
    one_clause t id x d member owns mine theirs =
        let c = stream_params run_params t in
        let p = run_params.layout in
        let w : Part t = part_of t member in
        let its : (more : List ℕ) × Other t w more = its_other t member w in
        let read = its.1.read in
        let lines = w.judges.lines in
        let also = read.reads.judges.lines in
        let published_here : published (own g t) ≡ additions_of lines =
        ap published w.events ∙ stream_publishes c w.stream.bytes w.end w.blocks w.report w.judges in
        let published_there : published (own r.history t) ≡ additions_of also =
        ap published read.events ∙ stream_publishes c read.bytes read.reads.end read.blocks its.1.report read.reads.judges in
        let here : IsIn (id, x) (additions_of lines) = subst (IsIn (id, x)) published_here (own_has f p g t id x fits legal owns mine) in
        let there : IsIn (id, d) (additions_of also) =
        subst (IsIn (id, d)) published_there (own_has f p r.history t id d fits r.legal owns theirs) in
        elim (one_begins first lines also (w.judges.rest ++ its.0) (read.reads.judges.rest ++ read.reads.left)
        w.judges.fits read.reads.judges.fits (sym its.1.texts)) [
          | inl on ↦ same_clause (state f r.history id) x d
              (own_stays f p r.history t id x r.legal (subst (IsIn (id, x)) (sym published_there) (in_more (id, x) lines also on here)))
              theirs
          | inr on ↦ same_clause (state f g id) x d mine
              (own_stays f p g t id d legal (subst (IsIn (id, d)) (sym published_here) (in_more (id, d) also lines on there)))
        ]

    -- what the history finds from other streams, and what the run finds
    abbrev Mine : ℕ → Clause → Type 0
    Mine id d = HasClause (state f g id) d × ((t : ℕ) → Owns run_params.layout t id → IsTrue (streams_in run_params.layout set t))

    abbrev Theirs : ℕ → Clause → Type 0
    Theirs id d =
        (t : ℕ) (x : Clause) → IsTrue (streams_in run_params.layout set t) → Owns run_params.layout t id → HasClause (state f g id) x
        → x ≡ d

    find_alike : (s : ℕ) → FindAlike (stream_params run_params s) Mine Theirs
    find_alike s id d e foreign mine theirs =
        let its = foreign_by (stream_params run_params s) id (owner run_params.layout id) refl foreign in
        theirs its.0 d (mine.1 its.0 its.1) its.1 mine.0

    found_mine : (s : ℕ) (es : History) → IsTrue (streams_in run_params.layout set s) → AllByRecursion (λ e. stream_of e ≡ s) es
        → AllByRecursion (FindsWithin run_params.layout (streams_in run_params.layout set)) es
        → AllByRecursion (IsStillThere (state f g)) es → AllByRecursion (IsFoundIn (stream_params run_params s) Mine) es
    found_mine s [] member calls within there = tt
    found_mine s (events.fetch u id (events.live d) ∷ es) member calls within there = (
      (λ foreign. (there.0, within.0 (subst (λ (t : ℕ). IsTrue (streams_in run_params.layout set t)) (sym calls.0) member) tt)),
      found_mine s es member calls.1 within.1 there.1,
    )
    found_mine s (_ ∷ es) member calls within there = (tt, found_mine s es member calls.1 within.1 there.1)

    found_theirs : (s : ℕ) (es : History) → AllByRecursion (IsStillThere (state f r.history)) es
        → AllByRecursion (IsFoundIn (stream_params run_params s) Theirs) es
    found_theirs s [] there = tt
    found_theirs s (events.fetch u id (events.live d) ∷ es) there =
        ((λ foreign t x member owns has. one_clause t id x d member owns has there.0), found_theirs s es there.1)
    found_theirs s (_ ∷ es) there = (tt, found_theirs s es there.1)

    -- the run's good lines begin with the stream's lines, or the stream was stopped in these lines
    -- and isn't to blame
    goes_on : (s : ℕ) (member : IsTrue (streams_in run_params.layout set s)) (w : Part s) (more : List ℕ) (o : Other s w more)
        → w.judges.rest ≡ []
        → GoesOn w.judges.lines o.read.reads.judges.lines ⊎ IsBlameless (stream_params run_params s) Mine (length w.judges.lines) o.report
    goes_on s member w more o none =
        let c = stream_params run_params s in
        let p = run_params.layout in
        let j = o.read.reads.judges in
        let mine : AreFair c Mine (opening f) (own g s) =
        near_fair f c Mine (opening f) (opening f) g legal.events (λ id near. refl)
        (found_mine s (own g s) member (own-calls g s)
        (own_all (FindsWithin p (streams_in p set)) g s (closed_finds cited run_params set g streams reports count judged closed))
        (own_all (IsStillThere (state f g)) g s (all_still_there f p (opening f) g legal.events))) in
        let theirs : AreFair c Theirs (opening f) (own r.history s) =
        near_fair f c Theirs (opening f) (opening f) r.history r.legal.events (λ id near. refl)
        (found_theirs s (own r.history s)
        (own_all (IsStillThere (state f r.history)) r.history s (all_still_there f p (opening f) r.history r.legal.events))) in
        let ours : AreFair c Mine (opening f) (joined w.judges.front) =
        fair_front c Mine (opening f) (joined w.judges.front) (joined w.judges.back)
        (subst (AreFair c Mine (opening f)) (w.events ∙ ap joined w.judges.split ∙ joined-append w.judges.front w.judges.back) mine) in
        let also : AreFair c Theirs (opening f) (joined (j.front ++ j.back)) =
        subst (AreFair c Theirs (opening f)) (o.read.events ∙ ap joined j.split) theirs in
        lines_go_on first refused c Mine Theirs (find_alike s) [] w.judges.lines j.lines w.judges.front j.front j.back
        (opening f) j.rest o.read.reads.left
        (w.judges.rest ++ more) o.read.reads.end (length w.judges.lines) o.report
        (omega arith) w.judges.good j.good j.ends w.judges.fits j.fits
        o.texts o.read.reads.ended ours also

    -- the other report says at least as much, or its stream was stopped in these lines and isn't to
    -- blame
    pub record AgreesOn (s : ℕ) (report other : Report) : Type 0 where
      pub stream : Stream
      pub at : IsOfStream streams s stream
      pub lines : List StreamLine
      pub limits : AllByRecursion IsWithinLimits lines
      pub text : stream.bytes ≡ flat_map line_text lines
      pub shows : SaysAtLeast other report
          ⊎ ((line : ℕ) × (line ≤ length lines) × IsExcusedAt (Lacking (stream_params run_params s)) other line)

    pub agrees_on : (s : ℕ) (report other : Report) → IsTrue (set s) → IsOfStream reports s report → report.ending ≡ endings.Ended
        → IsOfStream others s other → AgreesOn s report other
    agrees_on s report other member says ended too =
        let c = stream_params run_params s in
        let within = slice_get_within reports (s - 1) report says.1 in
        let here : IsTrue (streams_in run_params.layout set s) =
        are_streams run_params.layout set s member
        (says.0, omega (arith, says.0, within, judged_count run_params set g 1 streams reports judged, count)) in
        let w : Part s = part_of s here in
        let its : (more : List ℕ) × Other s w more = its_other s here w in
        let its_report : w.report ≡ report = same_at reports s w.report report w.says says in
        let its_other_report : its.1.report ≡ other = same_at others s its.1.report other its.1.says too in
        let finished = has_ended c w.judges.lines w.judges.rest w.end w.judges.back w.report w.judges.ends
        (ap (λ (x : Report). x.ending) its_report ∙ ended) in
        record {
          stream = w.stream;
          at = w.at;
          lines = w.judges.lines;
          limits = w.judges.fits;
          text = w.judges.text ∙ ap (λ (b : List ℕ). flat_map line_text w.judges.lines ++ b) finished.none
              ∙ append-nil (flat_map line_text w.judges.lines);
          shows = subst (λ (x : Report). SaysAtLeast x report
              ⊎ ((line : ℕ) × (line ≤ length w.judges.lines) × IsExcusedAt (Lacking c) x line)) its_other_report
              (elim (goes_on s here w its.0 its.1 finished.none) [
                | inl on ↦ inl (subst (SaysAtLeast its.1.report) (sym finished.says ∙ its_report)
                    (goes_on_says c w.judges.lines on.0 its.1.read.reads.judges.rest its.1.read.reads.end
                    its.1.read.reads.judges.back its.1.report
                    (subst (λ (ls : List StreamLine). EndsAfter c ls its.1.read.reads.judges.rest its.1.read.reads.end
                    its.1.read.reads.judges.back its.1.report) on.1
                    its.1.read.reads.judges.ends)))
                | inr (inl cut) ↦ inr (cut.0, cut.1, inl cut.2)
                | inr (inr lacks) ↦ inr (lacks.1, lacks.4, inr (lacks.2, lacks.5, lacks.6))
              ]);
        }

    module _ (one_fault : OneFault) (empty : EmptyPending) where
      -- if the run's reader has exactly the stream's bytes, the stream has the same report, or
      -- lacks another stream's clause
      pub same_report : (s : ℕ) (stream : Stream) (observation : InputObservation) (report other : Report)
          → IsTrue (set s) → IsOfStream streams s stream → IsOfStream reports s report → report.ending ≡ endings.Ended
          → IsOfStream observed s observation → observation.entry ≡ Some stream.bytes → IsOfStream others s other
          → ¬ IsExcused CutOff other → (other ≡ report) ⊎ IsExcused (Lacking (stream_params run_params s)) other
      same_report s stream observation report other member at says ended here entry too fine =
          let c = stream_params run_params s in
          let within = slice_get_within reports (s - 1) report says.1 in
          let inner : IsTrue (streams_in run_params.layout set s) =
          are_streams run_params.layout set s member
          (says.0, omega (arith, says.0, within, judged_count run_params set g 1 streams reports judged, count)) in
          let w : Part s = part_of s inner in
          let whole : w.stream.bytes ≡ stream.bytes = ap (λ (x : Stream). x.bytes) (same_at streams s w.stream stream w.at at) in
          let o : Other s w [] =
          other_of s inner w observation [] here (entry ∙ ap (λ (b : List ℕ). Some b) (sym whole ∙ sym (append-nil w.stream.bytes))) in
          let its_report : w.report ≡ report = same_at reports s w.report report w.says says in
          let its_other : o.report ≡ other = same_at others s o.report other o.says too in
          let finished = has_ended c w.judges.lines w.judges.rest w.end w.judges.back w.report w.judges.ends
          (ap (λ (x : Report). x.ending) its_report ∙ ended) in
          let j = o.read.reads.judges in
          let no_memory : ¬ IsExcused OutOfMemory o.report = subst (λ (x :
          Report). ¬ IsExcused OutOfMemory x) (sym its_other) (fine_memory other fine) in
          let no_failure : ¬ IsExcused ReadFailed o.report = subst (λ (x :
          Report). ¬ IsExcused ReadFailed x) (sym its_other) (fine_failure other fine) in
          elim (goes_on s inner w [] o finished.none) [
            | inl on ↦ inl (sym its_other
                ∙ whole_observed one_fault empty c w.judges.lines j.lines j.rest o.read.reads.left o.read.reads.end j.back
                o.report on j.fits
                (o.texts ∙ ap (λ (b : List ℕ). flat_map line_text w.judges.lines ++ b) (append-nil w.judges.rest ∙ finished.none)
                ∙ append-nil (flat_map line_text w.judges.lines))
                no_memory no_failure j.ends ∙ sym finished.says ∙ its_report)
            | inr (inl (line, below, inl lost)) ↦ absurd (no_memory (line, lost))
            | inr (inl (line, below, inr failed)) ↦ absurd (no_failure (line, failed))
            | inr (inr lacks) ↦
                inr (subst (IsExcused (Lacking c)) its_other (lacks.1, inr (lacks.2, lacks.5, lacks.6)))
          ]

pub valid_in_any_run : OneFirstLine → RefusedStays → OneFault → EmptyPending → CitedFetched → ValidInAnyRun
valid_in_any_run first refused one_fault empty cited f run_params set h streams reports observed others s stream observation report other
    fits count legal judged closed member at says ended run bytes here entry =
    same_report first refused cited f run_params set h streams reports observed others fits count legal judged closed run bytes
    one_fault empty
    s stream observation report other member at says ended here entry
