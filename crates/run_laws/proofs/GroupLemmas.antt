-- A closed set of streams is a group.
use Rattle.std.proofs.Common.{◌≡◌, ℕ, ◌+◌, ◌<◌, ◌≤◌, Bool, true, false, List, [], ◌∷◌, length, refl, sym, subst, ◌∙◌, inl, inr, arith}
use Rattle.std.specs.Prelude.{IsTrue}
use Rattle.std.specs.List.{AllByRecursion}
use Rattle.std.proofs.lemmas.Bool.{cases_Bool, cases_eq, true≢false}
use Rattle.lrup_model.specs.declared.layout.Owner.{Owner}
use Rattle.lrup_model.specs.declared.layout.Owner.TheVariants as owners
use Rattle.lrup_model.specs.Layout.{LayoutValue, Owns, owner}
use Rattle.lrup_model.specs.lemmas.OwnerLemmas.{owned}
use Rattle.lrup_model.specs.Event as events
use Rattle.lrup_model.specs.Event.{Event, History, stream_of, own}
use Rattle.lrup_model.specs.lemmas.RestrictionLemmas.{among, among-members, own-among, restriction_legal}
use Rattle.lrup_model.specs.Laws.{FindsWithin}
use Rattle.lrup_model.specs.lemmas.HistoryLemmas.{own-mine, own-other}
use Rattle.lrup_model.specs.lemmas.ListLemmas.{All-map}
use Rattle.lrup_text.specs.Lines.{StreamLine}
use Rattle.stream_check.specs.declared.report.Report.{Report}
use Rattle.stream_check.specs.StreamParams.{StreamParams}
use Rattle.stream_check.specs.Judging.{joined}
use Rattle.stream_check.specs.Laws.{cited_by, FetchesOnly, CitedFetched}
use Rattle.stream_check.specs.lemmas.EachLemmas.{each_within}
use Rattle.stream_check.specs.lemmas.StreamLemmas.{some_end, judged_count}
use Rattle.stream_check.specs.Streams.{Stream, JudgesStream, RunParamsValue, stream_params}
use Rattle.stream_check.specs.SequentialConsistency.{AreJudgedIn}
use Rattle.stream_check.specs.Closed.{IsOwnedWithin, CiteWithin, IsClosed}
use Rattle.run_laws.specs.GroupLaws.{ClosedIsGroup}
use Rattle.run_laws.proofs.OrderLemmas.{streams_in, are_streams, streams_are}
use Rattle.run_laws.proofs.Places.{has_place, judged_at}

-- What is fetched

-- this owner isn't a stream outside the set
unfoldable pub owned_by : (ℕ → Bool) → Owner → Bool
owned_by set owners.Formula = true
owned_by set (owners.Stream t) = set t
owned_by set owners.Outside = true

unfoldable pub is_within : LayoutValue → (ℕ → Bool) → ℕ → Bool
is_within p set id = owned_by set (owner p id)

within_owner : (p : LayoutValue) (set : ℕ → Bool) (id : ℕ) (o : Owner) → 0 < p.streams → owner p id ≡ o → IsOwnedWithin p set id
    → IsTrue (owned_by (streams_in p set) o)
unfolding owned_by
within_owner p set id owners.Formula some is within = refl
within_owner p set id (owners.Stream t) some is within =
    let o = owned p t id some is in
    are_streams p set t (within t is) (o.first, o.last)
within_owner p set id owners.Outside some is within = refl

passes : (p : LayoutValue) (set : ℕ → Bool) (id : ℕ) → 0 < p.streams → IsOwnedWithin p set id → IsTrue (is_within p (streams_in p set) id)
unfolding is_within
passes p set id some within = within_owner p set id (owner p id) some refl within

pub owners_within : (p : LayoutValue) (set : ℕ → Bool) (id t : ℕ) → IsTrue (is_within p set id) → Owns p t id → IsTrue (set t)
unfolding is_within owned_by
owners_within p set id t within owns = subst (λ (o : Owner). IsTrue (owned_by set o)) owns within

finds_within : (p : LayoutValue) (set : ℕ → Bool) (es : History) → AllByRecursion (FetchesOnly (is_within p set)) es
    → AllByRecursion (FindsWithin p set) es
finds_within p set [] only = tt
finds_within p set (events.fetch s id r ∷ es) only =
    (λ member found t owns. owners_within p set id t only.0 owns, finds_within p set es only.1)
finds_within p set (events.publish s id c r ∷ es) only = (tt, finds_within p set es only.1)
finds_within p set (events.retire s id r ∷ es) only = (tt, finds_within p set es only.1)

CitePass : (ℕ → Bool) → List StreamLine → Type 0
CitePass test lines = AllByRecursion (λ line. AllByRecursion (λ id. IsTrue (test id)) (cited_by line)) lines

cites_pass : (p : LayoutValue) (set : ℕ → Bool) (lines : List StreamLine) → 0 < p.streams
    → AllByRecursion (λ line. AllByRecursion (IsOwnedWithin p set) (cited_by line)) lines → CitePass (is_within p (streams_in p set)) lines
unfolding CitePass
cites_pass p set lines some within =
    All-map (λ line. AllByRecursion (IsOwnedWithin p set) (cited_by line))
    (λ line. AllByRecursion (λ id. IsTrue (is_within p (streams_in p set) id)) (cited_by line))
    (λ line all. All-map (IsOwnedWithin p set) (λ id. IsTrue (is_within p (streams_in p set) id)) (λ id w. passes p set id some w)
    (cited_by line) all)
    lines within

-- a stream that cites no identity of a stream outside the set fetches no such identity
fetches_within : CitedFetched
    → (p : LayoutValue) (set : ℕ → Bool) (c : StreamParams) (stream : Stream) (blocks : List History) (report : Report)
    → 0 < p.streams → CiteWithin p set stream.bytes → JudgesStream c stream blocks report
    → AllByRecursion (FetchesOnly (is_within p (streams_in p set))) (joined blocks)
unfolding CitePass
fetches_within law p set c stream blocks report some cites judged =
    let way = some_end c stream blocks report judged in
    law c stream.bytes way.0 blocks report cites.lines cites.rest (is_within p (streams_in p set)) way.1 cites.cut
    (cites_pass p set cites.lines some cites.within)

-- The history

-- what holds for each event of the set's streams and each event of other streams holds for all
-- events
each_stream : (P : Event → Type 0) (set : ℕ → Bool) (h : History)
    → ((s : ℕ) → IsTrue (set s) → AllByRecursion P (own h s)) → ((e : Event) → set (stream_of e) ≡ false → P e) → AllByRecursion P h
each_stream P set [] mine theirs = tt
each_stream P set (e ∷ h) mine theirs = (
  elim (cases_Bool (set (stream_of e))) [
    | inl member ↦ (subst (λ (k : History). AllByRecursion P k) (own-mine e h (stream_of e) refl) (mine (stream_of e) member)).0
    | inr other ↦ theirs e other
  ],
  each_stream P set h (λ s member. elim (cases_eq (stream_of e) s) [
    | inl same ↦ (subst (λ (k : History). AllByRecursion P k) (own-mine e h s same) (mine s member)).1
    | inr other ↦ subst (λ (k : History). AllByRecursion P k) (own-other e h s other) (mine s member)
  ]) theirs,
)

finds_outside : (p : LayoutValue) (set : ℕ → Bool) (e : Event) → set (stream_of e) ≡ false → FindsWithin p set e
finds_outside p set (events.fetch s id r) out = λ member. absurd (true≢false (sym member ∙ out))
finds_outside p set (events.publish s id c r) out = tt
finds_outside p set (events.retire s id r) out = tt

-- if a history judges the streams of a closed set, these streams find no clause of a stream outside
-- the set
pub closed_finds : CitedFetched
    → (run_params : RunParamsValue) (set : ℕ → Bool) (h : History) (streams : List Stream) (reports : List Report)
    → length streams ≡ run_params.layout.streams → AreJudgedIn run_params set h 1 streams reports → IsClosed run_params.layout set streams
    → AllByRecursion (FindsWithin run_params.layout (streams_in run_params.layout set)) h
closed_finds law run_params set h streams reports count judged closed =
    let p = run_params.layout in
    let many = judged_count run_params set h 1 streams reports judged in
    each_stream (FindsWithin p (streams_in p set)) (streams_in p set) h
    (λ s member.
    let is = streams_are p set s member in
    let some : 0 < p.streams = omega (arith, is.1.0, is.1.1) in
    let stream = has_place streams s is.1.0 (omega (arith, is.1.1, count)) in
    let report = has_place reports s is.1.0 (omega (arith, is.1.1, count, many)) in
    let j = judged_at run_params set h streams reports judged s stream.0 report.0 is.0 stream.1 report.1 in
    subst (λ (es : History). AllByRecursion (FindsWithin p (streams_in p set)) es) (sym j.1) (finds_within p (streams_in p set) (joined j.0)
    (fetches_within law p set (stream_params run_params s) stream.0 j.0 report.0 some (closed s stream.0 is.0 stream.1) j.2)))
    (finds_outside p (streams_in p set))

judged_among : (run_params : RunParamsValue) (set : ℕ → Bool) (h : History) (s : ℕ) (streams : List Stream) (reports : List Report)
    → 0 < s → s + length streams ≤ run_params.layout.streams + 1 → AreJudgedIn run_params set h s streams reports
    → AreJudgedIn run_params set (among (streams_in run_params.layout set) h) s streams reports
judged_among run_params set h s streams reports first last judged =
    each_within run_params.layout.streams s streams reports last judged (λ t stream report from to j member.
    let is = are_streams run_params.layout set t member (omega (arith, first, from), to) in
    rw (own-among (streams_in run_params.layout set) h t is) (j member))

pub closed_is_group : CitedFetched → ClosedIsGroup
closed_is_group law f run_params set h streams reports fits count legal judged closed memory =
    let p = run_params.layout in
    record {
      history = among (streams_in p set) h;
      members = All-map (λ e. IsTrue (streams_in p set (stream_of e))) (λ e. IsTrue (set (stream_of e)))
          (λ e member. (streams_are p set (stream_of e) member).0)
          (among (streams_in p set) h) (among-members (streams_in p set) h);
      legal = restriction_legal f p (streams_in p set) h fits legal (closed_finds law run_params set h streams reports count judged closed);
      judged = judged_among run_params set h 1 streams reports (omega arith) (omega (arith, count)) judged;
      memory = memory;
    }
