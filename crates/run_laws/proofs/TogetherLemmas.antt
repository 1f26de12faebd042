-- Lines of several streams that are valid together, and these streams in a run.
use Rattle.std.proofs.Common.{◌≡◌, ◌≢◌, ◌⊎◌, ◌<◌, ◌≤◌, ◌+◌, ◌-◌, ℕ, zero, suc, Bool, true, false, cond, List, [], ◌∷◌, ◌++◌, length, map}
use Rattle.std.proofs.Common.{Some, inl, inr, refl, sym, ap, subst, ◌∙◌, arith, append_assoc, append-nil, eqb, eqb-true, eq-eqb, ne_eqb}
use Rattle.std.specs.Prelude.{IsTrue, slice_get, ◌&&◌}
use Rattle.std.specs.List.{AllByRecursion, AllZip, flat_map, sum_by}
use Rattle.std.proofs.lemmas.Bool.{cases_eq, cond-true, cond-false, true≢false}
use Rattle.std.proofs.lemmas.Option.{slice_get_within}
use Rattle.lrup_model.specs.Clause.{Clause}
use Rattle.lrup_model.specs.Distinct.{distinct}
use Rattle.lrup_model.specs.Event.{History, own, spent, size_of}
use Rattle.lrup_model.specs.Formula.{Cnf, IsCnf}
use Rattle.lrup_model.specs.History.{LegalFrom, IsLegal}
use Rattle.lrup_model.specs.lemmas.HistoryLemmas.{formula_owned, one_owner, own-all, own-none}
use Rattle.lrup_model.specs.Layout.{LayoutValue, Fits, IsStream, Owns}
use Rattle.lrup_model.specs.lemmas.RunningLemmas.{legal-append, own-append, spent-append, spent-sizes}
use Rattle.lrup_model.specs.State.{State, opening, run}
use Rattle.lrup_model.specs.declared.layout.Owner.TheVariants as owners
use Rattle.lrup_text.specs.Laws.{EmptyCut, OneCut, OneFirstLine, RefusedStays}
use Rattle.lrup_text.specs.Lines.{StreamLine, Addition, Deletion, Import, IsWithinLimits, line_text}
use Rattle.lrup_text.specs.declared.device.StreamEnd.TheVariants as stream_ends
use Rattle.stream_check.specs.declared.report.Report.{Report}
use Rattle.stream_check.specs.Judging.{joined, JudgesBlocks}
use Rattle.stream_check.specs.Excuses.{Lacking, IsExcusedAt}
use Rattle.stream_check.specs.Laws.{cited_by, CitedFetched, EndJudged, FreshLeft, GoodLineTaken}
use Rattle.stream_check.specs.Reaching.{GoingState, Going, ReachesState}
use Rattle.stream_check.specs.StreamContext.{is_among, context_of}
use Rattle.stream_check.specs.Closed.{IsOfStream, IsOwnedWithin, CiteWithin, IsClosed}
use Rattle.stream_check.specs.SequentialConsistency.{AreJudgedIn}
use Rattle.stream_check.specs.Streams.{Stream, Block, blocks_of, events_in, IsBlockWithin, JudgesStream, AreJudged, InputObservation}
use Rattle.stream_check.specs.Streams.{RunParamsValue, stream_params}
use Rattle.stream_check.specs.lemmas.StreamLemmas.{IsJudgedBy, blocks-same, blocks-other, judged_count, judged_out}
use Rattle.stream_check.specs.lemmas.TurnLemmas.{streams_of}
use Rattle.run_laws.specs.AnyRun.{ValidInAnyRun}
use Rattle.run_laws.specs.Groups.{IsRun}
use Rattle.run_laws.specs.Valid.{Database, first_database, after_line, IsValidLine, valid_report, SaysAtLeast}
use Rattle.run_laws.specs.Valid.{Step, is_own, beside_line, after_step, AreValidTogether}
use Rattle.run_laws.specs.Together.{lines_by, IsValidOrder, HaveTexts}
use Rattle.run_laws.specs.Together.{ValidTogether, TogetherBegins}
use Rattle.run_laws.proofs.AnyRunLemmas.{HaveBytesOf, agrees_on}
use Rattle.run_laws.proofs.ValidLemmas.{next_going, first_agrees, is_first, ended_report}
use Rattle.run_laws.proofs.ValidLines.{Agrees, Goes, line_goes, left, not_callers}

-- Each stream, one more line

-- the checked part of a stream: its bytes, their blocks, and the state that they lead to
record Track : Type 0 where
  bytes : List ℕ
  blocks : List History
  going : GoingState

record IsOn (f : Cnf) (run_params : RunParamsValue) (t : ℕ) (base : Database) (m : State) (track : Track) : Type 0 where
  pending : track.going.pending ≡ []
  agrees : Agrees f run_params.layout t base track.going.context m
  reaches : ReachesState (stream_params run_params t) track.bytes track.blocks (Going track.going)

-- the stream continues to the end of its lines; its further blocks are those that it has in this
-- order
record GoesOn (run_params : RunParamsValue) (t : ℕ) (base : Database) (track : Track) (steps : List Step)
    (order : List Block) : Type 0 where
  more : List History
  are_own : more ≡ blocks_of t order
  events : own (events_in order) t ≡ joined more
  room : spent t (events_in order) ≤ base.free
  going : GoingState
  pending : going.pending ≡ []
  reaches : ReachesState (stream_params run_params t) (track.bytes ++ flat_map line_text (lines_by t steps)) (track.blocks ++ more)
      (Going going)

-- what holds for both cases of a test holds for the case that is chosen
on_either : {A B : Type 0} (P : A → B → Type 0) (b : Bool) (x y : A) (v w : B) → (b ≡ true → P x v) → (b ≡ false → P y w)
    → P (cond b x y) (cond b v w)
on_either P true x y v w holds fails = holds refl
on_either P false x y v w holds fails = fails refl

further : RunParamsValue → Step → History → ℕ → Track → Track
further run_params step block t track = record {
  bytes = track.bytes ++ line_text step.line;
  blocks = track.blocks ++ block ∷ [];
  going = next_going (stream_params run_params t) track.going step.line;
}

tracks_after : RunParamsValue → Step → History → (ℕ → Track) → ℕ → Track
tracks_after run_params step block tracks t = cond (eqb t step.stream) (further run_params step block t (tracks t)) (tracks t)

beside_free : (p : LayoutValue) (s : ℕ) (base : Database) (line : StreamLine) → (beside_line p s base line).free ≡ base.free
beside_free p s base (Addition id lits hints) = refl
beside_free p s base (Deletion lead ids) = refl
beside_free p s base (Import id lits) = refl

not_eqb : (a b : ℕ) → eqb a b ≡ false → a ≢ b
not_eqb a b test same = true≢false (sym (eq-eqb a b same) ∙ test)

module _ (taken : GoodLineTaken) (f : Cnf) (run_params : RunParamsValue)
    (fits : Fits run_params.layout f) where
  -- `IsOn` still holds for the stream that wrote the line
  on_with : (step : Step) (base : Database) (m : State) (track : Track) → 0 < run_params.layout.streams → IsWithinLimits step.line
      → IsOn f run_params step.stream base m track
      → (g : Goes f (stream_params run_params step.stream) base track.going.context m step.line)
      → IsOn f run_params step.stream (after_line base step.line) (run m g.block) (further run_params step g.block step.stream track)
  unfolding further
  on_with step base m track some limits on g = record {
    pending = refl;
    agrees = g.next;
    reaches = taken (stream_params run_params step.stream) track.bytes (line_text step.line) track.blocks g.block track.going
        (next_going (stream_params run_params step.stream) track.going step.line) step.line on.reaches
        (limits, ap (λ (p : List ℕ). p ++ line_text step.line) on.pending) g.judged
        (record { tally = refl; context = record { last = refl; free = refl; is_dropped = λ id. refl }; pending = refl; line = refl });
  }

  -- `IsOn` still holds for every other stream, too
  on_beside : (step : Step) (base its : Database) (m : State) (track other : Track) (t : ℕ) → t ≢ step.stream
      → IsOn f run_params t its m other
      → (g : Goes f (stream_params run_params step.stream) base track.going.context m step.line)
      → IsOn f run_params t (beside_line run_params.layout step.stream its step.line) (run m g.block) other
  on_beside step base its m track other t apart on g = record {
    pending = on.pending;
    agrees = g.beside t its other.going.context apart on.agrees;
    reaches = on.reaches;
  }

  -- if a stream continues after its line, it also continues from that line on
  goes_with : (step : Step) (base : Database) (m : State) (track : Track) (steps : List Step) (order : List Block)
      → (g : Goes f (stream_params run_params step.stream) base track.going.context m step.line)
      → GoesOn run_params step.stream (after_line base step.line) (further run_params step g.block step.stream track) steps order
      → GoesOn run_params step.stream base track (step ∷ steps) (record { stream = step.stream; events = g.block } ∷ order)
  unfolding further
  goes_with step base m track steps order g on =
      let s = step.stream in
      let h = events_in order in
      let block : Block = record { stream = s; events = g.block } in
      let lines : lines_by s (step ∷ steps) ≡ step.line ∷ lines_by s steps =
      cond-true (eqb s s) (step.line ∷ lines_by s steps) (lines_by s steps) (eq-eqb s s refl) in
      let mine : own g.block s ≡ g.block = own-all s g.block g.callers in
      record {
        more = g.block ∷ on.more;
        are_own = ap (λ (bs : List History). g.block ∷ bs) on.are_own ∙ sym (blocks-same block order s refl);
        events = own-append g.block h s ∙ ap (λ (x : History). x ++ own h s) mine ∙ ap (λ (x : History). g.block ++ x) on.events;
        room = omega (arith, spent-append s g.block h, spent-sizes s g.block, ap (sum_by size_of) mine, g.room, on.room);
        going = on.going;
        pending = on.pending;
        reaches = subst (λ (ls : List StreamLine). ReachesState (stream_params run_params s) (track.bytes ++ flat_map line_text ls)
            (track.blocks ++ g.block ∷ on.more) (Going on.going)) (sym lines)
            (subst (λ (b : List ℕ). ReachesState (stream_params run_params s) b (track.blocks ++ g.block ∷ on.more) (Going on.going))
            (append_assoc track.bytes (line_text step.line) (flat_map line_text (lines_by s steps)))
            (subst (λ (b : List History). ReachesState (stream_params run_params s)
            ((track.bytes ++ line_text step.line) ++ flat_map line_text (lines_by s steps)) b (Going on.going))
            (append_assoc track.blocks (g.block ∷ []) on.more) on.reaches));
      }

  goes_beside : (step : Step) (base its : Database) (m : State) (track other : Track) (steps : List Step) (order : List Block) (t : ℕ)
      → t ≢ step.stream → (g : Goes f (stream_params run_params step.stream) base track.going.context m step.line)
      → GoesOn run_params t (beside_line run_params.layout step.stream its step.line) other steps order
      → GoesOn run_params t its other (step ∷ steps) (record { stream = step.stream; events = g.block } ∷ order)
  goes_beside step base its m track other steps order t apart g on =
      let s = step.stream in
      let h = events_in order in
      let block : Block = record { stream = s; events = g.block } in
      let lines : lines_by t (step ∷ steps) ≡ lines_by t steps =
      cond-false (eqb s t) (step.line ∷ lines_by t steps) (lines_by t steps) (ne_eqb s t (λ same. apart (sym same))) in
      let none : own g.block t ≡ [] = own-none g.block t (not_callers s t g.block apart g.callers) in
      record {
        more = on.more;
        are_own = on.are_own ∙ sym (blocks-other block order t (λ same. apart (sym same)));
        events = own-append g.block h t ∙ ap (λ (x : History). x ++ own h t) none ∙ on.events;
        room = omega (
          arith,
          spent-append t g.block h,
          spent-sizes t g.block,
          ap (sum_by size_of) none,
          on.room,
          beside_free run_params.layout s its step.line,
        );
        going = on.going;
        pending = on.pending;
        reaches = subst (λ (ls : List StreamLine). ReachesState (stream_params run_params t) (other.bytes ++ flat_map line_text ls)
            (other.blocks ++ on.more) (Going on.going)) (sym lines) on.reaches;
      }

  -- a legal order of all lines
  record AllGo (bases : ℕ → Database) (m : State) (tracks : ℕ → Track) (steps : List Step) : Type 0 where
    order : List Block
    streams : streams_of order ≡ map (λ step. step.stream) steps
    within : AllByRecursion (IsBlockWithin run_params.layout (λ t. true)) order
    legal : LegalFrom f run_params.layout m (events_in order)
    each : (t : ℕ) → GoesOn run_params t (bases t) (tracks t) steps order

  steps_go : (steps : List Step) (bases : ℕ → Database) (m : State) (tracks : ℕ → Track)
      → AllByRecursion (λ step. IsStream run_params.layout step.stream) steps → AllByRecursion (λ step. IsWithinLimits step.line) steps
      → AreValidTogether run_params.layout bases steps → ((t : ℕ) → IsOn f run_params t (bases t) m (tracks t)) → AllGo bases m tracks steps
  unfolding tracks_after
  steps_go [] bases m tracks streams limits valid on = record {
    order = [];
    streams = refl;
    within = tt;
    legal = tt;
    each = λ t. record {
      more = [];
      are_own = refl;
      events = refl;
      room = omega arith;
      going = (tracks t).going;
      pending = (on t).pending;
      reaches = subst (λ (b : List ℕ). ReachesState (stream_params run_params t) b ((tracks t).blocks ++ []) (Going (tracks t).going))
          (sym (append-nil (tracks t).bytes))
          (subst (λ (b : List History). ReachesState (stream_params run_params t) (tracks t).bytes b (Going (tracks t).going))
          (sym (append-nil (tracks t).blocks)) (on t).reaches);
    };
  }
  steps_go (step ∷ steps) bases m tracks streams limits valid on =
      let s = step.stream in
      let some : 0 < run_params.layout.streams = omega (arith, streams.0.0, streams.0.1) in
      let g : Goes f (stream_params run_params s) (bases s) (tracks s).going.context m step.line =
      line_goes f (stream_params run_params s) (bases s) (tracks s).going.context m step.line fits some
      (on s).agrees limits.0 valid.0 in
      let later : AllGo (after_step run_params.layout step bases) (run m g.block) (tracks_after run_params step g.block tracks) steps =
      steps_go steps (after_step run_params.layout step bases) (run m g.block)
      (tracks_after run_params step g.block tracks) streams.1 limits.1 valid.1
      (λ t. on_either (λ base track. IsOn f run_params t base (run m g.block) track) (eqb t s)
      (after_line (bases t) step.line) (beside_line run_params.layout s (bases t) step.line)
      (further run_params step g.block t (tracks t)) (tracks t)
      (λ test. let same : t ≡ s = eqb-true t s test in
      subst (λ (n : ℕ). IsOn f run_params n (after_line (bases n) step.line) (run m g.block) (further run_params step g.block n (tracks n)))
      (sym same)
      (on_with step (bases s) m (tracks s) some limits.0 (on s) g))
      (λ test. on_beside step (bases s) (bases t) m (tracks s) (tracks t) t (not_eqb t s test) (on t) g)) in
      record {
        order = record { stream = s; events = g.block } ∷ later.order;
        streams = ap (λ (ts : List ℕ). s ∷ ts) later.streams;
        within = ((streams.0, refl, g.callers), later.within);
        legal = legal-append f run_params.layout m g.block (events_in later.order) g.legal later.legal;
        each = λ t. elim (cases_eq t s) [
          | inl same ↦
              let here : GoesOn run_params s (after_line (bases s) step.line) (further run_params step g.block s (tracks s)) steps
              later.order =
              subst (λ (track : Track). GoesOn run_params s (after_line (bases s) step.line) track steps later.order)
              (cond-true (eqb s s) (further run_params step g.block s (tracks s)) (tracks s) (eq-eqb s s refl))
              (subst (λ (base : Database). GoesOn run_params s base (tracks_after run_params step g.block tracks s) steps later.order)
              (cond-true (eqb s s) (after_line (bases s) step.line) (beside_line run_params.layout s (bases s) step.line) (eq-eqb s s refl))
              (later.each s)) in
              subst (λ (n : ℕ). GoesOn run_params n (bases n) (tracks n) (step ∷ steps)
              (record { stream = s; events = g.block } ∷ later.order))
              (sym same)
              (goes_with step (bases s) m (tracks s) steps later.order g here)
          | inr apart ↦
              let there : GoesOn run_params t (beside_line run_params.layout s (bases t) step.line) (tracks t) steps later.order =
              subst (λ (track : Track). GoesOn run_params t (beside_line run_params.layout s (bases t) step.line) track steps later.order)
              (cond-false (eqb t s) (further run_params step g.block t (tracks t)) (tracks t) (ne_eqb t s apart))
              (subst (λ (base : Database). GoesOn run_params t base (tracks_after run_params step g.block tracks t) steps later.order)
              (cond-false (eqb t s) (after_line (bases t) step.line) (beside_line run_params.layout s (bases t) step.line)
              (ne_eqb t s apart))
              (later.each t)) in
              goes_beside step (bases s) (bases t) m (tracks s) (tracks t) steps later.order t apart g there
        ];
      }

-- What is cited

-- each clause of each database belongs to the formula or to a stream of the set
abbrev AreWithin : LayoutValue → (ℕ → Bool) → (ℕ → Database) → Type 0
AreWithin p set bases = (t id : ℕ) (d : Clause) → (bases t).clauses id ≡ Some d → IsOwnedWithin p set id

named_within : (p : LayoutValue) (set : ℕ → Bool) (base : Database) (hints : List ℕ) (ds : List Clause)
    → ((id : ℕ) (d : Clause) → base.clauses id ≡ Some d → IsOwnedWithin p set id)
    → AllZip (λ h d. base.clauses h ≡ Some d) hints ds → AllByRecursion (IsOwnedWithin p set) hints
named_within p set base [] [] within named = tt
named_within p set base [] (d ∷ ds) within named = absurd named
named_within p set base (h ∷ hints) [] within named = absurd named
named_within p set base (h ∷ hints) (d ∷ ds) within named = (within h d named.0, named_within p set base hints ds within named.1)

line_cites : (p : LayoutValue) (set : ℕ → Bool) (s : ℕ) (base : Database) (line : StreamLine)
    → ((id : ℕ) (d : Clause) → base.clauses id ≡ Some d → IsOwnedWithin p set id)
    → IsValidLine p s base line → AllByRecursion (IsOwnedWithin p set) (cited_by line)
line_cites p set s base (Addition id lits hints) within valid = named_within p set base hints valid.clauses within valid.named
line_cites p set s base (Deletion lead ids) within valid = tt
line_cites p set s base (Import id lits) within valid = (within id valid.clause valid.named.0, tt)

owned_by_member : (p : LayoutValue) (set : ℕ → Bool) (s id : ℕ) → IsTrue (set s) → Owns p s id → IsOwnedWithin p set id
owned_by_member p set s id member owns t theirs = subst (λ (n : ℕ). IsTrue (set n)) (one_owner p s t id owns theirs) member

line_within : (p : LayoutValue) (set : ℕ → Bool) (s : ℕ) (base : Database) (line : StreamLine) → IsTrue (set s) → IsValidLine p s base line
    → (its : Database) → ((id : ℕ) (d : Clause) → its.clauses id ≡ Some d → IsOwnedWithin p set id)
    → ((id : ℕ) (d : Clause) → (after_line its line).clauses id ≡ Some d → IsOwnedWithin p set id)
    × ((id : ℕ) (d : Clause) → (beside_line p s its line).clauses id ≡ Some d → IsOwnedWithin p set id)
line_within p set s base (Addition id lits hints) member valid its within =
    let added : (j : ℕ) (d : Clause) → cond (eqb j id) (Some (distinct lits)) (its.clauses j) ≡ Some d → IsOwnedWithin p set j = λ j d is.
    elim (cases_eq j id) [
      | inl same ↦ owned_by_member p set s j member (subst (Owns p s) (sym same) valid.owns)
      | inr other ↦ within j d (sym (cond-false (eqb j id) (Some (distinct lits)) (its.clauses j) (ne_eqb j id other)) ∙ is)
    ] in
    (added, added)
line_within p set s base (Deletion lead ids) member valid its within = (
  (λ j d is. within j d (left (is_among ids j) (its.clauses j) d is).1),
  (λ j d is. within j d (left (is_among ids j && is_own p s j) (its.clauses j) d is).1),
)
line_within p set s base (Import id lits) member valid its within = (within, within)

steps_cite : (p : LayoutValue) (set : ℕ → Bool) (steps : List Step) (bases : ℕ → Database) → AreWithin p set bases
    → AllByRecursion (λ step. IsTrue (set step.stream)) steps → AreValidTogether p bases steps
    → (t : ℕ) → AllByRecursion (λ line. AllByRecursion (IsOwnedWithin p set) (cited_by line)) (lines_by t steps)
steps_cite p set [] bases within members valid t = tt
steps_cite p set (step ∷ steps) bases within members valid t =
    let s = step.stream in
    let cites = line_cites p set s (bases s) step.line (within s) valid.0 in
    let rest = steps_cite p set steps (after_step p step bases)
    (λ n id d is. elim (cases_eq n s) [
      | inl same ↦ (line_within p set s (bases s) step.line members.0 valid.0 (bases n) (within n)).0 id d
          (sym (ap (λ (base : Database). base.clauses id)
          (cond-true (eqb n s) (after_line (bases n) step.line) (beside_line p s (bases n) step.line) (eq-eqb n s same))) ∙ is)
      | inr apart ↦ (line_within p set s (bases s) step.line members.0 valid.0 (bases n) (within n)).1 id d
          (sym (ap (λ (base : Database). base.clauses id)
          (cond-false (eqb n s) (after_line (bases n) step.line) (beside_line p s (bases n) step.line) (ne_eqb n s apart))) ∙ is)
    ]) members.1 valid.1 t in
    elim (cases_eq s t) [
      | inl same ↦ rw (cond-true (eqb s t) (step.line ∷ lines_by t steps) (lines_by t steps) (eq-eqb s t same)) (cites, rest)
      | inr apart ↦ rw (cond-false (eqb s t) (step.line ∷ lines_by t steps) (lines_by t steps) (ne_eqb s t apart)) rest
    ]

lines_limits : (steps : List Step) (t : ℕ) → AllByRecursion (λ step. IsWithinLimits step.line) steps
    → AllByRecursion IsWithinLimits (lines_by t steps)
lines_limits [] t all = tt
lines_limits (step ∷ steps) t all = elim (cases_eq step.stream t) [
  | inl same ↦ rw (cond-true (eqb step.stream t) (step.line ∷ lines_by t steps) (lines_by t steps) (eq-eqb step.stream t same))
      (all.0, lines_limits steps t all.1)
  | inr apart ↦ rw (cond-false (eqb step.stream t) (step.line ∷ lines_by t steps) (lines_by t steps) (ne_eqb step.stream t apart))
      (lines_limits steps t all.1)
]

-- Lists with an element for each stream

pub each_from : {X : Type 0} → ℕ → ℕ → (ℕ → X) → List X
each_from zero k of = []
each_from (suc n) k of = of k ∷ each_from n (k + 1) of

pub each_count : {X : Type 0} (n k : ℕ) (of : ℕ → X) → length (each_from n k of) ≡ n
unfolding each_from
each_count zero k of = refl
each_count (suc n) k of = ap suc (each_count n (k + 1) of)

each_at : {X : Type 0} (n k i : ℕ) (of : ℕ → X) (x : X) → slice_get (each_from n k of) i ≡ Some x → of (k + i) ≡ x
unfolding each_from
each_at zero k i of x is = absurd (cc)
each_at (suc n) k zero of x is =
    let first : of k ≡ x = cc in
    let place : k + 0 ≡ k = omega arith in
    ap of place ∙ first
each_at (suc n) k (suc i) of x is =
    let place : k + suc i ≡ k + 1 + i = omega arith in
    ap of place ∙ each_at n (k + 1) i of x is

each_get : {X : Type 0} (n k i : ℕ) (of : ℕ → X) → i < n → slice_get (each_from n k of) i ≡ Some (of (k + i))
unfolding each_from
each_get zero k i of below = absurd (omega (arith, below))
each_get (suc n) k zero of below = let place : k ≡ k + 0 = omega arith in ap (λ (j : ℕ). Some (of j)) place
each_get (suc n) k (suc i) of below =
    let place : k + 1 + i ≡ k + suc i = omega arith in
    each_get n (k + 1) i of (omega (arith, below)) ∙ ap (λ (j : ℕ). Some (of j)) place

pub at_stream : {X : Type 0} (n s : ℕ) (of : ℕ → X) (x : X) → IsOfStream (each_from n 1 of) s x → of s ≡ x
at_stream n s of x at =
    let first = at.0 in
    let place : s ≡ 1 + (s - 1) = omega (arith, first) in
    ap of place ∙ each_at n 1 (s - 1) of x at.1

each_judged : (run_params : RunParamsValue) (set : ℕ → Bool) (h : History) (n k : ℕ) (streams : ℕ → Stream) (reports : ℕ → Report)
    → ((t : ℕ) → IsJudgedBy (stream_params run_params t) (streams t) (own h t) (reports t))
    → AreJudgedIn run_params set h k (each_from n k streams) (each_from n k reports)
unfolding each_from
each_judged run_params set h zero k streams reports judged = tt
each_judged run_params set h (suc n) k streams reports judged =
    ((λ member. judged k), each_judged run_params set h n (k + 1) streams reports judged)

-- each stream is judged by its own blocks
pub each_own : (run_params : RunParamsValue) (own : ℕ → List History) (n k : ℕ) (streams : ℕ → Stream) (reports : ℕ → Report)
    → ((t : ℕ) → JudgesStream (stream_params run_params t) (streams t) (own t) (reports t))
    → AreJudged run_params (λ t. true) (λ t blocks. blocks ≡ own t) k (each_from n k streams) (each_from n k reports)
unfolding each_from
each_own run_params own zero k streams reports judged = tt
each_own run_params own (suc n) k streams reports judged =
    ((λ member. (own k, refl, judged k)), each_own run_params own n (k + 1) streams reports judged)

-- All together

-- the stream that consists of the texts of its lines, and then ends
abbrev pub text_stream : List Step → ℕ → Stream
text_stream steps t = record { bytes = flat_map line_text (lines_by t steps); unneeded = []; end = Some stream_ends.Ended }

-- the valid report of a stream's lines
its_report : RunParamsValue → List Step → ℕ → Report
its_report run_params steps t = valid_report run_params t (lines_by t steps)

-- a legal history judges all streams as the reports of their lines say
record AreJudgedTogether (f : Cnf) (run_params : RunParamsValue) (set : ℕ → Bool) (steps : List Step) : Type 0 where
  history : History
  legal : IsLegal f run_params.layout history
  judged : AreJudgedIn run_params set history 1 (each_from run_params.layout.streams 1 (text_stream steps))
      (each_from run_params.layout.streams 1 (its_report run_params steps))
  closed : IsClosed run_params.layout set (each_from run_params.layout.streams 1 (text_stream steps))

-- each reader's bytes begin with the bytes of its stream
have_bytes : (p : LayoutValue) (set : ℕ → Bool) (steps : List Step) (observed : List InputObservation) → HaveTexts set steps observed
    → HaveBytesOf set (each_from p.streams 1 (text_stream steps)) observed
have_bytes p set steps observed texts t x observation member at here =
    let its = texts t observation member here in
    (its.0, its.1 ∙ ap (λ (y : Stream). Some (y.bytes ++ its.0)) (at_stream p.streams t (text_stream steps) x at))

-- a stream that has a report in a run is a stream of the layout
report_place : (f : Cnf) (run_params : RunParamsValue) (observed : List InputObservation) (reports : List Report)
    (r : IsRun f run_params observed reports) (s : ℕ)
    (report : Report)
    → IsOfStream reports s report → IsStream run_params.layout s
report_place f run_params observed reports r s report says =
    let within = slice_get_within reports (s - 1) report says.1 in
    let many = judged_count run_params (λ t. true) r.history 1 r.streams reports r.judged in
    (says.0, omega (arith, within, many, r.count, says.0))

each_place : {X : Type 0} (n s : ℕ) (of : ℕ → X) → 0 < s → s ≤ n → IsOfStream (each_from n 1 of) s (of s)
each_place n s of first last =
    let place : 1 + (s - 1) ≡ s = omega (arith, first) in
    (first, each_get n 1 (s - 1) of (omega (arith, first, last)) ∙ ap (λ (j : ℕ). Some (of j)) place)

-- a legal order of valid lines, in which each stream has its valid report
pub record IsOrderOf (f : Cnf) (run_params : RunParamsValue) (steps : List Step) (order : List Block) : Type 0 where
  pub streams : streams_of order ≡ map (λ step. step.stream) steps
  pub within : AllByRecursion (IsBlockWithin run_params.layout (λ t. true)) order
  pub legal : IsLegal f run_params.layout (events_in order)
  pub events : (t : ℕ) → own (events_in order) t ≡ joined (blocks_of t order)
  pub judged : (t : ℕ)
      → JudgesBlocks (stream_params run_params t) (flat_map line_text (lines_by t steps)) stream_ends.Ended (blocks_of t order)
      (valid_report run_params t (lines_by t steps))

module _ (taken : GoodLineTaken) (fresh : FreshLeft) (ends : EndJudged)
    (empty_cut : EmptyCut) (one_cut : OneCut) where
  pub valid_ordered : (f : Cnf) (run_params : RunParamsValue) (steps : List Step) → IsCnf f → Fits run_params.layout f
      → IsValidOrder f run_params.layout steps
      → (order : List Block) × IsOrderOf f run_params steps order
  valid_ordered f run_params steps cnf fits valid =
      let p = run_params.layout in
      let first : ℕ → Track = λ t. record {
        bytes = [];
        blocks = [];
        going = record {
          tally = record { added = 0; deleted = 0; empty = false; within = false };
          context = context_of (stream_params run_params t) [];
          pending = [];
          line = 1;
        };
      } in
      let all : AllGo taken f run_params fits (λ t. first_database f p) (opening f) first steps =
      steps_go taken f run_params fits steps (λ t. first_database f p) (opening f) first valid.streams valid.fits valid.valid
      (λ t. record {
        pending = refl;
        agrees = first_agrees f (stream_params run_params t) cnf fits;
        reaches = fresh (stream_params run_params t) (first t).going
            (record { tally = refl; context = record { last = refl; free = refl; is_dropped = λ id. refl }; pending = refl; line = refl });
      }) in (
        all.order,
        record {
          streams = all.streams;
          within = all.within;
          legal = record { events = all.legal; room = λ t. (all.each t).room };
          events = λ t. (all.each t).events ∙ ap joined (all.each t).are_own;
          judged = λ t.
              let its = all.each t in
              rw its.are_own
              at (ended_report ends empty_cut one_cut run_params t (lines_by t steps) its.more its.going its.pending
              (lines_limits steps t valid.fits) its.reaches);
        },
      )

  judged_together : (f : Cnf) (run_params : RunParamsValue) (set : ℕ → Bool) (steps : List Step) → IsCnf f → Fits run_params.layout f
      → IsValidOrder f run_params.layout steps → AllByRecursion (λ step. IsTrue (set step.stream)) steps
      → AreJudgedTogether f run_params set steps
  unfolding its_report
  judged_together f run_params set steps cnf fits order members =
      let p = run_params.layout in
      let found = valid_ordered f run_params steps cnf fits order in
      record {
        history = events_in found.0;
        legal = found.1.legal;
        judged = each_judged run_params set (events_in found.0) p.streams 1 (text_stream steps) (its_report run_params steps) (λ t. (
          blocks_of t found.0,
          found.1.events t,
          judged_out (stream_params run_params t) (flat_map line_text (lines_by t steps)) [] stream_ends.Ended (blocks_of t found.0)
              (its_report run_params steps t) (found.1.judged t),
        ));
        closed = λ t x m at.
            subst (λ (y : Stream). CiteWithin p set y.bytes) (at_stream p.streams t (text_stream steps) x at) (record {
              lines = lines_by t steps;
              rest = [];
              cut = record {
                bytes = sym (append-nil (flat_map line_text (lines_by t steps)));
                each = lines_limits steps t order.fits;
                last = empty_cut.last;
              };
              within = steps_cite p set steps (λ k. first_database f p) (λ k id d is.
                  let found = is_first f p id d is in
                  λ owner_of owns. absurd (let no : owners.Formula ≡ owners.Stream owner_of =
                  sym (formula_owned p id found.positive (omega (arith, found.within, fits.clauses))) ∙ owns in cc)) members order.valid t;
            });
      }

  pub valid_together : ValidInAnyRun → ValidTogether
  unfolding its_report
  valid_together law f run_params set steps observed reports s observation report cnf fits order members r texts member here entry says
      fine =
      let n = run_params.layout.streams in
      let j : AreJudgedTogether f run_params set steps = judged_together f run_params set steps cnf fits order members in
      let place = report_place f run_params observed reports r s report says in
      law f run_params set j.history (each_from n 1 (text_stream steps)) (each_from n 1 (its_report run_params steps)) observed reports s
      (text_stream steps s) observation (its_report run_params steps s) report fits (each_count n 1 (text_stream steps))
      j.legal j.judged j.closed member (each_place n s (text_stream steps) place.0 place.1)
      (each_place n s (its_report run_params steps) place.0 place.1) refl
      r (have_bytes run_params.layout set steps observed texts) here entry says fine

  pub together_begins : OneFirstLine → RefusedStays → CitedFetched → TogetherBegins
  unfolding its_report
  together_begins first refused cited f run_params set steps observed reports s report cnf fits order members r texts member says =
      let n = run_params.layout.streams in
      let c = stream_params run_params s in
      let j : AreJudgedTogether f run_params set steps = judged_together f run_params set steps cnf fits order members in
      let place = report_place f run_params observed reports r s report says in
      let on = agrees_on first refused cited f run_params set j.history (each_from n 1 (text_stream steps))
      (each_from n 1 (its_report run_params steps)) observed reports
      fits (each_count n 1 (text_stream steps)) j.legal j.judged j.closed r (have_bytes run_params.layout set steps observed texts)
      s (its_report run_params steps s) report member (each_place n s (its_report run_params steps) place.0 place.1) refl says in
      let whole = flat_map line_text (lines_by s steps) in
      let bytes : whole ≡ flat_map line_text on.lines =
      ap (λ (x : Stream). x.bytes) (at_stream n s (text_stream steps) on.stream on.at) ∙ on.text in
      let same : on.lines ≡ lines_by s steps = (one_cut whole on.lines (lines_by s steps) [] []
      (record { bytes = bytes ∙ sym (append-nil (flat_map line_text on.lines)); each = on.limits; last = empty_cut.last })
      (record { bytes = sym (append-nil whole); each = lines_limits steps s order.fits; last = empty_cut.last })).0 in
      subst (λ (ls : List StreamLine). SaysAtLeast report (valid_report run_params s (lines_by s steps))
      ⊎ ((line : ℕ) × (line ≤ length ls) × IsExcusedAt (Lacking c) report line))
      same on.shows
