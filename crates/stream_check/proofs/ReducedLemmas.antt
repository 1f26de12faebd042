-- A line without the vacant fetches of hints that were found later.
use Rattle.std.proofs.Common.{◌≡◌, ◌&&◌, ℕ, zero, suc, Bool, true, false, not, List, [], ◌∷◌, ◌++◌, map, Result}
use Rattle.std.proofs.Common.{replicate, inl, inr, refl, sym, ap, ◌∙◌, arith, append_assoc, append-nil}
use Rattle.std.specs.List.{list_all}
use Rattle.std.proofs.lemmas.List.{map-append}
use Rattle.lrup_model.specs.Clause.{Clause}
use Rattle.lrup_model.specs.Event as events
use Rattle.lrup_model.specs.Event.{Event, History, Reply}
use Rattle.lrup_text.specs.Lines.{StreamLine, Deletion}
use Rattle.lrup_text.specs.declared.device.StreamEnd.{StreamEnd}
use Rattle.stream_check.specs.declared.fault.Fault.{Fault}
use Rattle.stream_check.specs.declared.report.Report.{Report}
use Rattle.stream_check.specs.declared.params.Ownership.{Ownership}
use Rattle.stream_check.specs.declared.params.Ownership.TheVariants as ownerships
use Rattle.stream_check.specs.StreamParams.{StreamParams, ownership_of}
use Rattle.stream_check.specs.StreamContext.{context_of, StreamContext}
use Rattle.stream_check.specs.Verdicts.{Good, Bad, LineVerdict}
use Rattle.stream_check.specs.Lookup.{FetchesHintAt, FetchesHint, answer_of, LooksUp}
use Rattle.stream_check.specs.Judging.{AreGood, EndsAfter, at_bad_line, at_bad_text, at_memory, at_end, JudgesLine}
use Rattle.stream_check.specs.lemmas.MappingLemmas.{LooksOn, line_maps}
use Rattle.stream_check.specs.Reducing.{is_vacant, reduced}
use Rattle.stream_check.specs.Laws.{ReducedStream}
use Rattle.stream_check.specs.lemmas.ReducingLemmas.{reduced_kept, reduced_left_out, all_vacant_stay}

-- Reducing

-- an event that isn't a vacant fetch stays
other_stays : (e : Event) (es : History) → is_vacant e ≡ false → reduced (e ∷ es) ≡ e ∷ reduced es
other_stays e es other = reduced_kept e es (ap (λ b. b && not (list_all is_vacant es)) other)

not_all_vacant : (s id k : ℕ) (e : Event) (es : History) → is_vacant e ≡ false
    → list_all is_vacant (replicate k (events.fetch s id events.vacant) ++ e ∷ es) ≡ false
not_all_vacant s id zero e es other = ap (λ b. b && list_all is_vacant es) other
not_all_vacant s id (suc k) e es other = not_all_vacant s id k e es other

-- vacant fetches before another event are removed
vacants_go : (s id k : ℕ) (e : Event) (es : History) → is_vacant e ≡ false
    → reduced (replicate k (events.fetch s id events.vacant) ++ e ∷ es) ≡ e ∷ reduced es
vacants_go s id zero e es other = other_stays e es other
vacants_go s id (suc k) e es other =
    reduced_left_out (events.fetch s id events.vacant) (replicate k (events.fetch s id events.vacant) ++ e ∷ es)
    (ap not (not_all_vacant s id k e es other))
    ∙ vacants_go s id k e es other

is_no_vacant : (s id : ℕ) (r : Reply) → (r ≡ events.vacant → ⊥) → is_vacant (events.fetch s id r) ≡ false
is_no_vacant s id events.vacant found = absurd (found refl)
is_no_vacant s id (events.live d) found = refl
is_no_vacant s id events.retired found = refl

found_at : (ownership : Ownership) (c : StreamParams) (h : ℕ) (asked rest : History) (r : Reply) → (r ≡ events.vacant → ⊥)
    → FetchesHintAt ownership c h asked r
    → (reduced (asked ++ rest) ≡ (events.fetch c.stream h r ∷ []) ++ reduced rest)
    × FetchesHintAt ownership c h (events.fetch c.stream h r ∷ []) r
found_at ownerships.Foreign c h asked rest r found asks =
    let vacants = replicate asks.0 (events.fetch c.stream h events.vacant) in (
      ap (λ a. reduced (a ++ rest)) asks.3
          ∙ ap reduced (append_assoc vacants (events.fetch c.stream h r ∷ []) rest)
          ∙ vacants_go c.stream h asks.0 (events.fetch c.stream h r) rest (is_no_vacant c.stream h r found),
      (0, omega arith, (λ vacant. absurd (found vacant)), refl),
    )
found_at ownerships.Outside c h asked rest r found asks = absurd (found asks.1)
found_at _ c h asked rest r found asks =
    (ap (λ a. reduced (a ++ rest)) asks ∙ other_stays (events.fetch c.stream h r) rest (is_no_vacant c.stream h r found), refl)

vacants_all : (s id k : ℕ)
    → list_all is_vacant (replicate k (events.fetch s id events.vacant) ++ events.fetch s id events.vacant ∷ []) ≡ true
vacants_all s id zero = refl
vacants_all s id (suc k) = vacants_all s id k

-- all fetches of a hint that wasn't found are vacant
missing_at : (ownership : Ownership) (c : StreamParams) (h : ℕ) (asked : History) → FetchesHintAt ownership c h asked events.vacant
    → list_all is_vacant asked ≡ true
missing_at ownerships.Formula c h asked asks = ap (list_all is_vacant) asks
missing_at ownerships.Own c h asked asks = ap (list_all is_vacant) asks
missing_at ownerships.Foreign c h asked asks = ap (list_all is_vacant) asks.3 ∙ vacants_all c.stream h asks.0
missing_at ownerships.Outside c h asked asks = ap (list_all is_vacant) asks.0

-- a look-up has the same answer without the vacant fetches of a hint that was found later
asks_reduced : (reply : Reply) (c : StreamParams) (is_dropped : ℕ → Bool) (h : ℕ) (asked rest : History) (answer : Result Clause Fault)
    → is_dropped h ≡ false → FetchesHint c h asked reply → answer ≡ answer_of h reply → (answer ≡ answer_of h events.vacant → rest ≡ [])
    → LooksOn c reduced is_dropped h asked rest answer
asks_reduced events.vacant c is_dropped h asked rest answer kept asks is ends =
    let none = ends is in
    record {
      fewer = asked;
      events = ap (λ r. reduced (asked ++ r)) none ∙ ap reduced (append-nil asked)
          ∙ all_vacant_stay asked (missing_at (ownership_of c h) c h asked asks) ∙ sym (append-nil asked)
          ∙ ap (λ r. asked ++ reduced r) (sym none);
      looks = inr (kept, events.vacant, asks, is);
    }
asks_reduced (events.live d) c is_dropped h asked rest answer kept asks is ends =
    let found = found_at (ownership_of c h) c h asked rest (events.live d) (λ vacant. cc) asks in
    record {
      fewer = events.fetch c.stream h (events.live d) ∷ [];
      events = found.0;
      looks = inr (kept, events.live d, found.1, is);
    }
asks_reduced events.retired c is_dropped h asked rest answer kept asks is ends =
    let found = found_at (ownership_of c h) c h asked rest events.retired (λ vacant. cc) asks in
    record { fewer = events.fetch c.stream h events.retired ∷ []; events = found.0; looks = inr (kept, events.retired, found.1, is) }

looks_reduced : (c : StreamParams) (is_dropped : ℕ → Bool) (h : ℕ) (asked rest : History) (answer : Result Clause Fault)
    → LooksUp c is_dropped h asked answer → (answer ≡ answer_of h events.vacant → rest ≡ [])
    → LooksOn c reduced is_dropped h asked rest answer
looks_reduced c is_dropped h asked rest answer (inl dropped) ends =
    record { fewer = []; events = ap (λ a. reduced (a ++ rest)) dropped.1; looks = inl (dropped.0, refl, dropped.2) }
looks_reduced c is_dropped h asked rest answer (inr found) ends =
    asks_reduced found.1 c is_dropped h asked rest answer found.0 found.2 found.3 ends

-- a line without the vacant fetches of the hints that it found gets the same verdict
pub reduced_line : (c : StreamParams) (st : StreamContext) (line : StreamLine) (es : History) (v : LineVerdict)
    → JudgesLine c st line es v → JudgesLine c st line (reduced es) v
reduced_line c st line es v judged =
    line_maps c c.cube reduced refl (λ id lits. refl) (λ id r rest. refl) (looks_reduced c) st line es v judged

good_reduced : (c : StreamParams) (before lines : List StreamLine) (blocks : List History) → AreGood c before lines blocks
    → AreGood c before lines (map reduced blocks)
good_reduced c before [] [] good = tt
good_reduced c before [] (block ∷ blocks) good = absurd good
good_reduced c before (line ∷ lines) [] good = absurd good
good_reduced c before (line ∷ lines) (block ∷ blocks) good =
    (reduced_line c (context_of c before) line block Good good.0, good_reduced c (before ++ line ∷ []) lines blocks good.1)

ends_reduced : (c : StreamParams) (lines : List StreamLine) (rest : List ℕ) (end : StreamEnd) (back : List History) (report : Report)
    → EndsAfter c lines rest end back report → EndsAfter c lines rest end (map reduced back) report
ends_reduced c lines rest end back report (at_bad_line line more text fits block one_block deleted fault bad says) =
    at_bad_line line more text fits (reduced block) (ap (map reduced) one_block) deleted fault
    (reduced_line c (context_of c lines) line block (Bad deleted fault) bad) says
ends_reduced c lines rest end back report (at_bad_text fault text no_block says) = at_bad_text fault text (ap (map reduced) no_block) says
ends_reduced c lines rest end back report (at_memory lead ids more text fits block one_block earlier stops says) =
    at_memory lead ids more text fits (reduced block) (ap (map reduced) one_block) earlier
    (record {
      id = stops.id;
      later = stops.later;
      identities = stops.identities;
      before = reduced_line c (context_of c lines) (Deletion lead earlier) block Good stops.before;
      shared = stops.shared;
      new = stops.new;
    })
    says
ends_reduced c lines rest end back report (at_end pending no_block says) = at_end pending (ap (map reduced) no_block) says

pub reduced_stream : ReducedStream
reduced_stream c bytes end blocks report j = record {
  lines = j.lines;
  rest = j.rest;
  front = map reduced j.front;
  back = map reduced j.back;
  split = ap (map reduced) j.split ∙ map-append reduced j.front j.back;
  text = j.text;
  fits = j.fits;
  good = good_reduced c [] j.lines j.front j.good;
  ends = ends_reduced c j.lines j.rest end j.back report j.ends;
}
