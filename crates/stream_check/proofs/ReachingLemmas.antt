-- The state of a checker.
use Rattle.std.proofs.Common.{◌≡◌, ◌+◌, ◌-◌, ◌^◌, ◌||◌, ◌&&◌, min, ℕ, Bool, List, [], ◌∷◌, ◌++◌, length, inl, inr, refl, sym}
use Rattle.std.proofs.Common.{ap, subst, ◌∙◌, arith, append_assoc, append-nil, length-append}
use Rattle.std.specs.List.{flat_map, AllByRecursion}
use Rattle.std.proofs.lemmas.Grind.{flat_map-append}
use Rattle.lrup_model.specs.Event.{History}
use Rattle.lrup_text.specs.declared.LineFault.{LineFault}
use Rattle.lrup_text.specs.Lines.{StreamLine, Deletion, IsWithinLimits, LineText, line_text, Cut, IsPending}
use Rattle.lrup_text.specs.Faults.{IsRefused, HasTextFault}
use Rattle.lrup_text.specs.Laws.{TextsAreLines, EmptyCut}
use Rattle.lrup_text.specs.declared.device.StreamEnd.{StreamEnd}
use Rattle.lrup_text.specs.declared.device.StreamEnd.TheVariants as stream_ends
use Rattle.stream_check.specs.declared.fault.Fault.{Fault}
use Rattle.stream_check.specs.declared.fault.Fault.TheVariants as faults
use Rattle.stream_check.specs.declared.report.Ending.{Ending}
use Rattle.stream_check.specs.declared.report.Ending.TheVariants as endings
use Rattle.stream_check.specs.declared.report.Report.{Report}
use Rattle.stream_check.specs.StreamParams.{StreamParams, ownership_of, is_shared}
use Rattle.stream_check.specs.StreamContext.{StreamContext, context_of, is_among, capped, deleted_by}
use Rattle.stream_check.specs.Stopping.{StopsAtLine, DropsUntilStop}
use Rattle.stream_check.specs.internal.Checking.{DropsMore}
use Rattle.stream_check.specs.lemmas.StoppingLemmas.{AreDeletedFirst}
use Rattle.stream_check.specs.Verdicts.{Good, Bad}
use Rattle.stream_check.specs.Deletions.{StopsDeletion}
use Rattle.stream_check.specs.Judging.{JudgesLine, AreGood, report_of, EndsAfter, at_bad_line, at_bad_text, at_memory, at_end, ending_at}
use Rattle.stream_check.specs.Judging.{JudgesBlocks}
use Rattle.stream_check.specs.CheckerValue.{Tally, report_of_tally}
use Rattle.stream_check.specs.Reaching.{GoingState, SameContext, ReachesGoing, context_after, tally_after, ReachesState, Going, Over}
use Rattle.stream_check.specs.Laws.{FreshLeft, GoodLineTaken, EndJudged, FinishedStays}
use Rattle.stream_check.specs.Laws.{DecidedBeforeFailure}
use Rattle.stream_check.specs.lemmas.ContextLemmas.{context_of-snoc, counts_of, tally_is, tally_says, counts_of-snoc, same_context}
use Rattle.stream_check.specs.lemmas.StoppingLemmas.{drops_none}

-- if the lines are good, and one more is good with its block, all of them are good
good_snoc : (c : StreamParams) (before lines : List StreamLine) (blocks : List History) (line : StreamLine) (block : History)
    → AreGood c before lines blocks → JudgesLine c (context_of c (before ++ lines)) line block Good
    → AreGood c before (lines ++ line ∷ []) (blocks ++ block ∷ [])
good_snoc c before [] [] line block good judged = (rw (append-nil before) at judged, tt)
good_snoc c before [] (b ∷ blocks) line block good judged = absurd good
good_snoc c before (l ∷ lines) [] line block good judged = absurd good
good_snoc c before (l ∷ lines) (b ∷ blocks) line block good judged = (
  good.0,
  good_snoc c (before ++ l ∷ []) lines blocks line block good.1 (rw (append_assoc before (l ∷ []) lines) judged),
)

-- more bytes after the texts of lines make the rest longer
text_grows : (texts bytes rest piece : List ℕ) → bytes ≡ texts ++ rest → bytes ++ piece ≡ texts ++ (rest ++ piece)
text_grows texts bytes rest piece e = ap (λ b. b ++ piece) e ∙ append_assoc texts rest piece

-- if the rest, with more bytes, is the text of a line, it is one more line
pub line_grows : (lines : List StreamLine) (line : StreamLine) (bytes rest piece : List ℕ) → bytes ≡ flat_map line_text lines ++ rest
    → rest ++ piece ≡ line_text line → bytes ++ piece ≡ flat_map line_text (lines ++ line ∷ []) ++ []
line_grows lines line bytes rest piece e whole =
    text_grows (flat_map line_text lines) bytes rest piece e
    ∙ ap (λ t. flat_map line_text lines ++ t) whole
    ∙ sym (append-nil (flat_map line_text (lines ++ line ∷ [])) ∙ flat_map-append line_text lines (line ∷ [])
    ∙ ap (λ t. flat_map line_text lines ++ t) (append-nil (line_text line)))

pub all_snoc : (lines : List StreamLine) (line : StreamLine) → AllByRecursion IsWithinLimits lines → IsWithinLimits line
    → AllByRecursion IsWithinLimits (lines ++ line ∷ [])
all_snoc [] line all one = (one, tt)
all_snoc (l ∷ lines) line all one = (all.0, all_snoc lines line all.1 one)

-- the empty text may still become a line
pub nothing_pending : TextsAreLines → EmptyCut → IsPending []
nothing_pending texts none =
    let line = Deletion 1 [] in
    let fits : IsWithinLimits line = ((omega arith, omega arith), record { count = omega arith; each = tt }) in
    record { begins = (line_text line, (texts (line_text line)).1 (line, (fits, refl))); whole = none.last }

pub fresh_left : TextsAreLines → EmptyCut → FreshLeft
fresh_left texts none c now fresh =
    let at_rest : (rest : List ℕ) → rest ≡ [] → Cut [] [] rest × IsPending rest = λ rest e. rw e (none, nothing_pending texts none) in
    let here = at_rest now.pending fresh.pending in
    record {
      lines = [];
      cut = here.0;
      pending = here.1;
      good = tt;
      tally = tally_says c [] now.tally fresh.tally;
      context = fresh.context;
      line = fresh.line;
    }

-- more bytes of an unfinished line are pending, too
pub pending_grows : (c : StreamParams) (bytes piece : List ℕ) (blocks : List History) (old : GoingState)
    → ReachesState c bytes blocks (Going old) → IsPending (old.pending ++ piece)
    → ReachesState c (bytes ++ piece) blocks (Going (record old { pending = old.pending ++ piece }))
pending_grows c bytes piece blocks old before pending = record {
  lines = before.lines;
  cut = record {
    bytes = text_grows (flat_map line_text before.lines) bytes old.pending piece before.cut.bytes;
    each = before.cut.each;
    last = pending.whole;
  };
  pending = pending;
  good = before.good;
  tally = before.tally;
  context = before.context;
  line = before.line;
}

-- what holds of the context in a checker holds of the context that the lines leave
by_lines : (c : StreamParams) (old : GoingState) (lines : List StreamLine) (P : StreamContext → Type 0)
    → SameContext old.context (context_of c lines)
    → P old.context → P (context_of c lines)
by_lines c old lines P same holds = subst P (same_context old.context (context_of c lines) same) holds

next_number : (lines : List StreamLine) (line : StreamLine)
    → min (capped (length lines + 1) + 1) (2 ^ 64 - 1) ≡ capped (length (lines ++ line ∷ []) + 1)
next_number lines line = omega (arith, length-append lines (line ∷ []))

same_trans : (a b d : StreamContext) → SameContext a b → SameContext b d → SameContext a d
same_trans a b d x y = record { last = x.last ∙ y.last; free = x.free ∙ y.free; is_dropped = λ id. x.is_dropped id ∙ y.is_dropped id }

pub good_line_taken : TextsAreLines → EmptyCut → GoodLineTaken
good_line_taken texts none c bytes piece blocks block old new line before text judged taken =
    let lines = before.lines in
    let here : JudgesLine c (context_of c lines) line block Good =
    by_lines c old lines (λ st. JudgesLine c st line block Good) before.context judged in
    let same_old = same_context old.context (context_of c lines) before.context in
    let cut : Cut (bytes ++ piece) (lines ++ line ∷ []) [] = record {
      bytes = line_grows lines line bytes old.pending piece before.cut.bytes text.1;
      each = all_snoc lines line before.cut.each text.0;
      last = none.last;
    } in
    let at_rest : (rest : List ℕ) → rest ≡ [] → Cut (bytes ++ piece) (lines ++ line ∷ []) rest × IsPending rest =
    λ rest e. subst (λ r. Cut (bytes ++ piece) (lines ++ line ∷ []) r × IsPending r) (sym e) (cut, nothing_pending texts none) in
    let rest = at_rest new.pending taken.pending in
    record {
      lines = lines ++ line ∷ [];
      cut = rest.0;
      pending = rest.1;
      good = good_snoc c [] lines blocks line block before.good here;
      tally = tally_says c (lines ++ line ∷ []) new.tally
          (taken.tally ∙ ap (λ t. tally_after c t line) (tally_is c lines old.tally before.tally) ∙ counts_of-snoc c lines line);
      context = same_trans new.context (context_after c (context_of c lines) line) (context_of c (lines ++ line ∷ []))
          (subst (λ st. SameContext new.context (context_after c st line)) same_old taken.context)
          (context_of-snoc c lines line block here);
      line = taken.line ∙ ap (λ n. min (n + 1) (2 ^ 64 - 1)) before.line ∙ next_number lines line;
    }

-- The judgement of a stream that ends in some way after the good lines of an unfinished checker.
ends_after : (c : StreamParams) (bytes piece : List ℕ) (blocks back : List History) (old : GoingState) (end : StreamEnd) (report : Report)
    → (before : ReachesGoing c bytes blocks old)
    → EndsAfter c before.lines (old.pending ++ piece) end back report
    → JudgesBlocks c (bytes ++ piece) end (blocks ++ back) report
ends_after c bytes piece blocks back old end report before ends = record {
  lines = before.lines;
  rest = old.pending ++ piece;
  front = blocks;
  back = back;
  split = refl;
  text = text_grows (flat_map line_text before.lines) bytes old.pending piece before.cut.bytes;
  fits = before.cut.each;
  good = before.good;
  ends = ends;
}

-- the report made of what the checker holds is the report of the lines
held_report : (c : StreamParams) (bytes : List ℕ) (blocks : List History) (old : GoingState) (ending : ℕ → Ending)
    → (before : ReachesGoing c bytes blocks old)
    → report_of_tally old.tally (ending old.line) ≡ report_of c before.lines 0 (ending (capped (length before.lines + 1)))
held_report c bytes blocks old ending before =
    before.tally (ending old.line) ∙ ap (λ n. report_of c before.lines 0 (ending n)) before.line

-- these counts, with this many more deleted identities
abbrev with_deleted : Tally → ℕ → Tally
with_deleted t deleted = record t { deleted = capped (t.deleted + deleted) }

-- the report made of what the checker holds, with more deleted identities, is the report of the
-- lines
held_more : (c : StreamParams) (bytes : List ℕ) (blocks : List History) (old : GoingState) (deleted : ℕ) (ending : ℕ → Ending)
    → (before : ReachesGoing c bytes blocks old)
    → report_of_tally (with_deleted old.tally deleted) (ending old.line)
    ≡ report_of c before.lines deleted (ending (capped (length before.lines + 1)))
held_more c bytes blocks old deleted ending before =
    let r : Report = report_of c before.lines deleted (ending old.line) in
    let count : (with_deleted (counts_of c before.lines) deleted).deleted ≡ r.deleted = omega arith in
    ap (λ (t : Tally). report_of_tally (with_deleted t deleted) (ending old.line)) (tally_is c before.lines old.tally before.tally)
    ∙ ap (λ (n : ℕ). record r { deleted = n }) count
    ∙ ap (λ n. report_of c before.lines deleted (ending n)) before.line

-- what a stream has dropped at the line that stops it
held_drops : (c : StreamParams) (bytes piece : List ℕ) (blocks back all : List History) (old : GoingState) (ids : List ℕ)
    (is_dropped : ℕ → Bool) (report : Report) → all ≡ blocks ++ back
    → (before : ReachesGoing c bytes blocks old) → StopsAtLine report.ending (capped (length before.lines + 1))
    → AreDeletedFirst ids (old.pending ++ piece)
    → report.deleted ≡ (report_of c before.lines (length ids) endings.Ended).deleted → DropsMore c old.context.is_dropped ids is_dropped
    → DropsUntilStop c (bytes ++ piece) all report is_dropped
held_drops c bytes piece blocks back all old ids is_dropped report split before number first count drops = record {
  lines = before.lines;
  rest = old.pending ++ piece;
  front = blocks;
  back = back;
  split = split;
  good = before.good;
  text = text_grows (flat_map line_text before.lines) bytes old.pending piece before.cut.bytes;
  fits = before.cut.each;
  number = number;
  ids = ids;
  are_first = first;
  count = count;
  drops = λ id. drops id ∙ ap (λ (b : Bool). b || is_shared (ownership_of c id) && is_among ids id) (before.context.is_dropped id);
}

whole_text : (line : StreamLine) (bytes : List ℕ) → LineText line bytes → bytes ≡ line_text line ++ []
whole_text line bytes text = text.1 ∙ sym (append-nil (line_text line))

-- the state after a bad line, which deleted these identities before its fault
pub bad_line_taken : (c : StreamParams) (bytes piece : List ℕ) (blocks : List History) (block : History)
    (old : GoingState) (line : StreamLine) (ids later : List ℕ) (fault : Fault) (is_dropped : ℕ
    → Bool)
    → ReachesState c bytes blocks (Going old) → LineText line (old.pending ++ piece)
    → deleted_by line ≡ ids ++ later
    → JudgesLine c old.context line block (Bad (length ids) fault)
    → DropsMore c old.context.is_dropped ids is_dropped
    → ReachesState c (bytes ++ piece) (blocks ++ block ∷ [])
    (Over (report_of_tally (record old.tally { deleted = capped (old.tally.deleted + length ids) })
    (endings.Bad old.line fault)) is_dropped)
bad_line_taken c bytes piece blocks block old line ids later fault is_dropped before text deletes judged drops =
    let deleted = length ids in
    let report = report_of_tally (with_deleted old.tally deleted) (endings.Bad old.line fault) in
    let says = held_more c bytes blocks old deleted (λ n. endings.Bad n fault) before in
    let whole = whole_text line (old.pending ++ piece) text in
    let judges : (end : StreamEnd) → JudgesBlocks c (bytes ++ piece) end (blocks ++ block ∷ []) report =
    λ end. ends_after c bytes piece blocks (block ∷ []) old end report before
    (at_bad_line line [] whole text.0 block refl deleted fault
    (by_lines c old before.lines (λ st. JudgesLine c st line block (Bad deleted fault)) before.context judged) says) in (
      (judges stream_ends.Ended, judges stream_ends.Failed),
      held_drops c bytes piece blocks (block ∷ []) (blocks ++ block ∷ []) old ids is_dropped report refl before before.line
          (inr (line, text.0, later, [], whole, deletes)) (ap (λ (r : Report). r.deleted) says) drops,
    )

-- the state after a deletion that had deleted these identities when memory ran out
pub memory_wanted : (c : StreamParams) (bytes piece : List ℕ) (blocks : List History) (block : History)
    (old : GoingState) (lead : ℕ) (ids earlier : List ℕ) (is_dropped : ℕ → Bool)
    → ReachesState c bytes blocks (Going old) → LineText (Deletion lead ids) (old.pending ++ piece)
    → StopsDeletion c old.context.is_dropped ids block earlier
    → DropsMore c old.context.is_dropped earlier is_dropped
    → ReachesState c (bytes ++ piece) (blocks ++ block ∷ [])
    (Over (report_of_tally
    (record old.tally { deleted = capped (old.tally.deleted + length earlier) })
    (endings.Memory old.line)) is_dropped)
memory_wanted c bytes piece blocks block old lead ids earlier is_dropped before text stops drops =
    let report = report_of_tally (with_deleted old.tally (length earlier)) (endings.Memory old.line) in
    let says = held_more c bytes blocks old (length earlier) (λ n. endings.Memory n) before in
    let whole = whole_text (Deletion lead ids) (old.pending ++ piece) text in
    let judges : (end : StreamEnd) → JudgesBlocks c (bytes ++ piece) end (blocks ++ block ∷ []) report =
    λ end. ends_after c bytes piece blocks (block ∷ []) old end report before
    (at_memory lead ids [] whole text.0 block refl earlier
    (by_lines c old before.lines (λ st. StopsDeletion c st.is_dropped ids block earlier) before.context stops) says) in (
      (judges stream_ends.Ended, judges stream_ends.Failed),
      held_drops c bytes piece blocks (block ∷ []) (blocks ++ block ∷ []) old earlier is_dropped report refl before before.line
          (inr (Deletion lead ids, text.0, stops.id ∷ stops.later, [], whole, stops.identities)) (ap (λ (r : Report). r.deleted) says)
          drops,
    )

refused_alone : (bytes : List ℕ) (fault : LineFault) → IsRefused bytes fault → HasTextFault bytes fault
refused_alone bytes fault refused = (bytes, [], sym (append-nil bytes), refused)

-- the state after a text that no line begins with
pub bad_text_read : (c : StreamParams) (bytes piece : List ℕ) (blocks : List History) (old : GoingState)
    (fault : LineFault)
    → ReachesState c bytes blocks (Going old) → IsRefused (old.pending ++ piece) fault
    → ReachesState c (bytes ++ piece) blocks
    (Over (report_of_tally old.tally
    (endings.Bad old.line (faults.Text fault))) old.context.is_dropped)
bad_text_read c bytes piece blocks old fault before refused =
    let report = report_of_tally old.tally (endings.Bad old.line (faults.Text fault)) in
    let says = held_report c bytes blocks old (λ n. endings.Bad n (faults.Text fault)) before in
    let judges : (end : StreamEnd) → JudgesBlocks c (bytes ++ piece) end blocks report =
    λ end. subst (λ b. JudgesBlocks c (bytes ++ piece) end b report) (append-nil blocks)
    (ends_after c bytes piece blocks [] old end report before
    (at_bad_text fault (refused_alone (old.pending ++ piece) fault refused) refl says)) in (
      (judges stream_ends.Ended, judges stream_ends.Failed),
      held_drops c bytes piece blocks [] blocks old [] old.context.is_dropped report (sym (append-nil blocks)) before before.line
          (inl refl) (ap (λ (r : Report). r.deleted) says)
          (drops_none c old.context.is_dropped),
    )

pub end_judged : EndJudged
end_judged c bytes blocks old end before =
    let lines = before.lines in
    let report = report_of_tally old.tally (ending_at end old.pending old.line) in
    rw (append-nil blocks, append-nil bytes)
    at (ends_after c bytes [] blocks [] old end report before
    (at_end (rw (append-nil old.pending) before.pending) refl
    (held_report c bytes blocks old (λ n. ending_at end old.pending n) before ∙ ap
    (λ rest. report_of c lines 0 (ending_at end rest (capped (length lines + 1)))) (sym (append-nil old.pending)))))

-- More bytes

fault_stays : (rest more : List ℕ) (fault : LineFault) → HasTextFault rest fault → HasTextFault (rest ++ more) fault
fault_stays rest more fault text = (text.0, text.1 ++ more, ap (λ r. r ++ more) text.2 ∙ append_assoc text.0 text.1 more, text.3)

judges_longer : (c : StreamParams) (bytes more : List ℕ) (end other : StreamEnd) (blocks : List History) (report : Report)
    → (j : JudgesBlocks c bytes end blocks report)
    → EndsAfter c j.lines (j.rest ++ more) other j.back report → JudgesBlocks c (bytes ++ more) other blocks report
judges_longer c bytes more end other blocks report j ends = record {
  lines = j.lines;
  rest = j.rest ++ more;
  front = j.front;
  back = j.back;
  split = j.split;
  text = text_grows (flat_map line_text j.lines) bytes j.rest more j.text;
  fits = j.fits;
  good = j.good;
  ends = ends;
}

-- a report of a bad line, a bad text or memory that ran out is right for either end and for any
-- further bytes; any other report depends on the end
before_end : (c : StreamParams) (bytes more : List ℕ) (end other : StreamEnd) (blocks : List History) (report : Report)
    → (j : JudgesBlocks c bytes end blocks report)
    → (report ≡ report_of c j.lines 0 (ending_at end j.rest (capped (length j.lines + 1)))
    → JudgesBlocks c (bytes ++ more) other blocks report) → JudgesBlocks c (bytes ++ more) other blocks report
before_end c bytes more end other blocks report j last =
    elim j.ends [
      | at_bad_line line after text fits block one_block deleted fault bad says ↦ judges_longer c bytes more end other blocks report j
          (at_bad_line line (after ++ more)
          (ap (λ r. r ++ more) text ∙ append_assoc (line_text line) after more) fits block one_block deleted fault bad says)
      | at_bad_text fault text no_block says ↦
          judges_longer c bytes more end other blocks report j (at_bad_text fault (fault_stays j.rest more fault text) no_block says)
      | at_memory lead ids after text fits block one_block earlier stops says ↦ judges_longer c bytes more end other blocks report j
          (at_memory lead ids (after ++ more)
          (ap (λ r. r ++ more) text ∙ append_assoc (line_text (Deletion lead ids)) after more) fits block one_block earlier stops says)
      | at_end pending no_block says ↦ last says
    ]

pub decided_before_failure : DecidedBeforeFailure
decided_before_failure c bytes more end blocks report untold j = before_end c bytes more stream_ends.Failed end blocks report j
    (λ says. absurd (untold (capped (length j.lines + 1), ap (λ (r : Report). r.ending) says)))

-- the report of a stream that ended isn't the report of a failed read
says_failed : (c : StreamParams) (lines others : List StreamLine) (rest left : List ℕ) (report : Report)
    → report ≡ report_of c lines 0 (ending_at stream_ends.Ended rest (capped (length lines + 1)))
    → report ≡ report_of c others 0 (ending_at stream_ends.Failed left (capped (length others + 1))) → ⊥
says_failed c lines others [] left report a b =
    let e : endings.Ended ≡ endings.ReadFailed (capped (length others + 1)) = ap (λ (r : Report). r.ending) (sym a ∙ b) in cc
says_failed c lines others (byte ∷ rest) left report a b =
    let e : endings.Bad (capped (length lines + 1)) _ ≡ endings.ReadFailed (capped (length others + 1)) =
    ap (λ (r : Report). r.ending) (sym a ∙ b) in cc

-- A report that fits both ends is decided before the end, so it fits any further bytes.
finished_longer : (c : StreamParams) (bytes more : List ℕ) (blocks : List History) (report : Report) (end : StreamEnd)
    → JudgesBlocks c bytes stream_ends.Ended blocks report → JudgesBlocks c bytes stream_ends.Failed blocks report
    → JudgesBlocks c (bytes ++ more) end blocks report
finished_longer c bytes more blocks report end a b =
    before_end c bytes more stream_ends.Ended end blocks report a
    (λ says. before_end c bytes more stream_ends.Failed end blocks report b
    (λ known. absurd (says_failed c a.lines b.lines a.rest b.rest report says known)))

pub finished_stays : FinishedStays
finished_stays c bytes more blocks report finished = (
  finished_longer c bytes more blocks report stream_ends.Ended finished.0 finished.1,
  finished_longer c bytes more blocks report stream_ends.Failed finished.0 finished.1,
)
