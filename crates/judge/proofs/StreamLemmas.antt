-- The judge's reports of streams are those of the relation.
use Rattle.std.proofs.Common.{◌≡◌, ◌+◌, ◌++◌, ℕ, Bool, true, false, List, [], ◌∷◌, length, length-append, refl, sym, ap, subst, ◌∙◌}
use Rattle.std.proofs.Common.{inl, inr, append_assoc, append-nil, arith}
use Rattle.std.specs.Prelude.{◌&&◌, Option, Some, None}
use Rattle.std.specs.List.{AllByRecursion, flat_map}
use Rattle.lrup_model.specs.Event.{History}
use Rattle.lrup_text.specs.declared.LineFault.{LineFault}
use Rattle.lrup_text.specs.declared.LineFault.TheVariants as texts
use Rattle.lrup_text.specs.declared.device.StreamEnd.{StreamEnd}
use Rattle.lrup_text.specs.Faults.{HasTextFault}
use Rattle.lrup_text.specs.Grammar.{Begins}
use Rattle.lrup_text.specs.Lines.{StreamLine, Deletion, IsWithinLimits, line_text, HasNoLine, Cut}
use Rattle.lrup_text.specs.Laws.{BeginningCut, EmptyPending, RefusedStays, OneFault}
use Rattle.stream_check.specs.declared.fault.Fault.TheVariants as faults
use Rattle.stream_check.specs.declared.report.Ending.{Ending}
use Rattle.stream_check.specs.declared.report.Ending.TheVariants as endings
use Rattle.stream_check.specs.declared.report.Report.{Report}
use Rattle.stream_check.specs.StreamParams.{StreamParams, ownership_of, is_shared}
use Rattle.stream_check.specs.StreamContext.{StreamContext, context_of, capped}
use Rattle.stream_check.specs.Verdicts.{Good, Bad}
use Rattle.stream_check.specs.CheckerValue.{Tally}
use Rattle.stream_check.specs.Excuses.{OutOfMemory as memory_excuse, IsExcused}
use Rattle.stream_check.specs.Judging.{JudgesLine, AreGood, joined, report_of, ending_at, EndsAfter, at_bad_line, at_bad_text}
use Rattle.stream_check.specs.Judging.{at_memory, at_end, Judges}
use Rattle.stream_check.specs.lemmas.ReportLemmas.{split_first, joined-append}
use Rattle.stream_check.specs.lemmas.ContextLemmas.{context_of-snoc, counts_of, counts_of-snoc, same_context, same_tally}
use Rattle.judge.specs.Judge.{Given, LineOutcome, Judged, OutOfMemory, judged_line, LineState, first_state, next_state, report_at}
use Rattle.judge.specs.Judge.{ending_by, Refusal, in_line, past_line, reported, judged_from, judged}
use Rattle.judge.specs.Laws.{RestHas, HoldsForRest, StreamJudged, StreamJudgedWithMemory, AnyStreamJudged}
use Rattle.judge.proofs.TestLemmas.{some_is, none_is, gives}
use Rattle.judge.proofs.OutcomeLemmas.{line_by, line_from, stop_by, stop_from}

-- what is known about the texts of lines
pub record TextLaws : Type 0 where
  pub begins : BeginningCut
  pub empty : EmptyPending
  pub refused : RefusedStays
  pub fault : OneFault

-- What is left between two lines

abbrev state_of : StreamParams → List StreamLine → LineState
state_of c lines = record { context = context_of c lines; tally = counts_of c lines; number = length lines + 1 }

same_state : (a b : LineState) → a.context ≡ b.context → a.tally ≡ b.tally → a.number ≡ b.number → a ≡ b
same_state a b context tally number =
    let made : StreamContext → Tally → ℕ → LineState = λ x y z. record { context = x; tally = y; number = z } in
    ap (λ x. made x a.tally a.number) context ∙ ap (λ y. made b.context y a.number) tally ∙ ap (λ z. made b.context b.tally z) number

and_false : (b : Bool) → (b && false) ≡ false
and_false true = refl
and_false false = refl

first_is : (c : StreamParams) → first_state c ≡ state_of c []
first_is c =
    same_state (first_state c) (state_of c [])
    (same_context (first_state c).context (context_of c [])
    (record { last = refl; free = omega arith; is_dropped = λ id. sym (and_false (is_shared (ownership_of c id))) }))
    (same_tally (first_state c).tally (counts_of c []) refl (omega arith) refl refl)
    refl

next_is : (c : StreamParams) (before : List StreamLine) (line : StreamLine) (block : History)
    → JudgesLine c (context_of c before) line block Good → next_state c (state_of c before) line ≡ state_of c (before ++ line ∷ [])
next_is c before line block good =
    same_state (next_state c (state_of c before) line) (state_of c (before ++ line ∷ []))
    (same_context _ _ (context_of-snoc c before line block good))
    (counts_of-snoc c before line)
    (omega (arith, length-append before (line ∷ [])))

report_is : (c : StreamParams) (lines : List StreamLine) (deleted : ℕ) (ending : Ending)
    → report_at (counts_of c lines) deleted ending ≡ report_of c lines deleted ending
report_is c lines deleted ending =
    let its : Report = report_of c lines deleted ending in
    let count : (report_at (counts_of c lines) deleted ending).deleted ≡ its.deleted = omega arith in
    let made : ℕ → Report = λ n. record { added = its.added; deleted = n; empty = its.empty; within = its.within; ending = ending } in
    ap made count

-- Texts

-- lines at the start of some bytes are the first of the lines into which the bytes are cut, and the
-- others are those of the bytes after them
lines_first : TextLaws → (lines all : List StreamLine) (bytes left rest : List ℕ) → AllByRecursion IsWithinLimits lines
    → bytes ≡ flat_map line_text lines ++ left → Cut bytes all rest
    → (more : List StreamLine) × (all ≡ lines ++ more) × Cut left more rest
lines_first laws lines all bytes left rest fit is cut =
    let texts = flat_map line_text lines in
    let own : Cut texts lines [] = record { bytes = sym (append-nil texts); each = fit; last = laws.empty.whole } in
    laws.begins texts left lines all [] rest own (subst (λ b. Cut b all rest) is cut)

-- Where memory is refused

-- the refusal after these lines, if it is in the line after them
skip : List StreamLine → Option ℕ → Refusal
skip lines None = None
skip lines (Some before) = Some (length lines, before)

in_skip : (line : StreamLine) (lines : List StreamLine) (r : Option ℕ) → in_line (skip (line ∷ lines) r) ≡ None
unfolding skip
in_skip line lines None = refl
in_skip line lines (Some before) = refl

past_skip : (line : StreamLine) (lines : List StreamLine) (r : Option ℕ) → past_line (skip (line ∷ lines) r) ≡ skip lines r
unfolding skip
past_skip line lines None = refl
past_skip line lines (Some before) = refl

module _ (c : StreamParams) (end : StreamEnd) (rest : List ℕ) (fault : Option LineFault) where
  -- From the relation to the judge

  good_step : (f : Refusal) (before lines : List StreamLine) (line : StreamLine) (block left : History) → in_line f ≡ None
      → JudgesLine c (context_of c before) line block Good
      → judged_from c end rest fault f (state_of c before) (line ∷ lines) (block ++ left)
      ≡ judged_from c end rest fault (past_line f) (state_of c (before ++ line ∷ [])) lines left
  good_step f before lines line block left unrefused good =
      let state = state_of c before in
      let later : History
      → Option Report = λ l. judged_from c end rest fault (past_line f) (next_state c state line) lines l in
      ap (λ r. reported (judged_line c (context_of c before) r line (block ++ left)) state later) unrefused
      ∙ ap (λ g. reported g state later) (line_by c (context_of c before) line block left Good good)
      ∙ ap (λ s. judged_from c end rest fault (past_line f) s lines left) (next_is c before line block good)

  good_by : (r : Option ℕ) (before lines more : List StreamLine) (front : List History) (left : History)
      → AreGood c before lines front
      → judged_from c end rest fault (skip lines r) (state_of c before) (lines ++ more) (joined front ++ left)
      ≡ judged_from c end rest fault (skip [] r) (state_of c (before ++ lines)) more left
  good_by r before [] more [] left good =
      ap (λ b. judged_from c end rest fault (skip [] r) (state_of c b) more left) (sym (append-nil before))
  good_by r before [] more (block ∷ front) left good = absurd good
  good_by r before (line ∷ lines) more [] left good = absurd good
  good_by r before (line ∷ lines) more (block ∷ front) left good =
      ap (λ h. judged_from c end rest fault (skip (line ∷ lines) r) (state_of c before) (line ∷ (lines ++ more)) h)
      (append_assoc block (joined front) left)
      ∙ good_step (skip (line ∷ lines) r) before (lines ++ more) line block (joined front ++ left) (in_skip line lines r) good.0
      ∙ ap (λ f. judged_from c end rest fault f (state_of c (before ++ line ∷ [])) (lines ++ more) (joined front ++ left))
      (past_skip line lines r)
      ∙ good_by r (before ++ line ∷ []) lines more front left good.1
      ∙ ap (λ b. judged_from c end rest fault (skip [] r) (state_of c b) more left) (append_assoc before (line ∷ []) lines)

  -- the first of the lines that are left, if a line's text begins what is left
  first_line : TextLaws → (line : StreamLine) (more : List StreamLine) (after left : List ℕ) → IsWithinLimits line
      → Cut left more rest → left ≡ line_text line ++ after → (others : List StreamLine) × (more ≡ line ∷ others)
  first_line laws line more after left fit cut text =
      let first = lines_first laws (line ∷ []) more left after rest (fit, tt)
      (text ∙ ap (λ b. b ++ after) (sym (append-nil (line_text line)))) cut in
      (first.0, first.1)

  -- no line is left if what is left begins with none
  no_line : (more : List StreamLine) (left : List ℕ) → HasNoLine left → Cut left more rest → more ≡ []
  no_line [] left none cut = refl
  no_line (o ∷ others) left none cut =
      absurd (none o (flat_map line_text others ++ rest) cut.each.0 (cut.bytes ∙ split_first o others rest))

  -- a line that ends the stream
  stopped_by : (r : Option ℕ) (lines others : List StreamLine) (line : StreamLine) (more : List StreamLine) (block : History)
      (back : List History) (outcome : LineOutcome) (out : Option Report)
      → more ≡ line ∷ others → back ≡ block ∷ []
      → judged_line c (context_of c lines) (in_line (skip [] r)) line (block ++ []) ≡ gives outcome []
      → reported (gives outcome []) (state_of c lines)
      (λ l. judged_from c end rest fault (past_line (skip [] r)) (next_state c (state_of c lines) line) others l)
      ≡ out
      → judged_from c end rest fault (skip [] r) (state_of c lines) more (joined back) ≡ out
  stopped_by r lines others line more block back outcome out first one_block judged_ is =
      ap (λ m. judged_from c end rest fault (skip [] r) (state_of c lines) m (joined back)) first
      ∙ ap (λ b. judged_from c end rest fault (skip [] r) (state_of c lines) (line ∷ others) (joined b)) one_block
      ∙ ap (λ g. reported g (state_of c lines)
      (λ l. judged_from c end rest fault (past_line (skip [] r)) (next_state c (state_of c lines) line) others l)) judged_
      ∙ is

  -- no line ends the stream
  ended_by : (lines more : List StreamLine) (back : List History) (out : Ending) (report : Report) → more ≡ [] → back ≡ []
      → ending_by end rest fault (capped (length lines + 1)) ≡ out → report ≡ report_of c lines 0 out
      → judged_from c end rest fault None (state_of c lines) more (joined back) ≡ Some report
  ended_by lines more back out report none no_block ending says =
      ap (λ m. judged_from c end rest fault None (state_of c lines) m (joined back)) none
      ∙ ap (λ b. judged_from c end rest fault None (state_of c lines) [] (joined b)) no_block
      ∙ ap Some (report_is c lines 0 (ending_by end rest fault (capped (length lines + 1)))
      ∙ ap (λ e. report_of c lines 0 e) ending ∙ sym says)

-- What ends the stream after these lines is the judge's, with memory refused there if it says so.
abbrev EndsAs : StreamParams → StreamEnd → List ℕ → List StreamLine → List StreamLine → List History → Report → Type 0
EndsAs c end rest lines more back report = (r : Option ℕ)
    × HoldsForRest rest (λ fault. judged_from c end rest fault (skip [] r) (state_of c lines) more (joined back) ≡ Some report)
    × ((¬ IsExcused memory_excuse report) → r ≡ None)

ends_by : TextLaws → (c : StreamParams) (end : StreamEnd) (rest : List ℕ) (lines more : List StreamLine) (left : List ℕ)
    (back : List History)
    (report : Report) → Cut left more rest → EndsAfter c lines left end back report → EndsAs c end rest lines more back report
unfolding skip
ends_by laws c end rest lines more left back report cut (at_bad_line line after text fit block one_block deleted its bad says) = (
  None,
  inr (λ fault.
      let first = first_line c end rest fault laws line more after left fit cut text in
      stopped_by c end rest fault None lines first.0 line more block back (Judged (Bad deleted its)) (Some report) first.1 one_block
      (line_by c (context_of c lines) line block [] (Bad deleted its) bad)
      (ap Some (report_is c lines deleted (endings.Bad (capped (length lines + 1)) its) ∙ sym says))),
  (λ unexcused. refl),
)
ends_by laws c end rest lines more left back report cut (at_bad_text its text no_block says) =
    let none : HasNoLine left = subst HasNoLine (sym text.2) (laws.refused text.0 text.1 its text.3) in
    let empty = no_line c end rest None more left none cut in
    let same : left ≡ rest = cut.bytes ∙ ap (λ m. flat_map line_text m ++ rest) empty in (
      None,
      inl (
        Some its,
        subst (λ b. HasTextFault b its) same text,
        ended_by c end rest (Some its) lines more back (endings.Bad (capped (length lines + 1)) (faults.Text its)) report empty no_block
            refl says,
      ),
      (λ unexcused. refl),
    )
ends_by laws c end rest lines more left back report cut (at_memory lead ids after text fit block one_block earlier stops says) = (
  Some (length earlier),
  inr (λ fault.
      let first = first_line c end rest fault laws (Deletion lead ids) more after left fit cut text in
      stopped_by c end rest fault (Some (length earlier)) lines first.0 (Deletion lead ids) more block back (OutOfMemory (length earlier))
      (Some report) first.1 one_block (stop_by c (context_of c lines) lead ids earlier block [] stops)
      (ap Some (report_is c lines (length earlier) (endings.Memory (capped (length lines + 1))) ∙ sym says))),
  (λ unexcused. absurd (unexcused (capped (length lines + 1), ap (λ (r : Report). r.ending) says))),
)
ends_by laws c end rest lines more left back report cut (at_end pending no_block says) =
    let empty = no_line c end rest None more left pending.whole cut in
    let same : left ≡ rest = cut.bytes ∙ ap (λ m. flat_map line_text m ++ rest) empty in (
      None,
      inl (
        None,
        subst Begins same pending.begins,
        ended_by c end rest None lines more back (ending_at end left (capped (length lines + 1))) report empty no_block
            (ap (λ b. ending_at end b (capped (length lines + 1))) (sym same)) says,
      ),
      (λ unexcused. refl),
    )

rest_maps : (rest : List ℕ) (P Q : Option LineFault → Type 0) → ((fault : Option LineFault) → P fault → Q fault) → HoldsForRest rest P
    → HoldsForRest rest Q
rest_maps rest P Q gives_ (inl (fault, has, holds)) = inl (fault, has, gives_ fault holds)
rest_maps rest P Q gives_ (inr any) = inr (λ fault. gives_ fault (any fault))

-- the report is the judge's, with no refusal unless it says that memory ran out
stream_by : TextLaws → (c : StreamParams) (bytes : List ℕ) (lines : List StreamLine) (rest : List ℕ) (end : StreamEnd) (history : History)
    (report : Report) → Cut bytes lines rest → Judges c bytes end history report
    → (refusal : Refusal) × HoldsForRest rest (λ fault. judged c lines rest fault end refusal history ≡ Some report)
    × ((¬ IsExcused memory_excuse report) → refusal ≡ None)
unfolding skip
stream_by laws c bytes lines rest end history report cut judges =
    let j = judges.judges in
    let begins = lines_first laws j.lines lines bytes j.rest rest j.fits j.text cut in
    let more = begins.0 in
    let ends = ends_by laws c end rest j.lines more j.rest j.back report begins.2 j.ends in
    let events : history ≡ joined j.front ++ joined j.back =
    judges.events ∙ ap joined j.split ∙ joined-append j.front j.back in
    let refusal = skip j.lines ends.0 in (
      refusal,
      rest_maps rest _ _ (λ fault ends_so.
          ap (λ s. judged_from c end rest fault refusal s lines history) (first_is c)
          ∙ ap (λ l. judged_from c end rest fault refusal (state_of c []) l history) begins.1
          ∙ ap (λ h. judged_from c end rest fault refusal (state_of c []) (j.lines ++ more) h) events
          ∙ good_by c end rest fault ends.0 [] j.lines more j.front (joined j.back) j.good ∙ ends_so) ends.1,
      (λ unexcused. ap (skip j.lines) (ends.2 unexcused)),
    )

-- a text that begins no line has one fault, and a text that begins one has none
one_reading : TextLaws → (rest : List ℕ) (fault other : Option LineFault) → RestHas rest fault → RestHas rest other → other ≡ fault
one_reading laws rest None None begins has = refl
one_reading laws rest None (Some other) begins has = absurd ((laws.fault rest other other has).1 begins)
one_reading laws rest (Some fault) None text has = absurd ((laws.fault rest fault fault text).1 has)
one_reading laws rest (Some fault) (Some other) text has = ap Some ((laws.fault rest other fault has).0 text)

read_so : TextLaws → (rest : List ℕ) (fault : Option LineFault) (P : Option LineFault → Type 0) → RestHas rest fault → HoldsForRest rest P
    → P fault
read_so laws rest fault P text (inl (other, has, holds)) = subst P (one_reading laws rest fault other text has) holds
read_so laws rest fault P text (inr any) = any fault

-- From the judge to the relation

-- The judge's value is the report for each fault of which `Has` holds, and it holds of one.
module _ (c : StreamParams) (end : StreamEnd) (rest : List ℕ) (Has : Option LineFault → Type 0) (own : Option LineFault) (own_has : Has own)
  where
    -- good lines from one on, and what ends the stream after them
    record Found (before lines : List StreamLine) (history : History) (report : Report) : Type 0 where
      good : List StreamLine
      left : List ℕ
      front : List History
      back : List History
      are_good : AreGood c before good front
      fits : AllByRecursion IsWithinLimits good
      text : flat_map line_text lines ++ rest ≡ flat_map line_text good ++ left
      ends : EndsAfter c (before ++ good) left end back report
      events : history ≡ joined (front ++ back)

    found_here : (before lines : List StreamLine) (history : History) (report : Report) (back : List History)
        → EndsAfter c before (flat_map line_text lines ++ rest) end back report → history ≡ joined back → Found before lines history report
    found_here before lines history report back ends events = record {
      good = [];
      left = flat_map line_text lines ++ rest;
      front = [];
      back = back;
      are_good = tt;
      fits = tt;
      text = refl;
      ends = subst (λ b. EndsAfter c b (flat_map line_text lines ++ rest) end back report) (sym (append-nil before)) ends;
      events = events;
    }

    found_next : (before lines : List StreamLine) (line : StreamLine) (history : History) (report : Report) (block left : History)
        → history ≡ block ++ left → IsWithinLimits line → JudgesLine c (context_of c before) line block Good
        → Found (before ++ line ∷ []) lines left report
        → Found before (line ∷ lines) history report
    found_next before lines line history report block left is fit good found = record {
      good = line ∷ found.good;
      left = found.left;
      front = block ∷ found.front;
      back = found.back;
      are_good = (good, found.are_good);
      fits = (fit, found.fits);
      text = split_first line lines rest ∙ ap (λ b. line_text line ++ b) found.text ∙ sym (split_first line found.good found.left);
      ends = subst (λ b. EndsAfter c b found.left end found.back report) (append_assoc before (line ∷ []) found.good) found.ends;
      events = is ∙ ap (λ h. block ++ h) found.events;
    }

    abbrev AllGive : Refusal → LineState → List StreamLine → History → Report → Type 0
    AllGive refusal state lines history report =
        (fault : Option LineFault) → Has fault → judged_from c end rest fault refusal state lines history ≡ Some report

    found_at_line : (before lines : List StreamLine) (line : StreamLine) (refusal : Refusal) (history : History) (report : Report)
        (g : Given LineOutcome)
        → IsWithinLimits line → judged_line c (context_of c before) (in_line refusal) line history ≡ g
        → ((fault : Option LineFault) → Has fault → reported g (state_of c before)
        (λ l. judged_from c end rest fault (past_line refusal) (next_state c (state_of c before) line) lines l)
        ≡ Some report)
        → ((left : History) → AllGive (past_line refusal) (state_of c (before ++ line ∷ [])) lines left report
        → Found (before ++ line ∷ []) lines left report)
        → Found before (line ∷ lines) history report
    found_at_line before lines line refusal history report None fit judged_ is later = none_is report (is own own_has)
    found_at_line before lines line refusal history report (Some (Judged Good, left)) fit judged_ is later =
        let from = line_from c (context_of c before) line (in_line refusal) history left Good judged_ in
        found_next before lines line history report from.0 left from.1 fit from.2
        (later left (λ fault has. ap (λ s. judged_from c end rest fault (past_line refusal) s lines left)
        (sym (next_is c before line from.0 from.2)) ∙ is fault has))
    found_at_line before lines line refusal history report (Some (Judged (Bad deleted its), [])) fit judged_ is later =
        let from = line_from c (context_of c before) line (in_line refusal) history [] (Bad deleted its) judged_ in
        let ending = endings.Bad (capped (length before + 1)) its in
        found_here before (line ∷ lines) history report (from.0 ∷ [])
        (at_bad_line line (flat_map line_text lines ++ rest) (split_first line lines rest) fit from.0 refl deleted its from.2
        (sym (some_is (report_at (counts_of c before) deleted ending) report (is own own_has)) ∙ report_is c before deleted ending)) from.1
    found_at_line before lines line refusal history report (Some (Judged (Bad deleted its), event ∷ left)) fit judged_ is later =
        none_is report (is own own_has)
    found_at_line before lines line refusal history report (Some (OutOfMemory deleted, [])) fit judged_ is later =
        let from = stop_from c (context_of c before) line (in_line refusal) history [] deleted judged_ in
        let stops = from.2 in
        let ending = endings.Memory (capped (length before + 1)) in
        found_here before (line ∷ lines) history report (from.0 ∷ [])
        (at_memory stops.0 stops.1 (flat_map line_text lines ++ rest)
        (split_first line lines rest ∙ ap (λ l. line_text l ++ (flat_map line_text lines ++ rest)) stops.3)
        (subst IsWithinLimits stops.3 fit) from.0 refl stops.2 stops.4
        (sym (some_is (report_at (counts_of c before) deleted ending) report (is own own_has)) ∙ report_is c before deleted ending
        ∙ ap (λ d. report_of c before d ending) stops.5)) from.1
    found_at_line before lines line refusal history report (Some (OutOfMemory deleted, event ∷ left)) fit judged_ is later =
        none_is report (is own own_has)

    -- what ends a stream of good lines, if the report is right for each of the faults
    abbrev EndsAtRest : Type 0
    EndsAtRest = (before : List StreamLine) (report : Report)
        → ((fault : Option LineFault) → Has fault → report ≡ report_of c before 0 (ending_by end rest fault (capped (length before + 1))))
        → EndsAfter c before rest end [] report

    found_from : EndsAtRest → (lines before : List StreamLine) (refusal : Refusal) (history : History) (report : Report)
        → AllByRecursion IsWithinLimits lines → AllGive refusal (state_of c before) lines history report
        → Found before lines history report
    found_from at_rest [] before refusal [] report fits is =
        found_here before [] [] report []
        (at_rest before report (λ fault has.
        let ending = ending_by end rest fault (capped (length before + 1)) in
        sym (some_is (report_at (counts_of c before) 0 ending) report (is fault has)) ∙ report_is c before 0 ending)) refl
    found_from at_rest [] before refusal (event ∷ history) report fits is = none_is report (is own own_has)
    found_from at_rest (line ∷ lines) before refusal history report fits is =
        found_at_line before lines line refusal history report (judged_line c (context_of c before) (in_line refusal) line history) fits.0
        refl is (λ left later. found_from at_rest lines (before ++ line ∷ []) (past_line refusal) left report fits.1 later)

    stream_from : EndsAtRest → (bytes : List ℕ) (lines : List StreamLine) (refusal : Refusal) (history : History) (report : Report)
        → Cut bytes lines rest
        → ((fault : Option LineFault) → Has fault → judged c lines rest fault end refusal history ≡ Some report)
        → Judges c bytes end history report
    stream_from at_rest bytes lines refusal history report cut is =
        let found = found_from at_rest lines [] refusal history report cut.each
        (λ fault has. ap (λ s. judged_from c end rest fault refusal s lines history) (sym (first_is c)) ∙ is fault has) in
        record {
          blocks = found.front ++ found.back;
          events = found.events;
          judges = record {
            lines = found.good;
            rest = found.left;
            front = found.front;
            back = found.back;
            split = refl;
            text = cut.bytes ∙ found.text;
            fits = found.fits;
            good = found.are_good;
            ends = found.ends;
          };
        }

-- a rest with its fault ends a stream
rest_ends : (c : StreamParams) (end : StreamEnd) (rest : List ℕ) (fault : Option LineFault) (before : List StreamLine) (report : Report)
    → HasNoLine rest → RestHas rest fault
    → report ≡ report_of c before 0 (ending_by end rest fault (capped (length before + 1)))
    → EndsAfter c before rest end [] report
rest_ends c end rest None before report none has says = at_end (record { begins = has; whole = none }) refl says
rest_ends c end rest (Some fault) before report none has says = at_bad_text fault has refl says

-- the report of a stream of good lines isn't the same for each fault
faults_differ : (c : StreamParams) (before : List StreamLine) (number : ℕ) (report : Report)
    → report ≡ report_of c before 0 (endings.Bad number (faults.Text texts.Spelling))
    → report ≡ report_of c before 0 (endings.Bad number (faults.Text texts.TooLong)) → ⊥
faults_differ c before number report one other =
    let endings_ : endings.Bad number (faults.Text texts.Spelling) ≡ endings.Bad number (faults.Text texts.TooLong) =
    ap (λ (r : Report). r.ending) (sym one ∙ other) in
    cc

any_from : (c : StreamParams) (bytes : List ℕ) (lines : List StreamLine) (rest : List ℕ) (end : StreamEnd) (refusal : Refusal)
    (history : History)
    (report : Report) → Cut bytes lines rest
    → HoldsForRest rest (λ fault. judged c lines rest fault end refusal history ≡ Some report)
    → Judges c bytes end history report
any_from c bytes lines rest end refusal history report cut (inl (fault, has, is)) =
    stream_from c end rest (λ other. other ≡ fault) fault refl
    (λ before report says. rest_ends c end rest fault before report cut.last has (says fault refl)) bytes lines refusal history report cut
    (λ other same. ap (λ f. judged c lines rest f end refusal history) same ∙ is)
any_from c bytes lines rest end refusal history report cut (inr any) =
    stream_from c end rest (λ other. Unit {0}) None tt
    (λ before report says. absurd (faults_differ c before (capped (length before + 1)) report (says (Some texts.Spelling) tt)
    (says (Some texts.TooLong) tt))) bytes lines refusal history report cut (λ other all. any other)

pub any_stream_judged : TextLaws → AnyStreamJudged
any_stream_judged laws c bytes lines rest end history report cut = (
  (λ judges. let by = stream_by laws c bytes lines rest end history report cut judges in (by.0, by.1)),
  (λ by. any_from c bytes lines rest end by.0 history report cut by.1),
)

pub stream_judged : TextLaws → StreamJudged
stream_judged laws c bytes lines rest fault end history report read = (
  (λ judges.
      let by = stream_by laws c bytes lines rest end history report read.cut judges in
      (by.0, read_so laws rest fault (λ f. judged c lines rest f end by.0 history ≡ Some report) read.text by.1)),
  (λ by. any_from c bytes lines rest end by.0 history report read.cut (inl (fault, read.text, by.1))),
)

pub stream_judged_with_memory : TextLaws → StreamJudgedWithMemory
stream_judged_with_memory laws c bytes lines rest fault end history report read unexcused = (
  (λ judges.
      let by = stream_by laws c bytes lines rest end history report read.cut judges in
      ap (λ r. judged c lines rest fault end r history) (sym (by.2 unexcused))
      ∙ read_so laws rest fault (λ f. judged c lines rest f end by.0 history ≡ Some report) read.text by.1),
  (λ by. any_from c bytes lines rest end None history report read.cut (inl (fault, read.text, by))),
)
