-- Two judgements of one stream, with events that never fork, agree.
use Rattle.std.proofs.Common.{◌≡◌, ◌⊎◌, ◌+◌, ℕ, List, [], ◌∷◌, ◌++◌, length, inl, inr, refl, sym, ap, subst, ◌∙◌, append_assoc, append-nil}
use Rattle.std.specs.List.{AllByRecursion, flat_map}
use Rattle.std.proofs.lemmas.List.{append_cancel_left}
use Rattle.lrup_model.specs.Event.{History}
use Rattle.lrup_text.specs.declared.LineFault.{LineFault}
use Rattle.lrup_text.specs.Grammar.{Begins, IsLine, standard}
use Rattle.lrup_text.specs.Lines.{StreamLine, IsWithinLimits, line_text, HasNoLine}
use Rattle.lrup_text.specs.Faults.{HasTextFault}
use Rattle.lrup_text.specs.Laws.{OneLine, NoTextBegins, TextsAreLines, OneFault}
use Rattle.lrup_text.specs.declared.device.StreamEnd.{StreamEnd}
use Rattle.stream_check.specs.declared.fault.Fault.TheVariants as faults
use Rattle.stream_check.specs.declared.report.Ending.TheVariants as endings
use Rattle.stream_check.specs.declared.report.Report.{Report}
use Rattle.stream_check.specs.StreamParams.{StreamParams}
use Rattle.stream_check.specs.StreamContext.{context_of, capped}
use Rattle.stream_check.specs.Verdicts.{Good, Bad}
use Rattle.stream_check.specs.Judging.{JudgesLine, AreGood, joined, report_of, EndsAfter, at_bad_line, at_bad_text, at_memory, at_end}
use Rattle.stream_check.specs.Forks.{NeverFork}
use Rattle.stream_check.specs.Excuses.{OutOfMemory, IsExcused}
use Rattle.stream_check.specs.Laws.{RepliesDecide, OneReport}
use Rattle.stream_check.specs.lemmas.ReportLemmas.{split_first, joined-append}
use Rattle.stream_check.proofs.ForkLemmas.{never_fork_turned, never_fork_alone, never_fork_after}
use Rattle.stream_check.proofs.AgreeLemmas.{line_agrees}

-- what is known about the texts of lines
pub record TextLaws : Type 0 where
  pub line : OneLine
  pub begins : NoTextBegins
  pub lines : TextsAreLines
  pub fault : OneFault

-- of two prefixes of one list, one is a prefix of the other
one_begins : (a b m n : List ℕ) → a ++ m ≡ b ++ n → ((x : List ℕ) × (b ≡ a ++ x)) ⊎ ((x : List ℕ) × (a ≡ b ++ x))
one_begins [] b m n e = inl (b, refl)
one_begins (x ∷ a) [] m n e = inr (x ∷ a, refl)
one_begins (x ∷ a) (y ∷ b) m n e =
    let head : x ≡ y = cc in
    let tail : a ++ m ≡ b ++ n = cc in
    elim (one_begins a b m n tail) [
      | inl longer ↦ inl (longer.0, ap (λ z. z ∷ b) (sym head) ∙ ap (λ t. x ∷ t) longer.1)
      | inr longer ↦ inr (longer.0, ap (λ z. z ∷ a) head ∙ ap (λ t. y ∷ t) longer.1)
    ]

same_text : TextLaws → (l o : StreamLine) → IsWithinLimits l → IsWithinLimits o → line_text l ≡ line_text o → l ≡ o
same_text laws l o a b e = laws.line l o (line_text l) (a, refl) (b, e)

-- bytes begin with the text of at most one line
pub same_first : TextLaws → (l o : StreamLine) (m n : List ℕ) → IsWithinLimits l → IsWithinLimits o → line_text l ++ m ≡ line_text o ++ n
    → (l ≡ o) × (m ≡ n)
same_first laws l o m n a b e =
    let same : line_text l ≡ line_text o = elim (one_begins (line_text l) (line_text o) m n e) [
      | inl longer ↦ sym (longer.1 ∙ ap (λ x. line_text l ++ x) (laws.begins l o (line_text l) (line_text o) longer.0 (a, refl)
          (b, refl) longer.1) ∙ append-nil (line_text l))
      | inr longer ↦ longer.1 ∙ ap (λ x. line_text o ++ x) (laws.begins o l (line_text o) (line_text l) longer.0 (b, refl)
          (a, refl) longer.1) ∙ append-nil (line_text o)
    ] in
    (same_text laws l o a b same, append_cancel_left (line_text o) m n (subst (λ t. t ++ m ≡ line_text o ++ n) same e))

-- a line that begins with what was read is whole already, or may continue with the next byte
goes_on : (read : List ℕ) (byte : ℕ) (after more text x : List ℕ) → IsLine standard text → text ≡ read ++ x
    → read ++ (byte ∷ after) ≡ text ++ more → (text ≡ read) ⊎ Begins (read ++ byte ∷ [])
goes_on read byte after more text [] whole e split = inl (e ∙ append-nil read)
goes_on read byte after more text (y ∷ x) whole e split =
    let tails : byte ∷ after ≡ (y ∷ x) ++ more = append_cancel_left read (byte ∷ after) ((y ∷ x) ++ more)
    (split ∙ ap (λ t. t ++ more) e ∙ append_assoc read (y ∷ x) more) in
    let head : byte ≡ y = cc in
    inr (x, subst (IsLine standard) (e ∙ ap (λ z. read ++ (z ∷ x)) (sym head) ∙ sym (append_assoc read (byte ∷ []) x)) whole)

-- bytes with a text fault contain no whole line
pub faulty_has_no_line : TextLaws → (rest : List ℕ) (fault : LineFault) → HasTextFault rest fault → HasNoLine rest
faulty_has_no_line laws rest fault text line more fits e =
    let refused = text.3 in
    let read = refused.read in
    let byte = refused.byte in
    let whole : IsLine standard (line_text line) = (laws.lines (line_text line)).1 (line, (fits, refl)) in
    let split : read ++ (byte ∷ text.1) ≡ line_text line ++ more =
    sym (append_assoc read (byte ∷ []) text.1) ∙ ap (λ b. b ++ text.1) (sym refused.is) ∙ sym text.2 ∙ e in
    elim (one_begins read (line_text line) (byte ∷ text.1) more split) [
      | inl longer ↦ elim (goes_on read byte text.1 more (line_text line) longer.0 whole longer.1 split) [
        | inl same ↦ refused.before.whole line [] fits (sym same ∙ sym (append-nil (line_text line)))
        | inr begins ↦ refused.after (subst Begins (sym refused.is) begins)
      ]
      | inr longer ↦ refused.before.whole line longer.0 fits longer.1
    ]

-- After the same good lines

-- what ends a stream that doesn't run out of memory
abbrev pub EndsWithout : StreamParams → List StreamLine → List ℕ → StreamEnd → List History → Report → Type 0
EndsWithout c lines rest end back report = EndsAfter c lines rest end back report × ¬ IsExcused OutOfMemory report

pub out_of_memory : (c : StreamParams) (lines : List StreamLine) (deleted : ℕ) (report : Report)
    → report ≡ report_of c lines deleted (endings.Memory (capped (length lines + 1))) → IsExcused OutOfMemory report
out_of_memory c lines deleted report says = (capped (length lines + 1), ap (λ (r : Report). r.ending) says)

ends_agree : TextLaws
    → (c : StreamParams) (lines : List StreamLine) (rest : List ℕ) (end : StreamEnd) (back aft : List History) (report other : Report)
    → EndsWithout c lines rest end back report → EndsWithout c lines rest end aft other → NeverFork (joined back) (joined aft)
    → (back ≡ aft) × (report ≡ other)
ends_agree laws c lines rest end back aft report other (at_memory _ _ _ _ _ _ _ earlier _ says, no_memory) b never =
    absurd (no_memory (out_of_memory c lines (length earlier) report says))
ends_agree laws c lines rest end back aft report other a (at_memory _ _ _ _ _ _ _ earlier _ says, none) never =
    absurd (none (out_of_memory c lines (length earlier) other says))
ends_agree laws c lines rest end back aft report other (at_bad_line line more text fits block one_block deleted fault bad says, no_memory)
    (at_bad_line like much words fit events all_one is_dropped wrong fails known, none) never =
    let same = same_first laws line like more much fits fit (sym text ∙ words) in
    let here = subst (λ x. NeverFork (joined x) (events ++ [])) one_block (subst (λ x. NeverFork (joined back) (joined x)) all_one never) in
    let judged = subst (λ l. JudgesLine c (context_of c lines) l block (Bad deleted fault)) same.0 bad in
    let agree = line_agrees c (context_of c lines) like block events [] [] (Bad deleted fault) (Bad is_dropped wrong) judged fails here in
    let verdict = agree.verdict in
    let same_deleted : deleted ≡ is_dropped = cc in
    let same_fault : fault ≡ wrong = cc in (
      one_block ∙ ap (λ x. x ∷ []) agree.events ∙ sym all_one,
      says ∙ ap (λ d. report_of c lines d (endings.Bad (capped (length lines + 1)) fault)) same_deleted
          ∙ ap (λ f. report_of c lines is_dropped (endings.Bad (capped (length lines + 1)) f)) same_fault ∙ sym known,
    )
ends_agree laws c lines rest end back aft report other (at_bad_line line more text fits block one_block deleted fault bad says, no_memory)
    (at_bad_text wrong words no_block known, none) never =
    absurd (faulty_has_no_line laws rest wrong words line more fits text)
ends_agree laws c lines rest end back aft report other (at_bad_line line more text fits block one_block deleted fault bad says, no_memory)
    (at_end pending no_block known, none) never =
    absurd (pending.whole line more fits text)
ends_agree laws c lines rest end back aft report other (at_bad_text fault text no_block says, no_memory)
    (at_bad_line like much words fit events all_one is_dropped wrong fails known, none) never =
    absurd (faulty_has_no_line laws rest fault text like much fit words)
ends_agree laws c lines rest end back aft report other (at_end pending no_block says, no_memory)
    (at_bad_line like much words fit events all_one is_dropped wrong fails known, none) never =
    absurd (pending.whole like much fit words)
ends_agree laws c lines rest end back aft report other (at_bad_text fault text no_block says, no_memory)
    (at_bad_text wrong words no_more known, none) never = (
      no_block ∙ sym no_more,
      says ∙ ap (λ f. report_of c lines 0 (endings.Bad (capped (length lines + 1)) (faults.Text f)))
          ((laws.fault rest fault wrong text).0 words) ∙ sym known,
    )
ends_agree laws c lines rest end back aft report other (at_bad_text fault text no_block says, no_memory)
    (at_end pending no_more known, none) never = absurd ((laws.fault rest fault fault text).1 pending.begins)
ends_agree laws c lines rest end back aft report other (at_end pending no_block says, no_memory)
    (at_bad_text wrong words no_more known, none) never = absurd ((laws.fault rest wrong wrong words).1 pending.begins)
ends_agree laws c lines rest end back aft report other (at_end pending no_block says, no_memory)
    (at_end waiting no_more known, none) never =
    (no_block ∙ sym no_more, says ∙ sym known)

-- a good line doesn't end a stream
pub ends_not_good : TextLaws → (c : StreamParams) (lines : List StreamLine) (rest more : List ℕ) (end : StreamEnd) (back : List History)
    (report : Report) (line : StreamLine) (block r : History)
    → EndsWithout c lines rest end back report → IsWithinLimits line → rest ≡ line_text line ++ more
    → JudgesLine c (context_of c lines) line block Good → NeverFork (joined back) (block ++ r) → ⊥
ends_not_good laws c lines rest more end back report line block r (at_memory _ _ _ _ _ _ _ earlier _ says, no_memory) fits text good never =
    no_memory (out_of_memory c lines (length earlier) report says)
ends_not_good laws c lines rest more end back report line block r (at_bad_text fault words no_block says, no_memory) fits text good never =
    faulty_has_no_line laws rest fault words line more fits text
ends_not_good laws c lines rest more end back report line block r (at_end pending no_block says, no_memory) fits text good never =
    pending.whole line more fits text
ends_not_good laws c lines rest more end back report line block r
    (at_bad_line like much words fit events one_block deleted fault bad says, no_memory) fits text good never =
    let same = same_first laws like line much more fit fits (sym words ∙ text) in
    let judged = subst (λ l. JudgesLine c (context_of c lines) l events (Bad deleted fault)) same.0 bad in
    let here = subst (λ x. NeverFork (joined x) (block ++ r)) one_block never in
    let agree = line_agrees c (context_of c lines) line events block [] r (Bad deleted fault) Good judged good here in
    let verdict = agree.verdict in cc

-- one line moves from the later lines to the earlier ones
pub after_one : (before : List StreamLine) (line : StreamLine) (lines all : List StreamLine) → all ≡ before ++ (line ∷ lines)
    → all ≡ (before ++ line ∷ []) ++ lines
after_one before line lines all e = e ∙ sym (append_assoc before (line ∷ []) lines)

-- both judgements agree on the good lines, their blocks, what comes after, and the report
streams_agree : TextLaws → (c : StreamParams) (end : StreamEnd) (before lines others all both : List StreamLine) (rest left : List ℕ)
    (front back fore aft : List History) (report other : Report)
    → all ≡ before ++ lines → both ≡ before ++ others
    → flat_map line_text lines ++ rest ≡ flat_map line_text others ++ left
    → AllByRecursion IsWithinLimits lines → AllByRecursion IsWithinLimits others
    → AreGood c before lines front → AreGood c before others fore
    → EndsWithout c all rest end back report → EndsWithout c both left end aft other
    → NeverFork (joined front ++ joined back) (joined fore ++ joined aft)
    → (front ≡ fore) × (back ≡ aft) × (report ≡ other)
streams_agree laws c end before [] [] all both rest left [] back [] aft report other is also text fit fits good fine ends stops never =
    let same = is ∙ sym also in
    let agree = ends_agree laws c both left end back aft report other (rw (same, text) at ends) stops never in
    (refl, agree.0, agree.1)
streams_agree laws c end before [] others all both rest left
    (b ∷ front) back fore aft report other is also text fit fits good fine ends stops never = absurd good
streams_agree laws c end before lines [] all both rest left front back
    (b ∷ fore) aft report other is also text fit fits good fine ends stops never = absurd fine
streams_agree laws c end before (l ∷ lines) others all both rest left [] back fore aft report other is also text fit fits good fine ends
    stops never = absurd good
streams_agree laws c end before lines
    (o ∷ others) all both rest left front back [] aft report other is also text fit fits good fine ends stops never = absurd fine
streams_agree laws c end before [] (o ∷ others) all both rest left [] back
    (b ∷ fore) aft report other is also text fit fits good fine ends stops never =
    let here = rw (is ∙ append-nil before) at ends in
    absurd (ends_not_good laws c before rest (flat_map line_text others ++ left) end back report o b (joined fore ++ joined aft)
    here fits.0 (text ∙ split_first o others left) fine.0 (rw (append_assoc b (joined fore) (joined aft)) at never))
streams_agree laws c end before (l ∷ lines) [] all both rest left
    (b ∷ front) back [] aft report other is also text fit fits good fine ends stops never =
    let here = rw (also ∙ append-nil before) at stops in
    absurd (ends_not_good laws c before left (flat_map line_text lines ++ rest) end aft other l b (joined front ++ joined back)
    here fit.0 (sym text ∙ split_first l lines rest) good.0
    (rw (append_assoc b (joined front) (joined back)) at (never_fork_turned ((b ++ joined front) ++ joined back) (joined aft) never)))
streams_agree laws c end before (l ∷ lines) (o ∷ others) all both rest left (b ∷ front) back
    (d ∷ fore) aft report other is also text fit fits good fine ends stops never =
    let same = same_first laws l o (flat_map line_text lines ++ rest) (flat_map line_text others ++ left) fit.0 fits.0
    (sym (split_first l lines rest) ∙ text ∙ split_first o others left) in
    let here = rw (append_assoc d (joined fore) (joined aft), append_assoc b (joined front) (joined back)) at never in
    let first = rw same.0 at good.0 in
    let agree =
    line_agrees c (context_of c before) o b d (joined front ++ joined back) (joined fore ++ joined aft) Good Good first fine.0 here in
    let later = never_fork_after d (joined front ++ joined back) (joined fore ++ joined aft) (rw agree.events at here) in
    let step = streams_agree laws c end (before ++ o ∷ []) lines others all both rest left front back fore aft report other
    (after_one before o lines all (rw same.0 at is)) (after_one before o others both also)
    same.1 fit.1 fits.1 (rw same.0 at good.1) fine.1 ends stops later in
    (ap (λ x. x ∷ front) agree.events ∙ ap (λ x. d ∷ x) step.0, step.1, step.2)

pub replies_decide : TextLaws → RepliesDecide
replies_decide laws c bytes end blocks others report other never a b no_memory none =
    let split = rw (ap joined b.split ∙ joined-append b.front b.back, ap joined a.split ∙ joined-append a.front a.back) at never in
    let agree = streams_agree laws c end [] a.lines b.lines a.lines b.lines a.rest b.rest a.front a.back b.front b.back report other
    refl refl (sym a.text ∙ b.text) a.fits b.fits a.good b.good
    (a.ends, no_memory) (b.ends, none) split in
    (a.split ∙ ap (λ x. x ++ a.back) agree.0 ∙ ap (λ x. b.front ++ x) agree.1 ∙ sym b.split, agree.2)

pub one_report : TextLaws → OneReport
one_report laws c bytes end blocks others report other same a b no_memory none =
    replies_decide laws c bytes end blocks others report other (rw (← same) (never_fork_alone (joined blocks))) a b no_memory none
