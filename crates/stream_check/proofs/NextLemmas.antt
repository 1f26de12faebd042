-- A stream that is judged twice, with blocks that begin alike.
use Rattle.std.proofs.Common.{◌≡◌, ◌⊎◌, ℕ, List, [], ◌∷◌, ◌++◌, length, inl, inr, refl, sym, subst, ◌∙◌, append-nil}
use Rattle.std.specs.List.{AllByRecursion, flat_map}
use Rattle.lrup_model.specs.Event.{History}
use Rattle.lrup_text.specs.Lines.{StreamLine, IsWithinLimits, line_text, HasNoLine}
use Rattle.lrup_text.specs.declared.device.StreamEnd.{StreamEnd}
use Rattle.stream_check.specs.declared.report.Report.{Report}
use Rattle.stream_check.specs.StreamParams.{StreamParams}
use Rattle.stream_check.specs.StreamContext.{StreamContext, context_of}
use Rattle.stream_check.specs.Verdicts.{LineVerdict, Good, Bad}
use Rattle.stream_check.specs.Judging.{JudgesLine, AreGood, joined, at_bad_line, at_bad_text, at_memory, at_end}
use Rattle.stream_check.specs.Forks.{NeverFork}
use Rattle.stream_check.specs.Laws.{GoAlike, BlocksGoAlike}
use Rattle.stream_check.specs.lemmas.ReportLemmas.{split_first}
use Rattle.stream_check.proofs.ForkLemmas.{never_fork_alone}
use Rattle.stream_check.proofs.AgreeLemmas.{line_agrees}
use Rattle.stream_check.proofs.StreamLemmas.{TextLaws, EndsWithout, same_first, faulty_has_no_line, out_of_memory, ends_not_good}
use Rattle.stream_check.proofs.StreamLemmas.{after_one}

-- the text begins with a line, whose events are the first block
record HasNext (c : StreamParams) (st : StreamContext) (text : List ℕ) (blocks : List History) : Type 0 where
  line : StreamLine
  more : List ℕ
  fits : IsWithinLimits line
  is : text ≡ line_text line ++ more
  block : History
  later : List History
  first : blocks ≡ block ∷ later
  verdict : LineVerdict
  judged : JudgesLine c st line block verdict

-- the text begins with a line, whose events are the first block; or it contains no whole line, and
-- there is no block
abbrev Next : StreamParams → StreamContext → List ℕ → List History → Type 0
Next c st text blocks = HasNext c st text blocks ⊎ ((blocks ≡ []) × HasNoLine text)

next_at_end : TextLaws
    → (c : StreamParams) (lines : List StreamLine) (rest : List ℕ) (end : StreamEnd) (back : List History) (report : Report)
    → EndsWithout c lines rest end back report → Next c (context_of c lines) rest back
next_at_end laws c lines rest end back report (at_memory _ _ _ _ _ _ _ earlier _ says, no_memory) =
    absurd (no_memory (out_of_memory c lines (length earlier) report says))
next_at_end laws c lines rest end back report (at_bad_line line more text fits block one_block deleted fault bad says, no_memory) =
    inl (record {
      line = line;
      more = more;
      fits = fits;
      is = text;
      block = block;
      later = [];
      first = one_block;
      verdict = Bad deleted fault;
      judged = bad;
    })
next_at_end laws c lines rest end back report (at_bad_text fault text no_block says, no_memory) =
    inr (no_block, faulty_has_no_line laws rest fault text)
next_at_end laws c lines rest end back report (at_end pending no_block says, no_memory) = inr (no_block, pending.whole)

-- after good lines comes a line with the next block, or there is no whole line and no block
next_of : TextLaws
    → (c : StreamParams) (before lines all : List StreamLine) (rest : List ℕ) (end : StreamEnd) (front back : List History)
    (report : Report)
    → all ≡ before ++ lines → AllByRecursion IsWithinLimits lines → AreGood c before lines front → EndsWithout c all rest end back report
    → Next c (context_of c before) (flat_map line_text lines ++ rest) (front ++ back)
next_of laws c before [] all rest end [] back report is fits good ends =
    next_at_end laws c before rest end back report (subst (λ ls. EndsWithout c ls rest end back report) (is ∙ append-nil before) ends)
next_of laws c before [] all rest end (b ∷ front) back report is fits good ends = absurd good
next_of laws c before (l ∷ lines) all rest end [] back report is fits good ends = absurd good
next_of laws c before (l ∷ lines) all rest end (b ∷ front) back report is fits good ends =
    inl (record {
      line = l;
      more = flat_map line_text lines ++ rest;
      fits = fits.0;
      is = split_first l lines rest;
      block = b;
      later = front ++ back;
      first = refl;
      verdict = Good;
      judged = good.0;
    })

-- two lists of blocks for the same text continue alike
next_alike : TextLaws → (c : StreamParams) (st : StreamContext) (text : List ℕ) (xs ys : List History) → Next c st text xs
    → Next c st text ys → GoAlike xs ys
next_alike laws c st text xs ys (inl a) (inl b) =
    let same = same_first laws a.line b.line a.more b.more a.fits b.fits (sym a.is ∙ b.is) in
    let judged = rw same.0 at a.judged in
    rw (a.first, b.first) (λ q r never. (line_agrees c st b.line a.block b.block q r a.verdict b.verdict judged b.judged never).events)
next_alike laws c st text xs ys (inl a) (inr b) = absurd (b.1 a.line a.more a.fits a.is)
next_alike laws c st text xs ys (inr a) (inl b) = absurd (a.1 b.line b.more b.fits b.is)
next_alike laws c st text xs ys (inr a) (inr b) = rw (a.0, b.0) tt

-- if no line is good from here on, there is at most one block
none_after : TextLaws
    → (c : StreamParams) (lines : List StreamLine) (rest : List ℕ) (end : StreamEnd) (p : History) (back pre xs : List History)
    (report : Report)
    → EndsWithout c lines rest end back report → p ∷ (pre ++ xs) ≡ back → xs ≡ []
none_after laws c lines rest end p back pre xs report (at_memory _ _ _ _ _ _ _ earlier _ says, no_memory) is =
    absurd (no_memory (out_of_memory c lines (length earlier) report says))
none_after laws c lines rest end p back [] xs report
    (at_bad_line line more text fits block one_block deleted fault bad says, no_memory) is =
    let e : p ∷ xs ≡ block ∷ [] = is ∙ one_block in cc
none_after laws c lines rest end p back (b ∷ pre) xs report
    (at_bad_line line more text fits block one_block deleted fault bad says, no_memory) is =
    let e : p ∷ (b ∷ (pre ++ xs)) ≡ block ∷ [] = is ∙ one_block in absurd (cc)
none_after laws c lines rest end p back pre xs report (at_bad_text fault text no_block says, no_memory) is =
    let e : p ∷ (pre ++ xs) ≡ [] = is ∙ no_block in absurd (cc)
none_after laws c lines rest end p back pre xs report (at_end pending no_block says, no_memory) is =
    let e : p ∷ (pre ++ xs) ≡ [] = is ∙ no_block in absurd (cc)

-- a line that is good with a block doesn't end the stream with the same block
not_both : TextLaws → (c : StreamParams) (before all : List StreamLine) (rest : List ℕ) (end : StreamEnd) (p : History)
    (back pre xs : List History) (report : Report) (o : StreamLine) (more : List ℕ)
    → all ≡ before ++ [] → EndsWithout c all rest end back report → p ∷ (pre ++ xs) ≡ back → IsWithinLimits o → rest ≡ line_text o ++ more
    → JudgesLine c (context_of c before) o p Good → ⊥
not_both laws c before all rest end p back pre xs report o more is ends split fits text good =
    let here = subst (λ ls. EndsWithout c ls rest end back report) (is ∙ append-nil before) ends in
    ends_not_good laws c before rest more end back report o p (joined (pre ++ xs)) here fits text good
    (subst (λ (bs : List History). NeverFork (joined bs) (p ++ joined (pre ++ xs))) split (never_fork_alone (p ++ joined (pre ++ xs))))

go_alike : TextLaws → (c : StreamParams) (end : StreamEnd) (before lines others all both : List StreamLine) (rest left : List ℕ)
    (front back fore aft pre xs ys : List History) (report other : Report)
    → all ≡ before ++ lines → both ≡ before ++ others
    → flat_map line_text lines ++ rest ≡ flat_map line_text others ++ left
    → AllByRecursion IsWithinLimits lines → AllByRecursion IsWithinLimits others
    → AreGood c before lines front → AreGood c before others fore
    → EndsWithout c all rest end back report → EndsWithout c both left end aft other
    → pre ++ xs ≡ front ++ back → pre ++ ys ≡ fore ++ aft → GoAlike xs ys
go_alike laws c end before lines others all both rest left front back fore aft [] xs ys report other is also text fit fits good fine ends
    stops split also_split =
    next_alike laws c (context_of c before) (flat_map line_text others ++ left) xs ys
    (rw split (rw text at (next_of laws c before lines all rest end front back report is fit good ends)))
    (rw also_split (next_of laws c before others both left end fore aft other also fits fine stops))
go_alike laws c end before [] [] all both rest left [] back [] aft
    (p ∷ pre) xs ys report other is also text fit fits good fine ends stops split also_split =
    subst (λ (bs : List History). GoAlike bs ys) (sym (none_after laws c all rest end p back pre xs report ends split))
    (subst (λ (bs : List History). GoAlike [] bs) (sym (none_after laws c both left end p aft pre ys other stops also_split)) tt)
go_alike laws c end before [] others all both rest left (b ∷ front) back fore aft
    (p ∷ pre) xs ys report other is also text fit fits good fine ends stops split also_split = absurd good
go_alike laws c end before lines [] all both rest left front back (b ∷ fore) aft
    (p ∷ pre) xs ys report other is also text fit fits good fine ends stops split also_split = absurd fine
go_alike laws c end before (l ∷ lines) others all both rest left [] back fore aft
    (p ∷ pre) xs ys report other is also text fit fits good fine ends stops split also_split = absurd good
go_alike laws c end before lines (o ∷ others) all both rest left front back [] aft
    (p ∷ pre) xs ys report other is also text fit fits good fine ends stops split also_split = absurd fine
go_alike laws c end before [] (o ∷ others) all both rest left [] back (d ∷ fore) aft
    (p ∷ pre) xs ys report other is also text fit fits good fine ends stops split also_split =
    let same : d ≡ p = cc in
    absurd (not_both laws c before all rest end p back pre xs report o (flat_map line_text others ++ left) is ends split fits.0
    (text ∙ split_first o others left)
    (subst (λ (x : History). JudgesLine c (context_of c before) o x Good) same fine.0))
go_alike laws c end before (l ∷ lines) [] all both rest left (b ∷ front) back [] aft
    (p ∷ pre) xs ys report other is also text fit fits good fine ends stops split also_split =
    let same : b ≡ p = cc in
    absurd (not_both laws c before both left end p aft pre ys other l (flat_map line_text lines ++ rest) also stops also_split fit.0
    (sym text ∙ split_first l lines rest)
    (subst (λ (x : History). JudgesLine c (context_of c before) l x Good) same good.0))
go_alike laws c end before (l ∷ lines) (o ∷ others) all both rest left (b ∷ front) back (d ∷ fore) aft
    (p ∷ pre) xs ys report other is also text fit fits good fine ends stops split also_split =
    let same = same_first laws l o (flat_map line_text lines ++ rest) (flat_map line_text others ++ left) fit.0 fits.0
    (sym (split_first l lines rest) ∙ text ∙ split_first o others left) in
    let tail : pre ++ xs ≡ front ++ back = cc in
    let also_tail : pre ++ ys ≡ fore ++ aft = cc in
    go_alike laws c end (before ++ o ∷ []) lines others all both rest left front back fore aft pre xs ys report other
    (after_one before o lines all (rw same.0 at is)) (after_one before o others both also)
    same.1 fit.1 fits.1 (rw same.0 at good.1) fine.1 ends stops tail also_tail

pub blocks_go_alike : TextLaws → BlocksGoAlike
blocks_go_alike laws c bytes end before xs ys report other a b no_memory none =
    go_alike laws c end [] a.lines b.lines a.lines b.lines a.rest b.rest a.front a.back b.front b.back before xs ys report other
    refl refl (sym a.text ∙ b.text) a.fits b.fits a.good b.good (a.ends, no_memory) (b.ends, none) a.split b.split
