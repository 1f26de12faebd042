-- The blocks by which a stream is judged, and what the stream retires.
use Rattle.std.proofs.Common.{◌≡◌, ℕ, Bool, List, [], ◌∷◌, ◌++◌, refl, sym, ap, subst, ◌∙◌, append-nil}
use Rattle.std.specs.Prelude.{IsTrue}
use Rattle.std.specs.List.{AllByRecursion, flat_map}
use Rattle.lrup_model.specs.Event.{History}
use Rattle.lrup_model.specs.lemmas.ListLemmas.{All-append}
use Rattle.lrup_text.specs.Lines.{StreamLine, Deletion, IsWithinLimits, line_text, HasNoLine}
use Rattle.lrup_text.specs.Laws.{OneFirstLine}
use Rattle.lrup_text.specs.declared.device.StreamEnd.{StreamEnd}
use Rattle.stream_check.specs.declared.report.Report.{Report}
use Rattle.stream_check.specs.StreamParams.{StreamParams}
use Rattle.stream_check.specs.StreamContext.{StreamContext, context_of, deleted_by}
use Rattle.stream_check.specs.Verdicts.{LineVerdict, Good, Bad}
use Rattle.stream_check.specs.Judging.{JudgesLine, AreGood, EndsAfter, at_bad_line, at_bad_text, at_memory, at_end, joined}
use Rattle.stream_check.specs.Laws.{EarlyEvents, VacantTriesAgain}
use Rattle.stream_check.specs.lemmas.ReportLemmas.{split_first, joined-append}
use Rattle.run_laws.specs.Lines.{IsLineBlock}
use Rattle.run_laws.specs.OrderLaws.{JudgedBlocks, RetiresOnly, DeletedRetired}
use Rattle.run_laws.proofs.KindLemmas.{line_last, line_retires}

-- The blocks of a stream

module _ (early_events : EarlyEvents) (vacant_tries_again : VacantTriesAgain) (c : StreamParams) where
  line_block : (st : StreamContext) (line : StreamLine) (es : History) (v : LineVerdict) → JudgesLine c st line es v → IsLineBlock es
  line_block st line es v judged = record {
    early = early_events c st line es v judged;
    again = vacant_tries_again c st line es v judged;
    apart = line_last c st line es v judged;
  }

  good_blocks : (before lines : List StreamLine) (blocks : List History)
      → AreGood c before lines blocks → AllByRecursion IsLineBlock blocks
  good_blocks before [] [] good = tt
  good_blocks before [] (block ∷ blocks) good = absurd good
  good_blocks before (line ∷ lines) [] good = absurd good
  good_blocks before (line ∷ lines) (block ∷ blocks) good =
      (line_block (context_of c before) line block Good good.0, good_blocks (before ++ line ∷ []) lines blocks good.1)

  one_block : (block : History) (blocks : List History) → blocks ≡ block ∷ [] → IsLineBlock block → AllByRecursion IsLineBlock blocks
  one_block block blocks is line = subst (AllByRecursion IsLineBlock) (sym is) (line, tt)

  end_blocks : (lines : List StreamLine) (rest : List ℕ) (end : StreamEnd) (back : List History) (report : Report)
      → EndsAfter c lines rest end back report → AllByRecursion IsLineBlock back
  end_blocks lines rest end back report (at_bad_line line more text fits block is_one deleted fault bad says) =
      one_block block back is_one (line_block (context_of c lines) line block (Bad deleted fault) bad)
  end_blocks lines rest end back report (at_bad_text fault text no_block says) = subst (AllByRecursion IsLineBlock) (sym no_block) tt
  end_blocks lines rest end back report (at_memory lead ids more text fits block is_one earlier stops says) =
      one_block block back is_one (line_block (context_of c lines) (Deletion lead earlier) block Good stops.before)
  end_blocks lines rest end back report (at_end pending no_block says) = subst (AllByRecursion IsLineBlock) (sym no_block) tt

pub judged_blocks : EarlyEvents → VacantTriesAgain → JudgedBlocks
judged_blocks early_events vacant_tries_again c bytes end blocks report j =
    rw j.split
    (All-append IsLineBlock j.front j.back (good_blocks early_events vacant_tries_again c [] j.lines j.front j.good)
    (end_blocks early_events vacant_tries_again c j.lines j.rest end j.back report j.ends))

-- The judged lines are the first lines that the bytes are cut into

-- `lines` are the first of the lines `all`, and the bytes `left` are the texts of the others,
-- followed by `rest`
pub record AreFirst (lines all : List StreamLine) (left rest : List ℕ) : Type 0 where
  pub more : List StreamLine
  pub is : all ≡ lines ++ more
  pub bytes : left ≡ flat_map line_text more ++ rest

pub lines_first : OneFirstLine → (lines all : List StreamLine) (left rest : List ℕ)
    → AllByRecursion IsWithinLimits lines → AllByRecursion IsWithinLimits all → HasNoLine rest
    → flat_map line_text lines ++ left ≡ flat_map line_text all ++ rest → AreFirst lines all left rest
lines_first first [] all left rest fit fits none is = record { more = all; is = refl; bytes = is }
lines_first first (line ∷ lines) [] left rest fit fits none is =
    absurd (none line (flat_map line_text lines ++ left) fit.0 (sym is ∙ split_first line lines left))
lines_first first (line ∷ lines) (other ∷ all) left rest fit fits none is =
    let same : (line ≡ other) × (flat_map line_text lines ++ left ≡ flat_map line_text all ++ rest)
    = first line other (flat_map line_text lines ++ left) (flat_map line_text all ++ rest) fit.0 fits.0
    (sym (split_first line lines left) ∙ is ∙ split_first other all rest) in
    let later : AreFirst lines all left rest = lines_first first lines all left rest fit.1 fits.1 none same.1 in
    record {
      more = later.more;
      is = ap (λ (x : StreamLine). x ∷ all) (sym same.0) ∙ ap (λ (xs : List StreamLine). line ∷ xs) later.is;
      bytes = later.bytes;
    }

line_first : OneFirstLine → (line : StreamLine) (all : List StreamLine) (after left rest : List ℕ)
    → IsWithinLimits line → AllByRecursion IsWithinLimits all → HasNoLine rest
    → left ≡ line_text line ++ after → left ≡ flat_map line_text all ++ rest
    → (others : List StreamLine) × (all ≡ line ∷ others)
line_first first line [] after left rest fit fits none begins is = absurd (none line after fit (sym is ∙ begins))
line_first first line (other ∷ all) after left rest fit fits none begins is =
    let same : (line ≡ other) × (after ≡ flat_map line_text all ++ rest)
    = first line other after (flat_map line_text all ++ rest) fit fits.0 (sym begins ∙ is ∙ split_first other all rest) in
    (all, ap (λ (x : StreamLine). x ∷ all) (sym same.0))

-- What a stream retires

pub parts : {X : Type 0} (P : X → Type 0) (a b : List X) → AllByRecursion P (a ++ b) → AllByRecursion P a × AllByRecursion P b
parts P [] b all = (tt, all)
parts P (x ∷ a) b all = let rest : AllByRecursion P a × AllByRecursion P b = parts P a b all.1 in ((all.0, rest.0), rest.1)

module _ (c : StreamParams) (p : ℕ → Bool) where
  abbrev Passes : StreamLine → Type 0
  Passes line = AllByRecursion (λ id. IsTrue (p id)) (deleted_by line)

  abbrev Retires : History → Type 0
  Retires es = AllByRecursion (RetiresOnly p) es

  good_retire : (before lines : List StreamLine) (blocks : List History)
      → AllByRecursion Passes lines → AreGood c before lines blocks → Retires (joined blocks)
  good_retire before [] [] all good = tt
  good_retire before [] (block ∷ blocks) all good = absurd good
  good_retire before (line ∷ lines) [] all good = absurd good
  good_retire before (line ∷ lines) (block ∷ blocks) all good =
      All-append (RetiresOnly p) block (joined blocks) (line_retires c p (context_of c before) line block Good all.0 good.0)
      (good_retire (before ++ line ∷ []) lines blocks all.1 good.1)

  one_retires : (block : History) (back : List History) → back ≡ block ∷ [] → Retires block → Retires (joined back)
  one_retires block back is all = subst (λ (bs : List History). Retires (joined bs)) (sym is) (subst Retires (sym (append-nil block)) all)

  none_retires : (back : List History) → back ≡ [] → Retires (joined back)
  none_retires back is = subst (λ (bs : List History). Retires (joined bs)) (sym is) tt

  ends_retire : OneFirstLine → (lines more : List StreamLine) (left rest : List ℕ) (end : StreamEnd) (back : List History) (report : Report)
      → left ≡ flat_map line_text more ++ rest → AllByRecursion IsWithinLimits more → HasNoLine rest
      → AllByRecursion Passes more → EndsAfter c lines left end back report → Retires (joined back)
  ends_retire first lines more left rest end back report is fits none all
      (at_bad_line line after text fit block is_one deleted fault bad says) =
      let found : (others : List StreamLine) × (more ≡ line ∷ others)
      = line_first first line more after left rest fit fits none text is in
      one_retires block back is_one
      (line_retires c p (context_of c lines) line block (Bad deleted fault) (subst (AllByRecursion Passes) found.1 all).0 bad)
  ends_retire first lines more left rest end back report is fits none all (at_bad_text fault text no_block says) =
      none_retires back no_block
  ends_retire first lines more left rest end back report is fits none all
      (at_memory lead ids after text fit block is_one earlier stops says) =
      let found : (others : List StreamLine) × (more ≡ Deletion lead ids ∷ others)
      = line_first first (Deletion lead ids) more after left rest fit fits none text is in
      let pass : AllByRecursion (λ id. IsTrue (p id)) (earlier ++ stops.id ∷ stops.later)
      = subst (AllByRecursion (λ id. IsTrue (p id))) stops.identities (subst (AllByRecursion Passes) found.1 all).0 in
      one_retires block back is_one
      (line_retires c p (context_of c lines) (Deletion lead earlier) block Good
      (parts (λ id. IsTrue (p id)) earlier (stops.id ∷ stops.later) pass).0 stops.before)
  ends_retire first lines more left rest end back report is fits none all (at_end pending no_block says) = none_retires back no_block

pub deleted_retired : OneFirstLine → DeletedRetired
deleted_retired first c bytes end blocks report all rest p j cut passes =
    let begins : AreFirst j.lines all j.rest rest
    = lines_first first j.lines all j.rest rest j.fits cut.each cut.last (sym j.text ∙ cut.bytes) in
    let pass : AllByRecursion (Passes c p) j.lines × AllByRecursion (Passes c p) begins.more
    = parts (Passes c p) j.lines begins.more (rw begins.is at passes) in
    let fit : AllByRecursion IsWithinLimits j.lines × AllByRecursion IsWithinLimits begins.more
    = parts IsWithinLimits j.lines begins.more (rw begins.is at cut.each) in
    rw (ap joined j.split ∙ joined-append j.front j.back)
    (All-append (RetiresOnly p) (joined j.front) (joined j.back) (good_retire c p [] j.lines j.front pass.0 j.good)
    (ends_retire c p first j.lines begins.more j.rest rest end j.back report begins.bytes fit.1 cut.last pass.1 j.ends))
