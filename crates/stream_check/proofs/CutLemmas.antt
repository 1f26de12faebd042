-- The lines by which a stream is judged, and what they fetch.
use Rattle.std.proofs.Common.{◌≡◌, ℕ, Bool, IsTrue, List, [], ◌∷◌, ◌++◌, refl, sym, ap, subst, ◌∙◌, append-nil}
use Rattle.std.specs.List.{AllByRecursion, flat_map}
use Rattle.lrup_model.specs.Event.{History}
use Rattle.lrup_model.specs.lemmas.ListLemmas.{All-append}
use Rattle.lrup_text.specs.Lines.{StreamLine, Deletion, IsWithinLimits, line_text, HasNoLine}
use Rattle.lrup_text.specs.declared.device.StreamEnd.{StreamEnd}
use Rattle.stream_check.specs.declared.report.Report.{Report}
use Rattle.stream_check.specs.StreamParams.{StreamParams}
use Rattle.stream_check.specs.StreamContext.{context_of}
use Rattle.stream_check.specs.Verdicts.{Good, Bad}
use Rattle.stream_check.specs.Judging.{AreGood, joined, EndsAfter, at_bad_line, at_bad_text, at_memory, at_end}
use Rattle.stream_check.specs.Laws.{cited_by, FetchesOnly, CitedFetched}
use Rattle.stream_check.specs.lemmas.ReportLemmas.{split_first, joined-append}
use Rattle.stream_check.proofs.EventLemmas.{line_fetches}
use Rattle.stream_check.proofs.StreamLemmas.{TextLaws, same_first}

-- lines at the start of some bytes are the first of the lines into which the bytes are cut
lines_begin : TextLaws → (lines all : List StreamLine) (left rest : List ℕ) → AllByRecursion IsWithinLimits lines
    → AllByRecursion IsWithinLimits all → HasNoLine rest
    → flat_map line_text lines ++ left ≡ flat_map line_text all ++ rest
    → (more : List StreamLine) × (all ≡ lines ++ more) × (left ≡ flat_map line_text more ++ rest)
lines_begin laws [] all left rest fit fits none e = (all, refl, e)
lines_begin laws (l ∷ lines) [] left rest fit fits none e =
    absurd (none l (flat_map line_text lines ++ left) fit.0 (sym e ∙ split_first l lines left))
lines_begin laws (l ∷ lines) (o ∷ all) left rest fit fits none e =
    let same = same_first laws l o (flat_map line_text lines ++ left) (flat_map line_text all ++ rest) fit.0 fits.0
    (sym (split_first l lines left) ∙ e ∙ split_first o all rest) in
    let later = lines_begin laws lines all left rest fit.1 fits.1 none same.1 in
    (later.0, ap (λ x. x ∷ all) (sym same.0) ∙ ap (λ x. l ∷ x) later.1, later.2)

-- a whole line at the start of the bytes is the first of their lines
line_begins : TextLaws → (line : StreamLine) (all : List StreamLine) (more left rest : List ℕ) → IsWithinLimits line
    → AllByRecursion IsWithinLimits all → HasNoLine rest
    → left ≡ line_text line ++ more → left ≡ flat_map line_text all ++ rest → (others : List StreamLine) × (all ≡ line ∷ others)
line_begins laws line [] more left rest fit fits none e is = absurd (none line more fit (sym is ∙ e))
line_begins laws line (o ∷ all) more left rest fit fits none e is =
    let same = same_first laws line o more (flat_map line_text all ++ rest) fit fits.0 (sym e ∙ is ∙ split_first o all rest) in
    (all, ap (λ x. x ∷ all) (sym same.0))

CitedPass : (ℕ → Bool) → StreamLine → Type 0
CitedPass p line = AllByRecursion (λ h. IsTrue (p h)) (cited_by line)

lines_append : (P : StreamLine → Type 0) (a b : List StreamLine) → AllByRecursion P (a ++ b) → AllByRecursion P a × AllByRecursion P b
lines_append P [] b all = (tt, all)
lines_append P (l ∷ a) b all = let rest = lines_append P a b all.1 in ((all.0, rest.0), rest.1)

good_fetch : (c : StreamParams) (p : ℕ → Bool) (before lines : List StreamLine) (blocks : List History) → AllByRecursion (CitedPass p) lines
    → AreGood c before lines blocks → AllByRecursion (FetchesOnly p) (joined blocks)
unfolding CitedPass
good_fetch c p before [] [] all good = tt
good_fetch c p before [] (block ∷ blocks) all good = absurd good
good_fetch c p before (line ∷ lines) [] all good = absurd good
good_fetch c p before (line ∷ lines) (block ∷ blocks) all good =
    All-append (FetchesOnly p) block (joined blocks) (line_fetches c p (context_of c before) line block Good all.0 good.0)
    (good_fetch c p (before ++ line ∷ []) lines blocks all.1 good.1)

one_fetches : (p : ℕ → Bool) (block : History) (back : List History) → back ≡ block ∷ [] → AllByRecursion (FetchesOnly p) block
    → AllByRecursion (FetchesOnly p) (joined back)
one_fetches p block back e all = rw (e, append-nil block) all

none_fetch : (p : ℕ → Bool) (back : List History) → back ≡ [] → AllByRecursion (FetchesOnly p) (joined back)
none_fetch p back e = subst (λ b. AllByRecursion (FetchesOnly p) (joined b)) (sym e) tt

-- a line passes if it is the first of lines that pass
first_passes : (p : ℕ → Bool) (line : StreamLine) (lines others : List StreamLine) → lines ≡ line ∷ others
    → AllByRecursion (CitedPass p) lines → CitedPass p line
first_passes p line lines others e all = (subst (AllByRecursion (CitedPass p)) e all).0

ends_fetch : TextLaws → (c : StreamParams) (p : ℕ → Bool) (lines more : List StreamLine) (left rest : List ℕ) (end : StreamEnd)
    (back : List History) (report : Report)
    → left ≡ flat_map line_text more ++ rest → AllByRecursion IsWithinLimits more → HasNoLine rest → AllByRecursion (CitedPass p) more
    → EndsAfter c lines left end back report → AllByRecursion (FetchesOnly p) (joined back)
unfolding CitedPass
ends_fetch laws c p lines more left rest end back report is fits none all
    (at_bad_line line after text fit block one_block deleted fault bad says) =
    let first = line_begins laws line more after left rest fit fits none text is in
    one_fetches p block back one_block
    (line_fetches c p (context_of c lines) line block (Bad deleted fault) (first_passes p line more first.0 first.1 all) bad)
ends_fetch laws c p lines more left rest end back report is fits none all (at_bad_text fault text no_block says) =
    none_fetch p back no_block
ends_fetch laws c p lines more left rest end back report is fits none all
    (at_memory lead ids after text fit block one_block earlier stops says) =
    one_fetches p block back one_block (line_fetches c p (context_of c lines) (Deletion lead earlier) block Good tt stops.before)
ends_fetch laws c p lines more left rest end back report is fits none all (at_end pending no_block says) = none_fetch p back no_block

pub cited_fetched : TextLaws → CitedFetched
unfolding CitedPass
cited_fetched laws c bytes end blocks report all rest p j cut passes =
    let begins = lines_begin laws j.lines all j.rest rest j.fits cut.each cut.last (sym j.text ∙ cut.bytes) in
    let more = begins.0 in
    let parts = lines_append (CitedPass p) j.lines more (subst (AllByRecursion (CitedPass p)) begins.1 passes) in
    let fit = lines_append IsWithinLimits j.lines more (subst (AllByRecursion IsWithinLimits) begins.1 cut.each) in
    let whole = All-append (FetchesOnly p) (joined j.front) (joined j.back) (good_fetch c p [] j.lines j.front parts.0 j.good)
    (ends_fetch laws c p j.lines more j.rest rest end j.back report begins.2 fit.1 cut.last parts.1 j.ends) in
    subst (AllByRecursion (FetchesOnly p)) (sym (ap joined j.split ∙ joined-append j.front j.back)) whole
