-- The report of a stream that a line stopped determines what the stream dropped.
use Rattle.std.proofs.Common.{◌≡◌, ◌||◌, ◌&&◌, ℕ, List, [], ◌∷◌, ◌++◌, length, inl, inr, refl, sym, ap}
use Rattle.std.proofs.Common.{subst, ◌∙◌, arith}
use Rattle.std.specs.List.{AllByRecursion, flat_map, sum_by}
use Rattle.lrup_text.specs.Laws.{OneFirstLine}
use Rattle.lrup_text.specs.Lines.{StreamLine, IsWithinLimits, line_text}
use Rattle.stream_check.specs.declared.report.Ending.{Ending}
use Rattle.stream_check.specs.declared.report.Ending.TheVariants as endings
use Rattle.stream_check.specs.Laws.{DroppedOnce}
use Rattle.stream_check.specs.lemmas.ReportLemmas.{split_first}
use Rattle.stream_check.specs.StreamParams.{ownership_of, is_shared}
use Rattle.stream_check.specs.StreamContext.{context_of, is_among, deleted_by}
use Rattle.stream_check.specs.Stopping.{StopsAtLine}
use Rattle.stream_check.specs.lemmas.StoppingLemmas.{AreDeletedFirst}

-- two equally long lists of lines at the start of the same bytes are equal, and so are the bytes
-- after them
same_lines : OneFirstLine → (lines others : List StreamLine) (rest left : List ℕ) → AllByRecursion IsWithinLimits lines
    → AllByRecursion IsWithinLimits others → length lines ≡ length others
    → flat_map line_text lines ++ rest ≡ flat_map line_text others ++ left → (lines ≡ others) × (rest ≡ left)
same_lines law [] [] rest left fit fits count e = (refl, e)
same_lines law [] (o ∷ others) rest left fit fits count e = absurd (omega (arith, count))
same_lines law (l ∷ lines) [] rest left fit fits count e = absurd (omega (arith, count))
same_lines law (l ∷ lines) (o ∷ others) rest left fit fits count e =
    let same = law l o (flat_map line_text lines ++ rest) (flat_map line_text others ++ left) fit.0 fits.0
    (sym (split_first l lines rest) ∙ e ∙ split_first o others left) in
    let later = same_lines law lines others rest left fit.1 fits.1 (omega (arith, count)) same.1 in
    (ap (λ x. x ∷ lines) same.0 ∙ ap (λ x. o ∷ x) later.0, later.1)

-- two equally long lists of identities at the start of the same list are equal
same_ids : (ids others later more : List ℕ) → length ids ≡ length others → ids ++ later ≡ others ++ more → ids ≡ others
same_ids [] [] later more count e = refl
same_ids [] (o ∷ others) later more count e = absurd (omega (arith, count))
same_ids (i ∷ ids) [] later more count e = absurd (omega (arith, count))
same_ids (i ∷ ids) (o ∷ others) later more count e =
    let front : i ≡ o = cc in
    let back : ids ++ later ≡ others ++ more = cc in
    ap (λ x. x ∷ ids) front ∙ ap (λ x. o ∷ x) (same_ids ids others later more (omega (arith, count)) back)

as_few : (ids others : List ℕ) → ids ≡ [] → length ids ≡ length others → ids ≡ others
as_few ids [] none count = none
as_few ids (o ∷ others) none count = absurd (omega (arith, count, ap (λ (x : List ℕ). length x) none))

first_once : OneFirstLine → (ids others rest : List ℕ) → length ids ≡ length others → AreDeletedFirst ids rest → AreDeletedFirst others rest
    → ids ≡ others
first_once law ids others rest count (inl none) b = as_few ids others none count
first_once law ids others rest count (inr a) (inl none) = sym (as_few others ids none (sym count))
first_once law ids others rest count (inr (line, fits, later, more, text, deletes)) (inr (other, fit, back, after, is, deleted)) =
    let same = law line other more after fits fit (sym text ∙ is) in
    same_ids ids others later back count (sym deletes ∙ ap deleted_by same.0 ∙ deleted)

number_once : (ending : Ending) (m n : ℕ) → StopsAtLine ending m → StopsAtLine ending n → m ≡ n
number_once endings.Ended m n a b = absurd a
number_once (endings.Bad line fault) m n a b = sym a ∙ b
number_once (endings.ReadFailed line) m n a b = absurd a
number_once (endings.Memory line) m n a b = sym a ∙ b

pub dropped_once : OneFirstLine → DroppedOnce
dropped_once law c bytes blocks others report is_dropped other line stops small few a b id =
    let deletes : List StreamLine → ℕ = λ lines. sum_by (λ l. length (deleted_by l)) lines in
    let many : length a.lines ≡ length b.lines =
    omega (arith, number_once report.ending _ _ stops a.number, number_once report.ending _ _ stops b.number, small) in
    let same = same_lines law a.lines b.lines a.rest b.rest a.fits b.fits many (sym a.text ∙ b.text) in
    let total : deletes a.lines ≡ deletes b.lines = ap deletes same.0 in
    let count : length a.ids ≡ length b.ids = omega (arith, total, few, a.count, b.count) in
    let ids : a.ids ≡ b.ids = first_once law a.ids b.ids b.rest count (subst (AreDeletedFirst a.ids) same.1 a.are_first) b.are_first in
    a.drops id
    ∙ ap (λ (lines : List StreamLine). (context_of c lines).is_dropped id || is_shared (ownership_of c id) && is_among a.ids id) same.0
    ∙ ap (λ (x : List ℕ). (context_of c b.lines).is_dropped id || is_shared (ownership_of c id) && is_among x id) ids
    ∙ sym (b.drops id)
