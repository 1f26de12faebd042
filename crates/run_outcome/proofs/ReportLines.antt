-- The text of a report, in the parts that are written one after the other.
use Rattle.std.proofs.Common.{◌≡◌, ℕ, ◌+◌, ◌<◌, ◌≤◌, List, [], ◌∷◌, ◌++◌, length, take, drop, get_or, sym, ◌∙◌, ap, arith}
use Rattle.std.specs.Prelude.{codes}
use Rattle.std.specs.Fmt.{decimal}
use Rattle.std.proofs.lemmas.List.{append_assoc, append-nil, take_more, take_all, take-append-drop, length-take-le}
use Rattle.stream_check.specs.declared.report.Report.{Report}
use Rattle.run_outcome.specs.declared.outcome.Verdict.{Verdict}
use Rattle.run_outcome.specs.ReportText.{ending_text, line_after, report_text, stream_line, stream_lines, verdict_line}

-- the numbers of a stream's line, each with the text before it
abbrev pub added_part : Report → List ℕ
added_part r = codes ": " ++ decimal r.added

abbrev pub deleted_part : Report → List ℕ
deleted_part r = codes " added, " ++ decimal r.deleted

by_parts : (a b c d e f g h i : List ℕ)
    → (((((((a ++ b) ++ c) ++ d) ++ e) ++ f) ++ g) ++ h) ++ i ≡ (((((a ++ b) ++ (c ++ d)) ++ (e ++ f)) ++ g) ++ h) ++ i
by_parts a b c d e f g h i = simp append_assoc

pub line_after-parts : (words : List ℕ) (s : ℕ) (r : Report)
    → line_after words s r
    ≡ (((((words ++ decimal s) ++ added_part r) ++ deleted_part r) ++ codes " deleted, ") ++ ending_text r.ending) ++ codes "\n"
line_after-parts words s r =
    by_parts words (decimal s) (codes ": ") (decimal r.added) (codes " added, ") (decimal r.deleted)
    (codes " deleted, ") (ending_text r.ending) (codes "\n")

lines_append : (s : ℕ) (xs ys : List Report) → stream_lines s (xs ++ ys) ≡ stream_lines s xs ++ stream_lines (s + length xs) ys
lines_append s [] ys = let same : s ≡ s + 0 = omega arith in ap (λ n. stream_lines n ys) same
lines_append s (x ∷ xs) ys =
    let next : s + 1 + length xs ≡ s + length (x ∷ xs) = omega arith in
    ap (λ t. stream_line s x ++ t) (lines_append (s + 1) xs ys ∙ ap (λ n. stream_lines (s + 1) xs ++ stream_lines n ys) next)
    ∙ sym (append_assoc (stream_line s x) (stream_lines (s + 1) xs) (stream_lines (s + length (x ∷ xs)) ys))

-- the lines of the first k + 1 reports are the lines of the first k, followed by one more line
pub lines_more : (rs : List Report) (k : ℕ) (d : Report) → k < length rs
    → stream_lines 1 (take (k + 1) rs) ≡ stream_lines 1 (take k rs) ++ stream_line (k + 1) (get_or rs k d)
lines_more rs k d inside =
    let r = get_or rs k d in
    let number : 1 + length (take k rs) ≡ k + 1 = omega (arith, length-take-le k rs (omega arith)) in
    ap (stream_lines 1) (take_more rs k d inside) ∙ lines_append 1 (take k rs) (r ∷ [])
    ∙ ap (λ t. stream_lines 1 (take k rs) ++ t) (append-nil (stream_line (1 + length (take k rs)) r) ∙ ap (λ n. stream_line n r) number)

-- a report begins with the lines up to line k + 1, followed by the rest
pub lines_split : (rs : List Report) (verdict : Verdict) (k : ℕ) (d : Report) → k < length rs
    → (rest : List ℕ) × (report_text rs verdict ≡ (stream_lines 1 (take k rs) ++ stream_line (k + 1) (get_or rs k d)) ++ rest)
lines_split rs verdict k d inside =
    let front = stream_lines 1 (take (k + 1) rs) in
    let back = stream_lines (1 + length (take (k + 1) rs)) (drop (k + 1) rs) in (
      back ++ verdict_line verdict,
      ap (λ l. stream_lines 1 l ++ verdict_line verdict) (sym (take-append-drop (k + 1) rs))
          ∙ ap (λ t. t ++ verdict_line verdict) (lines_append 1 (take (k + 1) rs) (drop (k + 1) rs))
          ∙ append_assoc front back (verdict_line verdict)
          ∙ ap (λ t. t ++ (back ++ verdict_line verdict)) (lines_more rs k d inside),
    )

-- if there are at most k reports, the lines of the first k are all lines
pub lines_all : (rs : List Report) (k : ℕ) → length rs ≤ k → stream_lines 1 rs ≡ stream_lines 1 (take k rs)
lines_all rs k all = ap (stream_lines 1) (sym (take_all k rs all))

-- ---- a line by itself

-- the parts of a line (words, two numbers with words between, and its end) may be grouped in two
-- ways
pub numbers-parts : (words first between second rest : List ℕ)
    → words ++ first ++ between ++ second ++ rest ≡ ((words ++ first) ++ (between ++ second)) ++ rest
numbers-parts words first between second rest = simp append_assoc
