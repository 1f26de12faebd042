-- Lemmas about a stream's lines and blocks, and about what a report says of them.
use Rattle.std.proofs.Common.{◌≡◌, ℕ, List, [], ◌∷◌, ◌++◌, refl, sym, ap, ap₂, subst, append_assoc, append-nil}
use Rattle.std.specs.Prelude.{◌||◌, ◌==◌, length}
use Rattle.std.specs.List.{flat_map, list_any}
use Rattle.std.proofs.lemmas.Grind.{flat_map-append}
use Rattle.std.proofs.Math.Dec.{eqb-suc-zero}
use Rattle.lrup_model.specs.Clause.{Clause}
use Rattle.lrup_model.specs.Distinct.{distinct}
use Rattle.lrup_model.specs.Event.{History}
use Rattle.lrup_text.specs.Lines.{StreamLine, Addition, Deletion, Import, line_text}
use Rattle.lrup_text.specs.declared.device.StreamEnd.{StreamEnd}
use Rattle.stream_check.specs.declared.report.Report.{Report}
use Rattle.stream_check.specs.StreamParams.{StreamParams}
use Rattle.stream_check.specs.StreamContext.{additions_of, is_within}
use Rattle.stream_check.specs.Judging.{EndsAfter, at_bad_line, at_bad_text, at_memory, at_end, joined}
use Rattle.stream_check.specs.Reaching.{CheckerState, ReachesState}
use Rattle.stream_check.specs.Checker.{Extends}

pub joined-append : (a b : List History) → joined (a ++ b) ≡ joined a ++ joined b
joined-append a b = flat_map-append (λ block. block) a b

pub split_first : (line : StreamLine) (lines : List StreamLine) (rest : List ℕ)
    → flat_map line_text (line ∷ lines) ++ rest ≡ line_text line
    ++ (flat_map line_text lines ++ rest)
split_first line lines rest = append_assoc (line_text line) (flat_map line_text lines) rest

-- the additions of two appended lists are those of the first list, then those of the second
pub additions-append : (a b : List StreamLine)
    → additions_of (a ++ b) ≡ additions_of a ++ additions_of b
additions-append [] b = refl
additions-append (Addition id lits hints ∷ a) b = ap (λ (x : List (ℕ × Clause)). (id, distinct lits) ∷ x) (additions-append a b)
additions-append (Deletion lead ids ∷ a) b = additions-append a b
additions-append (Import id lits ∷ a) b = additions-append a b

-- no bytes and no blocks leave a state as it is
pub reaches_still : (c : StreamParams) (s : CheckerState) → Extends c s [] [] s
reaches_still c s bytes before reaches =
    subst (λ (b : List ℕ). ReachesState c b (before ++ []) s) (sym (append-nil bytes)) (subst (λ (blocks : List History). ReachesState c bytes blocks s) (sym (append-nil before)) reaches)

-- whether the report says 'within' depends only on the good lines
pub said_within : (c : StreamParams) (lines : List StreamLine) (rest : List ℕ) (end : StreamEnd)
    (back : List History) (report : Report) → EndsAfter c lines rest end back report
    → report.within ≡ list_any (λ addition. is_within c.cube addition.1) (additions_of lines)
said_within c lines rest end back report (at_bad_line _ _ _ _ _ _ _ _ _ says) = ap (λ (r : Report). r.within) says
said_within c lines rest end back report (at_bad_text _ _ _ says) = ap (λ (r : Report). r.within) says
said_within c lines rest end back report (at_memory _ _ _ _ _ _ _ _ _ says) = ap (λ (r : Report). r.within) says
said_within c lines rest end back report (at_end _ _ says) = ap (λ (r : Report). r.within) says

pub said_empty : (c : StreamParams) (lines : List StreamLine) (rest : List ℕ) (end : StreamEnd)
    (back : List History) (report : Report) → EndsAfter c lines rest end back report
    → report.empty ≡ list_any (λ addition. length addition.1 == 0) (additions_of lines)
said_empty c lines rest end back report (at_bad_line _ _ _ _ _ _ _ _ _ says) = ap (λ (r : Report). r.empty) says
said_empty c lines rest end back report (at_bad_text _ _ _ says) = ap (λ (r : Report). r.empty) says
said_empty c lines rest end back report (at_memory _ _ _ _ _ _ _ _ _ says) = ap (λ (r : Report). r.empty) says
said_empty c lines rest end back report (at_end _ _ says) = ap (λ (r : Report). r.empty) says

-- only the empty clause is within the empty cube
only_empty : (d : Clause) → is_within [] d ≡ (length d == 0)
only_empty [] = refl
only_empty (l ∷ d) = sym (eqb-suc-zero (length d))

pub all_only_empty : (all : List (ℕ × Clause))
    → list_any (λ addition. is_within [] addition.1) all
    ≡ list_any (λ addition. length addition.1 == 0) all
all_only_empty [] = refl
all_only_empty (a ∷ all) = ap₂ (λ x y. x || y) (only_empty a.1) (all_only_empty all)
