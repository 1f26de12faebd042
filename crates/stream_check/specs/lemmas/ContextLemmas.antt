-- The context and the counts after one more good line.
use Rattle.std.proofs.Common.{◌≡◌, ◌<◌, ◌+◌, ◌&&◌, ◌||◌, ℕ, ℤ, Bool, true, false, max, List, [], ◌∷◌, ◌++◌, length, length-append, refl, sym, ap, ◌∙◌, arith}
use mathlib.Core.Path.{fun_ext}
use Rattle.std.specs.Prelude.{◌==◌, map}
use Rattle.std.specs.List.{fold, list_any, sum_by}
use Rattle.std.proofs.lemmas.List.{map-append}
use Rattle.std.proofs.lemmas.List.Folds.{list_any-append}
use Rattle.std.proofs.lemmas.List.Sums.{fold-append, sum_by-append}
use Rattle.lrup_model.specs.Clause.{Clause}
use Rattle.lrup_model.specs.Event.{History}
use Rattle.lrup_text.specs.Lines.{StreamLine, Addition, Deletion, Import}
use Rattle.stream_check.specs.StreamParams.{StreamParams, ownership_of, is_shared}
use Rattle.stream_check.specs.StreamContext.{StreamContext, additions_of, deleted_by, is_among, is_within, context_of}
use Rattle.stream_check.specs.Verdicts.{Good}
use Rattle.stream_check.specs.declared.report.Ending.{Ending}
use Rattle.stream_check.specs.declared.report.Ending.TheVariants as endings
use Rattle.stream_check.specs.declared.report.Report.{Report}
use Rattle.stream_check.specs.CheckerValue.{Tally, report_of_tally}
use Rattle.stream_check.specs.Judging.{JudgesLine, report_of}
use Rattle.stream_check.specs.lemmas.ReportLemmas.{additions-append}
use Rattle.stream_check.specs.Reaching.{SameContext, context_after, tally_after, last_after}

-- the last identity after one more line
last-snoc : (c : StreamParams) (lines : List StreamLine) (line : StreamLine)
    → (context_of c (lines ++ line ∷ [])).last
    ≡ fold max (context_of c lines).last (map (λ a. a.0) (additions_of (line ∷ [])))
last-snoc c lines line =
    let ids : List (ℕ × Clause) → List ℕ = map (λ a. a.0) in
    ap (fold max c.layout.clauses) (ap ids (additions-append lines (line ∷ [])) ∙ map-append (λ a. a.0) (additions_of lines) (additions_of (line ∷ [])))
    ∙ fold-append max c.layout.clauses (ids (additions_of lines)) (ids (additions_of (line ∷ [])))

-- a good addition has a larger identity than the additions before it
pub last_below : (c : StreamParams) (st : StreamContext) (id : ℕ) (lits : List ℤ) (hints : List ℕ)
    (es : History) → JudgesLine c st (Addition id lits hints) es Good → st.last < id
last_below c st id lits hints es j = j.1.above

pub same_last : (c : StreamParams) (lines : List StreamLine) (line : StreamLine) (es : History)
    → JudgesLine c (context_of c lines) line es Good
    → (context_of c (lines ++ line ∷ [])).last ≡ last_after (context_of c lines).last line
same_last c lines (Addition id lits hints) es j =
    let below = last_below c (context_of c lines) id lits hints es j in
    omega (arith, last-snoc c lines (Addition id lits hints), below)
same_last c lines (Deletion lead ids) es j = last-snoc c lines (Deletion lead ids)
same_last c lines (Import id lits) es j = last-snoc c lines (Import id lits)

-- the number of additions after one more line
pub added-snoc : (lines : List StreamLine) (line : StreamLine)
    → length (additions_of (lines ++ line ∷ []))
    ≡ length (additions_of lines) + length (additions_of (line ∷ []))
added-snoc lines line = ap length (additions-append lines (line ∷ [])) ∙ length-append (additions_of lines) (additions_of (line ∷ []))

sizes-snoc : (lines : List StreamLine) (line : StreamLine)
    → sum_by (λ a. length a.1) (additions_of (lines ++ line ∷ []))
    ≡ sum_by (λ a. length a.1) (additions_of lines)
    + sum_by (λ a. length a.1) (additions_of (line ∷ []))
sizes-snoc lines line =
    let size : ℕ × Clause → ℕ = λ a. length a.1 in
    ap (sum_by size) (additions-append lines (line ∷ [])) ∙ sum_by-append size (additions_of lines) (additions_of (line ∷ []))

some-snoc : (test : ℕ × Clause → Bool) (lines : List StreamLine) (line : StreamLine)
    → (list_any test (additions_of lines) || list_any test (additions_of (line ∷ [])))
    ≡ list_any test (additions_of (lines ++ line ∷ []))
some-snoc test lines line = sym (ap (list_any test) (additions-append lines (line ∷ [])) ∙ list_any-append test (additions_of lines) (additions_of (line ∷ [])))

and_or : (s a b : Bool) → (s && (a || (b || false))) ≡ (s && a || s && b)
and_or true true b = refl
and_or true false true = refl
and_or true false false = refl
and_or false a b = refl

-- the context after one more good line
pub context_of-snoc : (c : StreamParams) (lines : List StreamLine) (line : StreamLine)
    (es : History)
    → JudgesLine c (context_of c lines) line es Good
    → SameContext (context_after c (context_of c lines) line)
    (context_of c (lines ++ line ∷ []))
context_of-snoc c lines line es j = record {
  last = sym (same_last c lines line es j);
  free = omega (arith, sizes-snoc lines line);
  is_dropped = λ id.
      let test : StreamLine → Bool = λ l. is_among (deleted_by l) id in
      sym (ap (λ b. is_shared (ownership_of c id) && b) (list_any-append test lines (line ∷ []))
      ∙ and_or (is_shared (ownership_of c id)) (list_any test lines) (test line));
}

pub same_tally : (a b : Tally) → a.added ≡ b.added → a.deleted ≡ b.deleted → a.empty ≡ b.empty
    → a.within ≡ b.within → a ≡ b
same_tally a b added deleted empty within =
    let made : ℕ → ℕ → Bool → Bool → Tally = λ x y z w. record { added = x; deleted = y; empty = z; within = w } in
    ap (λ x. made x a.deleted a.empty a.within) added ∙ ap (λ y. made b.added y a.empty a.within) deleted
    ∙ ap (λ z. made b.added b.deleted z a.within) empty ∙ ap (λ w. made b.added b.deleted b.empty w) within

-- the counts that these lines leave
abbrev pub counts_of : StreamParams → List StreamLine → Tally
counts_of c lines =
    let r : Report = report_of c lines 0 endings.Ended in
    record { added = r.added; deleted = r.deleted; empty = r.empty; within = r.within }

-- if a checker's reports are those of the lines, its counts are those that the lines leave
pub tally_is : (c : StreamParams) (lines : List StreamLine) (t : Tally)
    → ((ending : Ending) → report_of_tally t ending ≡ report_of c lines 0 ending)
    → t ≡ counts_of c lines
tally_is c lines t reports =
    let same : report_of_tally t endings.Ended ≡ report_of c lines 0 endings.Ended = reports endings.Ended in
    same_tally t (counts_of c lines) (ap (λ (r : Report). r.added) same) (ap (λ (r : Report). r.deleted) same) (ap (λ (r : Report). r.empty) same) (ap (λ (r : Report). r.within) same)

pub tally_says : (c : StreamParams) (lines : List StreamLine) (t : Tally) → t ≡ counts_of c lines
    → (ending : Ending) → report_of_tally t ending ≡ report_of c lines 0 ending
tally_says c lines t same ending = ap (λ (s : Tally). report_of_tally s ending) same

-- the counts after one more good line
pub counts_of-snoc : (c : StreamParams) (lines : List StreamLine) (line : StreamLine)
    → tally_after c (counts_of c lines) line ≡ counts_of c (lines ++ line ∷ [])
counts_of-snoc c lines line = same_tally (tally_after c (counts_of c lines) line) (counts_of c (lines ++ line ∷ []))
    (omega (arith, added-snoc lines line))
    (omega (arith, sum_by-append (λ l. length (deleted_by l)) lines (line ∷ [])))
    (some-snoc (λ a. length a.1 == 0) lines line)
    (some-snoc (λ a. is_within c.cube a.1) lines line)

-- contexts with the same parts are equal
pub same_context : (a b : StreamContext) → SameContext a b → a ≡ b
same_context a b s =
    let made : ℕ → ℕ → (ℕ → Bool)
    → StreamContext = λ l f g. record { last = l; free = f; is_dropped = g } in
    ap (λ l. made l a.free a.is_dropped) s.last ∙ ap (λ f. made b.last f a.is_dropped) s.free
    ∙ ap (λ g. made b.last b.free g) (fun_ext s.is_dropped)
