-- In a legal history the counts of a report are at most the number of identities.
use Rattle.std.proofs.Common.{◌≡◌, ◌<◌, ◌≤◌, ◌+◌, ◌||◌, ℕ, Bool, true, false, List, [], ◌∷◌, ◌++◌, length, eqb, inl, inr, refl}
use Rattle.std.proofs.Common.{sym, ap, subst, ◌∙◌, arith, append_assoc, append-nil}
use Rattle.std.specs.List.{AllByRecursion, list_any, sum_by}
use Rattle.std.proofs.lemmas.Bool.Decides.{eqb_tells}
use Rattle.std.proofs.lemmas.Map.Steps.{length-le_from_distinct_below}
use Rattle.lrup_model.specs.Layout.{LayoutValue, last_identity, IsIdentity, Owns}
use Rattle.lrup_model.specs.declared.layout.Owner.TheVariants as owners
use Rattle.lrup_model.specs.Event.{History, own}
use Rattle.lrup_model.specs.State.{State, run, opening}
use Rattle.lrup_text.specs.Lines.{StreamLine, Addition, Deletion, Import}
use Rattle.lrup_text.specs.declared.device.StreamEnd.{StreamEnd}
use Rattle.stream_check.specs.declared.fault.Fault.{Fault}
use Rattle.stream_check.specs.declared.report.Report.{Report}
use Rattle.stream_check.specs.StreamParams.{StreamParams}
use Rattle.stream_check.specs.StreamContext.{context_of, additions_of, deleted_by}
use Rattle.stream_check.specs.Verdicts.{Good, Bad}
use Rattle.stream_check.specs.Judging.{JudgesLine, AreGood, joined, EndsAfter, at_bad_line, at_bad_text, at_memory, at_end}
use Rattle.stream_check.specs.Laws.{CountsWithin}
use Rattle.stream_check.specs.lemmas.ReportLemmas.{joined-append}
use Rattle.stream_check.specs.lemmas.ContextLemmas.{last_below, same_last, added-snoc}
use Rattle.stream_check.proofs.AskLemmas.{ownership_for}
use Rattle.stream_check.proofs.CountLemmas.{SameOwn, OwnRun, own_runs, run_on}
use Rattle.stream_check.proofs.DeletedLemmas.{identity_below, TakenAt, Taken, Apart, are_distinct, AreTaken, identities_took, lines_took}

-- A list of distinct identities isn't longer than the number of identities

all_below : (xs : List ℕ) (n : ℕ) → AllByRecursion (λ x. x < n) xs → (q : ℕ) → list_any (eqb q) xs ≡ true → q < n
all_below [] n all q e = absurd (let f : false ≡ true = e in cc)
all_below (x ∷ xs) n all q e = elim (eqb_tells q x) [
  | inl same ↦ subst (λ y. y < n) (sym same.1) all.0
  | inr other ↦ all_below xs n all.1 q (sym (ap (λ b. b || list_any (eqb q) xs) other.0) ∙ e)
]

-- a number that was taken is an identity
taken_is : (c : StreamParams) (n : State) (is_dropped : ℕ → Bool) (earlier : List ℕ) (id : ℕ) → Taken c n is_dropped earlier id
    → IsIdentity c.layout id
taken_is c n is_dropped earlier id t = identity_below c.layout id
    (λ e. subst (λ o. TakenAt (ownership_for c.stream o) n is_dropped earlier id) e t)

not_zero : (c : StreamParams) (n : State) (is_dropped : ℕ → Bool) (earlier ids : List ℕ) → AllByRecursion (Taken c n is_dropped earlier) ids
    → AllByRecursion (λ y. eqb 0 y ≡ false) ids
not_zero c n is_dropped earlier [] all = tt
not_zero c n is_dropped earlier (id ∷ ids) all =
    let is = taken_is c n is_dropped earlier id all.0 in (
      elim (eqb_tells 0 id) [
        | inl same ↦ absurd (omega
            (arith, same.1, is.0))
        | inr other ↦ other.0
      ],
      not_zero c n is_dropped earlier ids all.1,
    )

taken_below : (c : StreamParams) (n : State) (is_dropped : ℕ → Bool) (earlier ids : List ℕ)
    → AllByRecursion (Taken c n is_dropped earlier) ids
    → AllByRecursion (λ x. x < last_identity c.layout + 1) ids
taken_below c n is_dropped earlier [] all = tt
taken_below c n is_dropped earlier (id ∷ ids) all =
    let is = taken_is c n is_dropped earlier id all.0 in (omega (arith, is.1), taken_below c n is_dropped earlier ids all.1)

taken_within : (c : StreamParams) (n : State) (is_dropped : ℕ → Bool) (earlier : List ℕ) (many : ℕ) → AreTaken c n is_dropped earlier many
    → many ≤ last_identity c.layout
taken_within c n is_dropped earlier many are =
    let with_zero : Apart (0 ∷ are.ids) = (not_zero c n is_dropped earlier are.ids are.taken, are.apart) in
    let below : AllByRecursion (λ x. x < last_identity c.layout + 1) (0 ∷ are.ids) =
    (omega arith, taken_below c n is_dropped earlier are.ids are.taken) in
    let few : length (0 ∷ are.ids) ≤ last_identity c.layout + 1 =
    length-le_from_distinct_below (0 ∷ are.ids) (last_identity c.layout + 1) (are_distinct (0 ∷ are.ids) with_zero)
    (all_below (0 ∷ are.ids) (last_identity c.layout + 1) below) in
    omega (arith, few, are.count)

-- Deleted

line_deletes : (c : StreamParams) (n : State) (before : List StreamLine) (line : StreamLine) (many deleted : ℕ) (fault : Fault)
    (es rest : History)
    → JudgesLine c (context_of c before) line es (Bad deleted fault) → OwnRun n (es ++ rest)
    → AreTaken c n (context_of c before).is_dropped [] many → many + deleted ≤ last_identity c.layout
line_deletes c n before (Deletion lead ids) many deleted fault es rest judged answers are =
    let took = identities_took c n (context_of c before).is_dropped [] ids many es rest (Bad deleted fault) judged answers are in
    omega (arith, took.4, taken_within c took.0 (context_of c before).is_dropped took.1 took.2 took.3)
line_deletes c n before _ many deleted fault es rest judged answers are =
    omega (arith, judged.0, taken_within c n (context_of c before).is_dropped [] many are)

ends_delete : (c : StreamParams) (n : State) (lines : List StreamLine) (rest : List ℕ) (end : StreamEnd) (back : List History)
    (report : Report)
    → OwnRun n (joined back) → AreTaken c n (context_of c lines).is_dropped [] (sum_by (λ l. length (deleted_by l)) lines)
    → EndsAfter c lines rest end back report → report.deleted ≤ last_identity c.layout
ends_delete c n lines rest end back report answers are (at_bad_line line more text fits block one_block deleted fault bad says) =
    let here = subst (λ b. OwnRun n (joined b)) one_block answers in
    let few = line_deletes c n lines line (sum_by (λ l. length (deleted_by l)) lines) deleted fault block [] bad here are in
    subst (λ (r : Report). r.deleted ≤ last_identity c.layout) (sym says) (omega (arith, few))
ends_delete c n lines rest end back report answers are (at_bad_text fault text no_block says) =
    let few = taken_within c n (context_of c lines).is_dropped [] (sum_by (λ l. length (deleted_by l)) lines) are in
    subst (λ (r : Report). r.deleted ≤ last_identity c.layout) (sym says) (omega (arith, few))
ends_delete c n lines rest end back report answers are (at_memory lead ids more text fits block one_block earlier stops says) =
    let here = subst (λ b. OwnRun n (joined b)) one_block answers in
    let took = identities_took c n (context_of c lines).is_dropped [] earlier
    (sum_by (λ l. length (deleted_by l)) lines) block [] Good stops.before here are in
    let few =
    taken_within c (run n block) (context_of c lines).is_dropped earlier
    (sum_by (λ l. length (deleted_by l)) lines + length earlier) took in
    subst (λ (r : Report). r.deleted ≤ last_identity c.layout) (sym says) (omega (arith, few))
ends_delete c n lines rest end back report answers are (at_end pending no_block says) =
    let few = taken_within c n (context_of c lines).is_dropped [] (sum_by (λ l. length (deleted_by l)) lines) are in
    subst (λ (r : Report). r.deleted ≤ last_identity c.layout) (sym says) (omega (arith, few))

-- Added

owns_below : (p : LayoutValue) (s id : ℕ) → Owns p s id → id ≤ last_identity p
owns_below p s id owns = (identity_below p id (λ e. let f : owners.Outside ≡ owners.Stream s = sym e ∙ owns in cc)).1

-- the number of additions plus the number of the formula's clauses is at most the last identity
-- used, which is at most the layout's last one
record AreFewAdded (c : StreamParams) (lines : List StreamLine) : Type 0 where
  few : length (additions_of lines) + c.layout.clauses ≤ (context_of c lines).last
  below : (context_of c lines).last ≤ last_identity c.layout

one_added : (c : StreamParams) (before : List StreamLine) (line : StreamLine) (es : History)
    → JudgesLine c (context_of c before) line es Good
    → AreFewAdded c before → AreFewAdded c (before ++ line ∷ [])
one_added c before (Addition id lits hints) es judged are =
    let last = same_last c before (Addition id lits hints) es judged in
    let above = last_below c (context_of c before) id lits hints es judged in
    let within = owns_below c.layout c.stream id judged.1.owns in
    record {
      few = omega (arith, last, above, are.few, added-snoc before (Addition id lits hints));
      below = omega (arith, last, within);
    }
one_added c before (Deletion lead ids) es judged are =
    let last = same_last c before (Deletion lead ids) es judged in
    record {
      few = omega (arith, last, are.few, added-snoc before (Deletion lead ids));
      below = omega (arith, last, are.below);
    }
one_added c before (Import id lits) es judged are =
    let last = same_last c before (Import id lits) es judged in
    record {
      few = omega (arith, last, are.few, added-snoc before (Import id lits));
      below = omega (arith, last, are.below);
    }

lines_added : (c : StreamParams) (before lines : List StreamLine) (blocks : List History) → AreGood c before lines blocks
    → AreFewAdded c before
    → AreFewAdded c (before ++ lines)
lines_added c before [] blocks good are = subst (AreFewAdded c) (sym (append-nil before)) are
lines_added c before (line ∷ lines) [] good are = absurd good
lines_added c before (line ∷ lines) (block ∷ blocks) good are =
    subst (AreFewAdded c) (append_assoc before (line ∷ []) lines)
    (lines_added c (before ++ line ∷ []) lines blocks good.1 (one_added c before line block good.0 are))

added_is : (c : StreamParams) (lines : List StreamLine) (rest : List ℕ) (end : StreamEnd) (back : List History) (report : Report)
    → EndsAfter c lines rest end back report → report.added ≡ length (additions_of lines)
added_is c lines rest end back report (at_bad_line _ _ _ _ _ _ _ _ _ says) = ap (λ (r : Report). r.added) says
added_is c lines rest end back report (at_bad_text _ _ _ says) = ap (λ (r : Report). r.added) says
added_is c lines rest end back report (at_memory _ _ _ _ _ _ _ _ _ says) = ap (λ (r : Report). r.added) says
added_is c lines rest end back report (at_end _ _ says) = ap (λ (r : Report). r.added) says

pub counts_within : CountsWithin
unfolding SameOwn
counts_within f c h bytes end blocks report legal mine j =
    let answers : OwnRun (opening f) (own h c.stream) =
    own_runs f c.layout c.stream (opening f) (opening f) h legal.events (λ id owns. refl) in
    let split = rw (mine ∙ ap joined j.split ∙ joined-append j.front j.back) at answers in
    let none : AreTaken c (opening f) (context_of c []).is_dropped [] 0 = record { ids = []; apart = tt; taken = tt; count = refl } in
    let taken = lines_took c (opening f) [] j.lines j.front 0 (joined j.back) j.good split none in
    let exact : AreTaken c (run (opening f) (joined j.front)) (context_of c j.lines).is_dropped []
    (sum_by (λ l. length (deleted_by l)) j.lines) =
    subst (AreTaken c (run (opening f) (joined j.front)) (context_of c j.lines).is_dropped []) (omega arith) taken in
    let added = lines_added c [] j.lines j.front j.good (record { few = omega arith; below = omega arith }) in (
      omega (arith, added_is c j.lines j.rest end j.back report j.ends, added.few, added.below),
      ends_delete c (run (opening f) (joined j.front)) j.lines j.rest end j.back report
          (run_on (opening f) (joined j.front) (joined j.back) split) exact j.ends,
    )
