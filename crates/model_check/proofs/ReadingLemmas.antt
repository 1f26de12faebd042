-- Reading an answer token by token, and what its text is.
use Rattle.std.proofs.Common.{◌≡◌, ◌↔◌, ◌⊎◌, ◌+◌, ◌<◌, ◌≤◌, ◌==◌, ℕ, ℤ, pos, negsuc, nat_abs, Bool, true, false, not, cond, Option, Some}
use Rattle.std.proofs.Common.{None, Result, Ok, Err, List, [], ◌∷◌, ◌++◌, map, flat_map, filter, refl, sym, ap, subst, ◌∙◌, inl, inr}
use Rattle.std.proofs.Common.{⊎_elim, arith, leb, append_assoc}
use Rattle.std.specs.List.{AllByRecursion, slice_split}
use Rattle.std.proofs.lemmas.Bool.{cases_Bool, true≢false, false≢true, eqb-true, eq-eqb, ne_eqb, eqb-false, leb-true, le-leb}
use Rattle.std.proofs.lemmas.List.{append-nil}
use Rattle.lrup_model.specs.Literal.{IsLiteral}
use Rattle.dimacs.specs.Lines.{ends_line, is_comment, is_empty, runs}
use Rattle.dimacs.specs.Numerals.{number_of}
use Rattle.model_check.specs.ModelText.{is_v, is_s, values_of, IsModelText}
use Rattle.model_check.specs.Reading.{Assigned, Outcome, onward, take_number, take_token, take_tokens, take_line, take_lines, at_end}
use Rattle.model_check.specs.Reading.{all_lines, model_in}
use Rattle.model_check.specs.declared.fault.ModelFault.{ModelFault}
use Rattle.model_check.specs.declared.fault.ModelFault.TheVariants.{OtherLine, VariableRange, AfterEnd, NoEnd}

-- before and after the last 0
abbrev opened : List ℤ → Assigned
opened literals = record { literals = literals; ended = false }

abbrev closed : List ℤ → Assigned
closed literals = record { literals = literals; ended = true }

abbrev made : List ℤ → Bool → Assigned
made literals ended = record { literals = literals; ended = ended }

abbrev fine : Assigned → Outcome
fine read = Ok read

abbrev refused : ModelFault → Outcome
refused fault = Err fault

abbrev model : List ℤ → Result (List ℤ) ModelFault
model literals = Ok literals

abbrev no_model : ModelFault → Result (List ℤ) ModelFault
no_model fault = Err fault

onward_ok : (o : Outcome) (next : Assigned → Outcome) (t : Assigned) → onward o next ≡ Ok t
    → (m : Assigned) × (o ≡ Ok m) × (next m ≡ Ok t)
onward_ok (Ok m) next t h = (m, refl, h)
onward_ok (Err fault) next t h = cc

-- ## one token

-- the number is the last 0, or a literal
abbrev Counts : ℕ → ℤ → List ℤ → Assigned → Type 0
Counts vars number literals m =
    ((nat_abs number ≡ 0) × (m ≡ closed literals))
    ⊎ ((0 < nat_abs number) × (nat_abs number ≤ vars) × (m ≡ opened (literals ++ number ∷ [])))

abbrev Takes : ℕ → List ℕ → Assigned → Assigned → Type 0
Takes vars token s m = (s.ended ≡ false) × (number : ℤ) × (number_of token ≡ Some number) × Counts vars number s.literals m

counts_from : (vars line : ℕ) (literals : List ℤ) (number : ℤ) (m : Assigned)
    → take_number vars line literals (Some number) ≡ Ok m → Counts vars number literals m
counts_from vars line literals number m h =
    ⊎_elim
    (λ (yes : (nat_abs number == 0) ≡ true).
    let k : fine (closed literals) ≡ Ok m = rw yes at h in
    let e : m ≡ closed literals = cc in
    inl (eqb-true (nat_abs number) 0 yes, e))
    (λ (no : (nat_abs number == 0) ≡ false).
    let k : cond (leb (nat_abs number) vars) (fine (opened (literals ++ number ∷ []))) (refused (VariableRange line)) ≡ fine m =
    rw no at h in
    ⊎_elim
    (λ (few : leb (nat_abs number) vars ≡ true).
    let j : fine (opened (literals ++ number ∷ [])) ≡ Ok m = rw few at k in
    let e : m ≡ opened (literals ++ number ∷ []) = cc in
    let some : nat_abs number ≡ 0 → ⊥ = eqb-false (nat_abs number) 0 no in
    inr (omega (arith, some), leb-true (nat_abs number) vars few, e))
    (λ (many : leb (nat_abs number) vars ≡ false).
    let j : refused (VariableRange line) ≡ Ok m = rw many at k in
    cc)
    (cases_Bool (leb (nat_abs number) vars)))
    (cases_Bool (nat_abs number == 0))

counts_to : (vars line : ℕ) (literals : List ℤ) (number : ℤ) (m : Assigned) → Counts vars number literals m
    → take_number vars line literals (Some number) ≡ Ok m
counts_to vars line literals number m (inl h) =
    rw (eq-eqb (nat_abs number) 0 h.0) (ap fine (sym h.1))
counts_to vars line literals number m (inr h) =
    let some : nat_abs number ≡ 0 → ⊥ = λ e. omega (arith, e, h.0) in
    rw (ne_eqb (nat_abs number) 0 some, le-leb (nat_abs number) vars h.1) (ap fine (sym h.2))

spelled_from : (vars line : ℕ) (literals : List ℤ) (spelled : Option ℤ) (m : Assigned)
    → take_number vars line literals spelled ≡ Ok m → (number : ℤ) × (spelled ≡ Some number) × Counts vars number literals m
spelled_from vars line literals None m h = cc
spelled_from vars line literals (Some number) m h = (number, refl, counts_from vars line literals number m h)

takes_from : (vars line : ℕ) (token : List ℕ) (s m : Assigned) → take_token vars line token s ≡ Ok m → Takes vars token s m
takes_from vars line token s m h =
    ⊎_elim
    (λ (yes : s.ended ≡ true). let k : refused (AfterEnd line) ≡ Ok m = rw yes at h in cc)
    (λ (no : s.ended ≡ false).
    let k : take_number vars line s.literals (number_of token) ≡ Ok m = rw no at h in
    let read = spelled_from vars line s.literals (number_of token) m k in
    (no, read.0, read.1, read.2))
    (cases_Bool s.ended)

takes_to : (vars line : ℕ) (token : List ℕ) (s m : Assigned) → Takes vars token s m → take_token vars line token s ≡ Ok m
takes_to vars line token s m h = rw (h.0, h.2) (counts_to vars line s.literals h.1 m h.3)

-- ## tokens

abbrev Reads : ℕ → List (List ℕ) → Assigned → Assigned → Type 0
Reads vars [] s t = s ≡ t
Reads vars (token ∷ tokens) s t = (m : Assigned) × Takes vars token s m × Reads vars tokens m t

reads_from : (vars line : ℕ) (tokens : List (List ℕ)) (s t : Assigned) → take_tokens vars line tokens s ≡ Ok t → Reads vars tokens s t
reads_from vars line [] s t h = cc
reads_from vars line (token ∷ tokens) s t h =
    let m = onward_ok (take_token vars line token s) (take_tokens vars line tokens) t h in
    (m.0, takes_from vars line token s m.0 m.1, reads_from vars line tokens m.0 t m.2)

reads_to : (vars line : ℕ) (tokens : List (List ℕ)) (s t : Assigned) → Reads vars tokens s t → take_tokens vars line tokens s ≡ Ok t
reads_to vars line [] s t h = ap fine h
reads_to vars line (token ∷ tokens) s t h = rw (takes_to vars line token s h.0 h.1) (reads_to vars line tokens h.0 t h.2)

reads_join : (vars : ℕ) (xs ys : List (List ℕ)) (s m t : Assigned) → Reads vars xs s m → Reads vars ys m t → Reads vars (xs ++ ys) s t
reads_join vars [] ys s m t first later = subst (λ (x : Assigned). Reads vars ys x t) (sym first) later
reads_join vars (x ∷ xs) ys s m t first later = (first.0, first.1, reads_join vars xs ys first.0 m t first.2 later)

reads_parts : (vars : ℕ) (xs ys : List (List ℕ)) (s t : Assigned) → Reads vars (xs ++ ys) s t
    → (m : Assigned) × Reads vars xs s m × Reads vars ys m t
reads_parts vars [] ys s t h = (s, refl, h)
reads_parts vars (x ∷ xs) ys s t h = let later = reads_parts vars xs ys h.0 t h.2 in (later.0, (h.0, h.1, later.1), later.2)

-- ## lines

-- the tokens of those lines that aren't comments and have tokens
abbrev kept : List (List (List ℕ)) → List (List (List ℕ))
kept lines = filter (λ (tokens : List (List ℕ)). not (is_empty tokens)) lines

abbrev listed : List (List ℕ) → List (List (List ℕ))
listed lines = kept (map runs (filter (λ (line : List ℕ). not (is_comment line)) lines))

heads : {A : Type 0} {x y : A} {xs ys : List A} → x ≡ y → xs ≡ ys → x ∷ xs ≡ y ∷ ys
heads e es = cc

abbrev present : List (List (List ℕ)) → List (Option (List (List ℕ)))
present values = map (λ tokens. Some tokens) values

abbrev joined : List (List (List ℕ)) → List (List ℕ)
joined values = flat_map (λ tokens. tokens) values

abbrev some_values : List (List ℕ) → Option (List (List ℕ))
some_values tokens = Some tokens

abbrev no_values : Option (List (List ℕ))
no_values = None

-- these lines are an answer's, and reading their literals leads from s to t
abbrev AreRead : ℕ → List (List (List ℕ)) → Assigned → Assigned → Type 0
AreRead vars lines s t = (values : List (List (List ℕ))) × (map values_of lines ≡ present values) × Reads vars (joined values) s t

line_from : (vars line : ℕ) (tokens : List (List ℕ)) (later : List (List (List ℕ))) (s m t : Assigned)
    → take_line vars line tokens s ≡ Ok m → AreRead vars (kept later) m t → AreRead vars (kept (tokens ∷ later)) s t
line_from vars line [] later s m t h read = let e : m ≡ s = cc in subst (λ (x : Assigned). AreRead vars (kept later) x t) e read
line_from vars line (first ∷ tokens) later s m t h read =
    ⊎_elim
    (λ (v : is_v first ≡ true).
    let k : take_tokens vars line tokens s ≡ Ok m = rw v at h in
    let both = reads_join vars tokens (joined read.0) s m t (reads_from vars line tokens s m k) read.2 in
    (tokens ∷ read.0, heads (rw v refl) read.1, both))
    (λ (other : is_v first ≡ false).
    let k : cond (is_s first) (fine s) (refused (OtherLine line)) ≡ fine m = rw other at h in
    ⊎_elim
    (λ (verdict : is_s first ≡ true).
    let j : fine s ≡ Ok m = rw verdict at k in
    let e : m ≡ s = cc in (
      [] ∷ read.0,
      heads (rw (other, verdict) refl) read.1,
      subst (λ (x : Assigned). Reads vars (joined read.0) x t) e read.2,
    ))
    (λ (none : is_s first ≡ false). let j : refused (OtherLine line) ≡ Ok m = rw none at k in cc)
    (cases_Bool (is_s first)))
    (cases_Bool (is_v first))

line_to : (vars line : ℕ) (tokens : List (List ℕ)) (later : List (List (List ℕ))) (s t : Assigned)
    → AreRead vars (kept (tokens ∷ later)) s t
    → (m : Assigned) × (take_line vars line tokens s ≡ Ok m) × AreRead vars (kept later) m t
line_to vars line [] later s t h = (s, refl, h)
line_to vars line (first ∷ tokens) later s t ([], are, reads) = cc
line_to vars line (first ∷ tokens) later s t (here ∷ values, are, reads) =
    let head : values_of (first ∷ tokens) ≡ some_values here = cc in
    let tail : map values_of (kept later) ≡ present values = cc in
    ⊎_elim
    (λ (v : is_v first ≡ true).
    let k : some_values tokens ≡ some_values here = rw v at head in
    let e : here ≡ tokens = cc in
    let both : Reads vars (tokens ++ joined values) s t = rw e at reads in
    let parts = reads_parts vars tokens (joined values) s t both in
    (parts.0, rw v (reads_to vars line tokens s parts.0 parts.1), (values, tail, parts.2)))
    (λ (other : is_v first ≡ false).
    let k : cond (is_s first) (some_values []) no_values ≡ some_values here = rw other at head in
    ⊎_elim
    (λ (verdict : is_s first ≡ true).
    let j : some_values [] ≡ some_values here = rw verdict at k in
    let e : here ≡ [] = cc in
    let left : Reads vars (joined values) s t = rw e at reads in
    (s, rw (other, verdict) refl, (values, tail, left)))
    (λ (none : is_s first ≡ false). let j : no_values ≡ some_values here = rw none at k in cc)
    (cases_Bool (is_s first)))
    (cases_Bool (is_v first))

any_from : (vars line : ℕ) (bytes : List ℕ) (later : List (List ℕ)) (s m t : Assigned)
    → cond (is_comment bytes) (fine s) (take_line vars line (runs bytes) s) ≡ fine m → AreRead vars (listed later) m t
    → AreRead vars (listed (bytes ∷ later)) s t
any_from vars line bytes later s m t h read =
    ⊎_elim
    (λ (yes : is_comment bytes ≡ true).
    let k : fine s ≡ fine m = rw yes at h in
    let e : m ≡ s = cc in
    rw yes (subst (λ (x : Assigned). AreRead vars (listed later) x t) e read))
    (λ (no : is_comment bytes ≡ false).
    let k : take_line vars line (runs bytes) s ≡ fine m = rw no at h in
    rw no (line_from vars line (runs bytes) (map runs (filter (λ (x : List ℕ). not (is_comment x)) later)) s m t k read))
    (cases_Bool (is_comment bytes))

lines_from : (vars line : ℕ) (lines : List (List ℕ)) (s t : Assigned) → take_lines vars line lines s ≡ Ok t
    → AreRead vars (listed lines) s t
lines_from vars line [] s t h = ([], refl, (cc))
lines_from vars line (bytes ∷ later) s t h =
    let m = onward_ok (cond (is_comment bytes) (fine s) (take_line vars line (runs bytes) s)) (take_lines vars (line + 1) later) t h in
    any_from vars line bytes later s m.0 t m.1 (lines_from vars (line + 1) later m.0 t m.2)

lines_to : (vars line : ℕ) (lines : List (List ℕ)) (s t : Assigned) → AreRead vars (listed lines) s t → take_lines vars line lines s ≡ Ok t
lines_to vars line [] s t ([], are, reads) = ap fine reads
lines_to vars line [] s t (here ∷ values, are, reads) = cc
lines_to vars line (bytes ∷ later) s t h =
    ⊎_elim
    (λ (yes : is_comment bytes ≡ true).
    let k : AreRead vars (listed later) s t = rw yes at h in
    rw yes (lines_to vars (line + 1) later s t k))
    (λ (no : is_comment bytes ≡ false).
    let k : AreRead vars (kept (runs bytes ∷ map runs (filter (λ (x : List ℕ). not (is_comment x)) later))) s t = rw no at h in
    let m = line_to vars line (runs bytes) (map runs (filter (λ (x : List ℕ). not (is_comment x)) later)) s t k in
    rw (no, m.1) (lines_to vars (line + 1) later m.0 t m.2))
    (cases_Bool (is_comment bytes))

-- ## the numbers of all lines

abbrev somes : List ℤ → List (Option ℤ)
somes numbers = map (λ (number : ℤ). Some number) numbers

is_zero_from : (number : ℤ) → nat_abs number ≡ 0 → number ≡ pos 0
is_zero_from (pos n) h = ap pos h
is_zero_from (negsuc n) h = absurd (omega (arith, h))

mapped_none : (tokens : List (List ℕ)) → map number_of tokens ≡ [] → tokens ≡ []
mapped_none [] h = refl
mapped_none (token ∷ tokens) h = cc

-- nothing is read after the last 0
reads_closed : (vars : ℕ) (tokens : List (List ℕ)) (literals all : List ℤ) → Reads vars tokens (closed literals) (closed all)
    → (tokens ≡ []) × (literals ≡ all)
reads_closed vars [] literals all h = (refl, ap (λ (x : Assigned). x.literals) h)
reads_closed vars (token ∷ tokens) literals all h = absurd (true≢false h.1.0)

spells_from : (vars : ℕ) (tokens : List (List ℕ)) (begun all : List ℤ) → Reads vars tokens (opened begun) (closed all)
    → (rest : List ℤ) × (all ≡ begun ++ rest) × (map number_of tokens ≡ somes (rest ++ pos 0 ∷ [])) × AllByRecursion (IsLiteral vars) rest
spells_from vars [] begun all h = absurd (false≢true (ap (λ (x : Assigned). x.ended) h))
spells_from vars (token ∷ tokens) begun all h =
    let number = h.1.1 in
    let spelled = h.1.2 in
    ⊎_elim
    (λ (last : (nat_abs number ≡ 0) × (h.0 ≡ closed begun)).
    let left = reads_closed vars tokens begun all (subst (λ (x : Assigned). Reads vars tokens x (closed all)) last.1 h.2) in
    let head : number_of token ≡ Some (pos 0) = spelled ∙ ap (λ (z : ℤ). Some z) (is_zero_from number last.0) in
    ([], sym left.1 ∙ sym (append-nil begun), heads head (ap (map number_of) left.0), tt))
    (λ (one : (0 < nat_abs number) × (nat_abs number ≤ vars) × (h.0 ≡ opened (begun ++ number ∷ []))).
    let later = spells_from vars tokens (begun ++ number ∷ []) all (subst (λ (x : Assigned). Reads vars tokens x (closed all)) one.2 h.2) in
    (number ∷ later.0, later.1 ∙ append_assoc begun (number ∷ []) later.0, heads spelled later.2, ((one.0, one.1), later.3)))
    h.1.3

spells_to : (vars : ℕ) (tokens : List (List ℕ)) (begun rest : List ℤ) → map number_of tokens ≡ somes (rest ++ pos 0 ∷ [])
    → AllByRecursion (IsLiteral vars) rest → Reads vars tokens (opened begun) (closed (begun ++ rest))
spells_to vars [] begun [] h all = cc
spells_to vars [] begun (number ∷ rest) h all = cc
spells_to vars (token ∷ tokens) begun [] h all =
    let head : number_of token ≡ Some (pos 0) = cc in
    let left : map number_of tokens ≡ [] = cc in
    let none : tokens ≡ [] = mapped_none tokens left in
    let e : closed begun ≡ closed (begun ++ []) = ap closed (sym (append-nil begun)) in
    (closed begun, (refl, pos 0, head, inl (refl, refl)), rw none e)
spells_to vars (token ∷ tokens) begun (number ∷ rest) h all =
    let head : number_of token ≡ Some number = cc in
    let left : map number_of tokens ≡ somes (rest ++ pos 0 ∷ []) = cc in
    let below = spells_to vars tokens (begun ++ number ∷ []) rest left all.1 in (
      opened (begun ++ number ∷ []),
      (refl, number, head, inr (all.0.0, all.0.1, refl)),
      subst (λ (x : List ℤ). Reads vars tokens (opened (begun ++ number ∷ [])) (closed x)) (append_assoc begun (number ∷ []) rest) below,
    )

ended_from : (o : Outcome) (literals : List ℤ) → at_end o ≡ Ok literals → o ≡ Ok (closed literals)
ended_from (Err fault) literals h = cc
ended_from (Ok read) literals h =
    ⊎_elim
    (λ (yes : read.ended ≡ true).
    let k : model read.literals ≡ model literals = rw yes at h in
    let e : read.literals ≡ literals = cc in
    ap fine (ap (λ (x : List ℤ). made x read.ended) e ∙ ap (made literals) yes))
    (λ (no : read.ended ≡ false). let k : no_model NoEnd ≡ Ok literals = rw no at h in cc)
    (cases_Bool read.ended)

pub text_is_read : (vars : ℕ) (bytes : List ℕ) (literals : List ℤ) → IsModelText vars bytes literals
    ↔ (model_in vars bytes ≡ Ok literals)
text_is_read vars bytes literals = (
  λ text.
      let reads = spells_to vars (joined text.values) [] literals text.numbers text.within in
      ap at_end (lines_to vars 1 (slice_split ends_line bytes) (opened []) (closed literals) (text.values, text.lines, reads)),
  λ read.
      let lines =
      lines_from vars 1 (slice_split ends_line bytes) (opened []) (closed literals) (ended_from (all_lines vars bytes) literals read) in
      let spelled = spells_from vars (joined lines.0) [] literals lines.2 in
      record {
        values = lines.0;
        lines = lines.1;
        numbers = spelled.2 ∙ ap (λ (x : List ℤ). somes (x ++ pos 0 ∷ [])) (sym spelled.1);
        within = subst (AllByRecursion (IsLiteral vars)) (sym spelled.1) spelled.3;
      },
)

pub end_is : (read : Assigned) → read.ended ≡ true → at_end (Ok read) ≡ Ok read.literals
end_is read e = rw e refl
