-- How the lines and the tokens of the rest change, step by step.
use Rattle.std.proofs.Common.{◌≡◌, ◌≢◌, ◌+◌, ◌<◌, ℕ, Bool, true, false, not, cond, ◌||◌, ◌==◌, List, [], ◌∷◌, ◌++◌, filter, length, take}
use Rattle.std.proofs.Common.{drop, get_or, Option, Some, None, refl, sym, ap, ◌∙◌, arith, ⊎_elim, zero, suc, add-one, unwrap_or, ◌-◌}
use Rattle.std.specs.List.{slice_split, onto_first, All}
use Rattle.std.proofs.lemmas.List.{append-nil, length-take, get_or-take, get_or_default, drop_more, drop_all, take_all}
use Rattle.std.proofs.Math.Seq.{split_at}
use Rattle.memchr.specs.Find.{NoneBefore, Nowhere, Passes, IsFirstByte, is_byte}
use Rattle.std.proofs.lemmas.List.Splits.{slice_split_at, slice_split_none}
use Rattle.std.proofs.lemmas.Bool.{or_parts, cases_Bool, ne_eqb, both_ways}
use Rattle.std.proofs.Math.Nat.{eq-zero-or-pos}
use Rattle.dimacs.specs.Lines.{Line, Token, ends_line, is_separator, is_empty, runs, lines_from, tokens_of, all_tokens}
use Rattle.dimacs.specs.internal.Places.{lines_at_start, lines_inside, lines_at, tokens_at, first_run, after_run, IsAtToken}

-- ## a separator

pub runs_separator : (b : ℕ) (bs : List ℕ) → is_separator b ≡ true → runs (b ∷ bs) ≡ runs bs
runs_separator b bs e = rw e refl

inside_separator : (n b : ℕ) (parts : List (List ℕ)) → is_separator b ≡ true → lines_inside n (onto_first b parts) ≡ lines_inside n parts
inside_separator n b [] e = rw e refl
inside_separator n b (part ∷ parts) e = rw (runs_separator b part e) refl

pub lines_at-separator : (n b : ℕ) (bs : List ℕ) → is_separator b ≡ true → ends_line b ≡ false → lines_at n (b ∷ bs) ≡ lines_at n bs
unfolding lines_at
lines_at-separator n b bs e inner = rw inner (inside_separator n b (slice_split ends_line bs) e)

-- ## the start of a line

pub lines_at-line_end : (n b : ℕ) (bs : List ℕ) → ends_line b ≡ true → lines_at n (b ∷ bs) ≡ lines_at_start (n + 1) bs
unfolding lines_at lines_at_start
lines_at-line_end n b bs e = rw e refl

from_no_comment : (n b : ℕ) (parts : List (List ℕ)) → (b == 99) ≡ false
    → lines_from n (onto_first b parts) ≡ lines_inside n (onto_first b parts)
from_no_comment n b [] e = rw e refl
from_no_comment n b (part ∷ parts) e = rw e refl

pub lines_at_start-nil : (n : ℕ) → lines_at_start n [] ≡ []
unfolding lines_at_start
lines_at_start-nil n = refl

pub lines_at-nil : (n : ℕ) → lines_at n [] ≡ []
unfolding lines_at
lines_at-nil n = refl

pub lines_at_start-no_comment : (n b : ℕ) (bs : List ℕ) → b ≢ 99 → lines_at_start n (b ∷ bs) ≡ lines_at n (b ∷ bs)
unfolding lines_at_start lines_at
lines_at_start-no_comment n b bs ne =
    let e = ne_eqb b 99 ne in
    elim (ends_line b) as (λ t. lines_from n (cond t ([] ∷ slice_split ends_line bs) (onto_first b (slice_split ends_line bs)))
    ≡ lines_inside n (cond t ([] ∷ slice_split ends_line bs) (onto_first b (slice_split ends_line bs)))) [
      | true ↦ refl
      | false ↦ from_no_comment n b (slice_split ends_line bs) e
    ]

-- if memchr found the first line end at index k, the first line ends there
pub split_at_line_end : (bs : List ℕ) (k : ℕ) → NoneBefore (Passes (is_byte 10) bs) 0 (length bs) k → Passes (is_byte 10) bs k
    → slice_split ends_line bs ≡ take k bs ∷ slice_split ends_line (drop (k + 1) bs)
split_at_line_end bs k h found =
    let whole = split_at bs k 0 h.high in
    let none : All (λ x. ends_line x ≡ false) (take k bs) = λ i d lt.
    let below : i < k = omega (arith, length-take k bs) in
    let within : i < length bs = omega (arith, length-take k bs) in
    let same : get_or (take k bs) i d ≡ get_or bs i 0 = get_or-take k bs i d below ∙ get_or_default bs i d 0 within in
    rw same (⊎_elim (λ yes. absurd (h.before i (omega arith) below yes)) (λ x. x) (cases_Bool (ends_line (get_or bs i 0)))) in
    ap (slice_split ends_line) whole ∙ slice_split_at ends_line (take k bs) (get_or bs k 0) (drop (suc k) bs) none found
    ∙ ap (λ (m : ℕ). take k bs ∷ slice_split ends_line (drop m bs)) (sym (add-one k))

-- if memchr found no line end, all bytes are one line
pub split_no_line_end : (bs : List ℕ) → Nowhere (Passes (is_byte 10) bs) 0 (length bs) → slice_split ends_line bs ≡ bs ∷ []
split_no_line_end bs h =
    slice_split_none ends_line bs (λ i d lt.
    rw (get_or_default bs i d 0 lt) (⊎_elim (λ yes. absurd (h i (omega arith) lt yes)) (λ x. x) (cases_Bool (ends_line (get_or bs i 0)))))

-- after a comment that ends with the file, there are no lines
pub lines_at_start-last_comment : (n b : ℕ) (bs : List ℕ) → b ≡ 99 → Nowhere (Passes (is_byte 10) bs) 0 (length bs)
    → lines_at_start n (b ∷ bs) ≡ []
unfolding lines_at_start
lines_at_start-last_comment n b bs e none = rw (e, split_no_line_end bs none) refl

-- a comment before a line end is skipped
pub lines_at_start-comment : (n b : ℕ) (bs : List ℕ) (k : ℕ) → b ≡ 99 → NoneBefore (Passes (is_byte 10) bs) 0 (length bs) k
    → Passes (is_byte 10) bs k → lines_at_start n (b ∷ bs) ≡ lines_at_start (n + 1) (drop (k + 1) bs)
unfolding lines_at_start
lines_at_start-comment n b bs k e h found = rw (e, split_at_line_end bs k h found) refl

-- ## a token

-- puts the bytes in front of the first part
onto : List ℕ → List (List ℕ) → List (List ℕ)
onto [] parts = parts
onto (b ∷ bs) parts = onto_first b (onto bs parts)

onto_is : (bs part : List ℕ) (parts : List (List ℕ)) → onto bs (part ∷ parts) ≡ (bs ++ part) ∷ parts
unfolding onto
onto_is [] part parts = refl
onto_is (b ∷ bs) part parts = rw (onto_is bs part parts) refl

-- no byte is a separator
abbrev pub IsRun : List ℕ → Type 0
IsRun [] = Unit {0}
IsRun (b ∷ bs) = (is_separator b ≡ false) × IsRun bs

-- the first part is empty or begins with a separator
abbrev IsClean : List (List ℕ) → Type 0
IsClean [] = ⊥
IsClean ([] ∷ parts) = Unit {0}
IsClean ((b ∷ bs) ∷ parts) = is_separator b ≡ true

no_line_end : (b : ℕ) → is_separator b ≡ false → ends_line b ≡ false
no_line_end b e = (or_parts (b == 32 || b == 9 || b == 13) (b == 10) e).1

split_onto_at : (b : ℕ) (bs : List ℕ) (t : Bool) → is_separator b ≡ t
    → slice_split ends_line bs ≡ onto (first_run bs) (slice_split ends_line (after_run bs))
    → slice_split ends_line (b ∷ bs) ≡ onto (first_run (b ∷ bs)) (slice_split ends_line (after_run (b ∷ bs)))
unfolding first_run after_run onto
split_onto_at b bs true e below = rw e refl
split_onto_at b bs false e below = rw (e, no_line_end b e) (ap (onto_first b) below)

split_onto : (bs : List ℕ) → slice_split ends_line bs ≡ onto (first_run bs) (slice_split ends_line (after_run bs))
unfolding first_run after_run onto
split_onto [] = refl
split_onto (b ∷ bs) = split_onto_at b bs (is_separator b) refl (split_onto bs)

clean_onto : (b : ℕ) (parts : List (List ℕ)) → is_separator b ≡ true → IsClean (onto_first b parts)
clean_onto b [] e = e
clean_onto b (part ∷ parts) e = e

clean_line : (b : ℕ) (bs : List ℕ) (t : Bool) → is_separator b ≡ true
    → IsClean (cond t ([] ∷ slice_split ends_line bs) (onto_first b (slice_split ends_line bs)))
clean_line b bs true e = tt
clean_line b bs false e = clean_onto b (slice_split ends_line bs) e

clean_at : (b : ℕ) (bs : List ℕ) (t : Bool) → is_separator b ≡ t → IsClean (slice_split ends_line (after_run bs))
    → IsClean (slice_split ends_line (after_run (b ∷ bs)))
unfolding after_run
clean_at b bs true e below = rw e (clean_line b bs (ends_line b) e)
clean_at b bs false e below = rw e below

clean_after_run : (bs : List ℕ) → IsClean (slice_split ends_line (after_run bs))
unfolding after_run
clean_after_run [] = tt
clean_after_run (b ∷ bs) = clean_at b bs (is_separator b) refl (clean_after_run bs)

pub IsRun-run : (bs : List ℕ) → IsRun (first_run bs)
unfolding first_run
IsRun-run [] = tt
IsRun-run (b ∷ bs) =
    let below = IsRun-run bs in
    let at : (t : Bool) → is_separator b ≡ t → IsRun (cond t [] (b ∷ first_run bs)) =
    λ t. elim t as (λ u. is_separator b ≡ u → IsRun (cond u [] (b ∷ first_run bs))) [ true ↦ λ e. tt | false ↦ λ e. (e, below) ] in
    at (is_separator b) refl

split_run : (bs part : List ℕ) → IsRun bs → slice_split is_separator (bs ++ part) ≡ onto bs (slice_split is_separator part)
unfolding onto
split_run [] part h = refl
split_run (b ∷ bs) part h = rw (h.0, split_run bs part h.1) refl

clean_split : (part : List ℕ) (parts : List (List ℕ)) → IsClean (part ∷ parts)
    → (rest : List (List ℕ)) × (slice_split is_separator part ≡ [] ∷ rest)
clean_split [] parts h = ([], refl)
clean_split (b ∷ bs) parts h = (slice_split is_separator bs, rw h refl)

runs_run : (b : ℕ) (bs part : List ℕ) (parts : List (List ℕ)) → IsRun (b ∷ bs) → IsClean (part ∷ parts)
    → runs ((b ∷ bs) ++ part) ≡ (b ∷ bs) ∷ runs part
runs_run b bs part parts h clean =
    let first = clean_split part parts clean in
    let kept : List (List ℕ) → List (List ℕ) = filter (λ (r : List ℕ). not (is_empty r)) in
    ap kept (split_run (b ∷ bs) part h ∙ ap (onto (b ∷ bs)) first.1 ∙ onto_is (b ∷ bs) [] first.0
    ∙ ap (λ (x : List ℕ). x ∷ first.0) (append-nil (b ∷ bs)))
    ∙ ap (λ (x : List (List ℕ)). (b ∷ bs) ∷ x) (sym (ap kept first.1))

inside_tokens : (n : ℕ) (part : List ℕ) (parts : List (List ℕ)) → all_tokens (lines_inside n (part ∷ parts))
    ≡ tokens_of (record { number = n; tokens = runs part }) ++ all_tokens (lines_from (n + 1) parts)
inside_tokens n part parts =
    elim (runs part) as (λ rs. all_tokens (cond (is_empty rs) (lines_from (n + 1) parts) (record {
      number = n;
      tokens = rs;
    } ∷ lines_from (n + 1) parts)) ≡ tokens_of (record { number = n; tokens = rs }) ++ all_tokens (lines_from (n + 1) parts)) [
      | [] ↦ refl
      | r ∷ rs ↦ refl
    ]

first_token : (n b : ℕ) (bs : List ℕ) (parts : List (List ℕ)) → IsRun (b ∷ bs) → IsClean parts
    → all_tokens (lines_inside n (onto (b ∷ bs) parts)) ≡ record { line = n; text = b ∷ bs } ∷ all_tokens (lines_inside n parts)
first_token n b bs [] h clean = absurd clean
first_token n b bs (part ∷ parts) h clean =
    ap (λ (x : List (List ℕ)). all_tokens (lines_inside n x)) (onto_is (b ∷ bs) part parts)
    ∙ inside_tokens n ((b ∷ bs) ++ part) parts
    ∙ ap (λ (x : List (List ℕ)). tokens_of (record { number = n; tokens = x }) ++ all_tokens (lines_from (n + 1) parts))
    (runs_run b bs part parts h clean)
    ∙ ap (λ (x : List Token). record { line = n; text = b ∷ bs } ∷ x) (sym (inside_tokens n part parts))

pub first_run-begun : (b : ℕ) (bs : List ℕ) → is_separator b ≡ false → first_run (b ∷ bs) ≡ b ∷ first_run bs
unfolding first_run
first_run-begun b bs e = rw e refl

pub after_run-begun : (b : ℕ) (bs : List ℕ) → is_separator b ≡ false → after_run (b ∷ bs) ≡ after_run bs
unfolding after_run
after_run-begun b bs e = rw e refl

pub first_run-ended : (b : ℕ) (bs : List ℕ) → is_separator b ≡ true → first_run (b ∷ bs) ≡ []
unfolding first_run
first_run-ended b bs e = rw e refl

pub after_run-ended : (b : ℕ) (bs : List ℕ) → is_separator b ≡ true → after_run (b ∷ bs) ≡ b ∷ bs
unfolding after_run
after_run-ended b bs e = rw e refl

pub first_run-nil : first_run [] ≡ []
unfolding first_run
first_run-nil = refl

pub after_run-nil : after_run [] ≡ []
unfolding after_run
after_run-nil = refl

-- at the first byte of a token, the tokens are this one and those after it
pub tokens_at-token : (n b : ℕ) (bs : List ℕ) → is_separator b ≡ false
    → tokens_at n (b ∷ bs) ≡ record { line = n; text = b ∷ first_run bs } ∷ tokens_at n (after_run bs)
unfolding tokens_at lines_at
tokens_at-token n b bs e =
    let whole = split_onto (b ∷ bs) ∙ ap (λ (x : List ℕ). onto x (slice_split ends_line (after_run (b ∷ bs)))) (first_run-begun b bs e)
    ∙ ap (λ (x : List ℕ). onto (b ∷ first_run bs) (slice_split ends_line x)) (after_run-begun b bs e) in
    ap (λ (x : List (List ℕ)). all_tokens (lines_inside n x)) whole
    ∙ first_token n b (first_run bs) (slice_split ends_line (after_run bs)) (e, IsRun-run bs) (clean_after_run bs)

pub tokens_at-nil : (n : ℕ) → tokens_at n [] ≡ []
unfolding tokens_at
tokens_at-nil n = ap all_tokens (lines_at-nil n)

pub ends_from_run : (b : ℕ) (bs : List ℕ) → first_run (b ∷ bs) ≡ [] → is_separator b ≡ true
ends_from_run b bs h =
    ⊎_elim (λ yes. yes) (λ no. let e : b ∷ first_run bs ≡ [] = sym (first_run-begun b bs no) ∙ h in cc) (cases_Bool (is_separator b))

-- ## a line from its first token on

run_and_after : (bs : List ℕ) → first_run bs ++ after_run bs ≡ bs
unfolding first_run after_run
run_and_after [] = refl
run_and_after (b ∷ bs) =
    let below = run_and_after bs in
    elim (is_separator b) as (λ t. cond t [] (b ∷ first_run bs) ++ cond t (b ∷ bs) (after_run bs) ≡ b ∷ bs) [
      | true ↦ refl
      | false ↦ ap (λ (x : List ℕ). b ∷ x) below
    ]

clean_rest : (bs : List ℕ) → IsClean (after_run bs ∷ [])
unfolding after_run
clean_rest [] = tt
clean_rest (b ∷ bs) =
    let below = clean_rest bs in
    let at : (t : Bool) → is_separator b ≡ t → IsClean (cond t (b ∷ bs) (after_run bs) ∷ []) =
    λ t. elim t as (λ u. is_separator b ≡ u → IsClean (cond u (b ∷ bs) (after_run bs) ∷ [])) [ true ↦ λ e. e | false ↦ λ e. below ] in
    at (is_separator b) refl

pub runs_begun : (b : ℕ) (bs : List ℕ) → is_separator b ≡ false → runs (b ∷ bs) ≡ (b ∷ first_run bs) ∷ runs (after_run bs)
runs_begun b bs e =
    ap (λ (x : List ℕ). runs (b ∷ x)) (sym (run_and_after bs))
    ∙ runs_run b (first_run bs) (after_run bs) [] (e, IsRun-run bs) (clean_rest bs)

is_empty-runs : (b : ℕ) (bs : List ℕ) → is_separator b ≡ false → is_empty (runs (b ∷ bs)) ≡ false
is_empty-runs b bs e = ap is_empty (runs_begun b bs e)

inside_line : (n : ℕ) (line : List ℕ) (lines : List (List ℕ)) → is_empty (runs line) ≡ false
    → lines_inside n (line ∷ lines) ≡ record { number = n; tokens = runs line } ∷ lines_from (n + 1) lines
inside_line n line lines e = rw e refl

-- at a line end, the lines are those from the start of the next line on
from_line_end : (n : ℕ) (bs : List ℕ) (k : ℕ) → k < length bs → Passes (is_byte 10) bs k
    → lines_at n (drop k bs) ≡ lines_from (n + 1) (slice_split ends_line (drop (k + 1) bs))
unfolding lines_at lines_at_start
from_line_end n bs k lt found =
    rw (drop_more bs k 0 lt) (lines_at-line_end n (get_or bs k 0) (drop (k + 1) bs) found)

begun_take : (k : ℕ) (b : ℕ) (bs : List ℕ) → 0 < k → take k (b ∷ bs) ≡ b ∷ take (k - 1) bs
begun_take zero b bs some = absurd (omega arith)
begun_take (suc k) b bs some = ap (λ (m : ℕ). b ∷ take m bs) (omega arith)

pub lines_at-line : (n : ℕ) (rest : List ℕ) (found : Option ℕ) (end : ℕ) → IsAtToken rest
    → 0 < length rest → IsFirstByte (is_byte 10) rest found → end ≡ unwrap_or found (length rest)
    → lines_at n rest ≡ record { number = n; tokens = runs (take end rest) } ∷ lines_at n (drop end rest)
unfolding lines_at
lines_at-line n [] found end place some first is = absurd (omega arith)
lines_at-line n (b ∷ bs) None end place some first is =
    let whole : take end (b ∷ bs) ≡ b ∷ bs = take_all end (b ∷ bs) (omega (arith, is)) in
    let none : drop end (b ∷ bs) ≡ [] = drop_all end (b ∷ bs) (omega (arith, is)) in
    ap (lines_inside n) (split_no_line_end (b ∷ bs) first)
    ∙ inside_line n (b ∷ bs) [] (is_empty-runs b bs place)
    ∙ ap (λ (x : List ℕ). record { number = n; tokens = runs x } ∷ []) (sym whole)
    ∙ ap (λ (x : List Line). record { number = n; tokens = runs (take end (b ∷ bs)) } ∷ x) (sym (ap (lines_at n) none ∙ lines_at-nil n))
lines_at-line n (b ∷ bs) (Some k) end place some first is =
    let later : 0 < k = ⊎_elim
    (λ zero_k. let at : ends_line b ≡ true = ap (λ (m : ℕ). ends_line (get_or (b ∷ bs) m 0)) (sym zero_k) ∙ first.1 in
    absurd (both_ways (ends_line b) (no_line_end b place) at)) (λ h. h) (eq-zero-or-pos k) in
    let begun = begun_take k b bs later in
    let full : is_empty (runs (take k (b ∷ bs))) ≡ false = ap (λ (x : List ℕ). is_empty (runs x)) begun
    ∙ is_empty-runs b (take (k - 1) bs) place in
    ap (lines_inside n) (split_at_line_end (b ∷ bs) k first.0 first.1)
    ∙ inside_line n (take k (b ∷ bs)) (slice_split ends_line (drop (k + 1) (b ∷ bs))) full
    ∙ ap (λ (x : List Line). record { number = n; tokens = runs (take k (b ∷ bs)) } ∷ x)
    (sym (from_line_end n (b ∷ bs) k first.0.high first.1))
    ∙ ap (λ (m : ℕ). record { number = n; tokens = runs (take m (b ∷ bs)) } ∷ lines_at n (drop m (b ∷ bs))) (sym is)
