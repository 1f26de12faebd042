-- How bytes are cut into lines and tokens.
use Rattle.std.proofs.Common.{◌≡◌, ◌⊎◌, ◌+◌, ◌<◌, ◌≤◌, ℕ, Bool, true, false, not, List, [], ◌∷◌, filter, length, take, drop, get_or, zero}
use Rattle.std.proofs.Common.{suc, refl, sym, ap, ◌∙◌, ⊎_elim, arith, add-one}
use Rattle.std.specs.List.{slice_split, All}
use Rattle.std.proofs.lemmas.List.{length-take, get_or-take, get_or_default, drop_more, drop_all, take_all}
use Rattle.std.proofs.lemmas.List.Splits.{slice_split_at, slice_split_none}
use Rattle.std.proofs.Math.Seq.{split_at}
use Rattle.dimacs.specs.Lines.{is_separator, is_empty, runs}

-- if no element of the list before index k passes, none of the first k does
none_of_first : (p : ℕ → Bool) (bs : List ℕ) (k : ℕ) → k ≤ length bs
    → ((i : ℕ) → i < k → p (get_or bs i 0) ≡ false) → All (λ x. p x ≡ false) (take k bs)
none_of_first p bs k within none i d lt =
    let below : i < k = omega (arith, length-take k bs) in
    let inside : i < length bs = omega arith in
    let same : get_or (take k bs) i d ≡ get_or bs i 0 = get_or-take k bs i d below ∙ get_or_default bs i d 0 inside in
    rw same (none i below)

-- if the first byte that passes is at index k, the first part ends there
pub part_at : (p : ℕ → Bool) (bs : List ℕ) (k : ℕ) → k < length bs
    → ((i : ℕ) → i < k → p (get_or bs i 0) ≡ false) → p (get_or bs k 0) ≡ true
    → slice_split p bs ≡ take k bs ∷ slice_split p (drop (k + 1) bs)
part_at p bs k within none found =
    ap (slice_split p) (split_at bs k 0 within)
    ∙ slice_split_at p (take k bs) (get_or bs k 0) (drop (suc k) bs) (none_of_first p bs k (omega arith) none) found
    ∙ ap (λ (m : ℕ). take k bs ∷ slice_split p (drop m bs)) (sym (add-one k))

-- if no byte passes, all bytes are one part
pub one_part : (p : ℕ → Bool) (bs : List ℕ) → ((i : ℕ) → i < length bs → p (get_or bs i 0) ≡ false) → slice_split p bs ≡ bs ∷ []
one_part p bs none = slice_split_none p bs (λ i d lt. rw (get_or_default bs i d 0 lt) (none i lt))

-- ## tokens

runs-nil : runs [] ≡ []
runs-nil = refl

some_first : (bs : List ℕ) (k : ℕ) → 0 < k → k ≤ length bs → is_empty (take k bs) ≡ false
some_first [] k some within = absurd (omega arith)
some_first (b ∷ bs) zero some within = absurd (omega arith)
some_first (b ∷ bs) (suc k) some within = refl

kept : (part : List ℕ) (parts : List (List ℕ)) → is_empty part ≡ false
    → filter (λ (run : List ℕ). not (is_empty run)) (part ∷ parts) ≡ part ∷ filter (λ (run : List ℕ). not (is_empty run)) parts
kept part parts e = rw e refl

-- a token ends at the first separator, or with the bytes
pub token_ends : (bs : List ℕ) (k : ℕ) → 0 < k → k ≤ length bs → ((i : ℕ) → i < k → is_separator (get_or bs i 0) ≡ false)
    → ((k < length bs) × (is_separator (get_or bs k 0) ≡ true)) ⊎ (length bs ≤ k) → runs bs ≡ take k bs ∷ runs (drop k bs)
token_ends bs k some within none end =
    let full = some_first bs k some within in
    ⊎_elim
    (λ at.
    let next = get_or bs k 0 in
    let after : runs (next ∷ drop (k + 1) bs) ≡ runs (drop (k + 1) bs) = rw at.1 refl in
    ap (filter (λ (run : List ℕ). not (is_empty run))) (part_at is_separator bs k at.0 none at.1)
    ∙ kept (take k bs) (slice_split is_separator (drop (k + 1) bs)) full
    ∙ ap (λ (x : List (List ℕ)). take k bs ∷ x) (sym (ap runs (drop_more bs k 0 at.0) ∙ after)))
    (λ past.
    let all : (i : ℕ) → i < length bs → is_separator (get_or bs i 0) ≡ false = λ i lt. none i (omega arith) in
    let whole : take k bs ≡ bs = take_all k bs past in
    let left : drop k bs ≡ [] = drop_all k bs past in
    ap (filter (λ (run : List ℕ). not (is_empty run))) (one_part is_separator bs all ∙ ap (λ (x : List ℕ). x ∷ []) (sym whole))
    ∙ kept (take k bs) [] full
    ∙ ap (λ (x : List (List ℕ)). take k bs ∷ x) (sym (ap runs left ∙ runs-nil)))
    end
