-- Bytes and a mark, sent and received.
use Rattle.std.proofs.Common.{◌≡◌, ℕ, suc, ◌<◌, ◌≤◌, ◌+◌, ◌-◌, List, [], ◌∷◌, ◌++◌, length, take, get_or, map, refl, ap, sym, ◌∙◌, arith}
use Rattle.std.proofs.Common.{append_assoc}
use Rattle.std.specs.Prelude.{All}
use native.Mathlib.Numerals.{unary_clauses}
use Rattle.std.proofs.Math.Seq.{take-suc, take-append_seam}
use Rattle.std.proofs.lemmas.List.{map-append, length-map, length-take-le, length-append}
use Rattle.lrup_text.specs.declared.device.StreamEnd.{StreamEnd}
use Rattle.lrup_text.specs.declared.device.StreamEnd.TheVariants as stream_ends
use Rattle.stream_threads.specs.Items.{EndsAtMark, EndsBeforeMark, IsSentOf, mark_of, end_of_mark, byte_of}

head_below : (x : ℕ) (xs : List ℕ) → All (λ b. b < 256) (x ∷ xs) → x < 256
head_below x xs h = h 0 0 (omega arith)

tail_below : (x : ℕ) (xs : List ℕ) → All (λ b. b < 256) (x ∷ xs) → All (λ b. b < 256) xs
tail_below x xs h = λ k d below. simp unary_clauses at (h (k + 1) d (omega arith))

cons_parts : (x y : ℕ) (xs ys : List ℕ) → x ∷ xs ≡ y ∷ ys → (x ≡ y) × (xs ≡ ys)
cons_parts x y xs ys e = (cc, cc)

no_more : (x m : ℕ) (xs ys : List ℕ) → xs ++ x ∷ ys ≡ [] → m ≡ m + 1
no_more x m [] ys e = cc
no_more x m (_ ∷ _) ys e = cc

byte_stays : (x : ℕ) → x < 256 → byte_of x ≡ x
byte_stays x h = omega (arith, h)

-- two ways to split a list at its first mark are the same
pub same_mark : (taken bytes rest : List ℕ) (mark m : ℕ) → All (λ b. b < 256) bytes → 256 ≤ mark → 256 ≤ m
    → taken ++ mark ∷ rest ≡ bytes ++ m ∷ [] → (map byte_of taken ≡ bytes) × (mark ≡ m)
same_mark [] [] rest mark m b p q e = (refl, (cons_parts mark m rest [] e).0)
same_mark [] (y ∷ bytes) rest mark m b p q e =
    let h = head_below y bytes b in
    let s = (cons_parts mark y rest (bytes ++ m ∷ []) e).0 in
    absurd (omega (arith, h, s))
same_mark (x ∷ taken) [] rest mark m b p q e =
    let s = no_more mark m taken rest (cons_parts x m (taken ++ mark ∷ rest) [] e).1 in
    absurd (omega (arith, s))
same_mark (x ∷ taken) (y ∷ bytes) rest mark m b p q e =
    let s = cons_parts x y (taken ++ mark ∷ rest) (bytes ++ m ∷ []) e in
    let t = same_mark taken bytes rest mark m (tail_below y bytes b) p q s.1 in
    let h : x < 256 = rw s.0 (head_below y bytes b) in
    let l : byte_of x ≡ y = byte_stays x h ∙ s.0 in
    (cc (l, t.0), t.1)

-- the popped items are those before the last one, and the last one
pub front_and_last : (past items : List ℕ) (n : ℕ) → 0 < n → n ≤ length items
    → past ++ take n items ≡ (past ++ take (n - 1) items) ++ get_or items (n - 1) 0 ∷ []
front_and_last past items n some fits =
    let i : suc (n - 1) ≡ n = omega (arith, some) in
    let below : n - 1 < length items = omega (arith, some, fits) in
    let e : take n items ≡ take (n - 1) items ++ get_or items (n - 1) 0 ∷ [] = ap (λ k. take k items) (sym i)
    ∙ take-suc items (n - 1) 0 below in
    ap (λ u. past ++ u) e ∙ sym (append_assoc past (take (n - 1) items) (get_or items (n - 1) 0 ∷ []))

-- a list has only one last element
one_last : (xs ys : List ℕ) (x y : ℕ) → xs ++ x ∷ [] ≡ ys ++ y ∷ [] → x ≡ y
one_last [] [] x y e = cc
one_last [] (b ∷ ys) x y e = absurd (omega (arith, no_more y 0 ys [] (sym (cons_parts x b [] (ys ++ y ∷ []) e).1)))
one_last (a ∷ xs) [] x y e = absurd (omega (arith, no_more x 0 xs [] (cons_parts a y (xs ++ x ∷ []) [] e).1))
one_last (a ∷ xs) (b ∷ ys) x y e = one_last xs ys x y (cons_parts a b (xs ++ x ∷ []) (ys ++ y ∷ []) e).1

-- if the last popped item is a byte, what was received doesn't end with a mark
pub byte_is_last : (past items : List ℕ) (n : ℕ) → 0 < n → n ≤ length items → get_or items (n - 1) 0 < 256
    → EndsBeforeMark (past ++ take n items)
byte_is_last past items n some fits small taken item e =
    let last : get_or items (n - 1) 0 ≡ item =
    one_last (past ++ take (n - 1) items) taken (get_or items (n - 1) 0) item (sym (front_and_last past items n some fits) ∙ e) in
    omega (arith, last, small)

-- if the last popped item is a mark, what was received ends at this mark
pub last_is_mark : (past items bytes : List ℕ) (n : ℕ) → 0 < n → n ≤ length items
    → 256 ≤ get_or items (n - 1) 0 → take (n - 1) bytes ≡ map byte_of (take (n - 1) items)
    → EndsAtMark (map byte_of past ++ take (n - 1) bytes) (end_of_mark (get_or items (n - 1) 0)) (past ++ take n items)
last_is_mark past items bytes n some fits m same =
    record {
      taken = past ++ take (n - 1) items;
      mark = get_or items (n - 1) 0;
      bytes_are = ap (λ u. map byte_of past ++ u) same ∙ sym (map-append byte_of past (take (n - 1) items));
      is_mark = m;
      end_is = refl;
      items_are = front_and_last past items n some fits;
    }

-- the bytes of all of a block's items except the last
front_bytes : (items rest : List ℕ) (k n : ℕ) → suc k ≡ n → n ≤ length items
    → take k (map byte_of (take n items) ++ rest) ≡ map byte_of (take k items)
front_bytes items rest k n i fits =
    let below : k < length items = omega (arith, i, fits) in
    let t = take k items in
    let b = byte_of (get_or items k 0) in
    let e : take n items ≡ t ++ get_or items k 0 ∷ [] = ap (λ m. take m items) (sym i) ∙ take-suc items k 0 below in
    let f : map byte_of (take n items) ≡ map byte_of t ++ b ∷ [] = ap (λ u. map byte_of u) e
    ∙ map-append byte_of t (get_or items k 0 ∷ []) in
    let j : length (map byte_of t) ≡ k = length-map t byte_of ∙ length-take-le k items (omega (arith, below)) in
    ap (λ u. take k (u ++ rest)) f ∙ (ap (λ u. take k u) (append_assoc (map byte_of t) (b ∷ []) rest)
    ∙ (ap (λ m. take m (map byte_of t ++ b ∷ rest)) (sym j) ∙ take-append_seam (map byte_of t) (b ∷ rest)))

-- if the last popped item is a mark, the narrowed items before it are the last bytes before the
-- mark
pub ends_there : (past items new rest : List ℕ) (n count : ℕ) (end : StreamEnd) → 0 < n → n ≤ length items
    → 256 ≤ get_or items (n - 1) 0 → new ≡ map byte_of (take n items)
    → n - 1 ≡ count → end_of_mark (get_or items (n - 1) 0) ≡ end
    → (count ≤ length (new ++ rest)) × EndsAtMark (map byte_of past ++ take count (new ++ rest)) end (past ++ take n items)
ends_there past items new rest n count end some fits m are at f =
    let i : suc (n - 1) ≡ n = omega (arith, some) in
    let same : take (n - 1) (new ++ rest) ≡ map byte_of (take (n - 1) items) =
    ap (λ u. take (n - 1) (u ++ rest)) are ∙ front_bytes items rest (n - 1) n i fits in
    let long : length new ≡ n = ap length are ∙ (length-map (take n items) byte_of ∙ length-take-le n items fits) in
    let ends = last_is_mark past items (new ++ rest) n some fits m same in (
      omega (arith, length-append new rest, long, at, some),
      rw (f, at) at ends,
    )

mark_is : (end : StreamEnd) → 256 ≤ mark_of end
mark_is stream_ends.Ended = omega arith
mark_is stream_ends.Failed = omega arith

mark_has_end : (end : StreamEnd) → end_of_mark (mark_of end) ≡ end
mark_has_end stream_ends.Ended = refl
mark_has_end stream_ends.Failed = refl

pub came_by : (items received known : List ℕ) → received ++ known ≡ items → (bytes came : List ℕ) (sent end : StreamEnd)
    → IsSentOf bytes sent items → EndsAtMark came end received → (came ≡ bytes) × (end ≡ sent)
came_by items received known whole bytes came sent end s t =
    let both : t.taken ++ t.mark ∷ known ≡ bytes ++ mark_of sent ∷ [] = sym (append_assoc t.taken (t.mark ∷ []) known)
    ∙ (ap (λ u. u ++ known) (sym t.items_are) ∙ (whole ∙ s.items_are)) in
    let same = same_mark t.taken bytes known t.mark (mark_of sent) s.small t.is_mark (mark_is sent) both in
    (t.bytes_are ∙ same.0, t.end_is ∙ (ap end_of_mark same.1 ∙ mark_has_end sent))
