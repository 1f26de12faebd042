-- Lemmas about what is written, one call after another.
use Rattle.std.proofs.Common.{◌≡◌, ℕ, ◌+◌, ◌<◌, List, [], ◌∷◌, ◌++◌, length, take, drop, get_or, Option, Some, None, refl, sym, ◌∙◌, ap, subst}
use Rattle.std.specs.Prelude.{Result, Ok, Err, IsErr, MatchResult}
use Rattle.std.specs.Io.KnownBytes.{Appends, Keeps}
use Rattle.std.proofs.lemmas.List.{append_assoc, append-nil, take_more, take-append-drop, flat_map_more}
use Rattle.std.specs.List.{flat_map}
use Rattle.lrup_text.specs.Writing.{Puts, Breaks, PutsAll, WritesText}

pub appends_nothing : (a : Option (List ℕ)) → Appends a a []
appends_nothing None = tt
appends_nothing (Some xs) = sym (append-nil xs)

pub appends_then : (a b c : Option (List ℕ)) (x y : List ℕ) → Appends a b x → Appends b c y
    → Appends a c (x ++ y)
appends_then None b c x y h k = tt
appends_then (Some xs) None c x y h k = absurd h
appends_then (Some xs) (Some ys) None x y h k = absurd k
appends_then (Some xs) (Some ys) (Some zs) x y h k = k ∙ ap (λ t. t ++ y) h ∙ append_assoc xs x y

pub appends_keeps : (a b c : Option (List ℕ)) (x : List ℕ) → Appends a b x → Keeps b c
    → Appends a c x
appends_keeps None b c x h k = tt
appends_keeps (Some xs) None c x h k = absurd h
appends_keeps (Some xs) (Some ys) None x h k = absurd k
appends_keeps (Some xs) (Some ys) (Some zs) x h k = k ∙ h

pub puts_nothing : (a : Option (List ℕ)) (held : List ℕ) → Puts a a held held []
puts_nothing a held = record { went = []; appends = appends_nothing a; is = append-nil held }

module _ {a b c : Option (List ℕ)} {h i : List ℕ} {x : List ℕ} (puts : Puts a b h i x) where
  pub puts_then : {j y : List ℕ} → Puts b c i j y → Puts a c h j (x ++ y)
  puts_then {j} {y} next = record {
    went = puts.went ++ next.went;
    appends = appends_then a b c puts.went next.went puts.appends next.appends;
    is = sym (append_assoc h x y) ∙ ap (λ t. t ++ y) puts.is ∙ append_assoc puts.went i y
        ∙ ap (λ t. puts.went ++ t) next.is ∙ sym (append_assoc puts.went next.went j);
  }

  pub breaks_then : {y : List ℕ} → Breaks b c i y → Breaks a c h (x ++ y)
  breaks_then {y} next = record {
    went = puts.went ++ next.went;
    rest = next.rest;
    appends = appends_then a b c puts.went next.went puts.appends next.appends;
    is = sym (append_assoc h x y) ∙ ap (λ t. t ++ y) puts.is ∙ append_assoc puts.went i y
        ∙ ap (λ t. puts.went ++ t) next.is ∙ sym (append_assoc puts.went next.went next.rest);
  }

-- the texts of two lists, one after the other, are the text of the joined list
flat_map_append : {X : Type 0} (f : X → List ℕ) (xs ys : List X)
    → flat_map f xs ++ flat_map f ys ≡ flat_map f (xs ++ ys)
flat_map_append f [] ys = refl
flat_map_append f (x ∷ xs) ys = append_assoc (f x) (flat_map f xs) (flat_map f ys) ∙ ap (λ t. f x ++ t) (flat_map_append f xs ys)

pub breaks_more : {a b : Option (List ℕ)} {h x : List ℕ} → Breaks a b h x → (y : List ℕ)
    → Breaks a b h (x ++ y)
breaks_more {a} {b} {h} {x} h' y = record {
  went = h'.went;
  rest = h'.rest ++ y;
  appends = h'.appends;
  is = sym (append_assoc h x y) ∙ ap (λ t. t ++ y) h'.is ∙ append_assoc h'.went h'.rest y;
}

-- if a prefix of the held bytes was written, `Breaks` holds without new bytes
pub breaks_held : {a b : Option (List ℕ)} {h : List ℕ} (went rest : List ℕ) → h ≡ went ++ rest
    → Appends a b went → Breaks a b h []
breaks_held {a} {b} {h} went rest is appends = record { went = went; rest = rest; appends = appends; is = append-nil h ∙ is }

-- for an error, `MatchResult` holds if its second case does (used where a `?` returns the error)
pub at_err : {T E : Type 0} (r : Result T E) (P Q : Type 0) → IsErr r → Q
    → MatchResult r (λ _. P) (λ _. Q)
at_err (Ok x) P Q h q = cc
at_err (Err e) P Q h q = q

-- a failed call wrote a prefix of its text, if nothing was held before
pub breaks_from_empty : {E : Type 0} (r : Result (Unit {0}) E) {a b : Option (List ℕ)}
    {h z : List ℕ} → h ≡ [] → IsErr r → Breaks a b h z → WritesText r a b z
breaks_from_empty r {a} {b} {h} {z} empty err broken =
    let from : Breaks a b [] z = subst (λ (x : List ℕ). Breaks a b x z) empty broken in
    at_err r _ _ err (from.went, from.rest, from.is, from.appends)

-- `Breaks` holds for an equal text, too. The next two lemmas are about two calls that write a text,
-- or the beginning of a text, in two parts.
pub breaks_as : {a b : Option (List ℕ)} {h x z : List ℕ} → Breaks a b h x → z ≡ x → Breaks a b h z
breaks_as {a} {b} {h} broken is = subst (λ t. Breaks a b h t) (sym is) broken

pub puts_next : {a b c : Option (List ℕ)} {h i j x y z : List ℕ} → Puts a b h i x → Puts b c i j y
    → z ≡ x ++ y → Puts a c h j z
puts_next {a} {b} {c} {h} {i} {j} puts next is = subst (λ t. Puts a c h j t) (sym is) (puts_then puts next)

pub breaks_next : {a b c : Option (List ℕ)} {h i x y z : List ℕ} → Puts a b h i x → Breaks b c i y
    → (rest : List ℕ) → z ≡ (x ++ y) ++ rest → Breaks a c h z
breaks_next {a} {b} {c} {h} puts next rest is = subst (λ t. Breaks a c h t) (sym is) (breaks_more (breaks_then puts next) rest)

-- one more element of a list appends its text
pub texts_more : {X : Type 0} (text : X → List ℕ) (xs : List X) (k : ℕ) (d : X) → k < length xs
    → flat_map text (take (k + 1) xs) ≡ flat_map text (take k xs) ++ text (get_or xs k d)
texts_more text xs k d inside = ap (flat_map text) (take_more xs k d inside) ∙ sym (flat_map_more text [] (take k xs) (get_or xs k d))

pub texts_split : {X : Type 0} (text : X → List ℕ) (xs : List X) (k : ℕ) (d : X) → k < length xs
    → flat_map text xs ≡ (flat_map text (take k xs) ++ text (get_or xs k d))
    ++ flat_map text (drop (k + 1) xs)
texts_split text xs k d inside =
    ap (flat_map text) (sym (take-append-drop (k + 1) xs)) ∙ sym (flat_map_append text (take (k + 1) xs) (drop (k + 1) xs))
    ∙ ap (λ t. t ++ flat_map text (drop (k + 1) xs)) (texts_more text xs k d inside)

pub breaks_first : {a b : Option (List ℕ)} {h x z : List ℕ} → Breaks a b h x → (rest : List ℕ)
    → z ≡ x ++ rest → Breaks a b h z
breaks_first {a} {b} {h} broken rest is = subst (λ t. Breaks a b h t) (sym is) (breaks_more broken rest)

-- if the first of two calls wrote or held all its bytes, the second call's result says what became
-- of both texts
pub puts_all_next : {E : Type 0} (r : Result (Unit {0}) E) {a b : Option (List ℕ)}
    (c : Option (List ℕ)) {h i : List ℕ} (j : List ℕ) {x : List ℕ} (y : List ℕ) {z : List ℕ}
    → Puts a b h i x → PutsAll r b c i j y → z ≡ x ++ y → PutsAll r a c h j z
puts_all_next (Ok u) c j y puts next is = puts_next puts next is
puts_all_next (Err e) {a} {b} c {h} j y puts next is = subst (λ t. Breaks a c h t) (sym is) (breaks_then puts next)

-- if one call wrote or held a whole text, and another writes what is still held, the whole text was
-- written, or, after a fault, a prefix
pub writes_all_next : {E : Type 0} (r : Result (Unit {0}) E) {a b : Option (List ℕ)}
    (c : Option (List ℕ)) {i z : List ℕ} → Puts a b [] i z → WritesText r b c i → WritesText r a c z
writes_all_next (Ok u) {a} {b} c {i} {z} puts next = subst (λ t. Appends a c t) (sym puts.is) (appends_then a b c puts.went i puts.appends next)
writes_all_next (Err e) {a} {b} c {i} {z} puts next =
    (puts.went ++ next.0, next.1, puts.is ∙ ap (λ t. puts.went ++ t) next.2 ∙ sym (append_assoc puts.went next.0 next.1), appends_then a b c puts.went next.0 puts.appends next.3)

pub writes_from_empty : {E : Type 0} (r : Result (Unit {0}) E) {a b : Option (List ℕ)}
    (c : Option (List ℕ)) {h i z : List ℕ} → h ≡ [] → Puts a b h i z → WritesText r b c i
    → WritesText r a c z
writes_from_empty r {a} {b} c {h} {i} {z} empty puts next = writes_all_next r c (subst (λ x. Puts a b x i z) empty puts) next
