-- What the judge's tests decide, and what follows from a value that a part of the judge gives.
use Rattle.std.proofs.Common.{◌≡◌, ◌⊎◌, ◌≤◌, ◌++◌, ℕ, ℤ, neg_ℤ, nat_abs, Bool, true, false, List, [], ◌∷◌, inl, inr, refl, sym, ap, ap₂}
use Rattle.std.proofs.Common.{subst, ◌∙◌, arith, true≢false}
use Rattle.std.specs.Prelude.{Decides, ◌==◌, ◌&&◌, ◌||◌, ◌↔◌, nat_lt, nat_le, if◌then◌else◌, Option, Some, None}
use Rattle.std.specs.List.{AllByRecursion, list_all, list_any, filter}
use Rattle.std.specs.Ordering.{int_eq}
use Rattle.std.proofs.lemmas.Bool.Decides.{Decides-int_eq, Decides-eqb, Decides-ltb, Decides-and, Decides-or, Decides-like, leb_tells}
use Rattle.lrup_model.specs.Clause.{Has, IsTautology}
use Rattle.lrup_model.specs.Event.{History}
use Rattle.lrup_model.specs.Layout.{LayoutValue, owner, Owns, IsIdentity, last_identity}
use Rattle.lrup_model.specs.declared.layout.Owner.{Owner}
use Rattle.lrup_model.specs.declared.layout.Owner.TheVariants as owners
use Rattle.lrup_model.specs.lemmas.ClauseLemmas.{All-Has, All-from_Has}
use Rattle.stream_check.specs.declared.fault.Fault.{Fault}
use Rattle.stream_check.specs.Verdicts.{Bad}
use Rattle.judge.specs.Judge.{Given, is_in, is_stream, owns, are_over, are_same}

-- Values

pub some_is : {A : Type 0} (a b : A) → Some a ≡ Some b → a ≡ b
some_is a b e = cc

pub none_is : {A B : Type 0} (b : A) → None ≡ Some b → B
none_is b e = absurd (cc)

-- the part gives this value, and leaves these events
abbrev pub gives : {X : Type 0} → X → History → Given X
gives value history = Some (value, history)

pub given : {X : Type 0} (a b : X) (h k : History) → gives a h ≡ gives b k → (a ≡ b) × (h ≡ k)
given {X} a b h k e =
    let same : ◌≡◌ {A = X × History} (a, h) (b, k) = some_is {A = X × History} (a, h) (b, k) e in
    (ap (λ (p : X × History). p.0) same, ap (λ (p : X × History). p.1) same)

pub give : {X : Type 0} (a b : X) (h k : History) → a ≡ b → h ≡ k → gives a h ≡ gives b k
give {X} a b h k same left = ap (λ (x : X). gives x h) same ∙ ap (λ (t : History). gives b t) left

-- a fault, with no events taken
pub bad : (its fault : Fault) (deleted : ℕ) (history rest : History) → deleted ≡ 0 → fault ≡ its → history ≡ []
    → gives (Bad 0 its) (history ++ rest) ≡ gives (Bad deleted fault) rest
bad its fault deleted history rest zero_ is none =
    give (Bad 0 its) (Bad deleted fault) (history ++ rest) rest
    (ap₂ (λ d f. Bad d f) (sym zero_) (sym is)) (ap (λ h. h ++ rest) none)

-- if a choice with nothing on its other side gives something, the test is passed
pub passed : {A : Type 0} (b : Bool) (x : Option A) (y : A) → (if b then x else None) ≡ Some y → (b ≡ true) × (x ≡ Some y)
passed true x y e = (refl, e)
passed false x y e = none_is y e

pub pass : {A : Type 0} (b : Bool) (x : Option A) → b ≡ true → (if b then x else None) ≡ x
pass b x e = ap (λ t. if t then x else None) e

-- Tests

pub decided : (b : Bool) (P : Type 0) → Decides b P → (b ≡ false) → ¬ P
decided b P test is holds = true≢false (sym (test.1 holds) ∙ is)

pub Decides-le : (a b : ℕ) → Decides (nat_le a b) (a ≤ b)
Decides-le a b = (
  λ is. elim (leb_tells a b) [ inl under ↦ under.1 | inr above ↦ absurd (true≢false (sym is ∙ above.0)) ],
  λ le. elim (leb_tells a b) [ inl under ↦ under.0 | inr above ↦ let lt = above.1 in absurd (omega arith) ],
)

-- the same two numbers
pub Decides-both : (s t id j : ℕ) → Decides (s == t && id == j) ((s ≡ t) × (id ≡ j))
Decides-both s t id j = Decides-and (s == t) (id == j) (Decides-eqb s t) (Decides-eqb id j)

pub both_same : (s id : ℕ) → (s == s && id == id) ≡ true
both_same s id = (Decides-both s s id id).1 (refl, refl)

pub Decides-in : (ls : List ℤ) (l : ℤ) → Decides (is_in ls l) (Has ls l)
Decides-in [] l = ((λ e. absurd (true≢false (sym e))), (λ h. absurd h))
Decides-in (k ∷ ls) l = Decides-or (int_eq k l) (is_in ls l) (Decides-int_eq k l) (Decides-in ls l)

pub Decides-all : {X : Type 0} (p : X → Bool) (P : X → Type 0) → ((x : X) → Decides (p x) (P x)) → (xs : List X)
    → Decides (list_all p xs) (AllByRecursion P xs)
Decides-all p P each [] = ((λ e. tt), (λ all. refl))
Decides-all p P each (x ∷ xs) = Decides-and (p x) (list_all p xs) (each x) (Decides-all p P each xs)

any_more : (P : ℤ → Type 0) (x : ℤ) (xs : List ℤ) → P x ⊎ ((l : ℤ) × Has xs l × P l) → (l : ℤ) × Has (x ∷ xs) l × P l
any_more P x xs (inl here) = (x, inl refl, here)
any_more P x xs (inr later) = (later.0, inr later.1, later.2)

any_fewer : (P : ℤ → Type 0) (x : ℤ) (xs : List ℤ) → ((l : ℤ) × Has (x ∷ xs) l × P l) → P x ⊎ ((l : ℤ) × Has xs l × P l)
any_fewer P x xs (l, inl same, holds) = inl (subst P (sym same) holds)
any_fewer P x xs (l, inr there, holds) = inr (l, there, holds)

pub Decides-any : (p : ℤ → Bool) (P : ℤ → Type 0) → ((x : ℤ) → Decides (p x) (P x)) → (xs : List ℤ)
    → Decides (list_any p xs) ((l : ℤ) × Has xs l × P l)
Decides-any p P each [] = ((λ e. absurd (true≢false (sym e))), (λ some. absurd some.1))
Decides-any p P each (x ∷ xs) =
    Decides-like (p x || list_any p xs) (any_more P x xs) (any_fewer P x xs)
    (Decides-or (p x) (list_any p xs) (each x) (Decides-any p P each xs))

pub Decides-tautology : (lits : List ℤ) → Decides (list_any (λ literal. is_in lits (neg_ℤ literal)) lits) (IsTautology lits)
Decides-tautology lits =
    Decides-any (λ literal. is_in lits (neg_ℤ literal)) (λ literal. Has lits (neg_ℤ literal)) (λ literal. Decides-in lits (neg_ℤ literal))
    lits

pub Decides-over : (vars : ℕ) (lits : List ℤ) → Decides (are_over vars lits) (AllByRecursion (λ l. nat_abs l ≤ vars) lits)
Decides-over vars lits =
    Decides-all (λ l. nat_le (nat_abs l) vars) (λ l. nat_abs l ≤ vars) (λ l. Decides-le (nat_abs l) vars) lits

stream_is : (o : Owner) (s : ℕ) → Decides (is_stream o s) (o ≡ owners.Stream s)
stream_is owners.Formula s = ((λ e. absurd (true≢false (sym e))), (λ is. absurd (cc)))
stream_is (owners.Stream t) s = ((λ e. ap owners.Stream ((Decides-eqb t s).0 e)), (λ is. (Decides-eqb t s).1 (cc)))
stream_is owners.Outside s = ((λ e. absurd (true≢false (sym e))), (λ is. absurd (cc)))

pub Decides-owns : (layout : LayoutValue) (s id : ℕ) → Decides (owns layout s id) (Owns layout s id)
Decides-owns layout s id = stream_is (owner layout id) s

pub Decides-identity : (layout : LayoutValue) (id : ℕ) → Decides (nat_lt 0 id && nat_le id (last_identity layout)) (IsIdentity layout id)
Decides-identity layout id =
    Decides-and (nat_lt 0 id) (nat_le id (last_identity layout)) (Decides-ltb 0 id) (Decides-le id (last_identity layout))

pub Decides-same : (ls ks : List ℤ) → Decides (are_same ls ks) ((l : ℤ) → Has ls l ↔ Has ks l)
Decides-same ls ks =
    Decides-like (are_same ls ks)
    (λ two l. (All-Has (Has ks) ls l two.0, All-Has (Has ls) ks l two.1))
    (λ same. (All-from_Has (Has ks) ls (λ l h. (same l).0 h), All-from_Has (Has ls) ks (λ l h. (same l).1 h)))
    (Decides-and (list_all (is_in ks) ls) (list_all (is_in ls) ks)
    (Decides-all (is_in ks) (Has ks) (Decides-in ks) ls) (Decides-all (is_in ls) (Has ls) (Decides-in ls) ks))

-- Literals that pass a test

filter_by : (p : ℤ → Bool) (x : ℤ) (ls : List ℤ) (l : ℤ) (b : Bool) → (Has (filter p ls) l → Has ls l × (p l ≡ true)) → p x ≡ b
    → Has (if b then x ∷ filter p ls else filter p ls) l → Has (x ∷ ls) l × (p l ≡ true)
filter_by p x ls l true later is (inl same) = (inl same, subst (λ k. p k ≡ true) same is)
filter_by p x ls l true later is (inr there) = let rest = later there in (inr rest.0, rest.1)
filter_by p x ls l false later is there = let rest = later there in (inr rest.0, rest.1)

pub filter_has : (p : ℤ → Bool) (ls : List ℤ) (l : ℤ) → Has (filter p ls) l → Has ls l × (p l ≡ true)
filter_has p [] l h = absurd h
filter_has p (x ∷ ls) l h = filter_by p x ls l (p x) (filter_has p ls l) refl h

by_filter : (p : ℤ → Bool) (x : ℤ) (ls : List ℤ) (l : ℤ) (b : Bool) → (Has ls l → Has (filter p ls) l) → p l ≡ true → p x ≡ b
    → Has (x ∷ ls) l → Has (if b then x ∷ filter p ls else filter p ls) l
by_filter p x ls l true later is same (inl here) = inl here
by_filter p x ls l true later is same (inr there) = inr (later there)
by_filter p x ls l false later is same (inl here) = absurd (true≢false (sym is ∙ sym (ap p here) ∙ same))
by_filter p x ls l false later is same (inr there) = later there

pub has_filter : (p : ℤ → Bool) (ls : List ℤ) (l : ℤ) → Has ls l → p l ≡ true → Has (filter p ls) l
has_filter p [] l h is = absurd h
has_filter p (x ∷ ls) l h is = by_filter p x ls l (p x) (λ there. has_filter p ls l there is) is refl h
