-- A hint is fetched, and fetched again while it is vacant.
use Rattle.std.proofs.Common.{◌≡◌, ◌∙◌, ◌+◌, ◌-◌, ◌%◌, ◌<◌, ◌≤◌, ◌==◌, ℕ, Bool, [], ◌∷◌, ◌++◌, nat_eq, nat_le, inl, inr, refl, sym, ap}
use Rattle.std.proofs.Common.{arith}
use Rattle.std.specs.Prelude.{replicate, if◌then◌else◌}
use Rattle.std.proofs.lemmas.Bool.{cond-true, cond-false, cases_Bool}
use Rattle.std.proofs.lemmas.Bool.Decides.{eqb_tells, leb_tells}
use Rattle.std.proofs.lemmas.List.{replicate-append-replicate}
use Rattle.lrup_model.specs.Layout.{LayoutValue, IsIdentity, last_identity, owner}
use Rattle.lrup_model.specs.declared.layout.Owner.{Owner}
use Rattle.lrup_model.specs.declared.layout.Owner.TheVariants as owners
use Rattle.lrup_model.specs.Event.{Event, History, Reply, vacant, fetch}
use Rattle.lrup_model.specs.CallerView.{CallerView, AllFollow}
use Rattle.lrup_model.specs.declared.clause_map.Fetched.{Fetched}
use Rattle.lrup_model.specs.declared.clause_map.Fetched.TheVariants as answers
use Rattle.lrup_model.specs.Replies.{reply_of, IsFetched}
use Rattle.stream_check.specs.internal.Checking.{Gives}
use Rattle.stream_check.specs.declared.params.Ownership.{Ownership}
use Rattle.stream_check.specs.declared.params.Ownership.TheVariants as ownerships
use Rattle.stream_check.specs.StreamParams.{StreamParams, ownership_of}
use Rattle.stream_check.specs.internal.CheckerInside.{tries_on}
use Rattle.stream_check.specs.Lookup.{FetchesUpTo, FetchesHintAt, FetchesHint}
use Rattle.stream_check.proofs.TryLemmas.{replicate-more}

-- Fetches after a vacant first one

pub again_found : (most k s id : ℕ) (r : Reply) → k < most → (r ≡ vacant → ⊥)
    → FetchesUpTo most s id (fetch s id vacant ∷ replicate k (fetch s id vacant) ++ fetch s id r ∷ []) r
again_found most k s id r below other = (
  1 + k,
  omega (arith, below),
  (λ e. absurd (other e)),
  ap (λ (es : History). es ++ fetch s id r ∷ []) (replicate-append-replicate 1 k (fetch s id vacant)),
)

first_last : (k : ℕ) (e : Event) → e ∷ replicate k e ≡ replicate k e ++ e ∷ []
first_last k e =
    let count : 1 + k ≡ k + 1 = omega arith in
    replicate-append-replicate 1 k e ∙ ap (λ (n : ℕ). replicate n e) count ∙ sym (replicate-more k e)

pub again_vacant : (most k s id : ℕ) → k ≤ most → most ≤ k
    → FetchesUpTo most s id (fetch s id vacant ∷ replicate k (fetch s id vacant)) vacant
again_vacant most k s id below all = (k, below, (λ e. omega (arith, below, all)), first_last k (fetch s id vacant))

-- The events of a hint

once : (s h : ℕ) (es : History) (r : Reply) → FetchesUpTo 0 s h es r → es ≡ fetch s h r ∷ []
once s h es r fetches =
    let none : fetches.0 ≡ 0 = omega (arith, fetches.1) in
    fetches.3 ∙ ap (λ (k : ℕ). replicate k (fetch s h vacant) ++ fetch s h r ∷ []) none

asks_at : (ownership : Ownership) (c : StreamParams) (h : ℕ) (es : History) (r : Reply) → (ownership ≡ ownerships.Outside → ⊥)
    → FetchesUpTo (tries_on ownership c.tries) c.stream h es r → FetchesHintAt ownership c h es r
asks_at ownerships.Formula c h es r inside fetches = once c.stream h es r fetches
asks_at ownerships.Own c h es r inside fetches = once c.stream h es r fetches
asks_at ownerships.Foreign c h es r inside fetches = fetches
asks_at ownerships.Outside c h es r inside fetches = absurd (inside refl)

-- what an identity with this owner is to stream s
abbrev pub ownership_for : ℕ → Owner → Ownership
ownership_for s o =
    elim o [
      | owners.Formula ↦ ownerships.Formula
      | owners.Stream t ↦ if t == s then ownerships.Own else ownerships.Foreign
      | owners.Outside ↦ ownerships.Outside
    ]

inside_side : (s : ℕ) (o : Owner) → (o ≡ owners.Outside → ⊥) → ownership_for s o ≡ ownerships.Outside → ⊥
inside_side s owners.Formula inside e = absurd (cc)
inside_side s (owners.Stream t) inside e = elim (cases_Bool (t == s)) [
  | inl same ↦ absurd (let f : ownerships.Own
      ≡ ownerships.Outside = sym (ap (λ (b : Bool). if b then ownerships.Own else ownerships.Foreign) same) ∙ e in cc)
  | inr other ↦
      absurd (let f : ownerships.Foreign
      ≡ ownerships.Outside = sym (ap (λ (b : Bool). if b then ownerships.Own else ownerships.Foreign) other) ∙ e in cc)
]
inside_side s owners.Outside inside e = inside refl

pub inside_owner : (p : LayoutValue) (id : ℕ) → IsIdentity p id → owner p id ≡ owners.Outside → ⊥
inside_owner p id is e = elim (eqb_tells id 0) [
  | inl zero ↦ absurd (omega (arith, zero.1, is.0))
  | inr some ↦ elim (leb_tells id p.clauses) [
    | inl low ↦ absurd (let f : owners.Formula ≡ owners.Outside =
        sym (cond-false (nat_eq id 0) owners.Outside _ some.0 ∙ cond-true (nat_le id p.clauses) owners.Formula _ low.0) ∙ e in cc)
    | inr high ↦ elim (leb_tells id (last_identity p)) [
      | inl within ↦ absurd (let f : owners.Stream ((id - p.clauses - 1) % p.streams + 1) ≡ owners.Outside =
          sym (cond-false (nat_eq id 0) owners.Outside _ some.0 ∙ cond-false (nat_le id p.clauses) owners.Formula _ high.0
          ∙ cond-true (nat_le id (last_identity p)) _ owners.Outside within.0) ∙ e in cc)
      | inr above ↦ absurd (omega (arith, above.1, is.1))
    ]
  ]
]

-- the fetches of an identity, repeated while it is vacant and tries are left, are those of a hint
pub asks_again : (c : StreamParams) (h s most : ℕ) (es : History) (r : Reply) → IsIdentity c.layout h → s ≡ c.stream
    → most ≡ tries_on (ownership_of c h) c.tries → FetchesUpTo most s h es r → FetchesHint c h es r
asks_again c h s most es r is stream tries fetches =
    asks_at (ownership_of c h) c h es r (inside_side c.stream (owner c.layout h) (inside_owner c.layout h is))
    (rw (tries, stream) at fetches)

-- a single fetch is enough for a hint if its reply isn't vacant
pub asks_once : (c : StreamParams) (h s : ℕ) (r : Reply) → IsIdentity c.layout h → s ≡ c.stream → (r ≡ vacant → ⊥)
    → FetchesHint c h (fetch s h r ∷ []) r
asks_once c h s r is stream other =
    asks_again c h s (tries_on (ownership_of c h) c.tries) (fetch s h r ∷ []) r is stream refl
    (0, omega arith, (λ e. absurd (other e)), refl)

outside_owner : (p : LayoutValue) (id : ℕ) → (IsIdentity p id → ⊥) → owner p id ≡ owners.Outside
outside_owner p id never = elim (eqb_tells id 0) [
  | inl zero ↦ cond-true (nat_eq id 0) owners.Outside _ zero.0
  | inr some ↦ elim (leb_tells id p.clauses) [
    | inl low ↦ absurd (never (omega (arith, some.1), omega (arith, low.1)))
    | inr high ↦ elim (leb_tells id (last_identity p)) [
      | inl within ↦ absurd (never (omega (arith, some.1), within.1))
      | inr above ↦ cond-false (nat_eq id 0) owners.Outside _ some.0 ∙ cond-false (nat_le id p.clauses) owners.Formula _ high.0
          ∙ cond-false (nat_le id (last_identity p)) _ owners.Outside above.0
    ]
  ]
]

-- for a number that isn't an identity there is no event
pub asks_nothing : (c : StreamParams) (h : ℕ) → (IsIdentity c.layout h → ⊥) → FetchesHint c h [] vacant
asks_nothing c h never = rw (ap (ownership_for c.stream) (outside_owner c.layout h never)) (refl, refl)

-- The reply to a fetch

pub not_vacant : (p : CallerView) (r : Fetched) → (r ≡ answers.Vacant → ⊥) → reply_of p r ≡ vacant → ⊥
not_vacant p answers.Vacant other e = other refl
not_vacant p (answers.Live clip) other e = absurd (cc)
not_vacant p answers.Retired other e = absurd (cc)

pub gives_of : (p : CallerView) (id : ℕ) (r : Fetched) → IsFetched p id r → AllFollow p
    → p.caller.formula.vars ≡ p.caller.layout.vars → Gives p r
gives_of p id answers.Vacant fetched follow variables = tt
gives_of p id (answers.Live clip) fetched follow variables = (fetched.1, follow, variables)
gives_of p id answers.Retired fetched follow variables = tt
