-- Lemmas about who owns an identity.
use Rattle.std.proofs.Common.{◌≡◌, ℕ, ◌+◌, ◌-◌, ◌%◌, ◌<◌, ◌≤◌, Bool, true, false, cond, eqb, leb, refl, arith}
use Rattle.std.proofs.lemmas.Bool.{leb-true, leb-false}
use Rattle.lrup_model.specs.Layout.{LayoutValue, last_identity, Owns}
use Rattle.lrup_model.specs.declared.layout.Owner.TheVariants as owners

pub record IsOwned (p : LayoutValue) (s id : ℕ) : Type 0 where
  pub derived : p.clauses < id
  pub identity : id ≤ last_identity p
  pub first : 0 < s
  pub last : s ≤ p.streams

picked : (a b c : Bool) (s t : ℕ)
    → cond a owners.Outside (cond b owners.Formula (cond c (owners.Stream t) owners.Outside))
    ≡ owners.Stream s
    → (b ≡ false) × (c ≡ true) × (t ≡ s)
picked true b c s t h = absurd (cc)
picked false true c s t h = absurd (cc)
picked false false true s t h = (refl, refl, cc)
picked false false false s t h = absurd (cc)

pub owned : (p : LayoutValue) (s id : ℕ) → 0 < p.streams → Owns p s id → IsOwned p s id
owned p s id some h =
    let cut = picked (eqb id 0) (leb id p.clauses) (leb id (last_identity p)) s ((id - p.clauses - 1) % p.streams + 1) h in
    let above : p.clauses < id = leb-false id p.clauses cut.0 in
    let below : id ≤ last_identity p = leb-true id (last_identity p) cut.1 in
    record { derived = above; identity = below; first = omega (arith, cut.2); last = omega (arith, cut.2) }
