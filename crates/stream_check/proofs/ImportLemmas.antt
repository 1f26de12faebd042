-- An import's literals are compared with those of the clause that was found.
use Rattle.std.proofs.Common.{◌≡◌, ◌≤◌, ◌==◌, ◌∙◌, ℕ, ℤ, nat_abs, true, false, List, [], Ok, Err, inl, inr, refl, sym, ap, eq-eqb}
use Rattle.std.specs.Prelude.{◌↔◌}
use Rattle.std.specs.List.{AllByRecursion}
use Rattle.std.proofs.lemmas.Bool.{cond-true, cond-false, true≢false}
use Rattle.std.proofs.lemmas.Bool.Decides.{eqb_tells}
use Rattle.lrup_model.specs.Clause.{Clause, Has}
use Rattle.lrup_model.specs.Event.{History}
use Rattle.lrup_model.specs.Layout.{IsIdentity, Owns, owner}
use Rattle.lrup_model.specs.declared.layout.Owner.{Owner}
use Rattle.lrup_model.specs.declared.layout.Owner.TheVariants as owners
use Rattle.stream_check.specs.declared.fault.Fault.{Fault}
use Rattle.stream_check.specs.declared.fault.Fault.TheVariants as faults
use Rattle.stream_check.specs.declared.params.Ownership.TheVariants as ownerships
use Rattle.stream_check.specs.StreamParams.{StreamParams, ownership_of, is_shared}
use Rattle.stream_check.specs.StreamContext.{StreamContext}
use Rattle.stream_check.specs.Verdicts.{Good, Bad}
use Rattle.stream_check.specs.Lookup.{LooksUp}
use Rattle.stream_check.specs.Imports.{JudgesImport}
use Rattle.stream_check.specs.lemmas.AdditionLemmas.{one_found}
use Rattle.stream_check.proofs.AskLemmas.{ownership_for, inside_owner}
use Rattle.stream_check.proofs.DeletedLemmas.{identity_below}

-- What may be imported

-- the number is an identity, but not the stream's own
abbrev IsOthers : StreamParams → ℕ → Type 0
IsOthers c id = IsIdentity c.layout id × (¬ Owns c.layout c.stream id)

shared_others : (c : StreamParams) (id : ℕ) → is_shared (ownership_of c id) ≡ true → IsOthers c id
shared_others c id shared = (
  identity_below c.layout id (λ outside. true≢false (sym shared ∙ ap (λ (o : Owner). is_shared (ownership_for c.stream o)) outside)),
  (λ owns. true≢false (sym shared ∙ ap (λ (o : Owner). is_shared (ownership_for c.stream o)) owns
      ∙ ap is_shared (cond-true (c.stream == c.stream) ownerships.Own ownerships.Foreign (eq-eqb c.stream c.stream refl)))),
)

shared_for : (s : ℕ) (o : Owner) → (o ≡ owners.Outside → ⊥) → (o ≡ owners.Stream s → ⊥) → is_shared (ownership_for s o) ≡ true
shared_for s owners.Formula inside other = refl
shared_for s (owners.Stream t) inside other = elim (eqb_tells t s) [
  | inl same ↦ absurd (other (ap (λ (x : ℕ). owners.Stream x) same.1))
  | inr apart ↦ ap is_shared (cond-false (t == s) ownerships.Own ownerships.Foreign apart.0)
]
shared_for s owners.Outside inside other = absurd (inside refl)

others_shared : (c : StreamParams) (id : ℕ) → IsOthers c id → is_shared (ownership_of c id) ≡ true
others_shared c id others = shared_for c.stream (owner c.layout id) (inside_owner c.layout id others.0) others.1

-- Verdicts

module _ (c : StreamParams) (st : StreamContext) (id : ℕ) (lits : List ℤ) where
  pub bad_identity : is_shared (ownership_of c id) ≡ false → JudgesImport c st id lits [] (Bad 0 faults.Identity)
  bad_identity mine = (refl, inl ((λ others. true≢false (sym (others_shared c id others) ∙ mine)), refl, refl))

  module _ (shared : is_shared (ownership_of c id) ≡ true) where
    pub bad_literal : (AllByRecursion (λ l. nat_abs l ≤ c.layout.vars) lits → ⊥) → JudgesImport c st id lits [] (Bad 0 faults.Literal)
    bad_literal outside = (refl, inr (shared_others c id shared, inl (outside, refl, refl)))

    module _ (within : AllByRecursion (λ l. nat_abs l ≤ c.layout.vars) lits) (es : History) where
      pub import_unfound : (fault : Fault) → LooksUp c st.is_dropped id es (Err fault) → JudgesImport c st id lits es (Bad 0 fault)
      import_unfound fault looks = (refl, inr (shared_others c id shared, inr (within, inl looks)))

      pub import_differs : (d : Clause) → LooksUp c st.is_dropped id es (Ok d) → (((l : ℤ) → Has d l ↔ Has lits l) → ⊥)
          → JudgesImport c st id lits es (Bad 0 (faults.Differs id))
      import_differs d looks other = (refl, inr (shared_others c id shared, inr (within, inr (d, looks, other, refl))))

      pub import_same : (d : Clause) → LooksUp c st.is_dropped id es (Ok d) → ((l : ℤ) → Has d l ↔ Has lits l)
          → JudgesImport c st id lits es Good
      import_same d looks same = record {
        identity = (shared_others c id shared).0;
        other = (shared_others c id shared).1;
        literals = within;
        clause = d;
        named = one_found c st.is_dropped id d es looks;
        same = same;
      }
