-- What makes an import valid, and how imports are judged (this project's own).
use Rattle.std.specs.Prelude.{◌≡◌, ◌≤◌, ◌↔◌, ◌⊎◌, ℕ, ℤ, nat_abs, List, [], ◌∷◌, Ok, Err}
use Rattle.std.specs.List.{AllByRecursion}
use Rattle.lrup_model.specs.Clause.{Clause, Has}
use Rattle.lrup_model.specs.Layout.{LayoutValue, IsIdentity, Owns}
use Rattle.lrup_model.specs.Event.{History}
use Rattle.stream_check.specs.declared.fault.Fault.TheVariants as faults
use Rattle.stream_check.specs.StreamParams.{StreamParams}
use Rattle.stream_check.specs.StreamContext.{StreamContext}
use Rattle.stream_check.specs.Verdicts.{LineVerdict, Good, Bad, Violates}
use Rattle.stream_check.specs.Lookup.{AreFound, LooksUp}

-- An import is valid: its number is an identity, but not the stream's own; its literals are over
-- the variables; and they are the literals of the clause that its identity names, in any order,
-- each of them one or more times.
pub record IsValidImport (layout : LayoutValue) (stream : ℕ)
    (Names : List ℕ → List Clause → Type 0) (id : ℕ) (lits : List ℤ) : Type 0 where
  pub identity : IsIdentity layout id
  pub other : ¬ Owns layout stream id
  pub literals : AllByRecursion (λ l. nat_abs l ≤ layout.vars) lits
  pub clause : Clause
  pub named : Names (id ∷ []) (clause ∷ [])
  pub same : (l : ℤ) → Has clause l ↔ Has lits l

-- An import's events and its verdict, after lines that left this context: the import is valid with
-- the clause that its events find; or the first condition that the import violates gives the fault.
abbrev pub JudgesImport : StreamParams → StreamContext → ℕ → List ℤ → History → LineVerdict → Type 0
JudgesImport params context id lits history Good =
    IsValidImport params.layout params.stream
    (λ ids clauses. AreFound params context.is_dropped ids clauses history) id lits
JudgesImport params context id lits history (Bad deleted fault) =
    (deleted ≡ 0)
    × Violates (IsIdentity params.layout id × (¬ Owns params.layout params.stream id))
    faults.Identity history fault
    (Violates (AllByRecursion (λ l. nat_abs l ≤ params.layout.vars) lits)
    faults.Literal history fault
    (LooksUp params context.is_dropped id history (Err fault)
    ⊎ ((clause : Clause) × LooksUp params context.is_dropped id history (Ok clause)
    × (¬ ((l : ℤ) → Has clause l ↔ Has lits l)) × (fault ≡ faults.Differs id))))
