-- Lemmas about cubes.
use Rattle.std.proofs.Common.{◌≡◌, ◌↔◌, neg_ℤ, [], ◌∷◌, refl, sym, subst}
use Rattle.lrup_model.specs.Literal.{IsLiteral}
use Rattle.lrup_model.specs.Clause.{Clause, Has}
use Rattle.lrup_model.specs.lemmas.ClauseLemmas.{All-Has}
use Rattle.lrup_model.specs.Entailment.{MakesTrue, Satisfies, IsDerived}
use Rattle.lrup_model.specs.lemmas.EntailmentLemmas.{not_both}
use Rattle.lrup_model.specs.Cube.{Within, CubeValue, IsUnsatisfiableUnder}
use Rattle.lrup_model.specs.Formula.{Cnf}

-- if a clause that follows from the formula is within the cube, no assignment satisfies both the
-- formula and the cube
pub within_refutes : (formula : Cnf) (clause : Clause) (cube : CubeValue)
    → IsDerived formula clause → Within clause cube → IsUnsatisfiableUnder formula cube
within_refutes f c cube derived within a sat holds =
    let some : Satisfies a c = derived.1.holds a sat in
    let complement : Has cube (neg_ℤ some.0) =
    All-Has (λ l. Has cube (neg_ℤ l)) c some.0 within some.1 in
    not_both a some.0 (All-Has (IsLiteral f.vars) c some.0 derived.0.literals some.1).0 some.2
    (All-Has (MakesTrue a) cube (neg_ℤ some.0) holds complement)

empty_only : (c : Clause) → Within c [] → c ≡ []
empty_only [] within = refl
empty_only (x ∷ c) within = absurd within.0

pub empty_cube_within : (c : Clause) → Within c [] ↔ (c ≡ [])
empty_cube_within c = (empty_only c, λ e. subst (λ (d : Clause). Within d []) (sym e) tt)
