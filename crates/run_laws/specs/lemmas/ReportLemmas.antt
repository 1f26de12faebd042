-- One stream as a set.
use Rattle.std.proofs.Common.{◌≡◌, ℕ, true, false, sym, ◌∙◌, inl, inr}
use Rattle.std.specs.Prelude.{IsTrue}
use Rattle.std.proofs.lemmas.Bool.Decides.{eqb_tells}
use Rattle.run_laws.specs.Groups.{one}

pub only : (s t : ℕ) → IsTrue (one s t) → t ≡ s
only s t member = elim (eqb_tells t s) [ inl same ↦ same.1 | inr other ↦ absurd (let no : true ≡ false = sym member ∙ other.0 in cc) ]
