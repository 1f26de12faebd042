use Rattle.std.proofs.Common.{◌≡◌, ℕ, ℤ, false, true, take, get_or}
use Rattle.lrup_model.specs.Clause.{Has}
use Rattle.lrup_model.specs.Literal.{code_of}
use Rattle.propagate.proofs.trail.unmark.Given as goal

abbrev pub invariant-loop-lit : goal.invariant-loop-lit
invariant-loop-lit l = record {
  cleared : (x : ℤ) → Has (take l.lit-index l.literals) x → get_or l.marks (code_of x) false ≡ false;
  others : (k : ℕ) → get_or l.marks k false ≡ true → get_or l.fn.marks k false ≡ true;
}
