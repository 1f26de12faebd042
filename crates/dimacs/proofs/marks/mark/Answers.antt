use Rattle.std.proofs.Common.{◌/◌, ◌%◌, ℕ, ap, inl, inr, ⊎_elim, arith}
use Rattle.dimacs.proofs.SetLemmas.{IsMarked-set}
use Rattle.dimacs.proofs.marks.mark.Goals as goal

pub returns : goal.returns
returns c =
    λ p.
    let set = IsMarked-set c.args.words.now (c.args.place / 64) (c.args.place % 64) p (omega arith) (omega arith) in (
      λ yes. ⊎_elim (λ old. inl old) (λ both. inr (omega (arith, both.0, both.1))) (set.0 yes),
      λ which. set.1 (⊎_elim (λ old. inl old) (λ e. inr (ap (λ (m : ℕ). m / 64) e, ap (λ (m : ℕ). m % 64) e)) which),
    )
