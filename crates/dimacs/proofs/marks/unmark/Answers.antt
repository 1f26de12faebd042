use Rattle.std.proofs.Common.{◌/◌, ◌%◌, ℕ, ap, arith}
use Rattle.dimacs.proofs.SetLemmas.{IsMarked-cleared}
use Rattle.dimacs.proofs.marks.unmark.Goals as goal

pub returns : goal.returns
returns c =
    λ p.
    let cleared = IsMarked-cleared c.args.words.now (c.args.place / 64) (c.args.place % 64) p (omega arith) (omega arith) in (
      λ yes. let old = cleared.0 yes in (old.0, λ e. old.1 (ap (λ (m : ℕ). m / 64) e, ap (λ (m : ℕ). m % 64) e)),
      λ both. cleared.1 (both.0, λ same. both.1 (omega (arith, same.0, same.1))),
    )
