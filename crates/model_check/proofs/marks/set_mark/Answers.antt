use Rattle.std.proofs.Common.{◌++◌, ◌∷◌, [], ℕ, true, set, sym, subst}
use Rattle.model_check.specs.internal.Marks.{AreMarked}
use Rattle.model_check.proofs.MarkLemmas.{one_more}
use Rattle.model_check.proofs.marks.set_mark.Goals as goal

pub returns : goal.returns
returns c =
    λ literals marked.
    subst (λ (k : ℕ). AreMarked (set c.args.marks.now k true) (literals ++ c.args.l ∷ [])) (sym c.code.ensures.code)
    (one_more c.args.marks.now literals c.args.l c.requires marked)
