-- Files that were opened one after the other.
use Rattle.std.proofs.Common.{arith, ◌≡◌, List, [], ◌∷◌, length, refl}
use Rattle.run_files.specs.Asked.{Text}
use Rattle.run_files.specs.Files.{AreOpened}

-- there are as many readers as paths
pub opened_count : {F R : Type 0} (opens : F → Text → R → F → Type 0) (first : F)
    (paths : List Text) (readers : List R) (after : F) → AreOpened opens first paths readers after
    → length readers ≡ length paths
opened_count opens first [] [] after all = refl
opened_count opens first [] (r ∷ rs) after all = absurd all
opened_count opens first (p ∷ ps) [] after all = absurd all
opened_count opens first (p ∷ ps) (r ∷ rs) after all =
    let rest = opened_count opens all.0 ps rs after all.2 in
    omega (arith, rest)
