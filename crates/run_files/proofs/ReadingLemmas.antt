-- Reads of a file, one after another.
use Rattle.std.proofs.Common.{◌≡◌, ◌∙◌, ◌++◌, ℕ, List, Option, Some, None, subst, sym}
use Rattle.std.proofs.KnownBytes.{Consumes-trans}
use Rattle.std.specs.Io.KnownBytes.{Consumes}
use Rattle.std.specs.Option.{ForSome}

-- one more read consumes the bytes after those that have been consumed
pub consumed_more : (first mid last : Option (List ℕ)) (before piece after : List ℕ)
    → Consumes first mid before → Consumes mid last piece → after ≡ before ++ piece → Consumes first last after
consumed_more first mid last before piece after consumed read is =
    subst (Consumes first last) (sym is) (Consumes-trans first mid last before piece consumed read)

-- what was consumed is a prefix of what was left
pub consumed_begins : (first last : Option (List ℕ)) (bytes : List ℕ) → Consumes first last bytes
    → ForSome first (λ all. (rest : List ℕ) × (all ≡ bytes ++ rest))
consumed_begins None last bytes consumed all is = cc
consumed_begins (Some xs) None bytes consumed all is = absurd consumed
consumed_begins (Some xs) (Some rest) bytes consumed all is = let same : all ≡ xs = cc in (rest, same ∙ consumed)
