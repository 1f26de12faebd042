-- What is written to a sink, if its bytes are known, while some bytes are still held back.
use Rattle.std.specs.Prelude.{◌≡◌, List, ℕ, ◌++◌, Option, Result, MatchResult}
use Rattle.std.specs.Io.KnownBytes.{Appends}

-- Of the bytes held before and the new ones after them, a prefix was written, and the rest is held.
pub record Puts (before after : Option (List ℕ)) (held holds bytes : List ℕ) : Type 0 where
  pub went : List ℕ
  pub appends : Appends before after went
  pub is : held ++ bytes ≡ went ++ holds

-- Of the bytes held before and the new ones after them, a prefix was written.
pub record Breaks (before after : Option (List ℕ)) (held bytes : List ℕ) : Type 0 where
  pub went : List ℕ
  pub rest : List ℕ
  pub appends : Appends before after went
  pub is : held ++ bytes ≡ went ++ rest

-- the effect of a call that is to write bytes, and may fail
abbrev pub PutsAll : {E : Type 0} → Result (Unit {0}) E → Option (List ℕ) → Option (List ℕ) → List ℕ
    → List ℕ → List ℕ → Type 0
PutsAll result before after held holds bytes =
    MatchResult result (λ _. Puts before after held holds bytes)
    (λ _. Breaks before after held bytes)

-- a whole text was written, or, after a fault, a prefix of it
abbrev pub WritesText : {E : Type 0} → Result (Unit {0}) E → Option (List ℕ) → Option (List ℕ)
    → List ℕ → Type 0
WritesText result before after bytes =
    MatchResult result (λ _. Appends before after bytes) (λ _. (went rest : List ℕ)
    × (bytes ≡ went ++ rest) × Appends before after went)

-- the byte SP
abbrev pub space : ℕ
space = 32
