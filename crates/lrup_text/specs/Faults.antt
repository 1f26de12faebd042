-- The faults of a text with which no line begins (this project's own).
use Rattle.std.specs.Prelude.{◌≡◌, ℕ, List, [], ◌∷◌, ◌++◌, true, false}
use Rattle.lrup_text.specs.declared.LineFault.{LineFault}
use Rattle.lrup_text.specs.declared.LineFault.TheVariants.{Spelling, TooLong, Truncated, RatHint}
use Rattle.lrup_text.specs.Grammar.{Begins, BeginsLifted}
use Rattle.lrup_text.specs.Lines.{IsPending}

-- the fault of a text with which no line begins
abbrev pub IsLineFaultOf : List ℕ → LineFault → Type 0
IsLineFaultOf bytes Spelling = ¬ BeginsLifted false bytes × ¬ BeginsLifted true bytes
IsLineFaultOf bytes TooLong = BeginsLifted false bytes
IsLineFaultOf bytes Truncated = ⊥
IsLineFaultOf bytes RatHint = ¬ BeginsLifted false bytes × BeginsLifted true bytes

-- No line begins with the text, which has this fault. Without its last byte, the text may still
-- become a line, and contains no whole line.
pub record IsRefused (bytes : List ℕ) (fault : LineFault) : Type 0 where
  pub read : List ℕ
  pub byte : ℕ
  pub is : bytes ≡ read ++ byte ∷ []
  pub before : IsPending read
  pub after : ¬ Begins bytes
  pub why : IsLineFaultOf bytes fault

-- the rest begins with a text that is refused with this fault
abbrev pub HasTextFault : List ℕ → LineFault → Type 0
HasTextFault rest fault = (bytes after : List ℕ) × (rest ≡ bytes ++ after) × IsRefused bytes fault
