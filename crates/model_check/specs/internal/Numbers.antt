-- What a reader keeps of the number that a token spells.
use Rattle.std.specs.Prelude.{◌≡◌, ◌⊎◌, ◌<◌, ℕ, ℤ, pos, neg_ℤ, Bool, if◌then◌else◌}
use Rattle.lrup_model.specs.Literal.{max_variable}

-- the number itself; or, for a number above every variable, some number above every variable
abbrev pub IsCapped : ℕ → ℕ → Type 0
IsCapped kept number = (kept ≡ number) ⊎ ((max_variable < kept) × (max_variable < number))

-- the number of this magnitude and sign
abbrev pub signed : Bool → ℕ → ℤ
signed negative magnitude = if negative then neg_ℤ (pos magnitude) else pos magnitude
