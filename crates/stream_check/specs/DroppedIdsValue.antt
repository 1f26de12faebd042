-- What contracts see of the dropped identities (this project's own).
use Rattle.std.specs.Prelude.{ℕ, List}

-- the identities, and how many more fit before memory has to be allocated
pub record DroppedIdsValue : Type 0 where
  pub ids : List ℕ
  pub spare : ℕ
