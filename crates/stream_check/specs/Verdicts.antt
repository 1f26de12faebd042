-- The verdict on a line, and its fault (this project's own). A line's events are one block. Each
-- condition covers all events from its test on, so that nothing can come after a fault.
use Rattle.std.specs.Prelude.{◌≡◌, ◌⊎◌, ℕ, []}
use Rattle.lrup_model.specs.Event.{History}
use Rattle.stream_check.specs.declared.fault.Fault.{Fault}

-- for a bad line: how many identities the line deleted before the fault, and the fault
pub data LineVerdict : Type 0 where
  Good : LineVerdict
  Bad : (deleted : ℕ) (fault : Fault) → LineVerdict

-- there are no further events, and the line has this fault, after deleting this many identities
abbrev pub Fails : ℕ → Fault → History → LineVerdict → Type 0
Fails deleted fault history verdict = (history ≡ []) × (verdict ≡ Bad deleted fault)

-- The first condition that a line violates gives the fault. Either this condition is violated, and
-- there are no further events; or it holds, and the later conditions decide.
abbrev pub Violates : Type 0 → Fault → History → Fault → Type 0 → Type 0
Violates Holds its history fault Next =
    ((¬ Holds) × (history ≡ []) × (fault ≡ its)) ⊎ (Holds × Next)
