-- Lemmas about results (this project's own).
use Rattle.std.specs.Prelude.{Result, Ok, Err}
use Rattle.std.specs.Result.{IfOk}

-- if A and B hold for an `Ok` value and together imply C, then C holds for the value
pub if_both : {T E : Type 0} {A B C : T → Type 0} (result : Result T E) → IfOk result A
    → IfOk result B → ((x : T) → A x → B x → C x) → IfOk result C
if_both (Ok x) a b gives = gives x a b
if_both (Err e) a b gives = tt
