-- Lemmas about results (this project's own).
use Rattle.std.specs.Prelude.{Result, Ok, Err, IfErr, IsErrAnd}

-- a weaker fact about the error
pub if_err : {T E : Type 0} (r : Result T E) (P Q : E → Type 0) → ((e : E) → P e → Q e)
    → IfErr r P → IfErr r Q
if_err (Ok t) P Q follows known = tt
if_err (Err e) P Q follows known = follows e known

-- a weaker fact about the error of a result that is known to be an error
pub err_given : {T E : Type 0} (r : Result T E) (P Q : E → Type 0) → ((e : E) → P e → Q e)
    → IsErrAnd r P → IfErr r Q
err_given (Ok t) P Q follows known = tt
err_given (Err e) P Q follows known = follows e known
