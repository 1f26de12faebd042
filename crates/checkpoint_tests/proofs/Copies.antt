-- Many copies of one clip.
use Rattle.std.proofs.Common.{ℕ, zero, suc, replicate}
use Rattle.std.specs.List.{AllByRecursion}
use Rattle.lrup_model.specs.Clause.{Clause}
use Rattle.lrup_model.specs.CallerView.{CallerView, ClipValue, clip_clause}
use Rattle.checkpoint.specs.Live.{clauses_of, entries_of}

pub All-replicate : {X : Type 0} (P : X → Type 0) (n : ℕ) (x : X) → P x → AllByRecursion P (replicate n x)
All-replicate P zero x is = tt
All-replicate P (suc n) x is = (is, All-replicate P n x is)

pub All-clauses : (p : CallerView) (P : Clause → Type 0) (n : ℕ) (clip : ClipValue) → P (clip_clause p clip)
    → AllByRecursion P (clauses_of (entries_of p (replicate n clip)))
All-clauses p P zero clip is = tt
All-clauses p P (suc n) clip is = (is, All-clauses p P n clip is)
