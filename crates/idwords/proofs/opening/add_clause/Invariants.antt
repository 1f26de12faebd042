use Rattle.std.proofs.Common.{◌≡◌, ◌++◌, length}
use Rattle.idwords.specs.internal.RowWords.{packed}
use Rattle.idwords.proofs.opening.add_clause.Given as goal

abbrev pub invariant-pairs : goal.invariant-pairs
invariant-pairs l = l.words.items ++ packed l.left ≡ l.fn.words.items ++ packed l.clause

abbrev pub decreases-pairs : goal.decreases-pairs
decreases-pairs l = length l.left
