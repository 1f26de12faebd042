use Rattle.std.proofs.Common.{◌≡◌, ◌%◌, ◌++◌, length}
use Rattle.clause_store.proofs.store.Store.publish.Given as goal

abbrev pub invariant-pairs : goal.invariant-pairs
invariant-pairs l =
    let now = l.pass-inside.seat in record {
      seat : now ≡ record l.initial.pass-inside.seat { draft = now.draft };
      draft : now.draft ++ l.left ≡ l.initial.left;
      even : length now.draft % 2 ≡ 0;
      stream : l.pass-inside.stream ≡ l.initial.pass-inside.stream;
    }

abbrev pub decreases-pairs : goal.decreases-pairs
decreases-pairs l = length l.left
