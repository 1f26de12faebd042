use Rattle.std.proofs.Common.{◌≡◌, ◌++◌, take}
use Rattle.idwords.specs.internal.Opening.{literal_words}
use Rattle.idwords.proofs.opening.add_literals.Given as goal

abbrev pub invariant-loop-i : goal.invariant-loop-i
invariant-loop-i l = l.words.items ≡ l.fn.words.items ++ literal_words (take l.i l.formula.clauses)
