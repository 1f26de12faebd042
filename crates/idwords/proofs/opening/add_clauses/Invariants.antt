use Rattle.std.proofs.Common.{◌≡◌, ◌+◌, ◌++◌, take}
use Rattle.idwords.specs.internal.Opening.{clause_words}
use Rattle.idwords.proofs.OpeningLemmas.{words_in}
use Rattle.idwords.proofs.opening.add_clauses.Given as goal

abbrev pub invariant-loop-i : goal.invariant-loop-i
invariant-loop-i l = record {
  words : l.words.items ≡ l.fn.words.items ++ clause_words l.first (take l.i l.formula.clauses);
  start : l.start ≡ l.first + words_in (take l.i l.formula.clauses);
}
