use Rattle.std.proofs.Common.{◌↔◌, drop}
use Rattle.lrup_model.specs.Clause.{Has}
use Rattle.dimacs.proofs.open_clause.has.Given as goal

abbrev pub invariant-loop-m : goal.invariant-loop-m
invariant-loop-m l = Has l.literals l.l ↔ Has (drop l.m-index l.literals) l.l
