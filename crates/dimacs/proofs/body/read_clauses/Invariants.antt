use Rattle.std.proofs.Common.{length}
use Rattle.dimacs.specs.internal.Places.{tokens_at}
use Rattle.dimacs.proofs.BuildLemmas.{Reads}
use Rattle.dimacs.proofs.body.read_clauses.Given as goal

abbrev pub invariant-loop-builder : goal.invariant-loop-builder
invariant-loop-builder l =
    Reads l.header (tokens_at l.initial.tokens.line l.initial.tokens.rest.now) (tokens_at l.tokens.line l.tokens.rest.now) l.builder

abbrev pub decreases-loop-builder : goal.decreases-loop-builder
decreases-loop-builder l = length (tokens_at l.tokens.line l.tokens.rest.now)
