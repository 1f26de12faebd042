use Rattle.std.proofs.Common.{ℤ, List, MatchResult, length}
use Rattle.lrup_text.specs.internal.CubeReading.{AreKept, AreNotKept}
use Rattle.lrup_text.proofs.CubeReads.{LiteralsSoFar}
use Rattle.lrup_text.proofs.cube.read_cube_literals.Given as goal

abbrev pub invariant-loop-first : goal.invariant-loop-first
invariant-loop-first l = (literals : List ℤ) × LiteralsSoFar l.text literals l.count l.rest
    × MatchResult l.kept (λ kept. AreKept l.vars literals kept.items) (AreNotKept l.vars literals)

abbrev pub decreases-loop-first : goal.decreases-loop-first
decreases-loop-first l = length l.rest
