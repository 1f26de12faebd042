use Rattle.std.proofs.Common.{◌≡◌, ◌≤◌, length}
use Rattle.dimacs.specs.internal.Places.{lines_at_start}
use Rattle.dimacs.proofs.tokens.Tokens.skip_comments.Given as goal

abbrev pub invariant-loop-first : goal.invariant-loop-first
invariant-loop-first l = record {
  same : lines_at_start l.self.line l.self.rest.now ≡ lines_at_start l.initial.self.line l.initial.self.rest.now;
  shorter : length l.self.rest.now ≤ length l.initial.self.rest.now;
}

abbrev pub decreases-loop-first : goal.decreases-loop-first
decreases-loop-first l = length l.self.rest.now
