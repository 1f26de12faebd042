use Rattle.std.proofs.Common.{◌∙◌, refl, sym, arith}
use Rattle.stream_check.proofs.stream_state.StreamState.drop_shared.Goals as goal

pub returns-then-has-clause-drops : goal.returns-then-has-clause-drops
returns-then-has-clause-drops c = rw (← c.self.view_is) (sym c.has.ensures ∙ c.if-has.true, refl, refl)

pub returns-then-has-clause-count : goal.returns-then-has-clause-count
returns-then-has-clause-count c = omega arith
