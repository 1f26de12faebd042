use Rattle.std.proofs.Common.{◌≡◌, length, true}
use Rattle.lrup_model.specs.Event.{History}
use Rattle.stream_check.specs.StreamContext.{is_among}
use Rattle.stream_check.specs.internal.Checking.{KeepsClause}
use Rattle.stream_check.proofs.TryLemmas.{HasLed}
use Rattle.stream_check.proofs.hints.try_hints.Given as goal

abbrev pub invariant-hints : goal.invariant-hints
invariant-hints g l =
    let f = (g.M.ClauseMap.caller_view l.initial.map).caller.formula in
    record {
      ready : l.marks.ready ≡ true;
      kept : KeepsClause l.initial.marks l.marks;
      led : (es : History) × g.M.ClauseMap.moves l.initial.map l.map es
          × HasLed l.state.params (is_among l.state.dropped.ids) f l.initial.marks.falses l.hints l.marks.falses l.left es;
    }

abbrev pub decreases-hints : goal.decreases-hints
decreases-hints g l = length l.left
