use Rattle.std.proofs.Common.{◌≡◌, length}
use Rattle.lrup_model.specs.Event.{History}
use Rattle.lrup_model.specs.CallerView.{IsKnown}
use Rattle.lrup_model_tests.proofs.tests.reads_as.Given as goal

abbrev pub invariant-loop-k : goal.invariant-loop-k
invariant-loop-k g l = record {
  known : IsKnown (g.M.ClauseMap.caller_view l.desk) l.clip;
  len : l.clip.len ≡ length l.literals;
  moved : (es : History) × g.M.ClauseMap.moves l.fn.desk l.desk es;
}
