use Rattle.std.proofs.Common.{◌≡◌, [], false}
use Rattle.lrup_text.specs.Writing.{Puts}
use Rattle.checkpoint.specs.Live.{entry_of}
use Rattle.checkpoint.proofs.PrintLemmas.{header_entries}
use Rattle.checkpoint.proofs.text.write_formula.Given as goal

abbrev pub invariant-loop-before : goal.invariant-loop-before
invariant-loop-before g l =
    let place = g.M.ClauseMap.caller_view in
    let written = g.W.Sink.written in
    record {
      running : g.W.Sink.has_failed l.sink ≡ false;
      puts : Puts (written l.fn.sink) (written l.sink) [] l.buffer (header_entries l.vars (entry_of (place l.fn.map)) l.clips l.before);
      event : g.M.ClauseMap.moves l.fn.map l.map [];
      stays : place l.map ≡ place l.fn.map;
    }
