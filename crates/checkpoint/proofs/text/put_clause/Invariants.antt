use Rattle.std.proofs.Common.{◌≡◌, ◌*◌, [], take, false}
use Rattle.lrup_model.specs.CallerView.{clip_clause}
use Rattle.lrup_text.specs.Writing.{Puts}
use Rattle.checkpoint.proofs.PrintLemmas.{literals_text}
use Rattle.checkpoint.proofs.text.put_clause.Given as goal

abbrev pub invariant-loop-i : goal.invariant-loop-i
invariant-loop-i g l =
    let place = g.M.ClauseMap.caller_view in
    let written = g.W.Sink.written in
    record {
      running : g.W.Sink.has_failed l.sink ≡ false;
      puts : Puts (written l.fn.sink) (written l.sink) l.fn.buffer l.buffer
          (literals_text (take (2 * l.i) (clip_clause (place l.fn.map) l.clip)));
      event : g.M.ClauseMap.moves l.fn.map l.map [];
      stays : place l.map ≡ place l.fn.map;
    }
