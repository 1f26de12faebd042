use Rattle.std.proofs.Common.{◌≡◌, [], take, false}
use Rattle.lrup_text.specs.Writing.{Puts}
use Rattle.run_outcome.specs.ReportText.{stream_lines}
use Rattle.run_outcome.proofs.report_text.write_report.Given as goal

abbrev pub invariant-loop-i : goal.invariant-loop-i
invariant-loop-i g l =
    let written = g.W.Sink.written in
    record {
      running : g.W.Sink.has_failed l.sink ≡ false;
      puts : Puts (written l.fn.sink) (written l.sink) [] l.buffer (stream_lines 1 (take l.i l.reports));
    }
