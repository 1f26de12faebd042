use Rattle.std.proofs.Common.{◌++◌, take, ap, ◌∙◌, sym}
use Rattle.lrup_text.specs.lemmas.WritingLemmas.{at_err, breaks_as, breaks_next, breaks_then, puts_next, writes_all_next}
use Rattle.run_outcome.specs.ReportText.{stream_lines, verdict_line}
use Rattle.run_outcome.proofs.ReportLines.{lines_all, lines_more, lines_split}
use Rattle.run_outcome.proofs.report_text.write_report.Goals as goal

pub returns-in_err-put_stream-clause-text : goal.returns-in_err-put_stream-clause-text
returns-in_err-put_stream-clause-text g c =
    let split = lines_split c.args.reports.now c.args.verdict c.loop-i.i _ c.loop-i-test.true in
    let broken = breaks_next c.loop-i.invariant.puts c.in_err-put_stream.ensures.puts split.0 split.1 in
    at_err c.from_residual.result _ _ c.from_residual.ensures.0 (broken.went, broken.rest, broken.is, broken.appends)

pub loop-i-preserved : goal.loop-i-preserved
loop-i-preserved g c = record {
  running = c.in_ok-put_stream.ensures.failed;
  puts = puts_next c.loop-i.invariant.puts c.in_ok-put_stream.ensures.puts (lines_more c.args.reports.now c.loop-i.i _ c.loop-i-test.true);
}

pub returns-in_err-put-clause-text : goal.returns-in_err-put-clause-text
returns-in_err-put-clause-text g c =
    let text = ap (λ t. t ++ verdict_line c.args.verdict) (lines_all c.args.reports.now c.loop-i.i c.loop-i-test.false)
    ∙ ap (λ t. stream_lines 1 (take c.loop-i.i c.args.reports.now) ++ t) (sym c.verdict_text.ensures) in
    let broken = breaks_as (breaks_then c.loop-i.invariant.puts c.in_err-put.ensures.puts) text in
    at_err c.from_residual-in_err-put.result _ _ c.from_residual-in_err-put.ensures.0 (broken.went, broken.rest, broken.is, broken.appends)

pub returns-clause-text : goal.returns-clause-text
returns-clause-text g c =
    let text = ap (λ t. t ++ verdict_line c.args.verdict) (lines_all c.args.reports.now c.loop-i.i c.loop-i-test.false)
    ∙ ap (λ t. stream_lines 1 (take c.loop-i.i c.args.reports.now) ++ t) (sym c.verdict_text.ensures) in
    writes_all_next c.flush.result _ (puts_next c.loop-i.invariant.puts c.in_ok-put.ensures.puts text) c.flush.ensures.text
