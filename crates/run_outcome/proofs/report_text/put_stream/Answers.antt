use Rattle.std.specs.Prelude.{codes}
use Rattle.lrup_text.specs.lemmas.WritingLemmas.{at_err, breaks_as, breaks_more, breaks_then, puts_then, puts_all_next}
use Rattle.run_outcome.specs.ReportText.{ending_text}
use Rattle.run_outcome.proofs.ReportLines.{added_part, deleted_part, line_after-parts}
use Rattle.run_outcome.proofs.report_text.put_stream.Goals as goal

pub returns-in_err-put_numbered-clause-puts : goal.returns-in_err-put_numbered-clause-puts
returns-in_err-put_numbered-clause-puts g c =
    let r = c.args.report.now in
    let counts = breaks_more (breaks_more c.in_err-put_numbered.ensures.puts (added_part r)) (deleted_part r) in
    let broken = breaks_more (breaks_more counts (codes " deleted, ")) (ending_text r.ending) in
    at_err c.from_residual.result _ _ c.from_residual.ensures.0
    (breaks_as (breaks_more broken (codes "\n")) (line_after-parts c.args.words.now c.args.stream r))

pub returns-in_err-put_numbered-2-clause-puts : goal.returns-in_err-put_numbered-2-clause-puts
returns-in_err-put_numbered-2-clause-puts g c =
    let r = c.args.report.now in
    let counts = breaks_more (breaks_then c.in_ok-put_numbered.ensures.puts c.in_err-put_numbered-2.ensures.puts) (deleted_part r) in
    let broken = breaks_more (breaks_more counts (codes " deleted, ")) (ending_text r.ending) in
    at_err c.from_residual-in_err-put_numbered-2.result _ _ c.from_residual-in_err-put_numbered-2.ensures.0
    (breaks_as (breaks_more broken (codes "\n")) (line_after-parts c.args.words.now c.args.stream r))

pub returns-in_err-put_numbered-3-clause-puts : goal.returns-in_err-put_numbered-3-clause-puts
returns-in_err-put_numbered-3-clause-puts g c =
    let r = c.args.report.now in
    let puts = puts_then c.in_ok-put_numbered.ensures.puts c.in_ok-put_numbered-2.ensures.puts in
    let counts = breaks_then puts c.in_err-put_numbered-3.ensures.puts in
    let broken = breaks_more (breaks_more counts (codes " deleted, ")) (ending_text r.ending) in
    at_err c.from_residual-in_err-put_numbered-3.result _ _ c.from_residual-in_err-put_numbered-3.ensures.0
    (breaks_as (breaks_more broken (codes "\n")) (line_after-parts c.args.words.now c.args.stream r))

pub returns-in_err-put-clause-puts : goal.returns-in_err-put-clause-puts
returns-in_err-put-clause-puts g c =
    let r = c.args.report.now in
    let puts =
    puts_then (puts_then c.in_ok-put_numbered.ensures.puts c.in_ok-put_numbered-2.ensures.puts) c.in_ok-put_numbered-3.ensures.puts in
    let broken = breaks_more (breaks_then puts c.in_err-put.ensures.puts) (ending_text r.ending) in
    at_err c.from_residual-in_err-put.result _ _ c.from_residual-in_err-put.ensures.0
    (breaks_as (breaks_more broken (codes "\n")) (line_after-parts c.args.words.now c.args.stream r))

pub returns-in_err-put_ending-clause-puts : goal.returns-in_err-put_ending-clause-puts
returns-in_err-put_ending-clause-puts g c =
    let r = c.args.report.now in
    let counts =
    puts_then (puts_then c.in_ok-put_numbered.ensures.puts c.in_ok-put_numbered-2.ensures.puts) c.in_ok-put_numbered-3.ensures.puts in
    let broken = breaks_then (puts_then counts c.in_ok-put.ensures.puts) c.in_err-put_ending.ensures.puts in
    at_err c.from_residual-in_err-put_ending.result _ _ c.from_residual-in_err-put_ending.ensures.0
    (breaks_as (breaks_more broken (codes "\n")) (line_after-parts c.args.words.now c.args.stream r))

pub returns-clause-puts : goal.returns-clause-puts
returns-clause-puts g c =
    let counts =
    puts_then (puts_then c.in_ok-put_numbered.ensures.puts c.in_ok-put_numbered-2.ensures.puts) c.in_ok-put_numbered-3.ensures.puts in
    let puts = puts_then (puts_then counts c.in_ok-put.ensures.puts) c.in_ok-put_ending.ensures.puts in
    puts_all_next c.put-2.result _ _ _ puts c.put-2.ensures.puts (line_after-parts c.args.words.now c.args.stream c.args.report.now)
