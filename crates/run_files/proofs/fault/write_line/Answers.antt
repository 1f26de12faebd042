use Rattle.std.specs.Prelude.{codes}
use Rattle.lrup_text.specs.lemmas.WritingLemmas.{at_err, breaks_more, breaks_then, puts_then, writes_from_empty}
use Rattle.run_files.specs.internal.Reading.{cause_bytes}
use Rattle.run_files.specs.Faults.{of_round}
use Rattle.run_files.specs.lemmas.ListLemmas.{starts_empty}
use Rattle.run_files.proofs.fault.write_line.Goals as goal

pub returns-in_err-put-clause-text : goal.returns-in_err-put-clause-text
returns-in_err-put-clause-text g c =
    let cause = c.args.cause.now in
    let bytes = cause_bytes cause.text.now cause.number cause.rest.now in
    let broken = breaks_more (breaks_more (breaks_more c.in_err-put.ensures.puts (of_round c.args.round)) bytes) (codes "\n") in
    at_err c.from_residual.result _ _ c.from_residual.ensures.0
    (broken.went, broken.rest, starts_empty c.new-buffer.ensures broken.is, broken.appends)

pub returns-in_err-put_round-clause-text : goal.returns-in_err-put_round-clause-text
returns-in_err-put_round-clause-text g c =
    let cause = c.args.cause.now in
    let bytes = cause_bytes cause.text.now cause.number cause.rest.now in
    let broken = breaks_more (breaks_more (breaks_then c.in_ok-put.ensures.puts c.in_err-put_round.ensures.puts) bytes) (codes "\n") in
    at_err c.from_residual-in_err-put_round.result _ _ c.from_residual-in_err-put_round.ensures.0
    (broken.went, broken.rest, starts_empty c.new-buffer.ensures broken.is, broken.appends)

pub returns-in_err-put_cause-clause-text : goal.returns-in_err-put_cause-clause-text
returns-in_err-put_cause-clause-text g c =
    let puts = puts_then c.in_ok-put.ensures.puts c.in_ok-put_round.ensures.puts in
    let broken = breaks_more (breaks_then puts c.in_err-put_cause.ensures.puts) (codes "\n") in
    at_err c.from_residual-in_err-put_cause.result _ _ c.from_residual-in_err-put_cause.ensures.0
    (broken.went, broken.rest, starts_empty c.new-buffer.ensures broken.is, broken.appends)

pub returns-in_err-put-2-clause-text : goal.returns-in_err-put-2-clause-text
returns-in_err-put-2-clause-text g c =
    let puts = puts_then (puts_then c.in_ok-put.ensures.puts c.in_ok-put_round.ensures.puts) c.in_ok-put_cause.ensures.puts in
    let broken = breaks_then puts c.in_err-put-2.ensures.puts in
    at_err c.from_residual-in_err-put-2.result _ _ c.from_residual-in_err-put-2.ensures.0
    (broken.went, broken.rest, starts_empty c.new-buffer.ensures broken.is, broken.appends)

pub returns-clause-text : goal.returns-clause-text
returns-clause-text g c =
    let puts = puts_then (puts_then c.in_ok-put.ensures.puts c.in_ok-put_round.ensures.puts) c.in_ok-put_cause.ensures.puts in
    writes_from_empty c.flush.result _ c.new-buffer.ensures (puts_then puts c.in_ok-put-2.ensures.puts) c.flush.ensures.text
