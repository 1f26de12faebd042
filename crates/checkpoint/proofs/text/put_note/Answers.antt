use Rattle.std.specs.Prelude.{codes}
use Rattle.std.specs.Fmt.{decimal}
use Rattle.lrup_text.specs.lemmas.WritingLemmas.{at_err, breaks_as, breaks_more, breaks_then, puts_nothing, puts_then, puts_all_next}
use Rattle.checkpoint.proofs.PrintLemmas.{note_none, note_some, puts_as}
use Rattle.checkpoint.proofs.text.put_note.Goals as goal

pub returns-then-id-place-clause-puts : goal.returns-then-id-place-clause-puts
returns-then-id-place-clause-puts g c =
    puts_as (puts_nothing (g.W.Sink.written c.args.sink.now) c.args.buffer.now) (note_none c.args.id c.args.place c.if-id-place.true)

pub returns-in_err-put-clause-puts : goal.returns-in_err-put-clause-puts
returns-in_err-put-clause-puts g c =
    let broken = breaks_more (breaks_more c.in_err-put.ensures.puts (decimal c.args.id)) (codes "\n") in
    at_err c.from_residual.result _ _ c.from_residual.ensures.0 (breaks_as broken (note_some c.args.id c.args.place c.if-id-place.false))

pub returns-in_err-put_number-clause-puts : goal.returns-in_err-put_number-clause-puts
returns-in_err-put_number-clause-puts g c =
    let broken = breaks_more (breaks_then c.in_ok-put.ensures.puts c.in_err-put_number.ensures.puts) (codes "\n") in
    at_err c.from_residual-in_err-put_number.result _ _ c.from_residual-in_err-put_number.ensures.0
    (breaks_as broken (note_some c.args.id c.args.place c.if-id-place.false))

pub returns-clause-puts : goal.returns-clause-puts
returns-clause-puts g c =
    let puts = puts_then c.in_ok-put.ensures.puts c.in_ok-put_number.ensures.puts in
    puts_all_next c.put-2.result _ _ _ puts c.put-2.ensures.puts (note_some c.args.id c.args.place c.if-id-place.false)
