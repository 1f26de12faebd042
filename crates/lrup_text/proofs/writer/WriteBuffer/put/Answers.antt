use Rattle.std.proofs.Common.{List, ℕ, ◌+◌, ◌++◌, drop, sym, ◌∙◌, ap}
use Rattle.std.proofs.lemmas.List.{take_more, take-append-drop}
use Rattle.lrup_text.specs.lemmas.WritingLemmas.{puts_next, breaks_next, at_err}
use Rattle.lrup_text.proofs.writer.WriteBuffer.put.Goals as goal

pub returns-in_err-put_byte-clause-puts : goal.returns-in_err-put_byte-clause-puts
returns-in_err-put_byte-clause-puts g c =
    let bytes : List ℕ = c.args.bytes.now in
    let k = c.loop-byte.byte-index in
    let more = take_more bytes k 0 c.loop-byte-test.true in
    at_err c.from_residual.result _ _ c.from_residual.ensures.0
    (breaks_next c.loop-byte.invariant.puts c.in_err-put_byte.ensures.puts (drop (k + 1) bytes)
    (sym (take-append-drop (k + 1) bytes) ∙ ap (λ t. t ++ drop (k + 1) bytes) more))

pub loop-byte-preserved : goal.loop-byte-preserved
loop-byte-preserved g c = record {
  running = c.in_ok-put_byte.ensures.failed;
  puts = puts_next c.loop-byte.invariant.puts c.in_ok-put_byte.ensures.puts
      (take_more c.args.bytes.now c.loop-byte.byte-index 0 c.loop-byte-test.true);
}
