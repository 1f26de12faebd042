use Rattle.std.proofs.Common.{◌+◌, ◌++◌, ◌∙◌, ◌∷◌, [], drop, refl, rules, w64}
use Rattle.std.proofs.lemmas.Int.{to_z-of_z}
use Rattle.std.specs.Prelude.{FitsSigned, codes, pos}
use Rattle.lrup_text.specs.lemmas.WritingLemmas.{at_err, breaks_next, puts_all_next, puts_nothing, puts_then}
use Rattle.solve.specs.Printing.{room_after, values_text}
use Rattle.solve.proofs.ValueLemmas.{last_value, next_value}
use Rattle.solve.proofs.printing.put_values.Goals as goal

pub loop-literal-init : goal.loop-literal-init
loop-literal-init g c = record {
  running = c.requires;
  puts = ([], puts_nothing (g.O.Sink.written c.args.out.now) c.args.buffer.now, refl);
}

pub returns-in_err-put_value-clause-puts : goal.returns-in_err-put_value-clause-puts
returns-in_err-put_value-clause-puts g c =
    let all = c.args.literals.now in
    let i = c.loop-literal.literal-index in
    let room = c.loop-literal.room in
    let so_far = c.loop-literal.invariant.puts in
    let fits : FitsSigned w64 c.value.result = search rules in
    let same = to_z-of_z w64 c.value.result fits ∙ c.value.ensures.value in
    at_err c.from_residual.result _ _ c.from_residual.ensures.0
    (breaks_next so_far.1 c.in_err-put_value.ensures.puts (values_text (drop (i + 1) all ++ pos 0 ∷ []) (room_after room))
    (next_value all i c.literal-item.result _ room (room_after room) _ so_far.0 c.loop-literal-test.true c.literal-item.is same
    refl so_far.2))

pub loop-literal-preserved : goal.loop-literal-preserved
loop-literal-preserved g c =
    let all = c.args.literals.now in
    let i = c.loop-literal.literal-index in
    let room = c.loop-literal.room in
    let so_far = c.loop-literal.invariant.puts in
    let fits : FitsSigned w64 c.value.result = search rules in
    let same = to_z-of_z w64 c.value.result fits ∙ c.value.ensures.value in
    record {
      running = c.in_ok-put_value.ensures.failed;
      puts = (
        _,
        puts_then so_far.1 c.in_ok-put_value.ensures.puts,
        next_value all i c.literal-item.result _ room c.room_after-room.result _ so_far.0 c.loop-literal-test.true
            c.literal-item.is same c.room_after-room.ensures so_far.2,
      );
    }

pub returns-in_err-put_value-2-clause-puts : goal.returns-in_err-put_value-2-clause-puts
returns-in_err-put_value-2-clause-puts g c =
    let so_far = c.loop-literal.invariant.puts in
    at_err c.from_residual-in_err-put_value-2.result _ _ c.from_residual-in_err-put_value-2.ensures.0
    (breaks_next so_far.1 c.in_err-put_value-2.ensures.puts (codes "\n")
    (last_value c.args.literals.now c.loop-literal.literal-index c.loop-literal.room _ so_far.0 c.loop-literal-test.false so_far.2))

pub returns-clause-puts : goal.returns-clause-puts
returns-clause-puts g c =
    let so_far = c.loop-literal.invariant.puts in
    puts_all_next c.put.result _ _ _ (puts_then so_far.1 c.in_ok-put_value-2.ensures.puts) c.put.ensures.puts
    (last_value c.args.literals.now c.loop-literal.literal-index c.loop-literal.room _ so_far.0 c.loop-literal-test.false so_far.2)
