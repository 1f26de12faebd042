use Rattle.std.proofs.Common.{◌∙◌, string_bytes, ap, arith}
use Rattle.run_files.proofs.WordLemmas.{read_more}
use Rattle.run_files.proofs.round_streams.words_of.Goals as goal

pub loop-argument-preserved : goal.loop-argument-preserved
loop-argument-preserved c =
    let now = c.loop-argument in
    let pushed = c.push_reserved.ensures in
    record {
      read = read_more (λ w. w.now) string_bytes now.words.items c.push_reserved.new.self.items c.as_str.result c.args.arguments.now
          now.argument-index _
          c.loop-argument-test.true pushed.items now.invariant.read (c.as_str.ensures.value ∙ ap string_bytes c.argument-item.is);
      count = omega (arith, pushed.len, now.invariant.count);
      room = omega (arith, pushed.capacity, now.invariant.room);
    }
