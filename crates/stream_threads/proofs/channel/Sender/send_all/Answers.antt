use Rattle.std.proofs.Common.{arith, rules}
use Rattle.std.proofs.KnownBytes.{Consumes-kept, Consumes-trans}
use Rattle.std.proofs.lemmas.Grind.{common_steps}
use Rattle.std.proofs.lemmas.List.{length-take-le}
use Rattle.lrup_text.specs.lemmas.ReadLemmas.{gave_more}
use Rattle.rtrb.specs.Ring.{sent}
use Rattle.lrup_text.specs.declared.device.StreamEnd.TheVariants as stream_ends
use Rattle.stream_threads.proofs.channel.Sender.send_all.Goals as goal

pub loop-preserved : goal.loop-preserved
loop-preserved g c =
    let read = c.in-Ok.ensures in
    let given = length-take-le _ _ read.bound in
    let test = c.in-Ok.count-test in
    record {
      next = (tt, tt);
      ring = search rules;
      working = read.failed;
      room = search rules;
      small = grind (arith, common_steps);
      known = rw c.push_bytes.ensures.sent (Consumes-trans _ _ _ _ _ c.loop.invariant.known read.bytes.0);
      gave = gave_more _ g.R.Source.reads _ _ _ _ _ _ _ c.loop.invariant.gave read.reads (omega (arith, given)) c.push_bytes.ensures.sent;
    }

pub returns-in-Err-clause-sent : goal.returns-in-Err-clause-sent
returns-in-Err-clause-sent g c = record {
  bytes = sent c.loop.self.producer;
  end = stream_ends.Failed;
  known = Consumes-kept _ _ _ _ c.loop.invariant.known c.in-Err.ensures.bytes;
  ends = c.in-Err.ensures.failed;
  read = record { last = c.loop.reader; given = c.loop.invariant.gave; ends = (_, c.in-Err.ensures.reads) };
  sent = record { small = c.loop.invariant.small; items_are = c.push_all-in-Err.ensures.sent };
}
