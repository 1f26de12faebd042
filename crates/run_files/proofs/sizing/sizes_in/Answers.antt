use Rattle.std.proofs.Common.{arith, inr, length, subst, ℕ, ◌≡◌, ◌≤◌}
use Rattle.std.proofs.lemmas.List.{length-take-le}
use Rattle.lrup_text.specs.lemmas.ReadLemmas.{gave_more}
use Rattle.run_files.specs.Causes.{HasBrokenOff}
use Rattle.stream_check.specs.Readings.{readers_view}
use Rattle.run_files.proofs.ReadingLemmas.{consumed_begins, consumed_more}
use Rattle.run_files.proofs.sizing.sizes_in.Goals as goal

pub loop-buffer-preserved : goal.loop-buffer-preserved
loop-buffer-preserved g c =
    let read = c.in-Ok.ensures in
    let extended = c.in_ok-extend_from_slice.ensures in
    let given = length-take-le _ _ read.bound in
    let invariant = c.loop-buffer.invariant in
    record {
      gave = gave_more _ g.S.Source.reads _ _ _ _ _ _ _ invariant.gave read.reads (omega (arith, given, c.if-count-eq0.false))
          extended.items;
      consumes = consumed_more _ _ _ _ _ _ invariant.consumes read.bytes.0 extended.items;
      running = read.failed;
      count = omega (arith, given, extended.len, read.bound);
    }

-- a read failed
pub returns-in-Err-clause-cause : goal.returns-in-Err-clause-cause
returns-in-Err-clause-cause g c =
    let invariant = c.loop-buffer.invariant in
    let read = c.in-Err.ensures in
    let broken : HasBrokenOff (readers_view g.S.Source) c.args.source.now = record {
      bytes = c.loop-buffer.bytes.items;
      after = c.read.new.self;
      read = record { last = c.loop-buffer.source; given = invariant.gave; ends = (_, read.reads) };
      failed = read.failed;
      known = consumed_begins _ _ c.loop-buffer.bytes.items invariant.consumes;
    } in
    (broken, subst (λ (n : ℕ). n ≤ 64) c.loop-buffer.bytes.ok.0 invariant.count)

-- more bytes were read than a text of sizes can have
pub returns-clause-cause : goal.returns-clause-cause
returns-clause-cause g c =
    let now = c.loop-buffer in
    let count : length now.bytes.items ≡ 64 = omega (arith, now.invariant.count, now.bytes.ok.0, c.loop-buffer-test.false, c.len.ensures) in
    inr (now.bytes.items, now.source, now.invariant.gave, count, consumed_begins _ _ now.bytes.items now.invariant.consumes)
