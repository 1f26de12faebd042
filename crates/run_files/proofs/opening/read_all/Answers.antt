use Rattle.std.proofs.Common.{arith, ◌≡◌, ℕ, List, None, rules, subst, sym, true}
use Rattle.std.specs.Io.KnownBytes.{Consumes}
use Rattle.std.proofs.lemmas.List.{length-take-le}
use Rattle.lrup_text.specs.lemmas.ReadLemmas.{gave_more}
use Rattle.lrup_text.specs.ReadOut.{SourceView}
use Rattle.lrup_text.specs.Reads.{Gave}
use Rattle.run_files.specs.Causes.{HasBrokenOff}
use Rattle.run_files.specs.internal.Reading.{IsFailedRead}
use Rattle.stream_check.specs.Readings.{readers_view}
use Rattle.run_files.specs.declared.fault.CommandFault.{CommandFault}
use Rattle.run_files.specs.declared.fault.CommandFault.TheVariants as faults
use Rattle.run_files.specs.lemmas.ResultLemmas.{err_given}
use Rattle.run_files.proofs.ReadingLemmas.{consumed_begins, consumed_more}
use Rattle.run_files.proofs.opening.read_all.Goals as goal

pub loop-preserved : goal.loop-preserved
loop-preserved g c =
    let read = c.in_ok-count.ensures in
    let items = c.in_ok-extend_from_slice.ensures.items in
    let given = length-take-le _ _ read.bound in
    record {
      gave = gave_more _ g.S.Source.reads _ _ _ _ _ _ _ c.loop.invariant.gave read.reads (omega (arith, given, c.if-count-eq0.false)) items;
      consumes = consumed_more _ _ _ _ _ _ c.loop.invariant.consumes read.bytes.0 items;
      running = read.failed;
      piece = search rules;
    }

-- why the source wasn't read to its end
broken_off : (R : Type 0) (reading : SourceView R) (first last after : R) (bytes : List ℕ) (room : ℕ) (fault : CommandFault)
    → Gave R reading.reads first bytes last → Consumes (reading.left first) (reading.left last) bytes → reading.reads last room None after
    → reading.has_failed after ≡ true → fault ≡ faults.Unread → IsFailedRead reading first fault
broken_off R reading first last after bytes room fault gave consumed read failed is =
    let broken : HasBrokenOff reading first = record {
      bytes = bytes;
      after = after;
      read = record { last = last; given = gave; ends = (room, read) };
      failed = failed;
      known = consumed_begins _ _ bytes consumed;
    } in
    subst (IsFailedRead reading first) (sym is) broken

pub returns-in_err-count-clause-fault : goal.returns-in_err-count-clause-fault
returns-in_err-count-clause-fault g c =
    let reading = readers_view g.S.Source in
    let read = c.in_err-count.ensures in
    err_given c.from_residual-in_err-count.result _ (IsFailedRead reading c.args.source.now)
    (λ fault is. broken_off _ reading _ _ _ _ _ fault c.loop.invariant.gave c.loop.invariant.consumes read.reads read.failed is)
    c.from_residual-in_err-count.ensures.1
