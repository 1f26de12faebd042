use Rattle.std.proofs.Common.{◌≡◌, ◌+◌}
use Rattle.std.specs.Cow.{cow_value}
use Rattle.run_files.specs.Files.{StreamsOpened, effects_of}
use Rattle.command.specs.internal.RoundProgress.{RoundsSoFar}
use Rattle.command.proofs.rounds.check_rounds.Given as goal

abbrev pub invariant-loop-number : goal.invariant-loop-number
invariant-loop-number g l =
    record {
      so_far : (first : g.row.F.Denot)
          → StreamsOpened (effects_of g.F.Files g.F.Machine g.F.Input.Source g.F.Output.Sink) first l.course.line.now.streams
          l.fn.round.readers.items l.fn.files
          → RoundsSoFar (effects_of g.F.Files g.F.Machine g.F.Input.Source g.F.Output.Sink) l.course.line.now l.course.cube.now
          (cow_value l.fn.round.formula) first l.last l.next l.files;
      number : l.number ≡ l.last.number + 1;
    }
