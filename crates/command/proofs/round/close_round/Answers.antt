use Rattle.std.proofs.Common.{None, ◌≡◌, ◌+◌, true}
use Rattle.run_files.specs.Asked.{created_path}
use Rattle.run_files.specs.Files.{effects_of}
use Rattle.run_files.specs.Paths.{formula_path}
use Rattle.run_files.specs.Saving.{ClosesCheckpoint, SavesCheckpoint}
use Rattle.command.specs.lemmas.SavedLemmas.{created_in}
use Rattle.command.proofs.CheckingLemmas.{some_given}
use Rattle.command.proofs.RoundLemmas.{barred_by, folder_of}
use Rattle.command.proofs.SavingLemmas.{creates_some, leaves_at_path, left_moved}
use Rattle.command.proofs.round.close_round.Goals as goal

pub returns-clause-found : goal.returns-clause-found
returns-clause-found g c f readers before count result_is created =
    let its = effects_of g.F.Files g.F.Machine g.F.Input.Source g.F.Output.Sink in
    let line = c.args.course.now.line.now in
    let run = c.args.run in
    let mid = c.args.files.now in
    let path = created_path line.next c.args.number in
    let output = c.args.output in
    let closed = c.close_checkpoint-closed in
    let after = closed.new.files in
    let h = result_is.checked.ran.run.history in
    let may = c.may_continue-goes_on.ensures in
    record {
      was = record {
        count = count;
        checked = result_is.checked;
        leaves = leaves_at_path its _ run.verdict before mid after path output closed.result.unsaved closed.result.next created
            (left_moved result_is (λ p dropped. ClosesCheckpoint its (SavesCheckpoint its f p h dropped) run.verdict mid output
            closed.result.unsaved closed.result.next after) (rw c.deref-2.ensures.value at (closed.ensures.closes f h result_is.has)));
      };
      goes_on = λ next is.
          let on = may.0 (some_given (λ _. c.may_continue-goes_on.result ≡ true) is closed.ensures.asked) in
          let folder = folder_of line.next on.0 in
          record {
            folder = folder.0;
            asked = folder.1;
            verdict = on.1.0;
            ended = rw c.deref.ensures.value at on.1.1;
            unsaved = some_given (λ _. closed.result.unsaved ≡ None) is closed.ensures.saved;
            next_is = is;
          };
      finished = λ none. rw c.deref.ensures.value at
          (barred_by line.next run.verdict closed.result.unsaved _ c.may_continue-goes_on.result may
          (λ folder asked goes_on. closed.ensures.none
          (creates_some its before mid path output (formula_path folder (c.args.number + 1)) created
          (created_in line.next folder c.args.number asked)) goes_on none));
    }
