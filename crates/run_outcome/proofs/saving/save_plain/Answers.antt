use Rattle.std.proofs.Common.{subst}
use Rattle.std.specs.List.{AllByRecursion}
use Rattle.lrup_model.specs.Desk.{map_of, stream_at}
use Rattle.lrup_model.specs.Layout.{LayoutValue}
use Rattle.lrup_model.specs.Plain.{Plain, formula_of, plain_state}
use Rattle.lrup_model.specs.State.{Answers}
use Rattle.lrup_model.specs.declared.plain_map.PlainDesk.{PlainDesk}
use Rattle.checkpoint.specs.Live.{fetches}
use Rattle.run_outcome.specs.Saving.{is_wanted}
use Rattle.run_outcome.proofs.SavingLemmas.{SavesFound, fetches_answer}
use Rattle.run_outcome.proofs.saving.save_plain.Goals as goal

-- the map answered the fetches one after the other, and the fetches didn't change it
pub returns-clause-saves : goal.returns-clause-saves
returns-clause-saves g c =
    let desk : PlainDesk = c.desk-desk.result in
    let saved = c.save.ensures.saves in
    record {
      replies = saved.0;
      answers = λ t. subst (λ (m : Plain). AllByRecursion (Answers (plain_state m)) (fetches t 1 saved.0)) c.desk-desk.ensures.map_now
          (fetches_answer (formula_of (map_of desk)) (map_of desk).layout (plain_state (map_of desk))
          (stream_at desk) saved.0 saved.1.moves.answers t);
      saves = subst (λ (p : LayoutValue). SavesFound g.W.Sink.written c.save.result p
          (is_wanted c.args.dropped.now) saved.0 c.args.sink.now c.save.new.sink)
          c.layout.ensures (saved.2, saved.3);
    }
