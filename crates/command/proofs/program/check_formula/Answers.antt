use Rattle.std.proofs.Common.{◌∙◌, ℕ, List, Option, ap, inl, inr, rules, subst, sym}
use Rattle.run_outcome.specs.declared.outcome.Verdict.{Verdict}
use Rattle.stream_check.specs.declared.report.Report.{Report}
use Rattle.checkpoint.specs.declared.saving.SaveFault.{SaveFault}
use Rattle.command.specs.Commands.{SaysOfRound, SinkTook, change, report_status}
use Rattle.command.specs.Rounds.{last_text}
use Rattle.command.proofs.StatusLemmas.{eight_is, zero_is}
use Rattle.command.proofs.program.check_formula.Goals as goal

pub returns-in-Ok-clause-sound : goal.returns-in-Ok-clause-sound
returns-in-Ok-clause-sound g c zero = c.in-Ok.ensures.sound (zero_is _ _ _ (sym c.report.ensures.status ∙ zero))

pub returns-in-Ok-clause-sound_under : goal.returns-in-Ok-clause-sound_under
returns-in-Ok-clause-sound_under g c eight = c.in-Ok.ensures.sound_under (eight_is _ _ _ (sym c.report.ensures.status ∙ eight))

pub returns-in-Ok-clause-ends : goal.returns-in-Ok-clause-ends
returns-in-Ok-clause-ends g c words first good were =
    let last = c.in-Ok.last in
    let reported = c.in-Ok.ensures.reported first were in
    let round = reported.round in
    let is = reported.is in
    let failed = g.O.Sink.has_failed c.report.new.out in
    let output = change g.O.Sink c.args.out.now c.report.new.out in
    let errors = change g.E.Sink c.args.err.now c.report.new.err in
    let text = ap (λ (n : ℕ). last_text n last.reports.items last.verdict) is.number
    ∙ ap (λ (rs : List Report). last_text round.number rs last.verdict) is.reports
    ∙ ap (λ (v : Verdict). last_text round.number round.reports v) is.verdict in
    let status = ap (λ (u : Option SaveFault). report_status failed u last.verdict) is.unsaved
    ∙ ap (λ (v : Verdict). report_status failed round.unsaved v) is.verdict in
    let said = subst (λ (n : ℕ). SaysOfRound n failed last.unsaved errors) is.number c.report.ensures.said in
    inl (record {
      given = c.args.line.now;
      command_line = good;
      cube = reported.cube;
      last = round;
      before = reported.before;
      were = reported.were;
      finished = reported.finished;
      printed = subst (λ (t : List ℕ). SinkTook output t) text c.report.ensures.printed;
      said = subst (λ (u : Option SaveFault). SaysOfRound round.number failed u errors) is.unsaved said;
      status_is = c.report.ensures.status ∙ status;
    })

pub returns-in-Err-clause-ends : goal.returns-in-Err-clause-ends
returns-in-Err-clause-ends g c words first good were = inr (record {
  number = c.in-Err.failed.round;
  fault = c.in-Err.failed.fault;
  cause = c.in-Err.ensures.cause words first good were;
  untouched = record { written = search rules; failed = c.requires.out };
  said = c.say.ensures.said c.requires.err;
  status_is = c.say.ensures.status;
})
