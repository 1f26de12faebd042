use Rattle.std.proofs.Common.{List, subst, sym, ◌∙◌, ℕ}
use Rattle.lrup_text.specs.Writing.{WritesText}
use Rattle.run_outcome.specs.ReportText.{report_text}
use Rattle.command.specs.Rounds.{round_text}
use Rattle.command.proofs.WritingLemmas.{breaks_before, last_of_more, writes_after}
use Rattle.command.proofs.program.write_last.Goals as goal

pub returns-in-Ok-clause-text : goal.returns-in-Ok-clause-text
returns-in-Ok-clause-text g c =
    let last = c.args.last.now in
    let written = g.O.Sink.written in
    let report = report_text last.reports.items last.verdict in
    subst (λ (t : List ℕ). WritesText c.write_report-in-Ok.result (written c.args.out.now) (written c.write_report-in-Ok.new.sink) t)
    (sym (last_of_more last.number last.reports.items last.verdict c.if-last-eq1.false))
    (writes_after c.write_report-in-Ok.result (written c.args.out.now) (written c.write_number.new.out)
    (written c.write_report-in-Ok.new.sink) (round_text last.number) report c.in-Ok.ensures.text
    (rw c.deref-in-Ok.ensures.value at c.write_report-in-Ok.ensures.text))

pub returns-in-Err-clause-text : goal.returns-in-Err-clause-text
returns-in-Err-clause-text g c =
    let last = c.args.last.now in
    let written = g.O.Sink.written in
    let report = report_text last.reports.items last.verdict in
    let broken = breaks_before (written c.args.out.now) (written c.write_number.new.out) (round_text last.number) report
    c.in-Err.ensures.text in
    (broken.0, broken.1, last_of_more last.number last.reports.items last.verdict c.if-last-eq1.false ∙ broken.2, broken.3)
