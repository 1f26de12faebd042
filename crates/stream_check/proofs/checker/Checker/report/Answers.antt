use Rattle.std.proofs.Common.{◌≡◌, Option, subst}
use Rattle.std.specs.Option.{IfSome}
use Rattle.stream_check.specs.declared.report.Ending.{Ending}
use Rattle.stream_check.specs.CheckerValue.{report_of_tally, CheckerValue}
use Rattle.stream_check.specs.Stopping.{IsFullAtMemory}
use Rattle.stream_check.specs.internal.CheckerInside.{tally_at}
use Rattle.stream_check.proofs.checker.Checker.report.Goals as goal

pub returns-clause-says : goal.returns-clause-says
returns-clause-says c =
    let inside : IfSome c.self.inside.ending (λ (e : Ending). c.report.result ≡ report_of_tally (tally_at c.self.inside.state) e) =
    rw c.unwrap.ensures c.report.ensures in
    rw (← c.self.view_is) inside

pub returns-clause-memory : goal.returns-clause-memory
returns-clause-memory c =
    let dropped = c.self.inside.state.dropped in
    let full : IsFullAtMemory c.unwrap.result dropped =
    subst (λ (o : Option Ending). IfSome o (λ (e : Ending). IsFullAtMemory e dropped)) c.unwrap.ensures c.self.invariant.full in
    rw c.report.ensures (subst (λ (v : CheckerValue). IsFullAtMemory c.unwrap.result v.dropped) c.self.view_is full)
