use Rattle.std.proofs.Common.{◌∙◌, ℕ, sym, ap}
use Rattle.stream_check.specs.declared.report.Ending.TheVariants as endings
use Rattle.lrup_text.specs.declared.device.StreamEnd.TheVariants as stream_ends
use Rattle.stream_check.specs.internal.CheckerInside.{read_of}
use Rattle.stream_check.proofs.FeedLemmas.{none_of, ends_finished, ends_now}
use Rattle.stream_check.proofs.checker.Checker.read_failed.Goals as goal

pub returns-then-is_some : goal.returns-then-is_some
returns-then-is_some c =
    let both = ends_finished stream_ends.Failed c.self.inside.state (read_of c.self.inside.reader) c.self.inside.ending c.args.self.now
    c.self.view_is (sym c.is_some.ensures ∙ c.if-is_some.true) in
    record { ends = both.0; reports = both.1 }

pub returns : goal.returns
returns c =
    let read = read_of c.self.inside.reader in
    let none = none_of c.self.inside.ending (sym c.is_some.ensures ∙ c.if-is_some.false) in
    let both = ends_now stream_ends.Failed c.self.inside.state read read c.self.inside.ending c.args.self.now
    (endings.ReadFailed c.line.result) c.self.view_is none (ap (λ (n : ℕ). endings.ReadFailed n) c.line.ensures) in
    record { ends = both.0; reports = both.1 }
