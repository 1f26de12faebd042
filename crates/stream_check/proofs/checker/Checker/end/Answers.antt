use Rattle.std.proofs.Common.{◌≡◌, ◌∙◌, ℕ, sym, ap}
use Rattle.lrup_text.specs.declared.device.StreamEnd.TheVariants as stream_ends
use Rattle.stream_check.specs.declared.fault.Fault.TheVariants as faults
use Rattle.stream_check.specs.declared.report.Ending.TheVariants as endings
use Rattle.stream_check.specs.Judging.{ending_at}
use Rattle.stream_check.specs.internal.CheckerInside.{read_of}
use Rattle.stream_check.proofs.FeedLemmas.{none_of, ends_finished, ends_now, ended_clean, ended_fault}
use Rattle.stream_check.proofs.checker.Checker.end.Goals.{in-Clean, in-Fault}
use Rattle.stream_check.proofs.checker.Checker.end.Goals as goal

pub returns-then-is_some : goal.returns-then-is_some
returns-then-is_some c =
    let both = ends_finished stream_ends.Ended c.self.inside.state (read_of c.self.inside.reader) c.self.inside.ending c.args.self.now
    c.self.view_is (sym c.is_some.ensures ∙ c.if-is_some.true) in
    record { ends = both.0; reports = both.1 }

pub returns : goal.returns
returns c =
    let h = c.self.inside.state in
    let r = c.self.inside.reader in
    let none = none_of c.self.inside.ending (sym c.is_some.ensures ∙ c.if-is_some.false) in
    let says : c.match-end.self ≡ ending_at stream_ends.Ended (read_of r) h.line = elim c.match-end.branch [
      | in-Clean w ↦ w.self-is ∙ sym (ended_clean r h.line (rw w.in-Clean.is at c.end.ensures).0)
      | in-Fault w ↦ w.self-is ∙ ap (λ (n : ℕ). endings.Bad n (faults.Text w.in-Fault.fault)) w.line.ensures
          ∙ sym (ended_fault r c.end.new.self h.line w.in-Fault.fault (c.self.invariant.reads none) (rw w.in-Fault.is at c.end.ensures))
    ] in
    let both = ends_now stream_ends.Ended h (read_of r) (read_of c.end.new.self) c.self.inside.ending c.args.self.now c.match-end.self
    c.self.view_is none says in
    record { ends = both.0; reports = both.1 }
