use Rattle.std.proofs.Common.{refl, ◌∙◌, ap, subst}
use Rattle.lrup_text.specs.internal.Reading.{reader_state, StepsThrough, pending}
use Rattle.lrup_text.proofs.Feeding.{fed_more, fed_line, fed_fault, fed_at, fed_bound, no_fault}
use Rattle.lrup_text.proofs.reader.LineReader.feed.Goals as goal
use Rattle.lrup_text.proofs.reader.LineReader.feed.Goals.{in-More, in-Done, in-Refused}

pub returns : goal.returns
returns c =
    let before = c.self.inside.line in
    let piece = c.args.piece.now in
    let used = c.read-taken.result.used in
    let next = c.read-taken.new.self in
    let old = no_fault before c.self.view_is c.in_default.is in
    let after = ap (λ f. reader_state f (pending next)) c.in_default.is in
    elim c.match-taken.branch [
      | in-More w ↦
          let taken = subst (λ s. StepsThrough before piece used s next) w.in-More.is c.read-taken.ensures in
          let fed = fed_at piece used (fed_more before next piece used taken) old w.status-is (ap (λ p. p.0) w.self-is ∙ after) in (
            (refl, (λ _. tt), fed.reaches),
            record { gives = fed.gives; reaches = tt; bound = fed_bound c.args.self.now piece used c.match-taken.status fed.gives },
          )
      | in-Done w ↦
          let taken = subst (λ s. StepsThrough before piece used s next) w.in-Done.is c.read-taken.ensures in
          let fed = fed_at piece used (fed_line before next piece used w.line.result w.line.ensures taken) old w.status-is
          (ap (λ p. p.0) w.self-is ∙ after) in (
            (refl, (λ _. tt), fed.reaches),
            record { gives = fed.gives; reaches = tt; bound = fed_bound c.args.self.now piece used c.match-taken.status fed.gives },
          )
      | in-Refused w ↦
          let taken = subst (λ s. StepsThrough before piece used s next) w.in-Refused.is c.read-taken.ensures in
          let fed =
          fed_at piece used (fed_fault before next piece used w.in-Refused.fault taken) old w.status-is (ap (λ p. p.0) w.self-is) in (
            (refl, (λ _. tt), fed.reaches),
            record { gives = fed.gives; reaches = tt; bound = fed_bound c.args.self.now piece used c.match-taken.status fed.gives },
          )
    ]
