use Rattle.std.proofs.Common.{List, ℕ, ◌≡◌, ◌-◌, ◌++◌, length, take, drop, sym, ◌∙◌, ap, subst, arith}
use Rattle.std.specs.Io.KnownBytes.{Appends}
use Rattle.std.proofs.lemmas.List.{take-append-drop, length-drop, take_rest}
use Rattle.std.proofs.Math.Seq.{take-add}
use Rattle.lrup_text.specs.lemmas.WritingLemmas.{appends_then, appends_keeps, at_err}
use Rattle.lrup_text.proofs.writer.write_all.Goals as goal

pub returns-in_err-at-clause-text : goal.returns-in_err-at-clause-text
returns-in_err-at-clause-text g c =
    let written = g.W.Sink.written in
    let bytes : List ℕ = c.args.bytes.now in
    let at = c.loop-at.at in
    at_err c.from_residual.result _ _ c.from_residual.ensures.0 (
      take at bytes,
      drop at bytes,
      sym (take-append-drop at bytes),
      appends_keeps (written c.args.sink.now) (written c.loop-at.sink) (written c.write.new.self)
          (take at bytes) c.loop-at.invariant.went c.in_err-at.ensures.bytes,
    )

pub loop-at-preserved : goal.loop-at-preserved
loop-at-preserved g c =
    let written = g.W.Sink.written in
    let bytes : List ℕ = c.args.bytes.now in
    let at = c.loop-at.at in
    let count = c.in_ok-at.field-0 in
    let rest : take (length bytes - at) (drop at bytes) ≡ drop at bytes = take_rest bytes at in
    let both = ap (λ t. take at bytes ++ take count t) rest ∙ sym (take-add at count bytes) in
    record {
      bound = omega (arith, c.in_ok-at.ensures.bound, ap length rest, length-drop at bytes, c.loop-at.invariant.bound, c.loop-at-test.true);
      running = c.in_ok-at.ensures.failed;
      went = subst (λ t. Appends (written c.args.sink.now) (written c.write.new.self) t) both
          (appends_then (written c.args.sink.now) (written c.loop-at.sink) (written c.write.new.self)
          (take at bytes) _ c.loop-at.invariant.went c.in_ok-at.ensures.bytes);
    }
