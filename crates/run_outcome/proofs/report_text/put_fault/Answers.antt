use Rattle.std.proofs.Common.{◌≡◌, ◌++◌, ℕ, List, Option, Some, sym, ap, subst, ◌∙◌, append-nil}
use Rattle.lrup_text.specs.Writing.{PutsAll}
use Rattle.stream_check.specs.Faults.{fault_text, number_text}
use Rattle.run_outcome.proofs.report_text.put_fault.Goals as goal

pub returns-in-None-clause-puts : goal.returns-in-None-clause-puts
returns-in-None-clause-puts g c =
    let words = c.as_bytes-text.result.now in
    let written = g.W.Sink.written in
    let text : fault_text c.args.fault ≡ words =
    rw c.as_bytes-text.ensures.value c.words-number.ensures ∙ ap (λ (n : Option ℕ). words ++ number_text n) c.in-None.is
    ∙ append-nil words in
    subst (λ (t : List ℕ). PutsAll c.put.result (written c.args.sink.now) (written c.put.new.sink) c.args.buffer.now c.put.new.self t)
    (sym text) c.put.ensures.puts

pub returns-in-Some-clause-puts : goal.returns-in-Some-clause-puts
returns-in-Some-clause-puts g c =
    let words = c.as_bytes-text.result.now in
    let written = g.W.Sink.written in
    let text : fault_text c.args.fault ≡ words ++ number_text (Some c.in-Some.number) =
    rw c.as_bytes-text.ensures.value c.words-number.ensures ∙ ap (λ (n : Option ℕ). words ++ number_text n) c.in-Some.is in
    subst (λ (t : List ℕ). PutsAll c.put_numbered.result (written c.args.sink.now)
    (written c.put_numbered.new.sink) c.args.buffer.now c.put_numbered.new.buffer t)
    (sym text) c.put_numbered.ensures.puts
