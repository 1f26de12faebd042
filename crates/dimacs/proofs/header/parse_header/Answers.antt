use Rattle.std.proofs.Common.{◌⊎◌, ◌<◌, length, sym, ◌∙◌, inl, inr, ⊎_elim}
use Rattle.std.proofs.lemmas.Bool.{eqb-true}
use Rattle.std.proofs.lemmas.List.{nil_from_length}
use Rattle.lrup_model.specs.Literal.{max_variable}
use Rattle.lrup_model.specs.Formula.{max_clauses}
use Rattle.dimacs.specs.Lines.{runs}
use Rattle.dimacs.proofs.HeaderLemmas.{too_much, text_is, header_whole}
use Rattle.dimacs.proofs.header.parse_header.Goals as goal

pub returns-then-vars-gt-MAX_VARIABLE : goal.returns-then-vars-gt-MAX_VARIABLE
returns-then-vars-gt-MAX_VARIABLE c =
    let more = c.next_run-5.result.0.now in
    let none = nil_from_length more (eqb-true (length more) 0 (sym c.if-not-is_empty.ensures)) in
    let whole = header_whole (runs c.args.line.now) (runs c.next_run.result.1.now) (runs c.next_run-2.result.1.now)
    (runs c.next_run-3.result.1.now) (runs c.next_run-4.result.1.now) (runs c.next_run-5.result.1.now) c.next_run.result.0.now
    c.next_run-2.result.0.now c.next_run-3.result.0.now c.next_run-4.result.0.now more c.next_run.ensures.runs
    (text_is _ _ c.if-ne.ensures ∙ c.as_slice.ensures) c.next_run-2.ensures.runs (text_is _ _ c.if-ne-2.ensures ∙ c.as_slice-2.ensures)
    c.next_run-3.ensures.runs c.next_run-4.ensures.runs c.next_run-5.ensures.runs none in
    let above : (max_variable < c.in-Some.vars) ⊎ (max_clauses < c.in-Some-count.clauses) =
    ⊎_elim (λ vars. inl vars) (λ both. inr both.1) c.then-vars-gt-MAX_VARIABLE.either in
    λ n lines. too_much (runs c.args.line.now) c.next_run-3.result.0.now c.next_run-4.result.0.now c.in-Some.vars c.in-Some-count.clauses
    whole c.in-Some.ensures c.in-Some-count.ensures above
