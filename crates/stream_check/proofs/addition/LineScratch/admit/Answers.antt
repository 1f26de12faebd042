use Rattle.std.proofs.Common.{◌≡◌, ◌<◌, ◌≤◌, ◌∙◌, nat_abs, true, false, length, inl, inr, refl, sym, ap, arith, rules, Ok, Err, Result}
use Rattle.std.specs.Result.{OnOk, is_err}
use Rattle.std.specs.List.{AllByRecursion}
use Rattle.std.proofs.lemmas.Bool.{true≢false}
use Rattle.lrup_model.specs.Literal.{IsLiteral}
use Rattle.lrup_model.specs.Clause.{IsTautology}
use Rattle.lrup_model.specs.Layout.{Owns}
use Rattle.lrup_model.specs.Distinct.{distinct}
use Rattle.propagate.specs.Marks.{Propagation}
use Rattle.stream_check.proofs.AddLemmas.{owns_at, owned_by, variables_within}
use Rattle.stream_check.specs.lemmas.AdditionLemmas.{literals_within}
use Rattle.stream_check.proofs.addition.LineScratch.admit.Goals.{then-not-owns-via-then-not-owns}
use Rattle.stream_check.proofs.addition.LineScratch.admit.Goals.{then-not-owns-via-else-not-owns+then-id-last}
use Rattle.stream_check.proofs.addition.LineScratch.admit.Goals as goal

pub returns-then-not-owns-clause-admitted : goal.returns-then-not-owns-clause-admitted
returns-then-not-owns-clause-admitted g c =
    let p = g.M.ClauseMap.caller_view c.args.map.now in
    let s = c.args.state.now.params in
    let no : Owns s.layout s.stream c.args.id × (c.args.state.now.last < c.args.id) → ⊥ = λ own. elim c.then-not-owns.branch [
      | then-not-owns-via-then-not-owns w ↦
          true≢false (sym (c.owns.ensures.1 (owns_at s p c.args.id c.requires.at own.0)) ∙ w.if-not-owns.true)
      | then-not-owns-via-else-not-owns+then-id-last w ↦ absurd (omega (arith, own.1, w.if-id-last.true, w.last.ensures))
    ] in
    inl (no, refl, refl)

pub returns-then-not-make_literals-clause-admitted : goal.returns-then-not-make_literals-clause-admitted
returns-then-not-make_literals-clause-admitted g c =
    let p = g.M.ClauseMap.caller_view c.args.map.now in
    let s = c.args.state.now.params in
    let owns : Owns s.layout s.stream c.args.id = owned_by s p c.args.id c.requires.at (search rules) in
    let above : c.args.state.now.last < c.args.id = omega arith in
    let no : AllByRecursion (λ l. nat_abs l ≤ s.layout.vars) c.args.lits.now
    → ⊥ = λ all. true≢false (sym (c.if-not-make_literals.ensures.within.1
    (rw c.requires.variables at (literals_within s.layout.vars c.args.lits.now c.requires.nonzero all)))) in
    inr ((owns, above), inl (no, refl, refl))

-- what a result that isn't an error promises
on_ok : {T E : Type 0} (r : Result T E) (P : Type 0) → false ≡ is_err r → OnOk r P → P
on_ok (Ok x) P is p = p
on_ok (Err e) P is p = absurd (cc)

pub returns-then-is_err-clause-admitted : goal.returns-then-is_err-clause-admitted
returns-then-is_err-clause-admitted g c =
    let p = g.M.ClauseMap.caller_view c.args.map.now in
    let s = c.args.state.now.params in
    let lits = c.args.lits.now in
    let owns = owned_by s p c.args.id c.requires.at (c.owns.ensures.0 c.if-not-owns.false) in
    let within : AllByRecursion (IsLiteral s.layout.vars) lits = rw c.requires.variables (c.if-not-make_literals.ensures.within.0 refl) in
    let read : c.deref.result.now ≡ lits = c.deref.ensures.value ∙ c.if-not-make_literals.ensures.literals in
    let tautology : IsTautology lits = rw read at (c.begin.ensures.tautology.0 (sym c.if-is_err.ensures.value)) in
    inr (
      (owns, omega (arith, c.if-id-last.false, c.last.ensures)),
      inr (variables_within s.layout.vars lits within, inl ((λ no. no tautology), refl, refl)),
    )

pub returns-then-clause-room-clause-admitted : goal.returns-then-clause-room-clause-admitted
returns-then-clause-room-clause-admitted g c =
    let p = g.M.ClauseMap.caller_view c.args.map.now in
    let s = c.args.state.now.params in
    let lits = c.args.lits.now in
    let owns = owned_by s p c.args.id c.requires.at (c.owns.ensures.0 c.if-not-owns.false) in
    let within : AllByRecursion (IsLiteral s.layout.vars) lits = rw c.requires.variables (c.if-not-make_literals.ensures.within.0 refl) in
    let read : c.deref.result.now ≡ lits = c.deref.ensures.value ∙ c.if-not-make_literals.ensures.literals in
    let consistent : ¬ IsTautology lits = λ t. true≢false (sym (c.begin.ensures.tautology.1 (rw read t)) ∙ sym c.if-is_err.ensures.value) in
    let begun = on_ok c.begin.result _ c.if-is_err.ensures.value c.begin.ensures.ok in
    let clause : c.clause.result.now ≡ distinct lits = c.clause.ensures ∙ ap (λ (m : Propagation). m.clause) begun ∙ ap distinct read in
    let no : length (distinct lits) ≤ p.room → ⊥ = λ fits. omega (arith, fits, ap length clause, c.room.ensures, c.if-clause-room.true) in
    inr (
      (owns, omega (arith, c.if-id-last.false, c.last.ensures)),
      inr (variables_within s.layout.vars lits within, inr (consistent, inl (no, refl, refl))),
    )

pub returns-clause-admitted : goal.returns-clause-admitted
returns-clause-admitted g c =
    let p = g.M.ClauseMap.caller_view c.args.map.now in
    let s = c.args.state.now.params in
    let lits = c.args.lits.now in
    let owns = owned_by s p c.args.id c.requires.at (c.owns.ensures.0 c.if-not-owns.false) in
    let within : AllByRecursion (IsLiteral s.layout.vars) lits = rw c.requires.variables (c.if-not-make_literals.ensures.within.0 refl) in
    let read : c.deref.result.now ≡ lits = c.deref.ensures.value ∙ c.if-not-make_literals.ensures.literals in
    let consistent : ¬ IsTautology lits = λ t. true≢false (sym (c.begin.ensures.tautology.1 (rw read t)) ∙ sym c.if-is_err.ensures.value) in
    let begun = on_ok c.begin.result _ c.if-is_err.ensures.value c.begin.ensures.ok in
    let clause : c.clause.result.now ≡ distinct lits = c.clause.ensures ∙ ap (λ (m : Propagation). m.clause) begun ∙ ap distinct read in
    let fits : length (distinct lits) ≤ p.room = omega (arith, ap length clause, c.room.ensures, c.if-clause-room.false) in
    let same : c.begin.new.self.clause ≡ distinct lits = ap (λ (m : Propagation). m.clause) begun ∙ ap distinct read in
    let vars : c.args.self.now.marks.vars ≡ s.layout.vars = sym (c.requires.variables ∙ c.args.self.now.same_variables) in
    let is_clause = rw (vars, same) at (on_ok c.begin.result _ c.if-is_err.ensures.value c.begin.ensures.clause) in
    record {
      owns = owns;
      above = omega (arith, c.if-id-last.false, c.last.ensures);
      literals = variables_within s.layout.vars lits within;
      fits = fits;
      clause = is_clause;
      consistent = rw same at (on_ok c.begin.result _ c.if-is_err.ensures.value c.begin.ensures.consistent);
      marks_are = rw (vars, read) at begun;
    }
