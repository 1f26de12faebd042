use Rattle.std.proofs.Common.{◌≡◌, ◌≤◌, [], nat_abs, refl, sym, ◌∙◌, append-nil, rules}
use Rattle.std.specs.Prelude.{◌↔◌, List, ℤ}
use Rattle.std.specs.List.{AllByRecursion}
use Rattle.std.proofs.lemmas.Bool.{true≢false}
use Rattle.std.proofs.lemmas.Result.{err_from_is_err_and}
use Rattle.lrup_model.specs.Clause.{Clause, Has}
use Rattle.lrup_model.specs.Literal.{IsLiteral}
use Rattle.lrup_model.specs.CallerView.{clip_clause}
use Rattle.stream_check.specs.internal.CheckerInside.{context_at}
use Rattle.stream_check.proofs.AddLemmas.{variables_within}
use Rattle.stream_check.specs.lemmas.AdditionLemmas.{literals_within}
use Rattle.stream_check.proofs.ImportLemmas.{bad_identity, bad_literal, import_unfound, import_differs, import_same}
use Rattle.stream_check.proofs.addition.LineScratch.import.Goals as goal

abbrev HasSame : Clause → List ℤ → Type 0
HasSame d lits = (l : ℤ) → Has d l ↔ Has lits l

pub returns-then-not-shares-clause-judged : goal.returns-then-not-shares-clause-judged
returns-then-not-shares-clause-judged g c =
    let st = context_at c.args.state.now (g.M.ClauseMap.caller_view c.args.map.now).room in (
      [],
      g.met.M.ClauseMap.moves_none c.args.map.now,
      bad_identity c.args.state.now.params st c.args.id c.args.lits.now (search rules),
    )

pub returns-then-not-make_literals-clause-judged : goal.returns-then-not-make_literals-clause-judged
returns-then-not-make_literals-clause-judged g c =
    let s = c.args.state.now.params in
    let st = context_at c.args.state.now (g.M.ClauseMap.caller_view c.args.map.now).room in
    let no : AllByRecursion (λ l. nat_abs l ≤ s.layout.vars) c.args.lits.now
    → ⊥ = λ all. true≢false (sym (c.if-not-make_literals.ensures.within.1
    (rw c.requires.variables at (literals_within s.layout.vars c.args.lits.now c.requires.nonzero all)))) in (
      [],
      g.met.M.ClauseMap.moves_none c.args.map.now,
      bad_literal s st c.args.id c.args.lits.now (search rules) no,
    )

-- the look-up has a fault
pub returns-in_err-clip-clause-judged : goal.returns-in_err-clip-clause-judged
returns-in_err-clip-clause-judged g c =
    let s = c.args.state.now.params in
    let st = context_at c.args.state.now (g.M.ClauseMap.caller_view c.args.map.now).room in
    let lits = c.args.lits.now in
    let within : AllByRecursion (IsLiteral s.layout.vars) lits = rw c.requires.variables (c.if-not-make_literals.ensures.within.0 refl) in
    let looked = c.in_err-clip.ensures.looked in
    let given = err_from_is_err_and c.from_residual.result c.from_residual.ensures.1 in (
      looked.0,
      looked.1,
      rw (given.1, given.2) (import_unfound s st c.args.id lits (search rules)
          (variables_within s.layout.vars lits within) looked.0 c.in_err-clip.field-0.0 looked.2),
    )

pub returns-clause-judged : goal.returns-clause-judged
returns-clause-judged g c =
    let s = c.args.state.now.params in
    let p = g.M.ClauseMap.caller_view c.args.map.now in
    let q = g.M.ClauseMap.caller_view c.look_up.new.map in
    let st = context_at c.args.state.now p.room in
    let lits = c.args.lits.now in
    let within : AllByRecursion (IsLiteral s.layout.vars) lits = rw c.requires.variables (c.if-not-make_literals.ensures.within.0 refl) in
    let read : c.deref.result.now ≡ lits = c.deref.ensures.value ∙ c.if-not-make_literals.ensures.literals in
    let same : HasSame (clip_clause q c.in_ok-clip.clip) lits = rw read at (c.same.ensures.same.0 c.if-not-same.false) in
    let looked = c.in_ok-clip.ensures.looked in
    let moved =
    g.met.M.ClauseMap.moves_append c.args.map.now c.look_up.new.map c.same.new.map looked.0 [] looked.1 c.same.ensures.event in (
      looked.0,
      rw (append-nil looked.0) at moved,
      import_same s st c.args.id lits (search rules) (variables_within s.layout.vars lits within) looked.0
          (clip_clause q c.in_ok-clip.clip) looked.2 same,
    )

pub returns-then-not-same-clause-judged : goal.returns-then-not-same-clause-judged
returns-then-not-same-clause-judged g c =
    let s = c.args.state.now.params in
    let p = g.M.ClauseMap.caller_view c.args.map.now in
    let q = g.M.ClauseMap.caller_view c.look_up.new.map in
    let st = context_at c.args.state.now p.room in
    let lits = c.args.lits.now in
    let within : AllByRecursion (IsLiteral s.layout.vars) lits = rw c.requires.variables (c.if-not-make_literals.ensures.within.0 refl) in
    let read : c.deref.result.now ≡ lits = c.deref.ensures.value ∙ c.if-not-make_literals.ensures.literals in
    let other : HasSame (clip_clause q c.in_ok-clip.clip) lits → ⊥ = λ same.
    true≢false (sym (c.same.ensures.same.1 (rw read same)) ∙ c.if-not-same.true) in
    let looked = c.in_ok-clip.ensures.looked in
    let moved =
    g.met.M.ClauseMap.moves_append c.args.map.now c.look_up.new.map c.same.new.map looked.0 [] looked.1 c.same.ensures.event in (
      looked.0,
      rw (append-nil looked.0) at moved,
      import_differs s st c.args.id lits (search rules) (variables_within s.layout.vars lits within)
          looked.0 (clip_clause q c.in_ok-clip.clip) looked.2 other,
    )
