use Rattle.lrup_model.specs.lemmas.ClauseLemmas.{All-from_Has}
use Rattle.lrup_model.specs.Literal.{IsLiteral}
use Rattle.lrup_model.specs.CallerView.{clip_clause}
use Rattle.lrup_model.specs.lemmas.PassLemmas.{known_follows}
use Rattle.propagate.proofs.MarkLemmas.{IsLiteral-read}
use Rattle.propagate.proofs.TakenLemmas.{HaveMarks-literals}
use Rattle.propagate.proofs.trail.Trail.same.Goals as goal

pub is_same-requires-clause-clause : goal.is_same-requires-clause-clause
is_same-requires-clause-clause g c =
    let view = g.M.ClauseMap.caller_view c.args.map.now in
    let d = clip_clause view c.args.clip.now in
    let clause = (known_follows view c.args.clip.now c.requires.follow c.requires.known).0 in
    let le = rw (← c.self.view_is) at c.requires.variables in
    let literals =
    All-from_Has (IsLiteral c.self.inside.vars) d (λ l h. IsLiteral-read view.caller.formula.vars c.self.inside.vars d l clause le h) in
    rw c.deref_mut.ensures.value (HaveMarks-literals c.self.inside.vars _ d c.self.invariant.count literals)

pub is_same-requires-clause-literals : goal.is_same-requires-clause-literals
is_same-requires-clause-literals g c =
    let literals = rw (← c.self.view_is) at c.requires.literals in
    rw c.deref_mut.ensures.value (HaveMarks-literals c.self.inside.vars _ c.args.literals.now c.self.invariant.count literals)

pub is_same-requires-clause-unmarked : goal.is_same-requires-clause-unmarked
is_same-requires-clause-unmarked g c =
    let view = g.M.ClauseMap.caller_view c.args.map.now in
    let d = clip_clause view c.args.clip.now in
    let clause = (known_follows view c.args.clip.now c.requires.follow c.requires.known).0 in
    let le = rw (← c.self.view_is) at c.requires.variables in
    let empty = rw (← c.self.view_is) at c.requires.empty in
    rw c.deref_mut.ensures.value (λ l h marked.
    let literal = IsLiteral-read view.caller.formula.vars c.self.inside.vars d l clause le h in
    rw empty at ((c.self.invariant.marked l literal).0 marked))
