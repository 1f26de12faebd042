use Rattle.std.proofs.Common.{false, refl, ap, subst}
use Rattle.lrup_model.specs.CallerView.{clip_clause}
use Rattle.lrup_model.specs.lemmas.PassLemmas.{known_follows}
use Rattle.lrup_model.specs.Propagation.{IsConflict, IsUnit}
use Rattle.propagate.specs.internal.ClauseStatus.{HasStatus}
use Rattle.propagate.specs.Marks.{Propagation}
use Rattle.propagate.specs.declared.marks.ClauseStatus.TheVariants.{More}
use Rattle.propagate.proofs.MarkLemmas.{IsLiteral-neg, IsLiteral-read}
use Rattle.propagate.proofs.marks.Marks.hint.Goals as goal

pub add-requires-clause-literal : goal.add-requires-clause-literal
add-requires-clause-literal g c =
    let view = g.M.ClauseMap.caller_view c.args.map.now in
    let variables = rw (← c.self.view_is) at c.requires.variables in
    let literal = IsLiteral-read view.caller.formula.vars c.self.inside.trail.vars (clip_clause view c.args.clip.now) c.in-One.lit
    (known_follows view c.args.clip.now c.requires.follow c.requires.known).0 variables c.in-One.ensures.status.here in
    rw c.complement.ensures (IsLiteral-neg c.self.inside.trail.vars c.in-One.lit literal)

pub returns-in-Nothing-clause-conflict : goal.returns-in-Nothing-clause-conflict
returns-in-Nothing-clause-conflict g c =
    let d = clip_clause (g.M.ClauseMap.caller_view c.args.map.now) c.args.clip.now in
    (λ same. subst (λ m. IsConflict m.falses d) c.self.view_is c.in-Nothing.ensures.status, λ all. refl)

pub returns-in-Nothing-clause-unit : goal.returns-in-Nothing-clause-unit
returns-in-Nothing-clause-unit g c =
    let d = clip_clause (g.M.ClauseMap.caller_view c.args.map.now) c.args.clip.now in
    let conflict = subst (λ m. IsConflict m.falses d) c.self.view_is c.in-Nothing.ensures.status in
    (λ same. cc, λ some. absurd (some.1.not_false (conflict some.0 some.1.here)))

pub returns-in-Nothing-clause-step : goal.returns-in-Nothing-clause-step
returns-in-Nothing-clause-step g c =
    let d = clip_clause (g.M.ClauseMap.caller_view c.args.map.now) c.args.clip.now in (
      subst (λ m. IsConflict m.falses d) c.self.view_is c.in-Nothing.ensures.status,
      ap {A = Propagation} (λ m. record m { ready = false }) c.self.view_is,
    )

pub returns-in-One-clause-conflict : goal.returns-in-One-clause-conflict
returns-in-One-clause-conflict g c =
    let d = clip_clause (g.M.ClauseMap.caller_view c.args.map.now) c.args.clip.now in
    let unit = subst (λ m. IsUnit m.falses d c.in-One.lit) c.self.view_is c.in-One.ensures.status in
    (λ same. cc, λ all. absurd (unit.not_false (all c.in-One.lit unit.here)))

pub returns-in-One-clause-unit : goal.returns-in-One-clause-unit
returns-in-One-clause-unit g c =
    let d = clip_clause (g.M.ClauseMap.caller_view c.args.map.now) c.args.clip.now in
    (λ same. (c.in-One.lit, subst (λ m. IsUnit m.falses d c.in-One.lit) c.self.view_is c.in-One.ensures.status), λ some. refl)

pub returns-in-More-clause-conflict : goal.returns-in-More-clause-conflict
returns-in-More-clause-conflict g c =
    let d = clip_clause (g.M.ClauseMap.caller_view c.args.map.now) c.args.clip.now in
    let more = subst (λ m. HasStatus m.falses d More) c.self.view_is c.in-More.ensures.status in
    (λ same. cc, λ all. absurd (more.0 all))

pub returns-in-More-clause-unit : goal.returns-in-More-clause-unit
returns-in-More-clause-unit g c =
    let d = clip_clause (g.M.ClauseMap.caller_view c.args.map.now) c.args.clip.now in
    let more = subst (λ m. HasStatus m.falses d More) c.self.view_is c.in-More.ensures.status in
    (λ same. cc, λ some. absurd (more.1 some.0 some.1))

pub returns-in-More-clause-step : goal.returns-in-More-clause-step
returns-in-More-clause-step g c =
    let d = clip_clause (g.M.ClauseMap.caller_view c.args.map.now) c.args.clip.now in
    let more = subst (λ m. HasStatus m.falses d More) c.self.view_is c.in-More.ensures.status in
    (more.0, more.1, ap {A = Propagation} (λ m. record m { ready = false }) c.self.view_is)
