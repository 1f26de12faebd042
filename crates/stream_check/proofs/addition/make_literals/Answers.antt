use Rattle.std.proofs.Common.{arith, rules, ◌≡◌, ◌≤◌, ◌++◌, ◌∷◌, [], ◌∙◌, take, get_or, to_z, of_z, w64, ap, sym}
use Rattle.std.specs.Prelude.{pos, nat_abs}
use Rattle.std.proofs.lemmas.Int.{to_z-of_z}
use mir.Val.{SFits}
use Rattle.lrup_model.specs.Literal.{IsLiteral, max_variable}
use Rattle.lrup_model.specs.lemmas.ClauseLemmas.{take-read}
use Rattle.lrup_model.specs.lemmas.ListLemmas.{All-push}
use Rattle.std.proofs.lemmas.List.Elements.{All-from_recursion}
use Rattle.stream_check.proofs.addition.make_literals.Goals as goal

pub returns-in_default-2-clause-within : goal.returns-in_default-2-clause-within
returns-in_default-2-clause-within c = (
  λ none. absurd (cc),
  λ all.
      let z = get_or c.args.numbers.now c.loop-number.number-index (pos 0) in
      let here : IsLiteral c.args.vars z =
      All-from_recursion (IsLiteral c.args.vars) c.args.numbers.now all c.loop-number.number-index (pos 0) c.loop-number-test.true in
      let fits : SFits w64 z = search rules in
      let most : nat_abs z ≤ max_variable = omega (arith, here.1, c.requires.variables) in
      let lit : IsLiteral max_variable (to_z w64 (of_z w64 z)) = rw (to_z-of_z w64 z fits) (here.0, most) in
      c.in_default.ensures.literal.1 lit,
)

pub loop-number-preserved : goal.loop-number-preserved
loop-number-preserved c =
    let xs = c.args.numbers.now in
    let k = c.loop-number.number-index in
    let x = c.in-Some.lit in
    let same : x ≡ get_or xs k x = search rules in
    let next = take-read xs k x c.loop-number-test.true same in
    let most : nat_abs x ≤ c.args.vars = omega (arith, c.var.ensures.variable, c.if-var-vars.true) in
    let here : IsLiteral c.args.vars x = (c.var.ensures.literal.0, most) in
    record {
      items = c.push_reserved.ensures.items ∙ ap (λ ls. ls ++ x ∷ []) c.loop-number.invariant.items ∙ sym next;
      within = rw next (All-push (IsLiteral c.args.vars) (take k xs) x c.loop-number.invariant.within here);
      count = search rules;
      capacity = search rules;
    }
