use Rattle.std.proofs.Common.{◌≡◌, ◌<◌, ◌≤◌, ℕ, [], length, get_or, take, drop, suc, refl, sym, ap, subst, ◌∙◌, arith, length-take}
use Rattle.std.specs.List.{AllByRecursion}
use Rattle.std.proofs.Math.Seq.{split_at}
use Rattle.std.proofs.lemmas.Bool.{false≢true}
use Rattle.std.proofs.lemmas.List.{take_all, take_more}
use Rattle.lrup_model.specs.lemmas.ListLemmas.{All-push}
use Rattle.model_check.specs.Answers.{HasOneOf}
use Rattle.model_check.proofs.evaluation.first_untrue.Goals as goal

pub returns-then-not-has_one : goal.returns-then-not-has_one
returns-then-not-has_one c =
    λ literals marks.
    let cs = c.args.formula.now.clauses in
    let i = c.loop-i.i in
    let lt : i < length cs = omega (arith, c.loop-i-test.true, c.len-i-end.ensures.len) in
    let is : c.clause.result.now ≡ get_or cs i [] = c.clause.ensures ∙ ap (λ (m : ℕ). get_or cs m []) (omega arith) in record {
      before = take i cs;
      clause = get_or cs i [];
      after = drop (suc i) cs;
      whole = split_at cs i [] lt;
      number_is = omega (arith, length-take i cs, lt);
      others = c.loop-i.invariant literals marks;
      untrue = λ one. false≢true ((c.if-not-has_one.ensures literals marks).1 (subst (HasOneOf literals) (sym is) one));
    }

pub loop-i-preserved : goal.loop-i-preserved
loop-i-preserved c =
    λ literals marks.
    let cs = c.args.formula.now.clauses in
    let i = c.loop-i.i in
    let lt : i < length cs = omega (arith, c.loop-i-test.true, c.len-i-end.ensures.len) in
    let is : c.clause.result.now ≡ get_or cs i [] = c.clause.ensures ∙ ap (λ (m : ℕ). get_or cs m []) (omega arith) in
    subst (AllByRecursion (HasOneOf literals)) (sym (take_more cs i [] lt))
    (All-push (HasOneOf literals) (take i cs) (get_or cs i []) (c.loop-i.invariant literals marks)
    (subst (HasOneOf literals) is ((c.if-not-has_one.ensures literals marks).0 refl)))

pub returns : goal.returns
returns c =
    λ literals marks.
    let cs = c.args.formula.now.clauses in
    let past : length cs ≤ c.loop-i.i = omega (arith, c.loop-i-test.false, c.len-i-end.ensures.len) in
    subst (AllByRecursion (HasOneOf literals)) (take_all c.loop-i.i cs past) (c.loop-i.invariant literals marks)
