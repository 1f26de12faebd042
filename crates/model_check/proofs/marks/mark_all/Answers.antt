use Rattle.std.proofs.Common.{neg_ℤ, take, drop, suc, refl, sym, subst, arith}
use Rattle.std.proofs.lemmas.Bool.{false≢true}
use Rattle.std.proofs.lemmas.List.{take_all}
use Rattle.lrup_model.specs.Literal.{IsLiteral}
use Rattle.lrup_model.specs.Clause.{Has}
use Rattle.lrup_model.specs.lemmas.ClauseLemmas.{All-read, take-read}
use Rattle.lrup_model.specs.lemmas.CodeLemmas.{IsCode-code_of}
use Rattle.model_check.specs.Answers.{AreConsistent}
use Rattle.model_check.specs.internal.Marks.{HasMark, AreMarked}
use Rattle.model_check.proofs.EvaluationLemmas.{cut_read}
use Rattle.model_check.proofs.MarkLemmas.{consistent_more}
use Rattle.model_check.proofs.marks.mark_all.Goals as goal

pub returns-then-is_marked : goal.returns-then-is_marked
returns-then-is_marked c =
    let all = c.args.literals.now in
    let i = c.loop-l.l-index in
    let l = c.l-item.result in record {
      before = take i all;
      after = drop (suc i) all;
      whole = cut_read all i l c.loop-l-test.true c.l-item.is;
      consistent = c.loop-l.invariant.consistent;
      complement = subst (Has (take i all)) c.complement.ensures
          ((c.loop-l.invariant.marks c.complement.result).0 (c.if-is_marked.ensures.0 refl));
    }

pub set_mark-requires : goal.set_mark-requires
set_mark-requires c =
    let literal : IsLiteral c.args.vars c.l-item.result =
    All-read (IsLiteral c.args.vars) c.args.literals.now c.loop-l.l-index c.l-item.result c.requires.within c.loop-l-test.true
    c.l-item.is in
    let code = IsCode-code_of c.args.vars c.l-item.result literal in
    omega (arith, code.1, c.requires.all, c.loop-l.auto.marks)

pub loop-l-preserved : goal.loop-l-preserved
loop-l-preserved c =
    let all = c.args.literals.now in
    let i = c.loop-l.l-index in
    let l = c.l-item.result in
    let e = take-read all i l c.loop-l-test.true c.l-item.is in
    let literal : IsLiteral c.args.vars l = All-read (IsLiteral c.args.vars) all i l c.requires.within c.loop-l-test.true c.l-item.is in
    let none : ¬ Has (take i all) (neg_ℤ l) = λ h. false≢true (c.if-is_marked.ensures.1
    (subst (HasMark c.loop-l.marks) (sym c.complement.ensures) ((c.loop-l.invariant.marks (neg_ℤ l)).1 h))) in record {
      marks = subst (AreMarked c.set_mark.new.marks) (sym e)
          (c.set_mark.ensures (take i all) c.loop-l.invariant.marks);
      consistent = subst AreConsistent (sym e) (consistent_more (take i all) l literal.0 c.loop-l.invariant.consistent none);
    }

pub returns : goal.returns
returns c =
    let e = take_all c.loop-l.l-index c.args.literals.now c.loop-l-test.false in
    (subst (AreMarked c.loop-l.marks) e c.loop-l.invariant.marks, subst AreConsistent e c.loop-l.invariant.consistent)
