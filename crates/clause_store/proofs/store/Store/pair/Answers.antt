use Rattle.std.proofs.Common.{arith, ◌≡◌, ◌+◌, ◌*◌, ◌∙◌, ap, subst, sym, Some, slice_get}
use Rattle.std.proofs.lemmas.Option.{slice_get_past}
use Rattle.lrup_model.specs.Pass.{pass_caller_view}
use Rattle.lrup_model.specs.CallerView.{clip_clause}
use Rattle.clause_store.proofs.LiteralsRead.{pair_place, pair_code, pair_literal}
use Rattle.clause_store.proofs.store.Store.pair.Goals as goal
use Rattle.clause_store.proofs.store.Store.pair.Goals.{then-i-len, else-i-len}

pub word-word-requires-clause-within : goal.word-word-requires-clause-within
word-word-requires-clause-within c =
    pair_place c.pass.inside.seat c.pass.inside.stream c.args.pass.now c.args.clip.now c.args.i 0 c.place_of.result
    c.pass.invariant c.pass.view_is c.requires.known c.place_of.ensures (omega arith) (omega (arith, c.requires.within))

pub lit-first-requires-clause-code : goal.lit-first-requires-clause-code
lit-first-requires-clause-code c =
    pair_code c.pass.inside.seat c.pass.inside.stream c.args.pass.now c.args.clip.now c.args.i 0 c.place_of.result
    c.pass.invariant c.pass.view_is c.requires.known c.place_of.ensures (omega arith)
    (omega (arith, c.requires.within)) c.word-word.result c.word-word.ensures.text

pub lit-requires-clause-code : goal.lit-requires-clause-code
lit-requires-clause-code c =
    pair_code c.pass.inside.seat c.pass.inside.stream c.args.pass.now c.args.clip.now c.args.i 1 c.place_of.result
    c.pass.invariant c.pass.view_is c.requires.known c.place_of.ensures (omega arith)
    (omega (arith, c.if-i-len.true, c.len-len.ensures)) c.word-word.result c.word-word.ensures.text

pub returns-clause-first : goal.returns-clause-first
returns-clause-first c =
    let at = pair_literal c.pass.inside.seat c.pass.inside.stream c.args.pass.now c.args.clip.now c.args.i 0 c.place_of.result
    c.pass.invariant c.pass.view_is c.requires.known c.place_of.ensures (omega arith) (omega (arith, c.requires.within))
    c.word-word.result c.lit-first.result c.word-word.ensures.text c.lit-first.ensures in
    let text = clip_clause (pass_caller_view c.args.pass.now.view) c.args.clip.now in
    let same : 2 * c.args.i + 0 ≡ 2 * c.args.i = omega arith in
    let first = subst (λ k. slice_get text k ≡ Some c.lit-first.result) same at in
    elim c.if-i-len.branch [
      | then-i-len w ↦ first ∙ sym (ap (λ r. Some r.0) w.result-is)
      | else-i-len w ↦ first ∙ sym (ap (λ r. Some r.0) w.result-is)
    ]

pub returns-clause-second : goal.returns-clause-second
returns-clause-second c =
    let text = clip_clause (pass_caller_view c.args.pass.now.view) c.args.clip.now in
    elim c.if-i-len.branch [
      | then-i-len w ↦
          pair_literal c.pass.inside.seat c.pass.inside.stream c.args.pass.now c.args.clip.now c.args.i 1 c.place_of.result
          c.pass.invariant c.pass.view_is c.requires.known c.place_of.ensures (omega arith)
          (omega (arith, w.if-i-len.true, c.len-len.ensures))
          c.word-word.result w.lit.result c.word-word.ensures.text w.lit.ensures
          ∙ sym (ap (λ r. r.1) w.result-is)
      | else-i-len w ↦
          slice_get_past text (2 * c.args.i + 1) (omega (arith, w.if-i-len.false, c.len-len.ensures, c.requires.known.len))
          ∙ sym (ap (λ r. r.1) w.result-is)
    ]
