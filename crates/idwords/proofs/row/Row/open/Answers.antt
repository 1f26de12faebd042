use Rattle.std.proofs.Common.{arith, ℕ, List, [], ◌∷◌, length, sym, ap, subst, ◌∙◌}
use Rattle.lrup_model.specs.Formula.{Cnf}
use Rattle.idwords.specs.internal.Rule.{Keeps, IsPlan, opening_threads}
use Rattle.idwords.proofs.SpellingLemmas.{lies_within}
use Rattle.idwords.proofs.OpeningLemmas.{opens, length-opening_words, opening_fair}
use Rattle.idwords.proofs.row.Row.open.Goals as goal

pub of_words-requires : goal.of_words-requires
of_words-requires c =
    let f = c.args.formula.now in
    let p = c.args.layout.now in
    let plan : IsPlan f p = c.in_ok-words.ensures.plan in
    let kept = opens {S = ℕ} f p [] plan.formula plan.layout c.requires in (
      kept.0,
      subst (λ (g : Cnf). Keeps g p kept.0 c.as_slice.result.now (opening_threads g p 1 p.streams ∷ [])) (sym c.of.ensures)
          (subst (λ (ws : List ℕ). Keeps f p kept.0 ws (opening_threads f p 1 p.streams ∷ []))
          (sym (c.as_slice.ensures.value ∙ c.in_ok-words.ensures.words)) kept.1),
    )

pub seats_of-requires-clause-words : goal.seats_of-requires-clause-words
seats_of-requires-clause-words c =
    c.in_ok-table.ensures.0 ∙ ap length (c.as_slice.ensures.value ∙ c.in_ok-words.ensures.words)
    ∙ length-opening_words c.args.formula.now c.args.layout.now c.requires

pub returns-clause-fair : goal.returns-clause-fair
returns-clause-fair c = λ s stream. opening_fair c.args.formula.now c.args.layout.now s c.in_ok-words.ensures.plan stream

pub returns-clause-within : goal.returns-clause-within
returns-clause-within c =
    let plan = c.in_ok-words.ensures.plan in
    lies_within c.args.formula.now c.args.layout.now [] plan.layout.some_stream c.requires (record { events = tt; room = λ s. omega arith })
