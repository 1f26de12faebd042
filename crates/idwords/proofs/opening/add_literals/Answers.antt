use Rattle.std.proofs.Common.{◌≡◌, ◌<◌, [], length, get_or, ◌∙◌, arith}
use Rattle.lrup_model.specs.lemmas.HistoryLemmas.{clause_at-suc}
use Rattle.idwords.proofs.OpeningLemmas.{literal_words_more}
use Rattle.idwords.proofs.opening.add_literals.Goals as goal

pub loop-i-preserved : goal.loop-i-preserved
loop-i-preserved c =
    let cs = c.args.formula.now.clauses in
    let clause = c.clause.result.now in
    let within : c.loop-i.i < length cs = omega arith in
    let here : clause ≡ get_or cs c.loop-i.i [] = c.clause.ensures ∙ clause_at-suc c.args.formula.now c.loop-i.i in
    c.in_ok-add_clause.ensures
    ∙ literal_words_more c.loop-i.i cs clause c.loop-i.words.items c.args.words.now.items within here c.loop-i.invariant
