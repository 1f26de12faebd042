use Rattle.std.proofs.Common.{◌≡◌, ◌<◌, [], length, get_or, ◌∙◌, arith}
use Rattle.lrup_model.specs.Clause.{Clause}
use Rattle.lrup_model.specs.lemmas.HistoryLemmas.{clause_at-suc}
use Rattle.idwords.proofs.OpeningLemmas.{words_in-take, clause_words_more, words_more}
use Rattle.idwords.proofs.opening.add_clauses.Goals as goal

pub live_word-requires-clause-start : goal.live_word-requires-clause-start
live_word-requires-clause-start c = omega (arith, c.loop-i.invariant.start, words_in-take c.args.formula.now.clauses c.loop-i.i, c.requires)

pub loop-i-preserved : goal.loop-i-preserved
loop-i-preserved c =
    let cs = c.args.formula.now.clauses in
    let clause : Clause = c.clause.result.now in
    let within : c.loop-i.i < length cs = omega arith in
    let here : clause ≡ get_or cs c.loop-i.i [] = ◌∙◌ {A = Clause} c.clause.ensures (clause_at-suc c.args.formula.now c.loop-i.i) in
    record {
      words = clause_words_more c.args.first c.loop-i.start c.loop-i.i cs clause c.push.new.self.items c.loop-i.words.items
          c.args.words.now.items c.live_word.result within here
          c.loop-i.invariant.start c.loop-i.invariant.words c.in_ok-push.ensures.items c.live_word.ensures;
      start = omega (arith, c.loop-i.invariant.start, words_more cs c.loop-i.i clause within here);
    }
