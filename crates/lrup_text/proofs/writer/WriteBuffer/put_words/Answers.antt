use Rattle.std.proofs.Common.{◌+◌, ◌∷◌, [], ◌++◌, take, drop, sym, ◌∙◌, ap}
use Rattle.lrup_text.specs.Writing.{space}
use Rattle.lrup_text.specs.internal.Reading.{words_text}
use Rattle.lrup_text.specs.lemmas.WritingLemmas.{puts_nothing, puts_next, breaks_next, at_err, texts_more, texts_split}
use Rattle.lrup_text.proofs.writer.WriteBuffer.put_words.Goals as goal

pub loop-word-init : goal.loop-word-init
unfolding words_text
loop-word-init g c = record { running = c.requires; puts = puts_nothing (g.W.Sink.written c.args.sink.now) c.args.self.now }

pub returns-in_err-put_word-clause-puts : goal.returns-in_err-put_word-clause-puts
unfolding words_text
returns-in_err-put_word-clause-puts g c =
    let words = c.args.words.now in
    let k = c.loop-word.word-index in
    let rest = words_text g.T.Word.text (drop (k + 1) words) in
    at_err c.from_residual.result _ _ c.from_residual.ensures.0
    (breaks_next c.loop-word.invariant.puts c.in_err-put_word.ensures.puts rest
    (texts_split (λ w. g.T.Word.text w ++ space ∷ []) words k c.word-item.result c.loop-word-test.true
    ∙ ap (λ w. (words_text g.T.Word.text (take k words) ++ (g.T.Word.text w ++ space ∷ [])) ++ rest) (sym c.word-item.is)))

pub loop-word-preserved : goal.loop-word-preserved
unfolding words_text
loop-word-preserved g c =
    let words = c.args.words.now in
    let k = c.loop-word.word-index in
    record {
      running = c.in_ok-put_word.ensures.failed;
      puts = puts_next c.loop-word.invariant.puts c.in_ok-put_word.ensures.puts
          (texts_more (λ w. g.T.Word.text w ++ space ∷ []) words k c.word-item.result c.loop-word-test.true
          ∙ ap (λ w. words_text g.T.Word.text (take k words) ++ (g.T.Word.text w ++ space ∷ [])) (sym c.word-item.is));
    }
