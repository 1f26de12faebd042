use Rattle.std.proofs.Common.{◌∷◌, [], ◌++◌}
use Rattle.lrup_text.specs.Writing.{space}
use Rattle.lrup_text.specs.lemmas.WritingLemmas.{breaks_held, breaks_more, at_err}
use Rattle.lrup_text.proofs.writer.WriteBuffer.put_word.Goals as goal

pub returns-in_err-flush-clause-puts : goal.returns-in_err-flush-clause-puts
returns-in_err-flush-clause-puts g c =
    let broken = c.in_err-flush.ensures.text in
    at_err c.from_residual.result _ _ c.from_residual.ensures.0
    (breaks_more (breaks_held broken.0 broken.1 broken.2 broken.3) (g.T.Word.text c.args.word ++ space ∷ []))
