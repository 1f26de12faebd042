use Rattle.std.proofs.Common.{◌∷◌, [], refl}
use Rattle.lrup_text.specs.internal.ByteNames.{zero_digit, line_feed}
use Rattle.lrup_text.specs.lemmas.WritingLemmas.{breaks_more, puts_all_next, at_err}
use Rattle.lrup_text.proofs.writer.WriteBuffer.put_list.Goals as goal

pub returns-in_err-put_words-clause-puts : goal.returns-in_err-put_words-clause-puts
returns-in_err-put_words-clause-puts g c =
    at_err c.from_residual.result _ _ c.from_residual.ensures.0
    (breaks_more c.in_err-put_words.ensures.puts (zero_digit ∷ line_feed ∷ []))

pub returns-clause-puts : goal.returns-clause-puts
returns-clause-puts g c = puts_all_next c.put.result _ _ _ c.in_ok-put_words.ensures.puts c.put.ensures.puts refl
