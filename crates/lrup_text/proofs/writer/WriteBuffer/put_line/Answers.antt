use Rattle.std.proofs.Common.{◌∷◌, [], ◌++◌, ◌∙◌, ap}
use Rattle.lrup_text.specs.Writing.{space}
use Rattle.lrup_text.specs.internal.ByteNames.{zero_digit, letter_d, letter_i, line_feed}
use Rattle.lrup_text.specs.Lines.{line_text, line_of}
use Rattle.lrup_text.specs.internal.Reading.{literals_text, numbers_text}
use Rattle.lrup_text.proofs.LineTexts.{addition_text, deletion_text, import_text}
use Rattle.lrup_text.specs.lemmas.WritingLemmas.{breaks_as, breaks_more, breaks_then, puts_then, puts_all_next, at_err}
use Rattle.lrup_text.proofs.writer.WriteBuffer.put_line.Goals as goal

pub returns-in_err-put_word-in-Add-clause-puts : goal.returns-in_err-put_word-in-Add-clause-puts
returns-in_err-put_word-in-Add-clause-puts g c =
    at_err c.from_residual.result _ _ c.from_residual.ensures.0
    (breaks_as (breaks_more (breaks_more (breaks_more c.in_err-put_word-in-Add.ensures.puts (literals_text c.in-Add.lits.now))
    (zero_digit ∷ space ∷ [])) (numbers_text c.in-Add.hints.now ++ zero_digit ∷ line_feed ∷ []))
    (ap (λ l. line_text (line_of l)) c.in-Add.is ∙ addition_text c.in-Add.id c.in-Add.lits.now c.in-Add.hints.now))

pub returns-in_err-put_words-in-Add-clause-puts : goal.returns-in_err-put_words-in-Add-clause-puts
returns-in_err-put_words-in-Add-clause-puts g c =
    at_err c.from_residual-in_err-put_words-in-Add.result _ _ c.from_residual-in_err-put_words-in-Add.ensures.0
    (breaks_as (breaks_more (breaks_more (breaks_then c.in_ok-put_word-in-Add.ensures.puts c.in_err-put_words-in-Add.ensures.puts)
    (zero_digit ∷ space ∷ [])) (numbers_text c.in-Add.hints.now ++ zero_digit ∷ line_feed ∷ []))
    (ap (λ l. line_text (line_of l)) c.in-Add.is ∙ addition_text c.in-Add.id c.in-Add.lits.now c.in-Add.hints.now))

pub returns-in_err-put-in-Add-clause-puts : goal.returns-in_err-put-in-Add-clause-puts
returns-in_err-put-in-Add-clause-puts g c =
    at_err c.from_residual-in_err-put-in-Add.result _ _ c.from_residual-in_err-put-in-Add.ensures.0
    (breaks_as (breaks_more (breaks_then (puts_then c.in_ok-put_word-in-Add.ensures.puts c.in_ok-put_words-in-Add.ensures.puts)
    c.in_err-put-in-Add.ensures.puts) (numbers_text c.in-Add.hints.now ++ zero_digit ∷ line_feed ∷ []))
    (ap (λ l. line_text (line_of l)) c.in-Add.is ∙ addition_text c.in-Add.id c.in-Add.lits.now c.in-Add.hints.now))

pub returns-in_ok-put-in-Add-clause-puts : goal.returns-in_ok-put-in-Add-clause-puts
returns-in_ok-put-in-Add-clause-puts g c =
    puts_all_next c.put_list.result _ _ _
    (puts_then (puts_then c.in_ok-put_word-in-Add.ensures.puts c.in_ok-put_words-in-Add.ensures.puts) c.in_ok-put-in-Add.ensures.puts)
    c.put_list.ensures.puts
    (ap (λ l. line_text (line_of l)) c.in-Add.is ∙ addition_text c.in-Add.id c.in-Add.lits.now c.in-Add.hints.now)

pub returns-in_err-put_word-in-Delete-clause-puts : goal.returns-in_err-put_word-in-Delete-clause-puts
returns-in_err-put_word-in-Delete-clause-puts g c =
    at_err c.from_residual-in_err-put_word-in-Delete.result _ _ c.from_residual-in_err-put_word-in-Delete.ensures.0
    (breaks_as (breaks_more (breaks_more c.in_err-put_word-in-Delete.ensures.puts (letter_d ∷ space ∷ []))
    (numbers_text c.in-Delete.ids.now ++ zero_digit ∷ line_feed ∷ []))
    (ap (λ l. line_text (line_of l)) c.in-Delete.is ∙ deletion_text c.in-Delete.lead c.in-Delete.ids.now))

pub returns-in_err-put-in-Delete-clause-puts : goal.returns-in_err-put-in-Delete-clause-puts
returns-in_err-put-in-Delete-clause-puts g c =
    at_err c.from_residual-in_err-put-in-Delete.result _ _ c.from_residual-in_err-put-in-Delete.ensures.0
    (breaks_as (breaks_more (breaks_then c.in_ok-put_word-in-Delete.ensures.puts c.in_err-put-in-Delete.ensures.puts)
    (numbers_text c.in-Delete.ids.now ++ zero_digit ∷ line_feed ∷ []))
    (ap (λ l. line_text (line_of l)) c.in-Delete.is ∙ deletion_text c.in-Delete.lead c.in-Delete.ids.now))

pub returns-in_ok-put-in-Delete-clause-puts : goal.returns-in_ok-put-in-Delete-clause-puts
returns-in_ok-put-in-Delete-clause-puts g c =
    puts_all_next c.put_list-in-Delete.result _ _ _
    (puts_then c.in_ok-put_word-in-Delete.ensures.puts c.in_ok-put-in-Delete.ensures.puts) c.put_list-in-Delete.ensures.puts
    (ap (λ l. line_text (line_of l)) c.in-Delete.is ∙ deletion_text c.in-Delete.lead c.in-Delete.ids.now)

pub returns-in_err-put_word-in-Import-clause-puts : goal.returns-in_err-put_word-in-Import-clause-puts
returns-in_err-put_word-in-Import-clause-puts g c =
    at_err c.from_residual-in_err-put_word-in-Import.result _ _ c.from_residual-in_err-put_word-in-Import.ensures.0
    (breaks_as (breaks_more (breaks_more c.in_err-put_word-in-Import.ensures.puts (letter_i ∷ space ∷ []))
    (literals_text c.in-Import.lits.now ++ zero_digit ∷ line_feed ∷ []))
    (ap (λ l. line_text (line_of l)) c.in-Import.is ∙ import_text c.in-Import.id c.in-Import.lits.now))

pub returns-in_err-put-in-Import-clause-puts : goal.returns-in_err-put-in-Import-clause-puts
returns-in_err-put-in-Import-clause-puts g c =
    at_err c.from_residual-in_err-put-in-Import.result _ _ c.from_residual-in_err-put-in-Import.ensures.0
    (breaks_as (breaks_more (breaks_then c.in_ok-put_word-in-Import.ensures.puts c.in_err-put-in-Import.ensures.puts)
    (literals_text c.in-Import.lits.now ++ zero_digit ∷ line_feed ∷ []))
    (ap (λ l. line_text (line_of l)) c.in-Import.is ∙ import_text c.in-Import.id c.in-Import.lits.now))

pub returns-in_ok-put-in-Import-clause-puts : goal.returns-in_ok-put-in-Import-clause-puts
returns-in_ok-put-in-Import-clause-puts g c =
    puts_all_next c.put_list-in-Import.result _ _ _
    (puts_then c.in_ok-put_word-in-Import.ensures.puts c.in_ok-put-in-Import.ensures.puts) c.put_list-in-Import.ensures.puts
    (ap (λ l. line_text (line_of l)) c.in-Import.is ∙ import_text c.in-Import.id c.in-Import.lits.now)
