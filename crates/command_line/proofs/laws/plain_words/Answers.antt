use Rattle.command_line.proofs.PlainLemmas.{plain_words}
use Rattle.command_line.proofs.laws.plain_words.Goals as goal

pub returns : goal.returns
returns c = plain_words
