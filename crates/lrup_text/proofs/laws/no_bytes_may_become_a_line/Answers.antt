use Rattle.lrup_text.proofs.TextLaws.{empty_pending}
use Rattle.lrup_text.proofs.laws.no_bytes_may_become_a_line.Goals as goal

pub returns : goal.returns
returns c = empty_pending
