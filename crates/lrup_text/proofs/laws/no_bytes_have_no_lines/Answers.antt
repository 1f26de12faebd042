use Rattle.lrup_text.proofs.Streams.{empty_cut}
use Rattle.lrup_text.proofs.laws.no_bytes_have_no_lines.Goals as goal

pub returns : goal.returns
returns c = empty_cut
