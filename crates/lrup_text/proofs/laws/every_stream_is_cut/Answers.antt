use Rattle.lrup_text.proofs.Cuts.{every_cut}
use Rattle.lrup_text.proofs.laws.every_stream_is_cut.Goals as goal

pub returns : goal.returns
returns c = every_cut
