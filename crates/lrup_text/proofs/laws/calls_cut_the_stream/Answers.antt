use Rattle.lrup_text.proofs.Streams.{calls_cut}
use Rattle.lrup_text.proofs.laws.calls_cut_the_stream.Goals as goal

pub returns : goal.returns
returns c = calls_cut
