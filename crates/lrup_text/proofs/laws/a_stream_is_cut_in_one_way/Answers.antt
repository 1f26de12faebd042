use Rattle.lrup_text.proofs.Streams.{one_cut}
use Rattle.lrup_text.proofs.laws.a_stream_is_cut_in_one_way.Goals as goal

pub returns : goal.returns
returns c = one_cut
