use Rattle.lrup_text.proofs.Cuts.{beginning_cut}
use Rattle.lrup_text.proofs.laws.a_beginning_is_cut_alike.Goals as goal

pub returns : goal.returns
returns c = beginning_cut
