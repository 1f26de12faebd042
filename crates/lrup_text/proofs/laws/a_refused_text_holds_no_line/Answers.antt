use Rattle.lrup_text.proofs.Streams.{refused_stays}
use Rattle.lrup_text.proofs.laws.a_refused_text_holds_no_line.Goals as goal

pub returns : goal.returns
returns c = refused_stays
