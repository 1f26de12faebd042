use Rattle.dimacs.proofs.SetLemmas.{IsMarked-read}
use Rattle.dimacs.proofs.marks.is_marked.Goals as goal

pub returns : goal.returns
returns c = IsMarked-read c.args.words.now c.args.place
