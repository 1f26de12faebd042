use Rattle.checkpoint.proofs.FileLemmas.{files_refute_under}
use Rattle.checkpoint.proofs.laws.files_refute_under.Goals as goal

pub returns : goal.returns
returns c = files_refute_under c.one_formula.ensures
