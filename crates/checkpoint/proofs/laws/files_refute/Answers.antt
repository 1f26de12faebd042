use Rattle.checkpoint.proofs.FileLemmas.{files_refute}
use Rattle.checkpoint.proofs.laws.files_refute.Goals as goal

pub returns : goal.returns
returns c = files_refute c.one_formula.ensures
