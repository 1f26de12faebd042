use Rattle.lrup_model.specs.lemmas.EntryLemmas.{run-advances}
use Rattle.lrup_model.proofs.laws.entries_advance.Goals as goal

pub returns : goal.returns
returns c = run-advances
