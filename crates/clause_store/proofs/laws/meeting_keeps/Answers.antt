use Rattle.lrup_model.specs.lemmas.PassLemmas.{synced_keep}
use Rattle.clause_store.proofs.laws.meeting_keeps.Goals as goal

pub returns : goal.returns
returns c = synced_keep
