use Rattle.lrup_model.specs.lemmas.PassLemmas as passes
use Rattle.clause_store.proofs.laws.sync_twice.Goals as goal

pub returns : goal.returns
returns c = passes.sync_twice
