use Rattle.run_laws.proofs.JudgedLemmas.{deleted_retired as lemma}
use Rattle.run_laws.proofs.orders.deleted_retired.Goals as goal

pub returns : goal.returns
returns c = lemma c.bytes_begin_with_one_line.ensures
