use Rattle.run_laws.proofs.TurnsLemmas.{bytes_decide as lemma}
use Rattle.run_laws.proofs.turns.bytes_decide.Goals as goal

pub returns : goal.returns
returns c = lemma c.decided_before_failure.ensures c.one_report.ensures c.legal_never_fork.ensures c.blocks_go_alike.ensures
