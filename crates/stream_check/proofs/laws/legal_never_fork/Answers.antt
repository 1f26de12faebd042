use Rattle.stream_check.proofs.LegalLemmas.{legal_never_fork as lemma}
use Rattle.stream_check.proofs.laws.legal_never_fork.Goals as goal

pub returns : goal.returns
returns c = lemma
