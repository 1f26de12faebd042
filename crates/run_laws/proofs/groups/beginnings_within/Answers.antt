use Rattle.run_laws.proofs.AloneLemmas.{beginnings_within as lemma}
use Rattle.run_laws.proofs.groups.beginnings_within.Goals as goal

pub returns : goal.returns
returns c = lemma c.every_stream_is_cut.ensures c.a_beginning_is_cut_alike.ensures
