use Rattle.portfolio_tests.proofs.AloneLemmas.{import_is_open}
use Rattle.portfolio_tests.proofs.tests.isolation.an_import_is_open.Goals as goal

pub returns : goal.returns
returns c = import_is_open c.a_stream_is_cut_in_one_way.ensures
