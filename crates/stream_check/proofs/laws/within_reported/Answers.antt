use Rattle.stream_check.proofs.CubeReports as lemmas
use Rattle.stream_check.proofs.laws.within_reported.Goals as goal

pub returns : goal.returns
returns c = lemmas.within_reported
