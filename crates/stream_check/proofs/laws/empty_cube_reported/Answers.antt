use Rattle.stream_check.proofs.CubeReports as lemmas
use Rattle.stream_check.proofs.laws.empty_cube_reported.Goals as goal

pub returns : goal.returns
returns c = lemmas.empty_cube_reported
