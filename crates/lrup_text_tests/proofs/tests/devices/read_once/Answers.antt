use Rattle.lrup_text_tests.proofs.DeviceLemmas.{next_given}
use Rattle.lrup_text_tests.proofs.tests.devices.read_once.Goals as goal

pub returns : goal.returns
returns c = next_given _ _ _ _ _ _ c.new-source.ensures.left c.read.ensures.reads
