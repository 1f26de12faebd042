use Rattle.std.proofs.Common.{◌-◌, length}
use Rattle.lrup_text.specs.internal.Kernel.{ReadsWords}
use Rattle.lrup_text.proofs.kernel.read_words.Given as goal

abbrev pub invariant-loop-at : goal.invariant-loop-at
invariant-loop-at g l = ReadsWords g.T.Word.text g.T.Word.fits l.text l.start l.fn.out l.first l.out l.count l.at

abbrev pub decreases-loop-at : goal.decreases-loop-at
decreases-loop-at g l = length l.text - l.at
