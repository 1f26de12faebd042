use Rattle.lrup_text.proofs.WholeLines.{words_start, words_next}
use Rattle.lrup_text.proofs.kernel.read_words.Goals as goal

pub loop-at-init : goal.loop-at-init
loop-at-init g c =
    words_start g.T.Word.text g.T.Word.fits c.args.text.now c.args.start c.args.out.now c.args.first c.requires.inside c.requires.room

pub loop-at-preserved : goal.loop-at-preserved
loop-at-preserved g c =
    words_next g.T.Word.text g.T.Word.fits c.args.text.now c.args.start c.args.out.now c.loop-at.out c.args.first c.loop-at.count
    c.loop-at.at c.in-Some.found.0 c.in-Some.found.1 c.loop-at.invariant c.in-Some.ensures c.if-text-end-ne-SPACE.false c.if-count-out.true
