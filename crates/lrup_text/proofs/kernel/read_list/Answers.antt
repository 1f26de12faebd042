use Rattle.lrup_text.proofs.WholeLines.{list_read}
use Rattle.lrup_text.proofs.kernel.read_list.Goals as goal

pub returns-then-line-end-eq-ZERO : goal.returns-then-line-end-eq-ZERO
returns-then-line-end-eq-ZERO g c =
    list_read g.T.Word.text g.T.Word.fits c.args.line.now c.args.start c.args.out.now c.read_words-count.new.out c.read_words-count.result.0
    c.read_words-count.result.1 c.requires.ends c.requires.inside
    c.if-line-start-ne-SPACE.false c.read_words-count.ensures c.if-end-line.true c.if-line-end-eq-ZERO.true
