use Rattle.std.proofs.Common.{◌+◌, arith}
use Rattle.lrup_text.proofs.WholeLines.{words_start, words_ahead}
use Rattle.lrup_text.proofs.kernel.read_words_ahead.Goals as goal

pub returns-in-Some : goal.returns-in-Some
returns-in-Some g c =
    words_ahead g.T.Word.text g.T.Word.fits c.args.piece.now (c.in-Some.last + 1) c.args.out.now c.read_words.new.out c.args.first
    c.read_words.result.0 c.read_words.result.1 (omega (arith, c.in-Some.ensures)) c.read_words.ensures

pub returns-in-None : goal.returns-in-None
returns-in-None g c = words_start g.T.Word.text g.T.Word.fits c.args.piece.now 0 c.args.out.now c.args.first (omega arith) c.requires
