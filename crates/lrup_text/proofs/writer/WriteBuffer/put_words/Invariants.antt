use Rattle.std.proofs.Common.{◌≡◌, take, false}
use Rattle.lrup_text.specs.internal.Reading.{words_text}
use Rattle.lrup_text.specs.Writing.{Puts}
use Rattle.lrup_text.proofs.writer.WriteBuffer.put_words.Given as goal

abbrev pub invariant-loop-word : goal.invariant-loop-word
invariant-loop-word g l =
    let written = g.W.Sink.written in
    record {
      running : g.W.Sink.has_failed l.sink ≡ false;
      puts : Puts (written l.fn.sink) (written l.sink) l.fn.self l.self (words_text g.T.Word.text (take l.word-index l.words));
    }
