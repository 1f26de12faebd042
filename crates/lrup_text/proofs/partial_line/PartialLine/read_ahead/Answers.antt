use Rattle.std.proofs.Common.{◌∙◌, ap, length}
use Rattle.std.proofs.lemmas.List.{with_items_is}
use Rattle.lrup_text.proofs.Ahead.{literals_ahead, items_ahead}
use Rattle.lrup_text.proofs.partial_line.PartialLine.read_ahead.Goals as goal

pub returns-in-Body : goal.returns-in-Body
returns-in-Body c =
    let size = c.read_words_ahead-count.auto.out ∙ c.as_mut_slice-literals.ensures.len in
    let found = rw c.as_mut_slice-literals.ensures.value at c.read_words_ahead-count.ensures in
    literals_ahead c.args.self.now _ c.read_words_ahead-count.result.0 c.read_words_ahead-count.result.1
    c.read_words_ahead-count.new.out c.args.piece.now c.requires c.in-Body.is
    (with_items_is c.args.self.now.literals c.read_words_ahead-count.new.out size)
    (c.read_words_ahead-count.auto.out ∙ ap length c.as_mut_slice-literals.ensures.value ∙ c.requires.room.literals) found

pub returns-in-Item : goal.returns-in-Item
returns-in-Item c =
    let size = c.read_words_ahead-count-in-Item.auto.out ∙ c.as_mut_slice-identities.ensures.len in
    let found = rw c.as_mut_slice-identities.ensures.value at c.read_words_ahead-count-in-Item.ensures in
    items_ahead c.args.self.now _ c.read_words_ahead-count-in-Item.result.0 c.read_words_ahead-count-in-Item.result.1
    c.read_words_ahead-count-in-Item.new.out c.args.piece.now c.requires c.in-Item.is
    (with_items_is c.args.self.now.identities c.read_words_ahead-count-in-Item.new.out size)
    (c.read_words_ahead-count-in-Item.auto.out ∙ ap length c.as_mut_slice-identities.ensures.value ∙ c.requires.room.identities) found
