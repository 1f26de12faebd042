use Rattle.std.proofs.Common.{◌∙◌}
use Rattle.lrup_text.proofs.WholeLines.{whole_deletion, whole_import}
use Rattle.lrup_text.proofs.kernel.read_marked.Goals as goal

pub returns-then-line-mark-eq-LETTER_D : goal.returns-then-line-mark-eq-LETTER_D
returns-then-line-mark-eq-LETTER_D c =
    whole_deletion c.args.line.now c.args.literals.now c.read_list.new.out c.args.lead c.args.end c.in_ok-identity_count.identity_count
    (c.read_list.auto.out ∙ c.requires.identities) c.requires.number c.requires.space c.requires.inside c.if-line-mark-eq-LETTER_D.true
    c.in_ok-identity_count.ensures

pub returns : goal.returns
returns c =
    whole_import c.args.line.now c.read_list-2.new.out c.args.identities.now c.args.lead c.args.end c.in_ok-literal_count.literal_count
    (c.read_list-2.auto.out ∙ c.requires.literals) c.requires.number c.requires.space c.requires.inside c.if-line-mark-ne-LETTER_I.false
    c.in_ok-literal_count.ensures
