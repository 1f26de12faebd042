use Rattle.std.proofs.Common.{◌∙◌}
use Rattle.lrup_text.proofs.WholeLines.{whole_addition}
use Rattle.lrup_text.proofs.kernel.read_line.Goals as goal

pub returns : goal.returns
returns c =
    whole_addition c.args.line.now c.args.literals.now c.read_words-literal_count.new.out c.read_list.new.out c.in_ok-lead.lead
    c.in_ok-lead.end c.read_words-literal_count.result.0
    c.read_words-literal_count.result.1 c.in_ok-identity_count.identity_count
    (c.read_words-literal_count.auto.out ∙ c.requires.literals) (c.read_list.auto.out ∙ c.requires.identities)
    c.in_ok-lead.ensures c.if-line-end-ne-SPACE.false c.read_words-literal_count.ensures c.if-close-line.false
    c.if-line-close-ne-ZERO.false c.in_ok-identity_count.ensures
