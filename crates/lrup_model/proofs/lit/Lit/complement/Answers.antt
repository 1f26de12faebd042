use Rattle.lrup_model.proofs.LiteralLemmas.{literal_of-xor_one}
use Rattle.lrup_model.proofs.lit.Lit.complement.Goals as goal

pub returns : goal.returns
returns c = rw (← c.self.view_is) (literal_of-xor_one c.self.inside.code)
