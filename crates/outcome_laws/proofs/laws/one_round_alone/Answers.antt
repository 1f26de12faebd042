use Rattle.command.specs.lemmas.OneRound.{was_alone}
use Rattle.outcome_laws.proofs.laws.one_round_alone.Goals as goal

pub returns : goal.returns
returns g c = λ given cube last before once were. was_alone once _ cube last before were
