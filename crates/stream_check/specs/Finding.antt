-- Events whose clauses follow from the formula.
use Rattle.lrup_model.specs.Clause.{IsClause}
use Rattle.lrup_model.specs.Formula.{Cnf}
use Rattle.lrup_model.specs.Entailment.{Follows}
use Rattle.lrup_model.specs.Event as events
use Rattle.lrup_model.specs.Event.{Event}

-- a clause that the event finds is over the formula's variables, and follows from the formula
abbrev pub FindsSound : Cnf → Event → Type 0
FindsSound formula (events.fetch s id events.vacant) = Unit {0}
FindsSound formula (events.fetch s id (events.live clause)) =
    IsClause formula.vars clause × Follows formula clause
FindsSound formula (events.fetch s id events.retired) = Unit {0}
FindsSound formula (events.publish s id clause reply) = Unit {0}
FindsSound formula (events.retire s id reply) = Unit {0}
