-- Lemmas about formulas that follow from others.
use Rattle.std.proofs.Common.{List, [], ◌∷◌, refl, ◌∙◌}
use Rattle.std.specs.List.{AllByRecursion}
use Rattle.lrup_model.specs.Clause.{Clause}
use Rattle.lrup_model.specs.Entailment.{Assignment, Satisfies, SatisfiesAll, Follows}
use Rattle.lrup_model.specs.Formula.{Cnf}
use Rattle.lrup_model.specs.lemmas.ListLemmas.{All-map}
use Rattle.checkpoint.specs.Entails.{EntailsItself, EntailsOnward, RefutesBack, RefutesBackUnder, ChainRefutes, ChainRefutesUnder}

-- an assignment that satisfies a formula satisfies the clauses that follow from it
all_satisfied : (f : Cnf) (a : Assignment) (cs : List Clause) → AllByRecursion (Follows f) cs → SatisfiesAll a f
    → AllByRecursion (Satisfies a) cs
all_satisfied f a [] follow sat = tt
all_satisfied f a (c ∷ cs) follow sat = (follow.0.holds a sat, all_satisfied f a cs follow.1 sat)

-- clauses follow from a formula if they are satisfied whenever the formula is
all_follow : (f : Cnf) (cs : List Clause) → ((a : Assignment) → SatisfiesAll a f → AllByRecursion (Satisfies a) cs)
    → AllByRecursion (Follows f) cs
all_follow f [] sat = tt
all_follow f (c ∷ cs) sat = (record { holds = λ a all. (sat a all).0 }, all_follow f cs (λ a all. (sat a all).1))

pub entails_itself : EntailsItself
entails_itself f = record { vars = refl; each = all_follow f f.clauses (λ a all. all) }

pub entails_onward : EntailsOnward
entails_onward f g h first second = record {
  vars = second.vars ∙ first.vars;
  each = All-map (Follows g) (Follows f) (λ c follows. record {
    holds = λ a sat. follows.holds a (all_satisfied f a g.clauses first.each sat);
  })
      h.clauses second.each;
}

pub refutes_back : RefutesBack
refutes_back f g entails refuted a sat = refuted a (all_satisfied f a g.clauses entails.each sat)

pub refutes_back_under : RefutesBackUnder
refutes_back_under f g cube entails refuted a sat under = refuted a (all_satisfied f a g.clauses entails.each sat) under

pub chain_refutes : ChainRefutes
chain_refutes f [] chain refuted = refuted
chain_refutes f (g ∷ gs) chain refuted = refutes_back f g chain.0 (chain_refutes g gs chain.1 refuted)

pub chain_refutes_under : ChainRefutesUnder
chain_refutes_under f [] cube chain refuted = refuted
chain_refutes_under f (g ∷ gs) cube chain refuted = refutes_back_under f g cube chain.0 (chain_refutes_under g gs cube chain.1 refuted)
