use Rattle.std.proofs.Common.{◌≡◌, ◌++◌, List, [], ◌∷◌, Option, ap, ◌∙◌, subst}
use Rattle.std.specs.Option.{option_to_list}
use Rattle.lrup_model.specs.Formula.{Cnf}
use Rattle.clause_store.specs.Passes.{StoreValue, PassValue}
use Rattle.clause_store_tests.specs.Worked.{IsPassAt, ArePassesAt}
use Rattle.clause_store_tests.proofs.tests.two_of.Goals as goal

-- if all passes belong to this store and formula, so do the last one and those before it
last_at : (f : Cnf) (store : StoreValue) (ps : List PassValue) (p : PassValue) → ArePassesAt f store (ps ++ p ∷ [])
    → ArePassesAt f store ps × IsPassAt f store p
last_at f store [] p all = (tt, all.0)
last_at f store (q ∷ ps) p all =
    let rest = last_at f store ps p all.1 in
    ((all.0, rest.0), rest.1)

pub returns : goal.returns
returns c = λ f store all.
    let last = last_at f store c.pop.new.self.items c.in_ok-second.second
    (subst (ArePassesAt f store)
    (c.pop.ensures.items ∙ ap (λ (o : Option PassValue). c.pop.new.self.items ++ option_to_list o) c.in_ok-second.ensures.ok_part) all) in
    let first = last_at f store c.pop-2.new.self.items c.in_ok-first.first
    (subst (ArePassesAt f store)
    (c.pop-2.ensures.items ∙ ap (λ (o : Option PassValue). c.pop-2.new.self.items ++ option_to_list o) c.in_ok-first.ensures.ok_part)
    last.0) in
    (first.1, (last.1, tt))
