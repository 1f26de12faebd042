use Rattle.std.proofs.Common.{◌∷◌, [], List, refl}
use Rattle.lrup_model.specs.Pass.{View}
use Rattle.clause_store_tests.proofs.tests.meeting.meet_both_twice.Goals as goal

-- follows from the law `SyncTwice`: the two rounds satisfy its conditions
pub returns-clause-one : goal.returns-clause-one
returns-clause-one c =
    let a : View = c.args.first.now.view in
    let b : View = c.meet_both.new.first.view in
    let d : View = c.meet_both-2.new.first.view in
    let xs : List View = c.args.second.now.view ∷ c.args.third.now.view ∷ [] in
    let ys : List View = c.meet_both.new.second.view ∷ c.meet_both.new.third.view ∷ [] in
    let zs : List View = c.meet_both-2.new.second.view ∷ c.meet_both-2.new.third.view ∷ [] in
    (d.seen, (refl, (c.sync_twice.ensures a b d xs ys zs c.meet_both.ensures.turns c.meet_both-2.ensures.turns).1))

pub returns-clause-fair : goal.returns-clause-fair
returns-clause-fair c =
    let b : View = c.meet_both.new.first.view in
    let d : View = c.meet_both-2.new.first.view in
    let ys : List View = c.meet_both.new.second.view ∷ c.meet_both.new.third.view ∷ [] in
    let zs : List View = c.meet_both-2.new.second.view ∷ c.meet_both-2.new.third.view ∷ [] in
    let kept = (c.meeting_keeps.ensures b d ys zs c.meet_both-2.ensures.turns).1 in
    (kept.1, (kept.2.1, tt))
