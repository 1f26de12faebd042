-- The clauses of good additions follow from the clauses that their hints found.
use Rattle.std.proofs.Common.{◌≡◌, ℕ, Bool, List, [], ◌∷◌, ◌++◌, replicate, subst}
use Rattle.std.specs.List.{AllByRecursion}
use Rattle.lrup_model.specs.Clause.{Clause, IsClause}
use Rattle.lrup_model.specs.Formula.{Cnf}
use Rattle.lrup_model.specs.Entailment.{Follows}
use Rattle.lrup_model.specs.Event as events
use Rattle.lrup_model.specs.Event.{Event, History}
use Rattle.lrup_model.specs.Distinct.{distinct}
use Rattle.lrup_model.specs.lemmas.EntailmentLemmas.{propagation_sound}
use Rattle.stream_check.specs.declared.params.Ownership.{Ownership}
use Rattle.stream_check.specs.declared.params.Ownership.TheVariants as ownerships
use Rattle.stream_check.specs.StreamParams.{StreamParams, ownership_of}
use Rattle.stream_check.specs.Lookup.{FetchesHintAt, AreFound}
use Rattle.stream_check.specs.Additions.{published_by}
use Rattle.stream_check.specs.lemmas.AdditionLemmas.{found_live}
use Rattle.stream_check.specs.Finding.{FindsSound}
use Rattle.stream_check.specs.Laws.{GoodFollows}

all_front : (P : Event → Type 0) (a b : History) → AllByRecursion P (a ++ b) → AllByRecursion P a × AllByRecursion P b
all_front P [] b all = (tt, all)
all_front P (e ∷ a) b all = let rest = all_front P a b all.1 in ((all.0, rest.0), rest.1)

-- if the clauses that these fetches found follow from the formula, so does the clause of the hint,
-- which was found live
live_sound : (ownership : Ownership) (f : Cnf) (c : StreamParams) (h : ℕ) (asked : History) (d : Clause)
    → FetchesHintAt ownership c h asked (events.live d)
    → AllByRecursion (FindsSound f) asked → IsClause f.vars d × Follows f d
live_sound ownerships.Formula f c h asked d asks all = (subst (AllByRecursion (FindsSound f)) asks all).0
live_sound ownerships.Own f c h asked d asks all = (subst (AllByRecursion (FindsSound f)) asks all).0
live_sound ownerships.Foreign f c h asked d asks all =
    (all_front (FindsSound f) (replicate asks.0 (events.fetch c.stream h events.vacant)) (events.fetch c.stream h (events.live d) ∷ [])
    (subst (AllByRecursion (FindsSound f)) asks.3 all)).1.0
live_sound ownerships.Outside f c h asked d asks all = absurd (let e : events.live d ≡ events.vacant = asks.1 in cc)

found_sound : (f : Cnf) (c : StreamParams) (is_dropped : ℕ → Bool) (hints : List ℕ) (ds : List Clause) (es : History)
    → AreFound c is_dropped hints ds es
    → AllByRecursion (FindsSound f) es → AllByRecursion (λ d. IsClause f.vars d × Follows f d) ds
found_sound f c is_dropped [] [] es found all = tt
found_sound f c is_dropped [] (d ∷ ds) es found all = absurd found
found_sound f c is_dropped (h ∷ hints) [] es found all = absurd found
found_sound f c is_dropped (h ∷ hints) (d ∷ ds) es found all =
    let parts = all_front (FindsSound f) found.0 found.1 (subst (AllByRecursion (FindsSound f)) found.2 all) in
    let here = found_live c is_dropped h found.0 d found.3 in
    (live_sound (ownership_of c h) f c h found.0 d here.1 parts.0, found_sound f c is_dropped hints ds found.1 found.4 parts.1)

pub good_follows : GoodFollows
good_follows f c st id lits hints es good all =
    let parts = all_front (FindsSound f) good.0 (published_by c id lits ∷ []) (subst (AllByRecursion (FindsSound f)) good.2 all) in
    propagation_sound f (distinct lits) good.1.clauses (found_sound f c st.is_dropped hints good.1.clauses good.0 good.1.named parts.0)
    good.1.shown
