-- Tests of the clauses that a history published, as tests of its events.
use Rattle.std.proofs.Common.{◌≡◌, ◌||◌, Bool, false, [], ◌∷◌, length, refl, ap}
use Rattle.std.specs.Prelude.{◌==◌}
use Rattle.std.specs.List.{list_any}
use Rattle.lrup_model.specs.Clause.{Clause}
use Rattle.lrup_model.specs.Cube.{CubeValue}
use Rattle.lrup_model.specs.Event as events
use Rattle.lrup_model.specs.Event.{Event, History, published}
use Rattle.lrup_model.specs.declared.clause_map.Published.TheVariants as publishing
use Rattle.stream_check.specs.StreamContext.{is_within}

-- the event published a clause that passes
abbrev pub publishes_passing : (Clause → Bool) → Event → Bool
publishes_passing passes (events.fetch s id r) = false
publishes_passing passes (events.publish s id c publishing.Done) = passes c
publishes_passing passes (events.publish s id c publishing.Taken) = false
publishes_passing passes (events.retire s id r) = false

-- the event published the empty clause
abbrev pub publishes_empty : Event → Bool
publishes_empty = publishes_passing (λ c. length c == 0)

-- the event published a clause within the cube
abbrev pub publishes_within : CubeValue → Event → Bool
publishes_within cube = publishes_passing (is_within cube)

pub published_some : (passes : Clause → Bool) (es : History)
    → list_any (publishes_passing passes) es ≡ list_any (λ entry. passes entry.1) (published es)
published_some passes [] = refl
published_some passes (events.fetch s id r ∷ es) = published_some passes es
published_some passes (events.publish s id c publishing.Done ∷ es) =
    ap (λ b. passes c || b) (published_some passes es)
published_some passes (events.publish s id c publishing.Taken ∷ es) = published_some passes es
published_some passes (events.retire s id r ∷ es) = published_some passes es
