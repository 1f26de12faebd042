-- Lemmas about histories without the vacant fetches of hints that were found later.
use Rattle.std.proofs.Common.{◌≡◌, ◌∙◌, ◌&&◌, true, false, not, [], ◌∷◌, refl, sym, ap}
use Rattle.std.specs.List.{list_all}
use Rattle.std.proofs.lemmas.Bool.{cond-true, cond-false, true≢false}
use Rattle.lrup_model.specs.Event as events
use Rattle.lrup_model.specs.Event.{Event, History}
use Rattle.stream_check.specs.Reducing.{is_vacant, reduced}

pub reduced_kept : (e : Event) (es : History) → (is_vacant e && not (list_all is_vacant es)) ≡ false
    → reduced (e ∷ es) ≡ e ∷ reduced es
reduced_kept e es test = cond-false (is_vacant e && not (list_all is_vacant es)) (reduced es) (e ∷ reduced es) test

pub reduced_left_out : (e : Event) (es : History)
    → (is_vacant e && not (list_all is_vacant es)) ≡ true → reduced (e ∷ es) ≡ reduced es
reduced_left_out e es test = cond-true (is_vacant e && not (list_all is_vacant es)) (reduced es) (e ∷ reduced es) test

-- a history of nothing but vacant fetches is unchanged
pub all_vacant_stay : (es : History) → list_all is_vacant es ≡ true → reduced es ≡ es
all_vacant_stay [] all = refl
all_vacant_stay (events.fetch s id events.vacant ∷ es) all =
    reduced_kept (events.fetch s id events.vacant) es (ap not all) ∙ ap (λ (g : History). events.fetch s id events.vacant ∷ g) (all_vacant_stay es all)
all_vacant_stay (events.fetch s id (events.live c) ∷ es) all = absurd (true≢false (sym all))
all_vacant_stay (events.fetch s id events.retired ∷ es) all = absurd (true≢false (sym all))
all_vacant_stay (events.publish s id c r ∷ es) all = absurd (true≢false (sym all))
all_vacant_stay (events.retire s id r ∷ es) all = absurd (true≢false (sym all))
