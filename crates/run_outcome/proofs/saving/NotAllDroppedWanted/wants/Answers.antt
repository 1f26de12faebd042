use Rattle.std.proofs.Common.{◌≡◌, ◌∙◌, ◌==◌, ◌||◌, Bool, true, false, List, length, not, refl, rules, sym, ap}
use Rattle.std.specs.List.{All, Any, list_any}
use Rattle.std.proofs.lemmas.List.Folds.{list_any_none, list_any-from_Any}
use Rattle.stream_check.specs.DroppedIdsValue.{DroppedIdsValue}
use Rattle.stream_check.specs.StreamContext.{is_among}
use Rattle.run_outcome.proofs.saving.NotAllDroppedWanted.wants.Goals as goal

found_so : {X : Type 0} (p : X → Bool) (xs : List X) (found : Bool) → (found ≡ true → Any (λ x. p x ≡ true) xs)
    → (found ≡ false → All (λ x. p x ≡ false) xs) → found ≡ list_any p xs
found_so p xs true some none = sym (list_any-from_Any _ _ (some refl))
found_so p xs false some none = sym (list_any_none _ _ (none refl))

pub returns-else-is_empty : goal.returns-else-is_empty
returns-else-is_empty c =
    let all : List DroppedIdsValue = c.args.self.now.dropped.now in
    let some : c.any.result ≡ true → Any (λ (d : DroppedIdsValue). not (is_among d.ids c.args.id) ≡ true) all = λ is. search rules in
    let none : c.any.result ≡ false → All (λ (d : DroppedIdsValue). not (is_among d.ids c.args.id) ≡ false) all = λ is. search rules in
    let streams : (length all == 0) ≡ false = sym c.is_empty.ensures ∙ c.if-is_empty.false in
    found_so _ all c.any.result some none
    ∙ sym (ap (λ (b : Bool). b || list_any (λ (d : DroppedIdsValue). not (is_among d.ids c.args.id)) all) streams)
