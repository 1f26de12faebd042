use Rattle.std.proofs.Common.{◌≡◌, ◌+◌, ◌∙◌, ℕ, Bool, true, false, List, length, sym, ap}
use Rattle.std.specs.Prelude.{◌||◌, ◌==◌, not, if◌then◌else◌}
use Rattle.stream_check.specs.StreamContext.{is_among}
use Rattle.stream_check.specs.DroppedIdsValue.{DroppedIdsValue}
use Rattle.stream_check.proofs.DroppedLemmas.{among_keys, one_more}
use Rattle.stream_check.proofs.dropped_ids.DroppedIds.insert.Goals as goal

pub returns-clause-members : goal.returns-clause-members
returns-clause-members c j =
    let old = c.self.inside.ids.keys in
    among_keys c.insert.new.self.keys j ∙ c.in_ok-insert.ensures.updates.0 j ∙ one_more (c.args.id == j) _
    ∙ ap (λ b. b || c.args.id == j) (sym (among_keys old j) ∙ ap (λ (d : DroppedIdsValue). is_among d.ids j) c.self.view_is)

pub returns-clause-count : goal.returns-clause-count
returns-clause-count c =
    let keys = c.self.inside.ids.keys in
    let same : keys ≡ c.args.self.now.ids = ap (λ (d : DroppedIdsValue). d.ids) c.self.view_is in
    let kept : is_among keys c.args.id ≡ false = ap (λ (ids : List ℕ). is_among ids c.args.id) same ∙ c.requires in
    let new : c.in_ok-insert.field-0 ≡ true = c.in_ok-insert.ensures.added ∙ ap not (sym (among_keys keys c.args.id) ∙ kept) in
    c.in_ok-insert.ensures.len ∙ ap (λ (b : Bool). length keys + (if b then 1 else 0)) new ∙ ap (λ (ids : List ℕ). length ids + 1) same
