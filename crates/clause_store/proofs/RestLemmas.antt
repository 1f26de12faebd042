-- Lemmas about a pass's seat between two calls.
use Rattle.std.proofs.Common.{◌≡◌, ℕ, [], sym, ap, ◌∙◌}
use Rattle.lrup_model.specs.Layout.{row_words}
use Rattle.lrup_model.specs.CallerView.{Caller}
use Rattle.lrup_model.specs.Pass.{IsFair}
use Rattle.idwords.specs.Seats.{SeatValue}
use Rattle.idwords.specs.Spelling.{LieWithin}
use Rattle.clause_store.specs.internal.AtRest.{IsAtRest}

-- after a step that left no draft, the seat is at rest again
pub rests : (old new : SeatValue) (stream : ℕ) → stream ≡ old.view.caller.stream → new.view.caller ≡ old.view.caller → IsFair new.view
    → new.draft ≡ [] → LieWithin (row_words new.view.caller.layout) new.view.spelt → IsAtRest new stream
rests old new stream own caller fair none within = record {
  fair = fair;
  stream_is = own ∙ ap (λ (c : Caller). c.stream) (sym caller);
  draft = none;
  within = within;
}
