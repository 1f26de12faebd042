-- Lemmas about which stream made the events of a history.
use Rattle.std.specs.Prelude.{◌≡◌, ◌≢◌, ℕ, [], ◌∷◌}
use Rattle.std.specs.List.{AllByRecursion}
use Rattle.std.proofs.Common.{sym, ◌∙◌}
use Rattle.lrup_model.specs.Event.{History, stream_of}

-- events of one stream are not events of another
pub calls_differ : (s t : ℕ) (es : History) → t ≢ s → AllByRecursion (λ e. stream_of e ≡ t) es
    → AllByRecursion (λ e. stream_of e ≢ s) es
calls_differ s t [] other all = tt
calls_differ s t (e ∷ es) other all = (λ is. other (sym all.0 ∙ is), calls_differ s t es other all.1)
