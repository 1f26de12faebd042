-- Why a byte decides that a text isn't a line.
use Rattle.std.proofs.Common.{ℕ, Bool, true, false, List, [], ◌∷◌, ◌++◌, refl, sym, subst}
use Rattle.lrup_text.specs.declared.LineFault.TheVariants.{Spelling, TooLong, RatHint}
use Rattle.lrup_text.specs.Faults.{IsRefused}
use Rattle.lrup_text.specs.Grammar.{IsLine, standard, Begins, BeginsLifted}
use Rattle.lrup_text.specs.internal.Rests.{Spot, MayComplete, Tracks, Blocks, Allows}
use Rattle.lrup_text.proofs.TextLaws.{tracks_pending}
use Rattle.lrup_text.proofs.Steps.{IsBounded, Exceeds, one_more, standard_lifted}

module _ (read : List ℕ) (spot : Spot) (b : ℕ) (tracks : Tracks read spot) (bounded : IsBounded spot) where
  begins_none : (signed : Bool) → Blocks signed spot b → ¬ BeginsLifted signed (read ++ b ∷ [])
  begins_none signed blocks h = blocks h.0 h.2 h.1 (tracks.completes signed h.0 h.2 (b ∷ h.1) (rw (one_more read b h.1) at h.3))

  begins_lifted : (signed : Bool) → Allows signed spot b → BeginsLifted signed (read ++ b ∷ [])
  begins_lifted signed allows = (
    allows.limits,
    allows.rest,
    allows.lifted,
    subst (IsLine allows.limits) (sym (one_more read b allows.rest))
        (tracks.line signed allows.limits allows.lifted (b ∷ allows.rest) allows.completes),
  )

  ends : ((rest : List ℕ) → ¬ MayComplete standard spot (b ∷ rest)) → ¬ Begins (read ++ b ∷ [])
  ends stops h = stops h.0 (tracks.completes false standard standard_lifted (b ∷ h.0) (subst (IsLine standard) (one_more read b h.0) h.1))

  pub decides_spelling : ((signed : Bool) → Blocks signed spot b) → IsRefused (read ++ b ∷ []) Spelling
  decides_spelling blocks = record {
    read = read;
    byte = b;
    is = refl;
    before = tracks_pending read spot tracks bounded;
    after = ends (λ rest. blocks false standard standard_lifted rest);
    why = (begins_none false (blocks false), begins_none true (blocks true));
  }

  pub decides_long : Exceeds spot b → IsRefused (read ++ b ∷ []) TooLong
  decides_long exceeds = record {
    read = read;
    byte = b;
    is = refl;
    before = tracks_pending read spot tracks bounded;
    after = ends exceeds.stops;
    why = begins_lifted false exceeds.allows;
  }

  pub decides_rat : Blocks false spot b → Allows true spot b → IsRefused (read ++ b ∷ []) RatHint
  decides_rat blocks allows = record {
    read = read;
    byte = b;
    is = refl;
    before = tracks_pending read spot tracks bounded;
    after = ends (λ rest. blocks standard standard_lifted rest);
    why = (begins_none false blocks, begins_lifted true allows);
  }
