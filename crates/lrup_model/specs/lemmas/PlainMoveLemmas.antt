-- The laws of a caller's view, for the clause map of one thread.
use Rattle.std.specs.Prelude.{◌++◌, ℕ, []}
use Rattle.std.proofs.Common.{refl, sym, ap, ap₂, subst, ◌∙◌, arith}
use Rattle.lrup_model.specs.Formula.{Cnf}
use Rattle.lrup_model.specs.Layout.{LayoutValue}
use Rattle.lrup_model.specs.Event.{History}
use Rattle.lrup_model.specs.State.{State, run}
use Rattle.lrup_model.specs.History.{LegalFrom}
use Rattle.lrup_model.specs.CallerView.{CallerStep}
use Rattle.lrup_model.specs.Plain.{Plain, formula_of, plain_state, plain_caller_view, PlainMoves}
use Rattle.lrup_model.specs.lemmas.RunningLemmas.{run-append, legal-append, spent-append, callers-append}

pub plain_moves_none : (m : Plain) (s : ℕ) → PlainMoves m m s []
plain_moves_none m s = record {
  layout = refl;
  formula = refl;
  callers = tt;
  answers = tt;
  state = refl;
  room = omega arith;
  others = λ t positive other. refl;
  spelt = λ id stored old. old;
  follow = λ all. all;
}

pub plain_moves_append : (a b c : Plain) (s : ℕ) (es fs : History) → PlainMoves a b s es
    → PlainMoves b c s fs → PlainMoves a c s (es ++ fs)
plain_moves_append a b c s es fs h k = record {
  layout = k.layout ∙ h.layout;
  formula = k.formula ∙ h.formula;
  callers = callers-append s es fs h.callers k.callers;
  answers =
      let later : LegalFrom (formula_of a) a.layout (run (plain_state a) es) fs =
      subst (λ f. LegalFrom f a.layout (run (plain_state a) es) fs) h.formula
      (subst (λ p. LegalFrom (formula_of b) p (run (plain_state a) es) fs) h.layout
      (subst (λ m. LegalFrom (formula_of b) b.layout m fs) h.state k.answers)) in
      legal-append (formula_of a) a.layout (plain_state a) es fs h.answers later;
  state = k.state ∙ ap (λ m. run m fs) h.state ∙ sym (run-append (plain_state a) es fs);
  room = omega (arith, spent-append s es fs, h.room, k.room);
  others = λ t positive other. k.others t positive other ∙ h.others t positive other;
  spelt = λ id stored old. k.spelt id stored (h.spelt id stored old);
  follow = λ all. k.follow (h.follow all);
}

pub plain_moves_are_step : (a b : Plain) (s : ℕ) (es : History) → PlainMoves a b s es
    → CallerStep (plain_caller_view a s) (plain_caller_view b s) es
plain_moves_are_step a b s es h = record {
  caller = ap₂ (λ (f : Cnf) (p : LayoutValue). record { formula = f; layout = p; stream = s }) h.formula h.layout;
  callers = h.callers;
  room = h.room;
  own = λ id owns. ap (λ (m : State). m id) h.state;
  spelt = h.spelt;
  follow = h.follow;
}
