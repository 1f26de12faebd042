-- Lemmas about when a checker is ready: on a map that was just opened, and after other streams'
-- calls.
use Rattle.std.proofs.Common.{◌≡◌, ◌≢◌, ℕ, refl, sym, ap, subst, ◌∙◌}
use Rattle.lrup_model.specs.Cube.{CubeValue}
use Rattle.lrup_model.specs.Event.{History}
use Rattle.lrup_model.specs.Layout.{LayoutValue}
use Rattle.lrup_model.specs.State.{State}
use Rattle.lrup_model.specs.Plain.{Plain, formula_of, plain_caller_view, PlainMoves}
use Rattle.stream_check.specs.CheckerValue.{CheckerValue}
use Rattle.stream_check.specs.Checker.{IsNew, IsReadyAt}
use Rattle.stream_check.specs.Laws.{ReadyNew, ReadyBeside}
use Rattle.checker_support.specs.Opened.{IsPlainOpened}

-- a new checker is ready for its stream's view of a map that was just opened
pub ready_opened : ReadyNew
    → (layout : LayoutValue) (cube : CubeValue) (stream tries : ℕ) (v : CheckerValue) (m : Plain)
    → IsPlainOpened m → layout ≡ m.layout → IsNew layout cube stream tries v
    → IsReadyAt v (plain_caller_view m stream)
ready_opened law layout cube stream tries v m opened same new =
    law (formula_of m) m.layout cube stream tries v (plain_caller_view m stream)
    (subst (λ (p : LayoutValue). IsNew p cube stream tries v) same new) opened.fits refl
    (λ id owns. ap (λ (s : State). s id) opened.state)

-- a checker is still ready after calls of another stream
pub ready_for : ReadyBeside → (v : CheckerValue) (old new : Plain) (s t : ℕ) (es : History)
    → IsReadyAt v (plain_caller_view old s) → PlainMoves old new t es → t ≢ s
    → IsReadyAt v (plain_caller_view new s)
ready_for law v old new s t es ready moves other =
    let same : s ≡ v.params.stream = ready.at.stream in
    subst (λ (k : ℕ). IsReadyAt v (plain_caller_view new k)) (sym same)
    (law v old new t es (subst (λ (k : ℕ). IsReadyAt v (plain_caller_view old k)) same ready) moves
    (λ is. other (is ∙ sym same)))
