-- A clause map that was just opened.
use Rattle.std.specs.Prelude.{◌≡◌}
use Rattle.lrup_model.specs.Layout.{Fits}
use Rattle.lrup_model.specs.Plain.{Plain, formula_of, plain_state}
use Rattle.lrup_model.specs.State.{opening}

pub record IsPlainOpened (m : Plain) : Type 0 where
  pub fits : Fits m.layout (formula_of m)
  pub state : plain_state m ≡ opening (formula_of m)
