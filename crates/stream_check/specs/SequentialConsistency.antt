-- What a run with two threads for each stream promises (this project's own).
use Rattle.std.specs.Prelude.{◌≡◌, ℕ, Bool, List, [], ◌∷◌, length}
use Rattle.lrup_model.specs.Formula.{Cnf}
use Rattle.lrup_model.specs.Layout.{LayoutValue}
use Rattle.lrup_model.specs.Event.{History, own}
use Rattle.lrup_model.specs.History.{IsLegal}
use Rattle.lrup_model.specs.Pass.{View}
use Rattle.stream_check.specs.declared.report.Report.{Report}
use Rattle.stream_check.specs.Judging.{joined}
use Rattle.stream_check.specs.Closed.{IsOfStream}
use Rattle.stream_check.specs.Streams.{Stream, AreJudged, RunParamsValue}

-- what the first of the passes has seen
abbrev pub seen_by : List View → History
seen_by [] = []
seen_by (pass ∷ passes) = pass.seen

-- The passes have this one history of the one-thread clause map: it is legal; each stream's pass
-- has this formula and layout and has seen this history, and the calls made through the pass are
-- the stream's events in the history, in order.
pub record HaveOneHistory (formula : Cnf) (layout : LayoutValue) (history : History)
    (passes : List View) : Type 0 where
  pub legal : IsLegal formula layout history
  pub count : length passes ≡ layout.streams
  pub calls : (s : ℕ) (pass : View) → IsOfStream passes s pass
      → (pass.caller ≡ record { formula = formula; layout = layout; stream = s })
      × (pass.seen ≡ history) × (pass.mine ≡ own history s)

-- The first of these streams is stream s. Each stream that is in the set is judged by its own
-- events in the history, as its report says.
abbrev pub AreJudgedIn : RunParamsValue → (ℕ → Bool) → History → ℕ → List Stream
    → List Report → Type 0
AreJudgedIn run_params set history s streams reports =
    AreJudged run_params set (λ t blocks. own history t ≡ joined blocks) s streams reports
