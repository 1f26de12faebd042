use Rattle.std.proofs.Common.{◌≡◌, Bool, true, false, rules, sym, ap₂}
use Rattle.std.specs.List.{All, Any, list_any}
use Rattle.std.specs.Prelude.{if◌then◌else◌}
use Rattle.std.proofs.lemmas.List.Folds.{list_any_none, list_any-from_Any}
use Rattle.stream_check.specs.declared.report.Report.{Report}
use Rattle.run_outcome.specs.declared.outcome.Verdict.{Verdict}
use Rattle.run_outcome.specs.declared.outcome.Verdict.TheVariants.{Unsatisfiable, UnsatisfiableUnder, Unknown}
use Rattle.run_outcome.proofs.outcome.Verdict.of.Goals as goal

abbrev said : Bool → Bool → Verdict
said empty within = if empty then Unsatisfiable else if within then UnsatisfiableUnder else Unknown

pub returns-then-any-2 : goal.returns-then-any-2
returns-then-any-2 c =
    let each : All (λ (r : Report). r.empty ≡ false) c.args.reports.now = search rules in
    let none : list_any (λ (r : Report). r.empty) c.args.reports.now ≡ false = list_any_none _ _ each in
    let found : Any (λ (r : Report). r.within ≡ true) c.args.reports.now = search rules in
    let some : list_any (λ (r : Report). r.within) c.args.reports.now ≡ true = list_any-from_Any _ _ found in
    sym (ap₂ said none some)

pub returns-else-any-2 : goal.returns-else-any-2
returns-else-any-2 c =
    let each : All (λ (r : Report). r.empty ≡ false) c.args.reports.now = search rules in
    let none : list_any (λ (r : Report). r.empty) c.args.reports.now ≡ false = list_any_none _ _ each in
    let nowhere : All (λ (r : Report). r.within ≡ false) c.args.reports.now = search rules in
    let no : list_any (λ (r : Report). r.within) c.args.reports.now ≡ false = list_any_none _ _ nowhere in
    sym (ap₂ said none no)
