-- What the clause `ends` says about status 0.
use Rattle.std.proofs.Common.{◌≡◌, Bool, true, false, Option, None, Some, inl, inr, refl}
use Rattle.lrup_model.specs.Entailment.{IsUnsatisfiable}
use Rattle.lrup_model.specs.declared.layout.LayoutFault.{LayoutFault}
use Rattle.lrup_model.specs.declared.layout.LayoutFault.TheVariants as layouts
use Rattle.run_outcome.specs.declared.outcome.Verdict.{Verdict}
use Rattle.run_outcome.specs.declared.outcome.Verdict.TheVariants.{Unsatisfiable, UnsatisfiableUnder, Unknown}
use Rattle.checkpoint.specs.Entails.{EntailsItself, EntailsOnward, RefutesBack}
use Rattle.checkpoint.specs.declared.saving.SaveFault.{SaveFault}
use Rattle.run_files.specs.Files.{FilesView}
use Rattle.command.specs.Commands.{report_status}
use Rattle.run_files.specs.Faults.{layout_status, status_of}
use Rattle.run_files.specs.declared.fault.CommandFault.{CommandFault}
use Rattle.run_files.specs.declared.fault.CommandFault.TheVariants as faults
use Rattle.outcome_laws.specs.Laws.{Status0HasACommandLine}
use Rattle.outcome_laws.proofs.SavedLemmas.{follows}

pub refuted : (failed : Bool) (unsaved : Option SaveFault) (verdict : Verdict) → 0 ≡ report_status failed unsaved verdict
    → verdict ≡ Unsatisfiable
refuted true unsaved verdict is = absurd (let no : 0 ≡ 7 = is in cc)
refuted false (Some fault) verdict is = absurd (let no : 0 ≡ 9 = is in cc)
refuted false None Unsatisfiable is = refl
refuted false None UnsatisfiableUnder is = absurd (let no : 0 ≡ 8 = is in cc)
refuted false None Unknown is = absurd (let no : 0 ≡ 3 = is in cc)

no_layout : (fault : LayoutFault) → 0 ≡ layout_status fault → ⊥
no_layout layouts.TooManyVariables is = let no : 0 ≡ 4 = is in cc
no_layout layouts.TooManyClauses is = let no : 0 ≡ 4 = is in cc
no_layout layouts.BadStreamCount is = let no : 0 ≡ 2 = is in cc
no_layout layouts.RowTooLong is = let no : 0 ≡ 2 = is in cc

no_fault : (fault : CommandFault) → 0 ≡ status_of fault → ⊥
no_fault (faults.Usage text) is = let no : 0 ≡ 2 = is in cc
no_fault faults.Unread is = let no : 0 ≡ 5 = is in cc
no_fault (faults.Refused fault) is = let no : 0 ≡ 4 = is in cc
no_fault faults.CubeUnread is = let no : 0 ≡ 5 = is in cc
no_fault (faults.CubeRefused fault) is = let no : 0 ≡ 4 = is in cc
no_fault (faults.NotOpened stream) is = let no : 0 ≡ 5 = is in cc
no_fault (faults.Layout fault) is = no_layout fault is
no_fault (faults.Spawn stream) is = let no : 0 ≡ 6 = is in cc
no_fault (faults.Ring stream) is = let no : 0 ≡ 6 = is in cc
no_fault faults.Memory is = let no : 0 ≡ 6 = is in cc
no_fault faults.Unwritten is = let no : 0 ≡ 7 = is in cc
no_fault faults.NotCreated is = let no : 0 ≡ 5 = is in cc
no_fault (faults.NotSaved fault) is = let no : 0 ≡ 9 = is in cc
no_fault faults.TwoCheckpoints is = let no : 0 ≡ 2 = is in cc
no_fault faults.SizesUnread is = let no : 0 ≡ 5 = is in cc
no_fault faults.Sizes is = let no : 0 ≡ 2 = is in cc

pub status_0 : EntailsItself → EntailsOnward → RefutesBack → (files : FilesView) → Status0HasACommandLine files
status_0 itself onward back files words after out err (inl ends) =
    let were = ends.were in
    let at = were.is_formula in
    let refutes : IsUnsatisfiable ends.last.formula =
    ends.last.checked.sound (refuted out.failed ends.last.unsaved ends.last.verdict ends.status_is) in (
      ends.given,
      at.0,
      were.formula,
      were.next,
      ends.command_line,
      at.1,
      at.2,
      back were.formula ends.last.formula (follows itself onward were.formula were.later ends.last ends.before were.rounds) refutes,
    )
status_0 itself onward back files words after out err (inr fault) = absurd (no_fault fault.fault fault.status_is)
