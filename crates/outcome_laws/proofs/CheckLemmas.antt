-- A check of streams, and the check that each round of an outcome has.
use Rattle.std.proofs.Common.{◌≡◌, ◌⊎◌, ◌≤◌, ◌-◌, ◌++◌, ℕ, Bool, true, false, List, [], ◌∷◌, length, map, zero, suc, ◌+◌}
use Rattle.std.proofs.Common.{Option, Some, refl, inl, inr, sym, ap, ap₂, subst, ◌∙◌, arith}
use Rattle.std.specs.Prelude.{option_map, slice_get, ◌||◌, if◌then◌else◌}
use Rattle.std.specs.List.{Any, list_any}
use Rattle.std.proofs.lemmas.Bool.{cond-true, or_right}
use Rattle.std.proofs.lemmas.List.{length-map}
use Rattle.std.proofs.lemmas.Option.{slice_get-map, slice_get_within, slice_get_cases}
use Rattle.lrup_model.specs.Cube.{CubeValue}
use Rattle.lrup_model.specs.Event.{History}
use Rattle.lrup_model.specs.Formula.{Cnf, IsCnf}
use Rattle.lrup_model.specs.Layout.{Fits, IsStream}
use Rattle.lrup_text.specs.Lines.{StreamLine}
use Rattle.lrup_text.specs.ReadOut.{SourceView}
use Rattle.stream_check.specs.declared.report.Report.{Report}
use Rattle.stream_check.specs.Laws.{EmptyCubeReported}
use Rattle.stream_check.specs.SequentialConsistency.{AreJudgedIn}
use Rattle.stream_check.specs.Excuses.{CutOff, IsExcusedAt}
use Rattle.stream_check.specs.Closed.{IsOfStream}
use Rattle.stream_check.specs.Streams.{Stream, InputObservation, RunParamsValue, stream_params, observations}
use Rattle.stream_check.specs.lemmas.StreamLemmas.{judged_count, same_at, observed_as_many, observation_at, some_end}
use Rattle.stream_check.specs.Turns.{IsOrderedRoundRobin}
use Rattle.run_laws.specs.Groups.{IsRun}
use Rattle.run_laws.specs.Valid.{AddsEmpty, IsValidProof}
use Rattle.run_laws.specs.ValidLaws.{ValidBegins, ValidEmpty}
use Rattle.run_outcome.specs.Histories.{RanSo}
use Rattle.run_outcome.specs.Outcomes.{verdict_of}
use Rattle.run_outcome.specs.declared.outcome.Verdict.{Verdict}
use Rattle.run_outcome.specs.declared.outcome.Verdict.TheVariants.{Unsatisfiable, UnsatisfiableUnder, Unknown}
use Rattle.command_line.specs.declared.words.CommandLine.{CommandLine}
use Rattle.command.specs.Commands.{AreChecked}
use Rattle.run_files.specs.Files.{Effects}
use Rattle.run_files.specs.Asked.{Text, run_params_by}
use Rattle.command.specs.Rounds.{Round}

-- The files at these paths were opened; their readers have what the files are known to hold; and
-- the streams were checked.
pub record Check {R : Type 0} (reading : SourceView R) : Type 0 where
  pub serial : Bool
  pub formula : Cnf
  pub run_params : RunParamsValue
  pub fits : Fits run_params.layout formula
  pub contents : Text → Option (List ℕ)
  pub paths : List Text
  pub count : length paths ≡ run_params.layout.streams
  pub readers : List R
  pub left : map reading.left readers ≡ map contents paths
  pub reports : List Report
  pub verdict : Verdict
  pub checked : AreChecked reading serial formula run_params readers reports verdict

-- the check of a round whose readers have what the files at these paths are known to hold
abbrev pub check_of : {its : Effects} {given : CommandLine} {cube : CubeValue} (round : Round its given cube)
    (contents : Text → Option (List ℕ)) (paths : List Text) → map its.reading.left round.readers ≡ map contents paths → Check its.reading
check_of {its} {given} {cube} round contents paths left = record {
  serial = given.serial;
  formula = round.formula;
  run_params = run_params_by given cube round.formula round.sizes;
  fits = record { vars = refl; clauses = refl; literals = refl };
  contents = contents;
  paths = paths;
  count = sym (length-map paths contents) ∙ sym (ap length left) ∙ length-map round.readers its.reading.left ∙ round.count;
  readers = round.readers;
  left = left;
  reports = round.reports;
  verdict = round.verdict;
  checked = round.checked;
}

-- if this report says 'empty', some report does
one_says : (reports : List Report) (k : ℕ) (report : Report) → slice_get reports k ≡ Some report → report.empty ≡ true
    → list_any (λ r. r.empty) reports ≡ true
one_says [] k report at is = absurd (cc)
one_says (r ∷ rs) zero report at is = let same : r ≡ report = cc in
    ap (λ (x : Report). x.empty || list_any (λ y. y.empty) rs) same ∙ ap (λ (b : Bool). b || list_any (λ y. y.empty) rs) is
one_says (r ∷ rs) (suc k) report at is = or_right r.empty (list_any (λ y. y.empty) rs) (one_says rs k report at is)

pub comes_to : (reports : List Report) (verdict : Verdict) (s : ℕ) (report : Report) → verdict ≡ verdict_of reports
    → IsOfStream reports s report → report.empty ≡ true → verdict ≡ Unsatisfiable
comes_to reports verdict s report is at says =
    is ∙ cond-true (list_any (λ r. r.empty) reports) Unsatisfiable
    (if list_any (λ r. r.within) reports then UnsatisfiableUnder else Unknown) (one_says reports (s - 1) report at.1 says)

-- each stream of a run has a report
pub has_report : (f : Cnf) (run_params : RunParamsValue) (observed : List InputObservation) (reports : List Report)
    (r : IsRun f run_params observed reports) (s : ℕ)
    → IsStream run_params.layout s → (report : Report) × IsOfStream reports s report
has_report f run_params observed reports r s is =
    elim (slice_get_cases reports (s - 1)).1 [
      | inl has ↦ (has.0, (is.0, has.2))
      | inr past ↦
          absurd (omega (arith, past.0, is.0, is.1, r.count, judged_count run_params (λ t. true) r.history 1 r.streams reports r.judged))
    ]

-- only the empty clause is within the empty cube
within_empty : EmptyCubeReported → (run_params : RunParamsValue) → run_params.cube ≡ [] → (h : History) (s : ℕ) (streams : List Stream)
    (reports : List Report) → AreJudgedIn run_params (λ t. true) h s streams reports
    → list_any (λ r. r.within) reports ≡ list_any (λ r. r.empty) reports
within_empty bare run_params none h s [] [] judged = refl
within_empty bare run_params none h s [] (r ∷ rs) judged = absurd judged
within_empty bare run_params none h s (t ∷ ts) [] judged = absurd judged
within_empty bare run_params none h s (t ∷ ts) (r ∷ rs) judged =
    let by = judged.0 refl in
    let its = some_end (stream_params run_params s) t by.0 r by.2 in
    let same : r.within ≡ r.empty = bare (stream_params run_params s) t.bytes its.0 by.0 r none its.1 in
    ap₂ (λ (a b : Bool). a || b) same (within_empty bare run_params none h (s + 1) ts rs judged.1)

not_under : (empty within : Bool) → within ≡ empty
    → ¬ ((if empty then Unsatisfiable else if within then UnsatisfiableUnder else Unknown) ≡ UnsatisfiableUnder)
not_under true within same is = let no : Unsatisfiable ≡ UnsatisfiableUnder = is in cc
not_under false true same is = let no : true ≡ false = same in cc
not_under false false same is = let no : Unknown ≡ UnsatisfiableUnder = is in cc

module _ {R : Type 0} (reading : SourceView R) (c : Check reading) where
  -- what is observed of the readers
  abbrev pub observed_of : List InputObservation
  observed_of = observations reading c.readers c.checked.lasts

  -- there is one observation for each stream's path
  pub observed_length : length observed_of ≡ length c.paths
  observed_length =
      observed_as_many reading c.readers c.checked.lasts c.checked.ran.run.streams c.checked.ran.read
      ∙ sym (length-map c.readers reading.left) ∙ ap length c.left ∙ length-map c.paths c.contents

  -- a run has these reports
  abbrev pub run_of : IsRun c.formula c.run_params observed_of c.reports
  run_of = c.checked.ran.run

  -- a check on one thread has an order that takes the streams in turn
  pub turns_of : c.serial ≡ true → IsOrderedRoundRobin c.formula c.run_params run_of.streams c.reports
  turns_of on_one =
      let way : RanSo true c.formula c.run_params run_of.history run_of.streams c.reports =
      subst (λ (b : Bool). RanSo b c.formula c.run_params run_of.history run_of.streams c.reports) on_one c.checked.way in
      way.0

  -- with an empty cube, the verdict is never 'unsatisfiable under assumptions'
  pub never_under : EmptyCubeReported → c.run_params.cube ≡ [] → ¬ (c.verdict ≡ UnsatisfiableUnder)
  never_under bare none under =
      let same = within_empty bare c.run_params none run_of.history 1 run_of.streams c.reports run_of.judged in
      not_under (list_any (λ r. r.empty) c.reports) (list_any (λ r. r.within) c.reports) same (sym c.checked.is_verdict ∙ under)

  -- at the start, a stream's reader had what the file at its path is known to hold
  pub observation_of_file : (s : ℕ) (path : Text) (whole : List ℕ) → IsOfStream c.paths s path → c.contents path ≡ Some whole
      → (observation : InputObservation) × IsOfStream observed_of s observation × (observation.entry ≡ Some whole)
  observation_of_file s path whole at known =
      let entry : slice_get (map reading.left c.readers) (s - 1) ≡ Some (Some whole) =
      ap (λ (es : List (Option (List ℕ))). slice_get es (s - 1)) c.left
      ∙ slice_get-map c.contents c.paths (s - 1) ∙ ap (option_map c.contents) at.1 ∙ ap (λ (x : Option (List ℕ)). Some x) known in
      let is = observation_at reading c.readers c.checked.lasts run_of.streams c.checked.ran.read (s - 1) (Some whole) entry in
      (is.0, (at.0, is.1), is.2)

  -- a stream whose reader is observed has a path
  pub path_at : (s : ℕ) (observation : InputObservation) → IsOfStream observed_of s observation → (path : Text) × IsOfStream c.paths s path
  path_at s observation at =
      let within = slice_get_within observed_of (s - 1) observation at.1 in
      elim (slice_get_cases c.paths (s - 1)).1 [
        | inl has ↦ (has.0, (at.0, has.2))
        | inr past ↦ absurd (omega (arith, past.0, within, observed_length))
      ]

  -- an observation's `entry` is what the file at the stream's path is known to hold
  pub entry_at : (s : ℕ) (observation : InputObservation) (path : Text) (whole : List ℕ) → IsOfStream observed_of s observation
      → IsOfStream c.paths s path → c.contents path ≡ Some whole → observation.entry ≡ Some whole
  entry_at s observation path whole at names contents =
      let here = observation_of_file s path whole names contents in
      ap (λ (x : InputObservation). x.entry) (same_at observed_of s observation here.0 at here.1) ∙ here.2

  -- With a valid refutation, the verdict is 'unsatisfiable', or the stream was cut off in the
  -- refutation.
  pub refutation_says : ValidBegins → ValidEmpty → IsCnf c.formula → (s : ℕ) (path : Text) (bytes more : List ℕ)
      (lines : List StreamLine) → IsOfStream c.paths s path → c.contents path ≡ Some (bytes ++ more)
      → IsValidProof c.formula c.run_params.layout s bytes lines → Any AddsEmpty lines
      → (c.verdict ≡ Unsatisfiable) ⊎ ((report : Report) × IsOfStream c.reports s report
      × ((line : ℕ) × (line ≤ length lines) × IsExcusedAt CutOff report line))
  refutation_says begins empty cnf s path bytes more lines names contents valid refutes =
      let here = observation_of_file s path (bytes ++ more) names contents in
      let within = slice_get_within c.paths (s - 1) path names.1 in
      let stream : IsStream c.run_params.layout s = (names.0, omega (arith, within, names.0, c.count)) in
      let report = has_report c.formula c.run_params observed_of c.reports run_of s stream in
      elim (begins c.formula c.run_params s bytes more lines observed_of here.0 c.reports report.0 cnf c.fits stream valid run_of here.1
      here.2
      report.1) [
        | inl least ↦
            inl (comes_to c.reports c.verdict s report.0 c.checked.is_verdict report.1
            (least.empty ((empty c.run_params s lines).1 refutes)))
        | inr cut ↦ inr (report.0, report.1, cut)
      ]
