-- The results of valid proofs in a round.
use Rattle.std.proofs.Common.{◌≡◌, ◌⊎◌, ◌≤◌, ◌-◌, ◌+◌, ℕ, true, List, [], ◌∷◌, zero, suc, Some, inl, inr, refl, sym, ap}
use Rattle.std.proofs.Common.{subst, ◌∙◌, arith}
use Rattle.std.specs.Prelude.{slice_get}
use Rattle.std.proofs.lemmas.Option.{slice_get_within, slice_get_cases}
use Rattle.lrup_model.specs.Formula.{IsCnf}
use Rattle.lrup_model.specs.Layout.{IsStream}
use Rattle.lrup_text.specs.ReadOut.{SourceView}
use Rattle.stream_check.specs.declared.report.Ending.TheVariants as endings
use Rattle.stream_check.specs.declared.report.Report.{Report}
use Rattle.stream_check.specs.Excuses.{CutOff, IsExcused, IsExcusedAt}
use Rattle.stream_check.specs.Closed.{IsOfStream}
use Rattle.stream_check.specs.lemmas.StreamLemmas.{judged_count}
use Rattle.run_laws.specs.ValidLaws.{ValidBegins, ValidEmpty, ValidReported}
use Rattle.run_outcome.specs.declared.outcome.Verdict.TheVariants.{Unsatisfiable}
use Rattle.run_files.specs.Asked.{Text}
use Rattle.command.specs.Rounds.{HaveEnded}
use Rattle.outcome_laws.specs.Valid.{AreValidAlone, IsRefutedAlone, RoundAsk}
use Rattle.outcome_laws.proofs.CheckLemmas.{Check, refutation_says, run_of, observation_of_file, observed_of}
use Rattle.outcome_laws.proofs.SerialLemmas.{said_of}

-- a stream was cut off in one of its first n lines
abbrev pub Lost : List Report → ℕ → ℕ → Type 0
Lost reports s n = (report : Report) × IsOfStream reports s report × ((line : ℕ) × (line ≤ n) × IsExcusedAt CutOff report line)

-- some stream was cut off
abbrev pub IsLost : List Report → Type 0
IsLost reports = (s : ℕ) × (report : Report) × IsOfStream reports s report × IsExcused CutOff report

-- if the streams meet this requirement, all have ended, or some stream was cut off
abbrev pub EndsSo : RoundAsk → Type 1
EndsSo Before = (R : Type 0) (reading : SourceView R) (c : Check reading) → IsCnf c.formula
    → Before c.formula c.run_params.layout c.contents c.paths → HaveEnded c.reports ⊎ IsLost c.reports

-- if the streams meet this requirement, the verdict is 'unsatisfiable', or stream s was cut off in
-- one of its first `count` lines
abbrev pub RefutesSo : RoundAsk → (s count : ℕ) → Type 1
RefutesSo Last s count = (R : Type 0) (reading : SourceView R) (c : Check reading) → IsCnf c.formula
    → Last c.formula c.run_params.layout c.contents c.paths
    → (c.verdict ≡ Unsatisfiable) ⊎ Lost c.reports s count

-- If each stream has ended or satisfies P, all have ended or some stream satisfies P.
all_ended : (P : ℕ → Report → Type 0) (reports : List Report)
    → ((k : ℕ) (report : Report) → slice_get reports k ≡ Some report → (report.ending ≡ endings.Ended) ⊎ P k report)
    → HaveEnded reports ⊎ ((k : ℕ) × (report : Report) × (slice_get reports k ≡ Some report) × P k report)
all_ended P [] each = inl tt
all_ended P (r ∷ rs) each = elim (each 0 r refl) [
  | inr lost ↦ inr (0, r, refl, lost)
  | inl ended ↦ elim (all_ended (λ k. P (suc k)) rs (λ k report at. each (suc k) report at)) [
    | inl all ↦ inl (ended, all)
    | inr later ↦ inr (suc later.0, later.1, later.2, later.3)
  ]
]

place : (reports : List Report) (k : ℕ) (report : Report) → slice_get reports k ≡ Some report → IsOfStream reports (k + 1) report
place reports k report at =
    let same : k ≡ k + 1 - 1 = omega arith in
    (omega arith, subst (λ (n : ℕ). slice_get reports n ≡ Some report) same at)

all_streams : (P : ℕ → Report → Type 0) (reports : List Report)
    → ((s : ℕ) (report : Report) → IsOfStream reports s report → (report.ending ≡ endings.Ended) ⊎ P s report)
    → HaveEnded reports ⊎ ((s : ℕ) × (report : Report) × IsOfStream reports s report × P s report)
all_streams P reports each =
    elim (all_ended (λ k. P (k + 1)) reports (λ k report at. each (k + 1) report (place reports k report at))) [
      | inl all ↦ inl all
      | inr some ↦ inr (some.0 + 1, some.1, place reports some.0 some.1 some.2, some.3)
    ]

-- if all streams have ended, so has the stream with this report
pub ended_at : (reports : List Report) (k : ℕ) (report : Report) → slice_get reports k ≡ Some report → HaveEnded reports
    → report.ending ≡ endings.Ended
ended_at [] k report at all = absurd (cc)
ended_at (r ∷ rs) zero report at all = let same : r ≡ report = cc in subst (λ (x : Report). x.ending ≡ endings.Ended) same all.0
ended_at (r ∷ rs) (suc k) report at all = ended_at rs k report at all.1

module _ {R : Type 0} (reading : SourceView R) (c : Check reading) (cnf : IsCnf c.formula) where
  -- a stream with a report has a path
  path_of : (s : ℕ) (report : Report) → IsOfStream c.reports s report
      → IsStream c.run_params.layout s × ((path : Text) × IsOfStream c.paths s path)
  path_of s report says =
      let run = run_of reading c in
      let within = slice_get_within c.reports (s - 1) report says.1 in
      let count = judged_count c.run_params (λ t. true) run.history 1 run.streams c.reports run.judged in
      let stream : IsStream c.run_params.layout s = (says.0, omega (arith, within, count, run.count, says.0)) in
      elim (slice_get_cases c.paths (s - 1)).1 [
        | inl has ↦ (stream, (has.0, (says.0, has.2)))
        | inr past ↦ absurd (omega (arith, past.0, stream.1, says.0, c.count))
      ]

  alone_ends : ValidReported → AreValidAlone c.formula c.run_params.layout c.contents c.paths → (s : ℕ) (report : Report)
      → IsOfStream c.reports s report → (report.ending ≡ endings.Ended) ⊎ IsExcused CutOff report
  alone_ends reported valid s report says =
      let at = path_of s report says in
      let asked = valid s at.1.0 at.1.1 in
      let here = observation_of_file reading c s at.1.0 asked.0 at.1.1 asked.2 in
      elim (said_of report) [
        | inl cut ↦ inr cut
        | inr fine ↦ inl (ap (λ (r : Report). r.ending)
            (reported c.formula c.run_params s asked.0 asked.1 (observed_of reading c) here.0 c.reports report cnf c.fits at.0 asked.3
            (run_of reading c) here.1 here.2 says fine))
      ]

pub ends_alone : ValidReported → EndsSo AreValidAlone
ends_alone reported R reading c cnf valid =
    all_streams (λ s report. IsExcused CutOff report) c.reports (alone_ends reading c cnf reported valid)

pub refutes_alone : ValidBegins → ValidEmpty → (s count : ℕ) → RefutesSo (IsRefutedAlone s count) s count
refutes_alone begins empty s count R reading c cnf valid =
    let refutation = valid.4.0 in
    elim (refutation_says reading c begins empty cnf s valid.0 refutation.proof refutation.more refutation.lines valid.2
    (valid.3 ∙ ap (λ (b : List ℕ). Some b) refutation.begins) refutation.valid refutation.empty) [
      | inl says ↦ inl says
      | inr (report, says, cut) ↦ inr (report, says, (cut.0, omega (arith, cut.1, valid.4.1), cut.2))
    ]

-- a stream that was cut off hasn't ended
pub cut_is_open : (report : Report) → IsExcused CutOff report → ¬ (report.ending ≡ endings.Ended)
cut_is_open report (line, inl memory) ended = let no : endings.Memory line ≡ endings.Ended = sym memory ∙ ended in cc
cut_is_open report (line, inr failed) ended = let no : endings.ReadFailed line ≡ endings.Ended = sym failed ∙ ended in cc
