-- A group as a run in which the other streams are empty.
use Rattle.std.proofs.Common.{◌≡◌, ℕ, ◌+◌, Bool, false, cond, List, [], ◌∷◌, Some, refl, sym, ap, ◌∙◌, inl, inr}
use Rattle.std.specs.Prelude.{IsTrue}
use Rattle.std.specs.List.{AllByRecursion}
use Rattle.std.proofs.lemmas.Bool.{cases_Bool, cond-true, cond-false, true≢false}
use Rattle.lrup_model.specs.Event.{History, stream_of, own}
use Rattle.lrup_model.specs.lemmas.HistoryLemmas.{own-none}
use Rattle.lrup_text.specs.declared.device.StreamEnd.TheVariants as stream_ends
use Rattle.stream_check.specs.declared.report.Ending.TheVariants as endings
use Rattle.stream_check.specs.declared.report.Report.{Report}
use Rattle.stream_check.specs.StreamParams.{StreamParams}
use Rattle.stream_check.specs.StreamContext.{context_of}
use Rattle.stream_check.specs.Reaching.{GoingState}
use Rattle.stream_check.specs.Laws.{FreshLeft, EndJudged}
use Rattle.stream_check.specs.Streams.{Stream, JudgesStream, RunParamsValue, stream_params}
use Rattle.stream_check.specs.lemmas.StreamLemmas.{IsJudgedBy, judged_out}
use Rattle.stream_check.specs.SequentialConsistency.{AreJudgedIn}
use Rattle.run_laws.specs.Groups.{with_others}
use Rattle.run_laws.specs.GroupLaws.{OthersEmpty}

-- no bytes, read to the end
abbrev pub empty_stream : Stream
empty_stream = record { bytes = []; unneeded = []; end = Some stream_ends.Ended }

-- the report of a stream without bytes
abbrev pub empty_report : Report
empty_report = record { added = 0; deleted = 0; empty = false; within = false; ending = endings.Ended }

fresh : StreamParams → GoingState
fresh c = record {
  tally = record { added = 0; deleted = 0; empty = false; within = false };
  context = context_of c [];
  pending = [];
  line = 1;
}

nothing_judged : FreshLeft → EndJudged → (c : StreamParams) → JudgesStream c empty_stream [] empty_report
unfolding fresh
nothing_judged first last c = judged_out c [] [] stream_ends.Ended [] empty_report (last c [] [] (fresh c) stream_ends.Ended (first c
    (fresh c) (record {
      tally = refl;
      context = record { last = refl; free = refl; is_dropped = λ id. refl };
      pending = refl;
      line = refl;
    })))

others_call : (set : ℕ → Bool) (s : ℕ) (h : History) → set s ≡ false → AllByRecursion (λ e. IsTrue (set (stream_of e))) h
    → AllByRecursion (λ e. stream_of e ≡ s → ⊥) h
others_call set s [] out all = tt
others_call set s (e ∷ h) out all = (λ is. true≢false (sym all.0 ∙ ap set is ∙ out), others_call set s h out all.1)

emptied : FreshLeft → EndJudged → (run_params : RunParamsValue) (set : ℕ → Bool) (h : History) (s : ℕ) (stream : Stream) (report : Report)
    → AllByRecursion (λ e. IsTrue (set (stream_of e))) h
    → (IsTrue (set s) → IsJudgedBy (stream_params run_params s) stream (own h s) report)
    → IsJudgedBy (stream_params run_params s) (cond (set s) stream empty_stream) (own h s) (cond (set s) report empty_report)
emptied first last run_params set h s stream report members judged =
    let c = stream_params run_params s in
    elim (cases_Bool (set s)) [
      | inl member ↦ rw (cond-true (set s) stream empty_stream member, cond-true (set s) report empty_report member) (judged member)
      | inr out ↦
          let none : own h s ≡ [] = own-none h s (others_call set s h out members) in
          rw (cond-false (set s) stream empty_stream out, cond-false (set s) report empty_report out, none)
          ([], refl, nothing_judged first last c)
    ]

emptied_from : FreshLeft → EndJudged → (run_params : RunParamsValue) (set all : ℕ → Bool) (h : History)
    → AllByRecursion (λ e. IsTrue (set (stream_of e))) h
    → (s : ℕ) (streams : List Stream) (reports : List Report) → AreJudgedIn run_params set h s streams reports
    → AreJudgedIn run_params all h s (with_others set empty_stream s streams) (with_others set empty_report s reports)
emptied_from first last run_params set all h members s [] [] judged = tt
emptied_from first last run_params set all h members s [] (r ∷ rs) judged = absurd judged
emptied_from first last run_params set all h members s (t ∷ ts) [] judged = absurd judged
emptied_from first last run_params set all h members s (t ∷ ts) (r ∷ rs) judged = (
  λ _. emptied first last run_params set h s t r members judged.0,
  emptied_from first last run_params set all h members (s + 1) ts
      rs judged.1,
)

pub others_empty : FreshLeft → EndJudged → OthersEmpty
others_empty first last f run_params set streams reports g =
    (g.history, g.legal, emptied_from first last run_params set _ g.history g.members 1 streams reports g.judged)
