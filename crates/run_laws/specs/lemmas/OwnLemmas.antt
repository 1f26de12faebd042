-- The events of one stream.
use Rattle.std.proofs.Common.{◌≡◌, ◌∙◌, ◌++◌, Bool, List, [], ◌∷◌, ap, refl, sym, subst, inl, inr}
use Rattle.std.specs.List.{AllByRecursion}
use Rattle.std.specs.Prelude.{ℕ}
use Rattle.std.proofs.lemmas.Bool.{cases_eq}
use Rattle.lrup_model.specs.Layout.{LayoutValue}
use Rattle.lrup_model.specs.lemmas.CallerLemmas.{calls_differ}
use Rattle.lrup_model.specs.Event.{Event, History, own, stream_of}
use Rattle.lrup_model.specs.lemmas.HistoryLemmas.{own-all, own-mine, own-none, own-other}
use Rattle.lrup_model.specs.lemmas.RunningLemmas.{own-append}
use Rattle.stream_check.specs.declared.report.Report.{Report}
use Rattle.stream_check.specs.Judging.{joined}
use Rattle.stream_check.specs.lemmas.EachLemmas.{each_more}
use Rattle.stream_check.specs.SequentialConsistency.{AreJudgedIn}
use Rattle.stream_check.specs.lemmas.StreamLemmas.{blocks-other, blocks-same}
use Rattle.stream_check.specs.Streams.{AreJudged, Block, IsBlockWithin, Stream, RunParamsValue, blocks_of, events_in}

-- what holds for all events holds for a stream's events
pub own_all : (P : Event → Type 0) (h : History) (s : ℕ) → AllByRecursion P h
    → AllByRecursion P (own h s)
own_all P [] s all = tt
own_all P (e ∷ h) s all = elim (cases_eq (stream_of e) s) [
  | inl mine ↦ subst (AllByRecursion P) (sym (own-mine e h s mine)) (all.0, own_all P h s all.1)
  | inr other ↦ subst (AllByRecursion P) (sym (own-other e h s other)) (own_all P h s all.1)
]

-- a stream's own events are the events of its blocks
pub own-blocks : (p : LayoutValue) (set : ℕ → Bool) (s : ℕ) (bs : List Block)
    → AllByRecursion (IsBlockWithin p set) bs
    → own (events_in bs) s ≡ joined (blocks_of s bs)
own-blocks p set s [] all = refl
own-blocks p set s (b ∷ bs) all =
    elim (cases_eq b.stream s) [
      | inl mine ↦ own-append b.events (events_in bs) s
          ∙ ap (λ (k : History). k ++ own (events_in bs) s) (own-all s b.events
          (subst (λ (t : ℕ). AllByRecursion (λ e. stream_of e ≡ t) b.events) mine all.0.2))
          ∙ ap (λ (k : History). b.events ++ k) (own-blocks p set s bs all.1) ∙ sym (ap joined (blocks-same b bs s mine))
      | inr other ↦ own-append b.events (events_in bs) s
          ∙ ap (λ (k : History). k ++ own (events_in bs) s) (own-none b.events s (calls_differ s b.stream b.events other all.0.2))
          ∙ own-blocks p set s bs all.1 ∙ sym (ap joined (blocks-other b bs s other))
    ]

-- streams that are judged by their blocks are judged by their own events in the history of all
-- blocks
pub ordered_judged : (run_params : RunParamsValue) (all set : ℕ → Bool) (bs : List Block) (s : ℕ)
    (streams : List Stream) (reports : List Report)
    → AllByRecursion (IsBlockWithin run_params.layout all) bs
    → AreJudged run_params set (λ t events. events ≡ blocks_of t bs) s streams reports
    → AreJudgedIn run_params set (events_in bs) s streams reports
ordered_judged run_params all set bs s streams reports within judged =
    each_more s streams reports judged (λ t stream report j member.
    let by = j member in (by.0, own-blocks run_params.layout all t bs within ∙ ap joined (sym by.1), by.2))
