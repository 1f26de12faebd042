-- The judge gives each line the outcome that the relation gives it.
use Rattle.std.proofs.Common.{◌≡◌, ◌++◌, ℕ, List, [], length, refl, sym, ap, ◌∙◌}
use Rattle.std.specs.Prelude.{Option, Some, None}
use Rattle.lrup_model.specs.Event.{History}
use Rattle.lrup_text.specs.Lines.{StreamLine, Addition, Deletion, Import}
use Rattle.stream_check.specs.StreamParams.{StreamParams}
use Rattle.stream_check.specs.StreamContext.{StreamContext}
use Rattle.stream_check.specs.Verdicts.{LineVerdict}
use Rattle.stream_check.specs.Deletions.{StopsDeletion}
use Rattle.stream_check.specs.Judging.{JudgesLine}
use Rattle.judge.specs.Judge.{Given, LineOutcome, Judged, OutOfMemory, judged_addition, judged_deletion, judged_import, outcome_by}
use Rattle.judge.specs.Judge.{judged_line}
use Rattle.judge.specs.Laws.{HasOutcome, LineJudged, LineJudgedOnRefusal}
use Rattle.judge.proofs.TestLemmas.{none_is, gives, given, give}
use Rattle.judge.proofs.LookUpLemmas.{Takes}
use Rattle.judge.proofs.LineLemmas.{addition_by, addition_from, import_by, import_from}
use Rattle.judge.proofs.DeletionLemmas.{verdict_is, deletion_by, deletion_from, stops_by, deletion_stops}

-- the outcome is the verdict that was given
outcome_from : (g : Given LineVerdict) (outcome : LineOutcome) (rest : History) → outcome_by g ≡ gives outcome rest
    → (verdict : LineVerdict) × (g ≡ gives verdict rest) × (outcome ≡ Judged verdict)
outcome_from None outcome rest is = none_is (outcome, rest) is
outcome_from (Some (verdict, history)) outcome rest is =
    let same = given (Judged verdict) outcome history rest is in
    (verdict, give verdict verdict history rest refl same.1, sym same.0)

verdict_from : (g : Given LineVerdict) (verdict : LineVerdict) (rest : History) → outcome_by g ≡ gives (Judged verdict) rest
    → g ≡ gives verdict rest
verdict_from g verdict rest is =
    let from = outcome_from g (Judged verdict) rest is in
    from.1 ∙ give from.0 verdict rest rest (sym (verdict_is verdict from.0 from.2)) refl

no_stop : (g : Given LineVerdict) (deleted : ℕ) (rest : History) → outcome_by g ≡ gives (OutOfMemory deleted) rest → ⊥
no_stop g deleted rest is = let from = outcome_from g (OutOfMemory deleted) rest is in let e = from.2 in cc

module _ (c : StreamParams) (st : StreamContext) where
  pub line_by : (line : StreamLine) (taken rest : History) (verdict : LineVerdict) → JudgesLine c st line taken verdict
      → judged_line c st None line (taken ++ rest) ≡ gives (Judged verdict) rest
  line_by (Addition id lits hints) taken rest verdict by = ap outcome_by (addition_by c st id lits hints taken rest verdict by)
  line_by (Deletion lead ids) taken rest verdict by = deletion_by c st.is_dropped ids [] taken rest verdict by
  line_by (Import id lits) taken rest verdict by = ap outcome_by (import_by c st id lits taken rest verdict by)

  pub line_from : (line : StreamLine) (refusal : Option ℕ) (history rest : History) (verdict : LineVerdict)
      → judged_line c st refusal line history ≡ gives (Judged verdict) rest
      → Takes (λ taken. JudgesLine c st line taken verdict) history rest
  line_from (Addition id lits hints) refusal history rest verdict is =
      addition_from c st id lits hints history rest verdict (verdict_from (judged_addition c st id lits hints history) verdict rest is)
  line_from (Deletion lead ids) refusal history rest verdict is = deletion_from c st.is_dropped ids [] refusal history rest verdict is
  line_from (Import id lits) refusal history rest verdict is =
      import_from c st id lits history rest verdict (verdict_from (judged_import c st id lits history) verdict rest is)

  -- a deletion that runs out of memory
  pub stop_by : (lead : ℕ) (ids earlier : List ℕ) (taken rest : History) → StopsDeletion c st.is_dropped ids taken earlier
      → judged_line c st (Some (length earlier)) (Deletion lead ids) (taken ++ rest) ≡ gives (OutOfMemory (length earlier)) rest
  stop_by lead ids earlier taken rest stops =
      ap (λ l. judged_deletion c st.is_dropped (Some (length earlier)) [] l (taken ++ rest)) stops.identities
      ∙ stops_by c st.is_dropped earlier [] stops.id stops.later taken rest stops.before stops.shared stops.new

  pub stop_from : (line : StreamLine) (refusal : Option ℕ) (history rest : History) (deleted : ℕ)
      → judged_line c st refusal line history ≡ gives (OutOfMemory deleted) rest
      → Takes (λ taken. HasOutcome c st line taken (OutOfMemory deleted)) history rest
  stop_from (Addition id lits hints) refusal history rest deleted is =
      absurd (no_stop (judged_addition c st id lits hints history) deleted rest is)
  stop_from (Deletion lead ids) refusal history rest deleted is =
      let from = deletion_stops c st.is_dropped ids refusal history rest deleted is in
      (from.0, from.1, (lead, ids, from.2.0, refl, from.2.1, from.2.2))
  stop_from (Import id lits) refusal history rest deleted is =
      absurd (no_stop (judged_import c st id lits history) deleted rest is)

  outcome_is : (line : StreamLine) (history rest : History) (outcome : LineOutcome)
      → Takes (λ taken. HasOutcome c st line taken outcome) history rest
      → (refusal : Option ℕ) × (judged_line c st refusal line history ≡ gives outcome rest)
  outcome_is line history rest (Judged verdict) (taken, is, by) =
      (None, ap (judged_line c st None line) is ∙ line_by line taken rest verdict by)
  outcome_is line history rest (OutOfMemory deleted) (taken, is, (lead, ids, earlier, line_is, stops, count)) = (
    Some (length earlier),
    ap (judged_line c st (Some (length earlier)) line) is
        ∙ ap (λ l. judged_line c st (Some (length earlier)) l (taken ++ rest)) line_is
        ∙ stop_by lead ids earlier taken rest stops
        ∙ give (OutOfMemory (length earlier)) (OutOfMemory deleted) rest rest (ap OutOfMemory (sym count)) refl,
  )

  outcome_of : (line : StreamLine) (refusal : Option ℕ) (history rest : History) (outcome : LineOutcome)
      → judged_line c st refusal line history ≡ gives outcome rest
      → Takes (λ taken. HasOutcome c st line taken outcome) history rest
  outcome_of line refusal history rest (Judged verdict) is = line_from line refusal history rest verdict is
  outcome_of line refusal history rest (OutOfMemory deleted) is = stop_from line refusal history rest deleted is

pub line_judged : LineJudged
line_judged c st line history rest verdict = (
  line_from c st line None history rest verdict,
  λ by. ap (judged_line c st None line) by.1 ∙ line_by c st line by.0 rest verdict by.2,
)

pub line_judged_on_refusal : LineJudgedOnRefusal
line_judged_on_refusal c st line history rest outcome =
    ((λ is. outcome_of c st line is.0 history rest outcome is.1), outcome_is c st line history rest outcome)
