-- The kinds of events that a line has: a deletion has only retires, and other lines have no
-- retires.
use Rattle.std.proofs.Common.{ℕ, Bool, List, [], ◌∷◌}
use Rattle.std.specs.Prelude.{IsTrue}
use Rattle.std.specs.List.{AllByRecursion}
use Rattle.lrup_model.specs.Event as events
use Rattle.lrup_model.specs.Event.{Event, History}
use Rattle.lrup_model.specs.declared.clause_map.Retired.{Retired}
use Rattle.lrup_text.specs.Lines.{StreamLine, Addition, Deletion, Import}
use Rattle.stream_check.specs.StreamParams.{StreamParams}
use Rattle.stream_check.specs.StreamContext.{StreamContext, deleted_by}
use Rattle.stream_check.specs.Verdicts.{LineVerdict}
use Rattle.stream_check.specs.Deletions.{JudgesDeletion, IsRetire}
use Rattle.stream_check.specs.lemmas.EventLemmas.{identities_hold, addition_all, import_all}
use Rattle.stream_check.specs.Judging.{JudgesLine}
use Rattle.run_laws.specs.Lines.{RetiresLast}
use Rattle.run_laws.specs.OrderLaws.{RetiresOnly}

-- what holds for all retires of a deletion's identities holds for all events of the deletion
pub identities_all : (c : StreamParams) (P : Event → Type 0) (is_dropped : ℕ → Bool) (earlier ids : List ℕ) (es : History) (v : LineVerdict)
    → AllByRecursion (λ id. (r : Retired) → P (events.retire c.stream id r)) ids → JudgesDeletion c is_dropped earlier ids es v
    → AllByRecursion P es
identities_all c P is_dropped earlier ids es v each judged =
    identities_hold c (AllByRecursion P) tt (λ id. (r : Retired) → P (events.retire c.stream id r))
    (λ id rest retires all. (retires _, all)) (λ id retires. (retires _, tt)) is_dropped earlier ids es v each judged

-- Retires

pub all_retire : (s : ℕ) (ids : List ℕ) → AllByRecursion (λ id. (r : Retired) → IsRetire (events.retire s id r)) ids
all_retire s [] = tt
all_retire s (id ∷ ids) = ((λ r. tt), all_retire s ids)

retires_last : (es : History) → AllByRecursion IsRetire es → RetiresLast es
retires_last [] all = tt
retires_last (e ∷ es) all = ((λ is. all.1), retires_last es all.1)

never_last : (es : History) → AllByRecursion (λ e. ¬ IsRetire e) es → RetiresLast es
never_last [] all = tt
never_last (e ∷ es) all = ((λ is. absurd (all.0 is)), never_last es all.1)

-- after a retire, a line has only retires
pub line_last : (c : StreamParams) (st : StreamContext) (line : StreamLine) (es : History) (v : LineVerdict) → JudgesLine c st line es v
    → RetiresLast es
line_last c st (Addition id lits hints) es v judged =
    never_last es (addition_all c (λ e. ¬ IsRetire e) (λ h r is. is) id lits v (λ good is. is) st hints es judged)
line_last c st (Import id lits) es v judged =
    never_last es (import_all c (λ e. ¬ IsRetire e) (λ h r is. is) st id lits es v judged)
line_last c st (Deletion lead ids) es v judged =
    retires_last es (identities_all c IsRetire st.is_dropped [] ids es v (all_retire c.stream ids) judged)

all_pass : (p : ℕ → Bool) (s : ℕ) (ids : List ℕ) → AllByRecursion (λ id. IsTrue (p id)) ids
    → AllByRecursion (λ id. (r : Retired) → RetiresOnly p (events.retire s id r)) ids
all_pass p s [] all = tt
all_pass p s (id ∷ ids) all = ((λ r. all.0), all_pass p s ids all.1)

-- a line retires only what it deletes
pub line_retires : (c : StreamParams) (p : ℕ → Bool) (st : StreamContext) (line : StreamLine) (es : History) (v : LineVerdict)
    → AllByRecursion (λ id. IsTrue (p id)) (deleted_by line) → JudgesLine c st line es v → AllByRecursion (RetiresOnly p) es
line_retires c p st (Addition id lits hints) es v all judged =
    addition_all c (RetiresOnly p) (λ h r. tt) id lits v (λ good. tt) st hints es judged
line_retires c p st (Import id lits) es v all judged =
    import_all c (RetiresOnly p) (λ h r. tt) st id lits es v judged
line_retires c p st (Deletion lead ids) es v all judged =
    identities_all c (RetiresOnly p) st.is_dropped [] ids es v (all_pass p c.stream ids all) judged
