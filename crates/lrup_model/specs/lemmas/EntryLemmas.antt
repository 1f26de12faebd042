-- Lemmas about how a legal history changes an entry.
use Rattle.std.proofs.Common.{ℕ, refl, sym, subst, ◌∙◌, inl, inr, [], ◌∷◌}
use Rattle.std.specs.List.{AllByRecursion}
use Rattle.std.proofs.lemmas.Bool.{cases_eq}
use Rattle.lrup_model.specs.Clause.{Clause}
use Rattle.lrup_model.specs.Formula.{Cnf}
use Rattle.lrup_model.specs.Layout.{LayoutValue}
use Rattle.lrup_model.specs.Event as events
use Rattle.lrup_model.specs.Event.{Event, History, published}
use Rattle.lrup_model.specs.State.{State, Slot, absent, live, retired, IsLive, IsRetired, retire_slot, after, run, Answers, HasClause}
use Rattle.lrup_model.specs.History.{LegalFrom}
use Rattle.lrup_model.specs.Laws.{Advances}
use Rattle.lrup_model.specs.lemmas.HistoryLemmas.{put, put-same, put-other}
use Rattle.lrup_model.specs.declared.clause_map.Published.TheVariants as publishing
use Rattle.lrup_model.specs.declared.clause_map.Retired.TheVariants as retiring

-- From absent to live to retired

pub Advances-same : (slot : Slot) → Advances slot slot
Advances-same absent = tt
Advances-same (live c) = refl
Advances-same (retired c) = refl

pub Advances-then : (a b c : Slot) → Advances a b → Advances b c → Advances a c
Advances-then absent b c ab bc = tt
Advances-then (live x) absent c ab bc = absurd ab
Advances-then (live x) (live y) absent ab bc = bc
Advances-then (live x) (live y) (live z) ab bc = bc ∙ ab
Advances-then (live x) (live y) (retired z) ab bc = bc ∙ ab
Advances-then (live x) (retired y) absent ab bc = bc
Advances-then (live x) (retired y) (live z) ab bc = absurd bc
Advances-then (live x) (retired y) (retired z) ab bc = bc ∙ ab
Advances-then (retired x) absent c ab bc = absurd ab
Advances-then (retired x) (live y) c ab bc = absurd ab
Advances-then (retired x) (retired y) absent ab bc = bc
Advances-then (retired x) (retired y) (live z) ab bc = bc
Advances-then (retired x) (retired y) (retired z) ab bc = bc ∙ ab

pub retired_now : (x : Slot) → IsLive x → IsRetired (retire_slot x)
retired_now absent alive = absurd alive
retired_now (live c) alive = tt
retired_now (retired c) alive = tt

Advances-retired : (slot : Slot) → Advances slot (retire_slot slot)
Advances-retired absent = tt
Advances-retired (live c) = refl
Advances-retired (retired c) = refl

-- if one identity's slot is replaced by a slot to which it advances, every slot advances
put-advances : (m : State) (j : ℕ) (slot : Slot) (id : ℕ) → Advances (m j) slot
    → Advances (m id) (put m j slot id)
put-advances m j slot id advances =
    elim (cases_eq id j) [
      | inl same ↦ subst (λ (x : Slot). Advances (m id) x) (sym (put-same m j slot id same)) (subst (λ (k : ℕ). Advances (m k) slot) (sym same) advances)
      | inr other ↦ subst (λ (x : Slot). Advances (m id) x) (sym (put-other m j slot id other)) (Advances-same (m id))
    ]

pub after-advances : (m : State) (e : Event) (id : ℕ) → Answers m e → Advances (m id) (after m e id)
after-advances m (events.fetch s j r) id answers = Advances-same (m id)
after-advances m (events.publish s j c publishing.Done) id answers =
    put-advances m j (live c) id (subst (λ (x : Slot). Advances x (live c)) (sym answers) tt)
after-advances m (events.publish s j c publishing.Taken) id answers = Advances-same (m id)
after-advances m (events.retire s j retiring.Done) id answers = put-advances m j (retire_slot (m j)) id (Advances-retired (m j))
after-advances m (events.retire s j retiring.NotLive) id answers = Advances-same (m id)

pub run-advances : (f : Cnf) (p : LayoutValue) (m : State) (h : History) (id : ℕ)
    → LegalFrom f p m h → Advances (m id) (run m h id)
run-advances f p m [] id legal = Advances-same (m id)
run-advances f p m (e ∷ h) id legal =
    Advances-then (m id) (after m e id) (run (after m e) h id) (after-advances m e id legal.0) (run-advances f p (after m e) h id legal.2)

-- a slot that advances keeps its clause
pub has_stays : (old new : Slot) (c : Clause) → Advances old new → HasClause old c → HasClause new c
has_stays absent new c advances has = absurd has
has_stays (live d) absent c advances has = absurd advances
has_stays (live d) (live e) c advances has = advances ∙ has
has_stays (live d) (retired e) c advances has = advances ∙ has
has_stays (retired d) absent c advances has = absurd advances
has_stays (retired d) (live e) c advances has = absurd advances
has_stays (retired d) (retired e) c advances has = advances ∙ has

-- after a legal history, each clause that the history published is under its identity, live or
-- retired
pub published_stay : (f : Cnf) (p : LayoutValue) (m : State) (h : History) → LegalFrom f p m h
    → AllByRecursion (λ x. HasClause (run m h x.0) x.1) (published h)
published_stay f p m [] legal = tt
published_stay f p m (events.fetch s id r ∷ h) legal = published_stay f p m h legal.2
published_stay f p m (events.publish s id c publishing.Done ∷ h) legal = (
  has_stays (put m id (live c) id) (run (put m id (live c)) h id) c
      (run-advances f p (put m id (live c)) h id legal.2)
      (subst (λ (x : Slot). HasClause x c) (sym (put-same m id (live c) id refl)) refl),
  published_stay f p (put m id (live c)) h legal.2,
)
published_stay f p m (events.publish s id c publishing.Taken ∷ h) legal = published_stay f p m h legal.2
published_stay f p m (events.retire s id retiring.Done ∷ h) legal = published_stay f p (put m id (retire_slot (m id))) h legal.2
published_stay f p m (events.retire s id retiring.NotLive ∷ h) legal = published_stay f p m h legal.2
