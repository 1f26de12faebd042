-- Legal histories never fork.
use Rattle.std.proofs.Common.{◌≡◌, ℕ, [], ◌∷◌, refl, sym, ap, subst, ◌∙◌}
use Rattle.lrup_model.specs.Clause.{Clause}
use Rattle.lrup_model.specs.Event as events
use Rattle.lrup_model.specs.Event.{Event, Reply}
use Rattle.lrup_model.specs.State.{State, Slot, absent, live, IsRetired, after, Answers}
use Rattle.lrup_model.specs.History.{LegalFrom}
use Rattle.lrup_model.specs.declared.clause_map.Published.{Published}
use Rattle.lrup_model.specs.declared.clause_map.Published.TheVariants as publishing
use Rattle.lrup_model.specs.declared.clause_map.Retired.{Retired}
use Rattle.lrup_model.specs.declared.clause_map.Retired.TheVariants as retiring
use Rattle.stream_check.specs.Forks.{IsSameCall, NeverFork}
use Rattle.stream_check.specs.Judging.{joined}
use Rattle.stream_check.specs.Laws.{LegalNeverFork, AloneDecides}
use Rattle.stream_check.proofs.StreamLemmas.{TextLaws, replies_decide}

-- the reply to a fetch is the one that the slot gives
FetchAnswers : Slot → Reply → Type 0
FetchAnswers slot events.vacant = slot ≡ absent
FetchAnswers slot (events.live c) = slot ≡ live c
FetchAnswers slot events.retired = IsRetired slot

same_fetched : (m : Slot) (r q : Reply) → FetchAnswers m r → FetchAnswers m q → r ≡ q
unfolding FetchAnswers
same_fetched m events.vacant events.vacant a b = refl
same_fetched m events.vacant (events.live d) a b = absurd (let e : absent ≡ live d = sym a ∙ b in cc)
same_fetched m events.vacant events.retired a b = absurd (subst IsRetired a b)
same_fetched m (events.live c) events.vacant a b = absurd (let e : live c ≡ absent = sym a ∙ b in cc)
same_fetched m (events.live c) (events.live d) a b = let e : live c ≡ live d = sym a ∙ b in cc
same_fetched m (events.live c) events.retired a b = absurd (subst IsRetired a b)
same_fetched m events.retired events.vacant a b = absurd (subst IsRetired b a)
same_fetched m events.retired (events.live d) a b = absurd (subst IsRetired b a)
same_fetched m events.retired events.retired a b = refl

fetch_answers : (m : State) (s id : ℕ) (r : Reply) → Answers m (events.fetch s id r) → FetchAnswers (m id) r
unfolding FetchAnswers
fetch_answers m s id events.vacant a = a
fetch_answers m s id (events.live c) a = a
fetch_answers m s id events.retired a = a

same_published : (m : State) (s id : ℕ) (c : Clause) (r q : Published) → Answers m (events.publish s id c r)
    → Answers m (events.publish s id c q) → r ≡ q
same_published m s id c publishing.Done publishing.Done a b = refl
same_published m s id c publishing.Done publishing.Taken a b = absurd (b a)
same_published m s id c publishing.Taken publishing.Done a b = absurd (a b)
same_published m s id c publishing.Taken publishing.Taken a b = refl

same_retired : (m : State) (s id : ℕ) (r q : Retired) → Answers m (events.retire s id r) → Answers m (events.retire s id q) → r ≡ q
same_retired m s id retiring.Done retiring.Done a b = refl
same_retired m s id retiring.Done retiring.NotLive a b = absurd (b a)
same_retired m s id retiring.NotLive retiring.Done a b = absurd (a b)
same_retired m s id retiring.NotLive retiring.NotLive a b = refl

-- in one state a call has only one reply
same_event : (m : State) (d e : Event) → IsSameCall d e → Answers m d → Answers m e → d ≡ e
same_event m (events.fetch s id r) (events.fetch t j q) same a b =
    let here = subst (λ k. Answers m (events.fetch t k q)) (sym same.1) b in
    let is = same_fetched (m id) r q (fetch_answers m s id r a) (fetch_answers m t id q here) in
    ap (λ x. events.fetch x id r) same.0 ∙ ap (λ k. events.fetch t k r) same.1 ∙ ap (λ x. events.fetch t j x) is
same_event m (events.fetch s id r) (events.publish t j c q) same a b = absurd same
same_event m (events.fetch s id r) (events.retire t j q) same a b = absurd same
same_event m (events.publish s id c r) (events.fetch t j q) same a b = absurd same
same_event m (events.publish s id c r) (events.publish t j d q) same a b =
    let at_call : events.publish t j d q ≡ events.publish s id c q =
    sym (ap (λ x. events.publish x id c q) same.0 ∙ ap (λ k. events.publish t k c q) same.1 ∙ ap (λ x. events.publish t j x q) same.2) in
    let is = same_published m s id c r q a (subst (Answers m) at_call b) in
    ap (λ x. events.publish s id c x) is ∙ sym at_call
same_event m (events.publish s id c r) (events.retire t j q) same a b = absurd same
same_event m (events.retire s id r) (events.fetch t j q) same a b = absurd same
same_event m (events.retire s id r) (events.publish t j c q) same a b = absurd same
same_event m (events.retire s id r) (events.retire t j q) same a b =
    let at_call : events.retire t j q ≡ events.retire s id q =
    sym (ap (λ x. events.retire x id q) same.0 ∙ ap (λ k. events.retire t k q) same.1) in
    let is = same_retired m s id r q a (subst (Answers m) at_call b) in
    ap (λ x. events.retire s id x) is ∙ sym at_call

pub legal_never_fork : LegalNeverFork
legal_never_fork f p m [] h a b = tt
legal_never_fork f p m (d ∷ g) [] a b = tt
legal_never_fork f p m (d ∷ g) (e ∷ h) a b = (
  λ same. same_event m d e same a.0 b.0,
  λ is. legal_never_fork f p (after m d) g h a.2 (subst (λ x. LegalFrom f p (after m x) h) (sym is) b.2),
)

pub alone_decides : TextLaws → AloneDecides
alone_decides laws f p c bytes end g h report other legal_g legal_h a b no_memory none =
    let never = legal_never_fork f p _ g h legal_g.events legal_h.events in
    let split = subst (λ e. NeverFork e (joined b.blocks)) a.events (subst (λ e. NeverFork g e) b.events never) in
    let agree = replies_decide laws c bytes end a.blocks b.blocks report other split a.judges b.judges no_memory none in
    (a.events ∙ ap joined agree.0 ∙ sym b.events, agree.1)
