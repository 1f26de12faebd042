-- Lemmas about a legal history restricted to the streams of a set.
use Rattle.std.proofs.Common.{◌≡◌, ◌⊎◌, ℕ, ◌+◌, ◌≤◌, Bool, true, false, cond, eqb, [], ◌∷◌, refl, sym, ap, subst, ◌∙◌, inl, inr, arith, length}
use Rattle.std.specs.Prelude.{IsTrue}
use Rattle.std.specs.List.{sum_by, AllByRecursion}
use Rattle.std.proofs.lemmas.Bool.{cases_Bool, cases_eq, cond-true, cond-false, true≢false}
use Rattle.std.proofs.lemmas.List.Sums.{sum_by-cons}
use Rattle.std.specs.List.{filter}
use Rattle.lrup_model.specs.Formula.{Cnf}
use Rattle.lrup_model.specs.Layout.{LayoutValue, Fits, Owns, owner}
use Rattle.lrup_model.specs.Event as events
use Rattle.lrup_model.specs.Event.{Event, History, stream_of, own, published, spent, size_of}
use Rattle.lrup_model.specs.lemmas.RunningLemmas.{spent-sizes}
use Rattle.lrup_model.specs.State.{State, Slot, absent, IsLive, IsRetired, after, opening, Answers}
use Rattle.lrup_model.specs.History.{IsAllowed, LegalFrom, IsLegal}
use Rattle.lrup_model.specs.Laws.{FindsWithin}
use Rattle.lrup_model.specs.declared.clause_map.Published.TheVariants as publishing
use Rattle.lrup_model.specs.declared.clause_map.Retired.TheVariants as retiring
use Rattle.lrup_model.specs.declared.layout.Owner.{Owner}
use Rattle.lrup_model.specs.declared.layout.Owner.TheVariants as owners
use Rattle.lrup_model.specs.lemmas.HistoryLemmas.{own-mine, own-other, one_owner, opening-owned, after-agrees, after-foreign}

-- no stream outside the set owns the identity
abbrev pub IsInside : LayoutValue → (ℕ → Bool) → ℕ → Type 0
IsInside p set id = (t : ℕ) → Owns p t id → IsTrue (set t)

-- The restricted state agrees with the whole state at identities that no stream outside the set
-- owns, and has nothing at all other identities.
pub record Restricts (p : LayoutValue) (set : ℕ → Bool) (whole part : State) : Type 0 where
  pub inside : (id : ℕ) → IsInside p set id → part id ≡ whole id
  pub outside : (id t : ℕ) → Owns p t id → set t ≡ false → part id ≡ absent

Restricts-opening : (f : Cnf) (p : LayoutValue) (set : ℕ → Bool) → Fits p f
    → Restricts p set (opening f) (opening f)
Restricts-opening f p set fits = record {
  inside = λ id within. refl;
  outside = λ id t owns out. opening-owned f p t id fits owns;
}

-- the restriction still holds after an event of a stream in the set has changed both states
Restricts-member : (f : Cnf) (p : LayoutValue) (set : ℕ → Bool) (whole part : State) (e : Event)
    → IsAllowed f p e → set (stream_of e) ≡ true → Restricts p set whole part
    → Restricts p set (after whole e) (after part e)
Restricts-member f p set whole part e allowed member rel = record {
  inside = λ id within. after-agrees part whole e id (rel.inside id within);
  outside = λ id t owns out.
      let foreign : Owns p (stream_of e) id → ⊥ = λ theirs. true≢false (sym member ∙ ap set (one_owner p (stream_of e) t id theirs owns) ∙ out) in
      after-foreign f p part e id allowed foreign ∙ rel.outside id t owns out;
}

-- the restriction still holds after an event of a stream outside the set has changed only the whole
-- state
Restricts-other : (f : Cnf) (p : LayoutValue) (set : ℕ → Bool) (whole part : State) (e : Event)
    → IsAllowed f p e → set (stream_of e) ≡ false → Restricts p set whole part
    → Restricts p set (after whole e) part
Restricts-other f p set whole part e allowed other rel = record {
  inside = λ id within.
      let foreign : Owns p (stream_of e) id → ⊥ = λ theirs. true≢false (sym (within (stream_of e) theirs) ∙ other) in
      rel.inside id within ∙ sym (after-foreign f p whole e id allowed foreign);
  outside = rel.outside;
}

-- an identity is inside the set, or a stream outside the set owns it
inside_or_outside : (p : LayoutValue) (set : ℕ → Bool) (id : ℕ) (o : Owner) → owner p id ≡ o
    → IsInside p set id ⊎ ((t : ℕ) × Owns p t id × (set t ≡ false))
inside_or_outside p set id owners.Formula is = inl (λ t owns. absurd (cc))
inside_or_outside p set id (owners.Stream s) is =
    elim (cases_Bool (set s)) [
      | inl member ↦ inl (λ t owns. ap set (one_owner p t s id owns is) ∙ member)
      | inr other ↦ inr (s, is, other)
    ]
inside_or_outside p set id owners.Outside is = inl (λ t owns. absurd (cc))

restricted_nothing : (p : LayoutValue) (set : ℕ → Bool) (whole part : State) (id : ℕ)
    → Restricts p set whole part → whole id ≡ absent → part id ≡ absent
restricted_nothing p set whole part id rel nothing =
    elim (inside_or_outside p set id (owner p id) refl) [
      | inl within ↦ rel.inside id within ∙ nothing
      | inr out ↦ rel.outside id out.0 out.1 out.2
    ]

own_inside : (p : LayoutValue) (set : ℕ → Bool) (s id : ℕ) → set s ≡ true → Owns p s id
    → IsInside p set id
own_inside p set s id member owns t theirs = ap set (one_owner p t s id theirs owns) ∙ member

-- an event of a stream in the set gets the same reply from the restricted state
Restricts-answers : (f : Cnf) (p : LayoutValue) (set : ℕ → Bool) (whole part : State) (e : Event)
    → IsAllowed f p e → set (stream_of e) ≡ true → FindsWithin p set e → Restricts p set whole part
    → Answers whole e → Answers part e
Restricts-answers f p set whole part (events.fetch s id events.vacant) allowed member finds rel answers = restricted_nothing p set whole part id rel answers
Restricts-answers f p set whole part (events.fetch s id (events.live c)) allowed member finds rel answers = rel.inside id (finds member tt) ∙ answers
Restricts-answers f p set whole part (events.fetch s id events.retired) allowed member finds rel answers =
    subst (λ (x : Slot). IsRetired x) (sym (rel.inside id (finds member tt))) answers
Restricts-answers f p set whole part (events.publish s id c publishing.Done) allowed member finds rel answers =
    rel.inside id (own_inside p set s id member allowed.0) ∙ answers
Restricts-answers f p set whole part (events.publish s id c publishing.Taken) allowed member finds rel answers =
    λ nothing. answers (sym (rel.inside id (own_inside p set s id member allowed.0)) ∙ nothing)
Restricts-answers f p set whole part (events.retire s id retiring.Done) allowed member finds rel answers =
    subst (λ (x : Slot). IsLive x) (sym (rel.inside id (own_inside p set s id member allowed))) answers
Restricts-answers f p set whole part (events.retire s id retiring.NotLive) allowed member finds rel answers =
    λ is_live. answers (subst (λ (x : Slot). IsLive x) (rel.inside id (own_inside p set s id member allowed)) is_live)

-- the events of the streams in the set, in order
abbrev pub among : (ℕ → Bool) → History → History
among set h = filter (λ e. set (stream_of e)) h

among-member : (set : ℕ → Bool) (e : Event) (h : History) → set (stream_of e) ≡ true
    → among set (e ∷ h) ≡ e ∷ among set h
among-member set e h member = cond-true (set (stream_of e)) (e ∷ among set h) (among set h) member

among-other : (set : ℕ → Bool) (e : Event) (h : History) → set (stream_of e) ≡ false
    → among set (e ∷ h) ≡ among set h
among-other set e h other = cond-false (set (stream_of e)) (e ∷ among set h) (among set h) other

-- all events of `among` are events of streams in the set
pub among-members : (set : ℕ → Bool) (h : History)
    → AllByRecursion (λ e. IsTrue (set (stream_of e))) (among set h)
among-members set [] = tt
among-members set (e ∷ h) =
    elim (cases_Bool (set (stream_of e))) [
      | inl member ↦ subst (λ (g : History). AllByRecursion (λ d. IsTrue (set (stream_of d))) g) (sym (among-member set e h member)) (member, among-members set h)
      | inr other ↦ subst (λ (g : History). AllByRecursion (λ d. IsTrue (set (stream_of d))) g) (sym (among-other set e h other)) (among-members set h)
    ]

own-cons : (e : Event) (g h : History) (s : ℕ) → own g s ≡ own h s → own (e ∷ g) s ≡ own (e ∷ h) s
own-cons e g h s same = ap (λ (k : History). cond (eqb (stream_of e) s) (e ∷ k) k) same

-- the events of `among` include all events of each stream in the set
pub own-among : (set : ℕ → Bool) (h : History) (s : ℕ) → IsTrue (set s)
    → own (among set h) s ≡ own h s
own-among set [] s inside = refl
own-among set (e ∷ h) s inside =
    elim (cases_Bool (set (stream_of e))) [
      | inl member ↦ ap (λ (g : History). own g s) (among-member set e h member) ∙ own-cons e (among set h) h s (own-among set h s inside)
      | inr other ↦ ap (λ (g : History). own g s) (among-other set e h other)
          ∙ own-among set h s inside
          ∙ sym (own-other e h s (λ mine. true≢false (sym inside ∙ ap set (sym mine) ∙ other)))
    ]

pub among-legal : (f : Cnf) (p : LayoutValue) (set : ℕ → Bool) (whole part : State) (h : History)
    → Restricts p set whole part → LegalFrom f p whole h → AllByRecursion (FindsWithin p set) h
    → LegalFrom f p part (among set h)
among-legal f p set whole part [] rel legal finds = tt
among-legal f p set whole part (e ∷ h) rel legal finds =
    elim (cases_Bool (set (stream_of e))) [
      | inl member ↦ subst (λ (g : History). LegalFrom f p part g) (sym (among-member set e h member)) (
        Restricts-answers f p set whole part e legal.1 member finds.0 rel legal.0,
        legal.1,
        among-legal f p set (after whole e) (after part e) h (Restricts-member f p set whole part e legal.1 member rel) legal.2 finds.1,
      )
      | inr other ↦ subst (λ (g : History). LegalFrom f p part g) (sym (among-other set e h other))
          (among-legal f p set (after whole e) part h (Restricts-other f p set whole part e legal.1 other rel) legal.2 finds.1)
    ]

-- Room

spent-mine : (s : ℕ) (e : Event) (h : History) → stream_of e ≡ s
    → spent s (e ∷ h) ≡ size_of e + spent s h
spent-mine s e h mine =
    spent-sizes s (e ∷ h) ∙ ap (sum_by size_of) (own-mine e h s mine) ∙ sum_by-cons size_of e (own h s)
    ∙ ap (λ n. size_of e + n) (sym (spent-sizes s h))

spent-other : (s : ℕ) (e : Event) (h : History) → (stream_of e ≡ s → ⊥)
    → spent s (e ∷ h) ≡ spent s h
spent-other s e h other = ap (λ (es : History). sum_by (λ p. length p.1) (published es)) (own-other e h s other)

spent-rest : (s : ℕ) (e : Event) (h : History) → spent s h ≤ spent s (e ∷ h)
spent-rest s e h =
    elim (cases_eq (stream_of e) s) [
      | inl mine ↦ omega (arith, spent-mine s e h mine)
      | inr other ↦ omega (arith, spent-other s e h other)
    ]

spent-cons-le : (s : ℕ) (e : Event) (g h : History) → spent s g ≤ spent s h
    → spent s (e ∷ g) ≤ spent s (e ∷ h)
spent-cons-le s e g h less =
    elim (cases_eq (stream_of e) s) [
      | inl mine ↦ omega (arith, less, spent-mine s e g mine, spent-mine s e h mine)
      | inr other ↦ omega (arith, less, spent-other s e g other, spent-other s e h other)
    ]

pub spent-among : (s : ℕ) (set : ℕ → Bool) (h : History) → spent s (among set h) ≤ spent s h
spent-among s set [] = omega arith
spent-among s set (e ∷ h) =
    elim (cases_Bool (set (stream_of e))) [
      | inl member ↦ subst (λ (g : History). spent s g ≤ spent s (e ∷ h)) (sym (among-member set e h member)) (spent-cons-le s e (among set h) h (spent-among s set h))
      | inr other ↦ subst (λ (g : History). spent s g ≤ spent s (e ∷ h)) (sym (among-other set e h other)) (omega (arith, spent-among s set h, spent-rest s e h))
    ]

-- if the streams of a set find no clause of a stream outside the set, the events of the set's
-- streams are a legal history
pub restriction_legal : (f : Cnf) (p : LayoutValue) (set : ℕ → Bool) (h : History) → Fits p f
    → IsLegal f p h → AllByRecursion (FindsWithin p set) h → IsLegal f p (among set h)
restriction_legal f p set h fits legal finds = record {
  events = among-legal f p set (opening f) (opening f) h (Restricts-opening f p set fits) legal.events finds;
  room = λ s. omega (arith, spent-among s set h, legal.room s);
}
