-- Lemmas about events, histories and the states that they leave.
use Rattle.std.proofs.Common.{◌≡◌, ℕ, ◌+◌, ◌-◌, ◌%◌, ◌<◌, ◌≤◌, cond, eqb, ltb, leb, ◌&&◌, List, [], ◌∷◌, ◌++◌, length, get_or, refl, sym, ap, subst, ◌∙◌, inl, inr, arith, ne_eqb, eq-eqb, le-leb, lt-ltb, le-ltb}
use Rattle.std.specs.Prelude.{◌==◌, if◌then◌else◌}
use Rattle.std.specs.List.{sum_by, AllByRecursion}
use Rattle.std.proofs.lemmas.Bool.{cases_eq, cases_lt, cond-true, cond-false, and_from, and_left, and_right, lt-leb}
use Rattle.std.proofs.lemmas.List.Sums.{sum_by-cons}
use Rattle.lrup_model.specs.Clause.{Clause}
use Rattle.lrup_model.specs.Formula.{Cnf, clause_at}
use Rattle.lrup_model.specs.Layout.{LayoutValue, Fits, Owns, owner, last_identity}
use Rattle.lrup_model.specs.Event as events
use Rattle.lrup_model.specs.Event.{Event, History, stream_of, own, spent, published, size_of}
use Rattle.lrup_model.specs.State.{State, Slot, absent, live, retire_slot, after, opening, run, state, AreVacantAbove}
use Rattle.lrup_model.specs.History.{IsAllowed, LegalFrom, IsLegal}
use Rattle.lrup_model.specs.lemmas.RunningLemmas.{spent-sizes, spent-append}
use Rattle.lrup_model.specs.declared.clause_map.Published.TheVariants as publishing
use Rattle.lrup_model.specs.declared.clause_map.Retired.TheVariants as retiring
use Rattle.lrup_model.specs.declared.layout.Owner.{Owner}
use Rattle.lrup_model.specs.declared.layout.Owner.TheVariants as owners

-- Both parts of a legal history

pub legal-front : (f : Cnf) (p : LayoutValue) (m : State) (g h : History) → LegalFrom f p m (g ++ h)
    → LegalFrom f p m g
legal-front f p m [] h legal = tt
legal-front f p m (e ∷ g) h legal = (legal.0, legal.1, legal-front f p (after m e) g h legal.2)

pub legal-back : (f : Cnf) (p : LayoutValue) (m : State) (g h : History) → LegalFrom f p m (g ++ h)
    → LegalFrom f p (run m g) h
legal-back f p m [] h legal = legal
legal-back f p m (e ∷ g) h legal = legal-back f p (after m e) g h legal.2

-- each prefix of a legal history is legal
pub IsLegal-front : (f : Cnf) (p : LayoutValue) (g h : History) → IsLegal f p (g ++ h)
    → IsLegal f p g
IsLegal-front f p g h legal = record {
  events = legal-front f p (opening f) g h legal.events;
  room = λ s. omega (arith, spent-append s g h, legal.room s);
}

-- One slot of a state

-- the state with another slot at one identity
abbrev pub put : State → ℕ → Slot → State
put m id slot = λ j. if j == id then slot else m j

pub put-same : (m : State) (j : ℕ) (slot : Slot) (id : ℕ) → id ≡ j → put m j slot id ≡ slot
put-same m j slot id same = cond-true (eqb id j) slot (m id) (eq-eqb id j same)

pub put-other : (m : State) (j : ℕ) (slot : Slot) (id : ℕ) → (id ≡ j → ⊥) → put m j slot id ≡ m id
put-other m j slot id other = cond-false (eqb id j) slot (m id) (ne_eqb id j other)

-- states that agree at an identity agree there after an event
pub after-agrees : (m n : State) (e : Event) (id : ℕ) → m id ≡ n id → after m e id ≡ after n e id
after-agrees m n (events.fetch s j r) id agree = agree
after-agrees m n (events.publish s j c publishing.Done) id agree = ap (cond (eqb id j) (live c)) agree
after-agrees m n (events.publish s j c publishing.Taken) id agree = agree
after-agrees m n (events.retire s j retiring.Done) id agree =
    elim (cases_eq id j) [
      | inl same ↦ put-same m j (retire_slot (m j)) id same
          ∙ ap retire_slot (subst (λ (k : ℕ). m k ≡ n k) same agree)
          ∙ sym (put-same n j (retire_slot (n j)) id same)
      | inr other ↦ put-other m j (retire_slot (m j)) id other ∙ agree ∙ sym (put-other n j (retire_slot (n j)) id other)
    ]
after-agrees m n (events.retire s j retiring.NotLive) id agree = agree

-- Who changes an identity

-- no identity has two owners
pub one_owner : (p : LayoutValue) (s t id : ℕ) → Owns p s id → Owns p t id → s ≡ t
one_owner p s t id mine yours = cc

abbrev stream_or_above : LayoutValue → ℕ → Owner
stream_or_above p id = if leb id (last_identity p)
    then owners.Stream ((id - p.clauses - 1) % p.streams + 1) else owners.Outside

abbrev formula_or_above : LayoutValue → ℕ → Owner
formula_or_above p id = if leb id p.clauses then owners.Formula else stream_or_above p id

pub formula_owned : (p : LayoutValue) (id : ℕ) → 0 < id → id ≤ p.clauses
    → owner p id ≡ owners.Formula
formula_owned p id positive within =
    cond-false (eqb id 0) owners.Outside (formula_or_above p id) (ne_eqb id 0 (λ nil. omega arith))
    ∙ cond-true (leb id p.clauses) owners.Formula (stream_or_above p id) (le-leb id p.clauses within)

pub owned_above : (p : LayoutValue) (s id : ℕ) → Owns p s id → p.clauses < id
owned_above p s id owns =
    elim (cases_lt p.clauses id) [
      | inl above ↦ above
      | inr within ↦ elim (cases_eq id 0) [
        | inl nil ↦ absurd (let outside : owner p id ≡ owners.Outside = cond-true (eqb id 0) owners.Outside (formula_or_above p id) (eq-eqb id 0 nil) in cc)
        | inr some ↦ absurd (let theirs : owner p id ≡ owners.Formula = formula_owned p id (omega arith) within in cc)
      ]
    ]

-- an allowed event changes no identity that its stream doesn't own
pub after-foreign : (f : Cnf) (p : LayoutValue) (m : State) (e : Event) (id : ℕ) → IsAllowed f p e
    → (Owns p (stream_of e) id → ⊥) → after m e id ≡ m id
after-foreign f p m (events.fetch s j r) id allowed foreign = refl
after-foreign f p m (events.publish s j c publishing.Done) id allowed foreign =
    put-other m j (live c) id (λ same. foreign (subst (λ (k : ℕ). Owns p s k) (sym same) allowed.0))
after-foreign f p m (events.publish s j c publishing.Taken) id allowed foreign = refl
after-foreign f p m (events.retire s j retiring.Done) id allowed foreign =
    put-other m j (retire_slot (m j)) id (λ same. foreign (subst (λ (k : ℕ). Owns p s k) (sym same) allowed))
after-foreign f p m (events.retire s j retiring.NotLive) id allowed foreign = refl

-- an identity that no stream owns keeps its slot
pub run-unowned : (f : Cnf) (p : LayoutValue) (m : State) (h : History) (id : ℕ) → LegalFrom f p m h
    → ((s : ℕ) → Owns p s id → ⊥) → run m h id ≡ m id
run-unowned f p m [] id legal unowned = refl
run-unowned f p m (e ∷ h) id legal unowned =
    run-unowned f p (after m e) h id legal.2 unowned ∙ after-foreign f p m e id legal.1 (unowned (stream_of e))

-- an identity of the formula keeps its slot
pub run-formula : (f : Cnf) (p : LayoutValue) (m : State) (h : History) (id : ℕ) → LegalFrom f p m h
    → id ≤ p.clauses → run m h id ≡ m id
run-formula f p m h id legal within = run-unowned f p m h id legal (λ s owns. omega (arith, owned_above p s id owns))

pub opening-formula : (f : Cnf) (id : ℕ) → 0 < id → id ≤ length f.clauses
    → opening f id ≡ live (clause_at f id)
opening-formula f id positive within =
    cond-true (ltb 0 id && leb id (length f.clauses)) (live (clause_at f id)) absent (and_from (ltb 0 id) (leb id (length f.clauses)) (lt-ltb 0 id positive) (le-leb id (length f.clauses) within))

-- clause i + 1 is at index i of the list of clauses
pub clause_at-suc : (f : Cnf) (i : ℕ) → clause_at f (i + 1) ≡ get_or f.clauses i []
clause_at-suc f i =
    let place : i + 1 - 1 ≡ i = omega arith in
    ap (λ n. get_or f.clauses n []) place

pub opening-above : (f : Cnf) (id : ℕ) → length f.clauses < id → opening f id ≡ absent
opening-above f id above =
    cond-false (ltb 0 id && leb id (length f.clauses)) (live (clause_at f id)) absent (and_right (ltb 0 id) (leb id (length f.clauses)) (lt-leb id (length f.clauses) above))

pub opening-none : (f : Cnf) (id : ℕ) → id ≤ 0 → opening f id ≡ absent
opening-none f id nil =
    cond-false (ltb 0 id && leb id (length f.clauses)) (live (clause_at f id)) absent (and_left (ltb 0 id) (leb id (length f.clauses)) (le-ltb 0 id nil))

pub opening-owned : (f : Cnf) (p : LayoutValue) (s id : ℕ) → Fits p f → Owns p s id
    → opening f id ≡ absent
opening-owned f p s id fits owns = opening-above f id (subst (λ (n : ℕ). n < id) fits.clauses (owned_above p s id owns))

-- an identity of the formula keeps its clause, live
pub formula_stays : (f : Cnf) (p : LayoutValue) (h : History) (id : ℕ) → Fits p f
    → LegalFrom f p (opening f) h → 0 < id → id ≤ p.clauses → state f h id ≡ live (clause_at f id)
formula_stays f p h id fits legal positive within =
    run-formula f p (opening f) h id legal within ∙ opening-formula f id positive (subst (λ (n : ℕ). id ≤ n) fits.clauses within)

-- A stream's own calls

pub own-mine : (e : Event) (h : History) (s : ℕ) → stream_of e ≡ s → own (e ∷ h) s ≡ e ∷ own h s
own-mine e h s mine = cond-true (eqb (stream_of e) s) (e ∷ own h s) (own h s) (eq-eqb (stream_of e) s mine)

-- if all events of a history are one stream's, the stream's part is the whole history
pub own-all : (s : ℕ) (es : History) → AllByRecursion (λ e. stream_of e ≡ s) es → own es s ≡ es
own-all s [] all = refl
own-all s (e ∷ es) all = own-mine e es s all.0 ∙ ap (λ (g : History). e ∷ g) (own-all s es all.1)

pub own-other : (e : Event) (h : History) (s : ℕ) → (stream_of e ≡ s → ⊥) → own (e ∷ h) s ≡ own h s
own-other e h s other = cond-false (eqb (stream_of e) s) (e ∷ own h s) (own h s) (ne_eqb (stream_of e) s other)

pub own-own : (h : History) (s : ℕ) → own (own h s) s ≡ own h s
own-own [] s = refl
own-own (e ∷ h) s =
    elim (cases_eq (stream_of e) s) [
      | inl mine ↦ ap (λ (g : History). own g s) (own-mine e h s mine) ∙ own-mine e (own h s) s mine ∙ ap (λ (g : History). e ∷ g) (own-own h s) ∙ sym (own-mine e h s mine)
      | inr other ↦ ap (λ (g : History). own g s) (own-other e h s other) ∙ own-own h s ∙ sym (own-other e h s other)
    ]

pub spent-own : (s : ℕ) (h : History) → spent s (own h s) ≡ spent s h
spent-own s h = ap (λ (es : History). sum_by (λ p. length p.1) (published es)) (own-own h s)

-- a stream has no event in a history of other streams
pub own-none : (h : History) (s : ℕ) → AllByRecursion (λ e. stream_of e ≡ s → ⊥) h → own h s ≡ []
own-none [] s others = refl
own-none (e ∷ h) s others = own-other e h s others.0 ∙ own-none h s others.1

-- if two states agree at one of a stream's own identities, they agree there after a legal history
-- and after the stream's part of that history
pub run-own : (f : Cnf) (p : LayoutValue) (m n : State) (h : History) (s id : ℕ) → LegalFrom f p m h
    → Owns p s id → m id ≡ n id → run m h id ≡ run n (own h s) id
run-own f p m n [] s id legal owns agree = agree
run-own f p m n (e ∷ h) s id legal owns agree =
    elim (cases_eq (stream_of e) s) [
      | inl mine ↦ run-own f p (after m e) (after n e) h s id legal.2 owns (after-agrees m n e id agree)
          ∙ sym (ap (λ (g : History). run n g id) (own-mine e h s mine))
      | inr other ↦ run-own f p (after m e) n h s id legal.2 owns (after-foreign f p m e id legal.1 (λ theirs. other (one_owner p (stream_of e) s id theirs owns)) ∙ agree)
          ∙ sym (ap (λ (g : History). run n g id) (own-other e h s other))
    ]

-- legal events of other streams don't change a stream's own identities
pub run-others : (f : Cnf) (p : LayoutValue) (m : State) (h : History) (s id : ℕ)
    → LegalFrom f p m h → AllByRecursion (λ e. stream_of e ≡ s → ⊥) h → Owns p s id
    → run m h id ≡ m id
run-others f p m h s id legal others owns =
    run-own f p m m h s id legal owns refl ∙ ap (λ (g : History). run m g id) (own-none h s others)

-- if a stream's own identities above some number are vacant, they are still vacant after legal
-- events of other streams
pub vacant_above_stays : (f : Cnf) (p : LayoutValue) (m : State) (h : History) (s last : ℕ)
    → LegalFrom f p m h → AllByRecursion (λ e. stream_of e ≡ s → ⊥) h → AreVacantAbove p s m last
    → AreVacantAbove p s (run m h) last
vacant_above_stays f p m h s last legal others vacant id owns above = run-others f p m h s id legal others owns ∙ vacant id owns above

-- What was published

pub spent_one : (s : ℕ) (e : Event) → stream_of e ≡ s → spent s (e ∷ []) ≡ size_of e
spent_one s e h = spent-sizes s (e ∷ []) ∙ ap (sum_by size_of) (own-mine e [] s h) ∙ omega (arith, sum_by-cons size_of e [])

pub published-append : (g h : History) → published (g ++ h) ≡ published g ++ published h
published-append [] h = refl
published-append (events.fetch s id r ∷ g) h = published-append g h
published-append (events.publish s id c publishing.Done ∷ g) h = ap (λ (ps : List (ℕ × Clause)). (id, c) ∷ ps) (published-append g h)
published-append (events.publish s id c publishing.Taken ∷ g) h = published-append g h
published-append (events.retire s id r ∷ g) h = published-append g h

-- what a legal history leaves at a stream's own identity depends only on the calls of that stream
pub own_calls_decide : (f : Cnf) (p : LayoutValue) (h : History) (s id : ℕ)
    → LegalFrom f p (opening f) h → Owns p s id → state f h id ≡ state f (own h s) id
own_calls_decide f p h s id legal owns = run-own f p (opening f) (opening f) h s id legal owns refl
