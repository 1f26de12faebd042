-- Lemmas about passes: the laws of a caller's view of a clause map, what stays stored, one call,
-- and meetings.
use Rattle.std.proofs.Common.{◌≡◌, ◌≢◌, ℕ, ◌+◌, ◌≤◌, List, [], ◌∷◌, ◌++◌, length, Option, Some, refl, sym, ap, ap₂, subst, ◌∙◌, arith, append_assoc, append-nil}
use Rattle.std.specs.List.{AllByRecursion}
use Rattle.std.proofs.lemmas.List.{append_cancel_right}
use Rattle.lrup_model.specs.Clause.{Clause}
use Rattle.lrup_model.specs.Formula.{Cnf, clause_at}
use Rattle.lrup_model.specs.Entailment.{IsDerived}
use Rattle.lrup_model.specs.Layout.{LayoutValue, Owns}
use Rattle.lrup_model.specs.Event as events
use Rattle.lrup_model.specs.Event.{Event, Reply, History, stream_of, own, spent}
use Rattle.lrup_model.specs.State.{State, Slot, absent, live, retired, IsRetired, Answers, opening, state, HasClause}
use Rattle.lrup_model.specs.History.{IsLegal}
use Rattle.lrup_model.specs.lemmas.RunningLemmas.{run-append, own-append, spent-append, callers-append}
use Rattle.lrup_model.specs.CallerView.{Caller, IsCaller, StoredClause, CallerView, ClipValue, literals_in, clip_clause, IsKnown, CallerStep, AllFollow, KeepsSpelt}
use Rattle.lrup_model.specs.Replies.{AnswersOwn, AnswersFormula}
use Rattle.lrup_model.specs.Pass.{View, Spelling, stored_in, Spells, IsSpelt, IsFair, PassMoves, pass_caller_view, SyncViews, SyncInTurn, AreSynced, AllSaw}
use Rattle.lrup_model.specs.lemmas.EntailmentLemmas.{clauses_follow}
use Rattle.lrup_model.specs.lemmas.HistoryLemmas.{legal-front, legal-back, formula_stays, own-mine, own-none, spent-own, run-own}

-- The laws of a caller's view

pub moves_none : (v : View) → PassMoves v v []
moves_none v = record {
  caller = refl;
  callers = tt;
  mine = sym (append-nil v.mine);
  seen = ([], sym (append-nil v.seen));
  room = omega arith;
  spelt = λ id stored there. there;
  fair = λ fair. fair;
  fair_after = λ some. absurd (some refl);
  follow = λ all. all;
}

-- a pass is fair after two moves if it makes a call in at least one of them
fair_append : (a b c : View) (es fs : History) → PassMoves a b es → PassMoves b c fs → es ++ fs ≢ []
    → IsFair c
fair_append a b c es [] ab bc some = bc.fair (ab.fair_after (λ none. some (append-nil es ∙ none)))
fair_append a b c es (f ∷ fs) ab bc some = bc.fair_after (λ none. cc)

pub moves_append : (a b c : View) (es fs : History) → PassMoves a b es → PassMoves b c fs
    → PassMoves a c (es ++ fs)
moves_append a b c es fs ab bc =
    let stream : b.caller.stream ≡ a.caller.stream = ap (λ (r : Caller). r.stream) ab.caller in
    record {
      caller = bc.caller ∙ ab.caller;
      callers = callers-append a.caller.stream es fs ab.callers (subst (λ (s : ℕ). AllByRecursion (λ e. stream_of e ≡ s) fs) stream bc.callers);
      mine = bc.mine ∙ ap (λ (h : History). h ++ fs) ab.mine ∙ append_assoc a.mine es fs;
      seen = (ab.seen.0 ++ bc.seen.0, bc.seen.1 ∙ ap (λ (h : History). h ++ bc.seen.0) ab.seen.1 ∙ append_assoc a.seen ab.seen.0 bc.seen.0);
      room =
          let last : (pass_caller_view c).room + spent a.caller.stream fs ≡ (pass_caller_view b).room = subst (λ (s : ℕ). (pass_caller_view c).room + spent s fs ≡ (pass_caller_view b).room) stream bc.room in
          omega (arith, last, ab.room, spent-append a.caller.stream es fs);
      spelt = λ id stored there. bc.spelt id stored (ab.spelt id stored there);
      fair = λ fair. bc.fair (ab.fair fair);
      fair_after = fair_append a b c es fs ab bc;
      follow = λ all. bc.follow (ab.follow all);
    }

pub moves_are_step : (a b : View) (es : History) → PassMoves a b es
    → CallerStep (pass_caller_view a) (pass_caller_view b) es
moves_are_step a b es moves = record {
  caller = moves.caller;
  callers = moves.callers;
  room = moves.room;
  own = λ id owns. ap₂ (λ (f : Cnf) (h : History). state f h id) (ap (λ (r : Caller). r.formula) moves.caller) moves.mine
      ∙ ap (λ (m : State). m id) (run-append (opening a.caller.formula) a.mine es);
  spelt = moves.spelt;
  follow = moves.follow;
}

abbrev stored_from : ℕ → Clause → Option StoredClause
stored_from start c = Some (record { start = start; literals = c })

-- a known clip stays known, since what is stored for it doesn't change
pub known_stays : (a b : CallerView) (es : History) (clip : ClipValue) → CallerStep a b es
    → IsKnown a clip
    → IsKnown b clip × (clip_clause b clip ≡ clip_clause a clip)
known_stays a b es clip step known =
    let stored : b.spelt clip.id ≡ stored_from clip.start (clip_clause a clip) = step.spelt clip.id (record { start = clip.start; literals = clip_clause a clip }) known.stored in
    let text : clip_clause b clip ≡ clip_clause a clip = ap literals_in stored in (
      record {
        stored = stored ∙ ap (stored_from clip.start) (sym text);
        len = known.len ∙ ap length (sym text);
      },
      text,
    )

-- if all stored clauses follow from the formula, so does the clause of a known clip
pub known_follows : (p : CallerView) (clip : ClipValue) → AllFollow p → IsKnown p clip
    → IsDerived p.caller.formula (clip_clause p clip)
known_follows p clip all known = all.each clip.id (record { start = clip.start; literals = clip_clause p clip }) known.stored

-- What is stored

spelt_has : (slot : Slot) (stored : StoredClause) → Spells slot (Some stored)
    → HasClause slot stored.literals
spelt_has absent stored spells = absurd spells
spelt_has (live c) stored spells = sym spells
spelt_has (retired c) stored spells = sym spells

-- a stored clause is also the clause in the slot of its identity
pub stored_has : (f : Cnf) (h : History) (xs : List Spelling) (id : ℕ) (stored : StoredClause)
    → IsSpelt f h xs
    → stored_in xs id ≡ Some stored → HasClause (state f h id) stored.literals
stored_has f h xs id stored spelt there = spelt_has (state f h id) stored (subst (λ (k : Option StoredClause). Spells (state f h id) k) there (spelt.slots id))

pub fair_follows : (v : View) → IsFair v → AllFollow (pass_caller_view v)
fair_follows v fair = record {
  each = λ id stored there.
      clauses_follow v.caller.formula v.caller.layout v.seen id stored.literals fair.caller.formula fair.legal.events
      (stored_has v.caller.formula v.seen v.spelt id stored fair.spelt there);
}

-- Moves of a pass

-- a fair pass's own calls have used at most the room of its stream
pub spent_within : (v : View) → IsFair v → spent v.caller.stream v.mine ≤ v.caller.layout.room
spent_within v fair =
    let all : spent v.caller.stream v.mine ≡ spent v.caller.stream v.seen =
    sym (ap (λ (h : History). spent v.caller.stream h) fair.mine) ∙ spent-own v.caller.stream v.seen in
    omega (arith, all, fair.legal.room v.caller.stream)

room_left : (old new : View) (es : History) → IsFair new → new.caller ≡ old.caller
    → new.mine ≡ old.mine ++ es
    → (pass_caller_view new).room + spent old.caller.stream es ≡ (pass_caller_view old).room
room_left old new es fair caller mine =
    let stream : new.caller.stream ≡ old.caller.stream = ap (λ (r : Caller). r.stream) caller in
    let room : new.caller.layout.room ≡ old.caller.layout.room = ap (λ (r : Caller). r.layout.room) caller in
    let all : spent new.caller.stream new.mine ≡ spent old.caller.stream (old.mine ++ es) = ap₂ (λ (s : ℕ) (h : History). spent s h) stream mine in
    omega (arith, all, room, spent_within new fair, spent-append old.caller.stream old.mine es)

pub moves_on : (old new : View) (es : History)
    → IsFair old → IsFair new → new.caller ≡ old.caller
    → AllByRecursion (λ e. stream_of e ≡ old.caller.stream) es → new.mine ≡ old.mine ++ es
    → ((more : History) × (new.seen ≡ old.seen ++ more))
    → KeepsSpelt (stored_in old.spelt) (stored_in new.spelt)
    → PassMoves old new es
moves_on old new es before after caller callers mine seen spelt = record {
  caller = caller;
  callers = callers;
  mine = mine;
  seen = seen;
  room = room_left old new es after caller mine;
  spelt = spelt;
  fair = λ fair. after;
  fair_after = λ some. after;
  follow = λ all. fair_follows new after;
}

-- Events of others

pub own-others : (seen more : History) (s : ℕ) → AllByRecursion (λ d. stream_of d ≢ s) more
    → own (seen ++ more) s ≡ own seen s
own-others seen more s others = own-append seen more s ∙ ap (λ (g : History). own seen s ++ g) (own-none more s others) ∙ append-nil (own seen s)

-- the pass after it has seen these events of others, with these clauses stored
abbrev pub learned : View → History → List Spelling → View
learned v more xs = record v {
  seen = v.seen ++ more;
  spelt = xs;
}

pub moves_learn : (v : View) (more : History) (xs : List Spelling)
    → IsFair v
    → AllByRecursion (λ d. stream_of d ≢ v.caller.stream) more
    → IsLegal v.caller.formula v.caller.layout (v.seen ++ more)
    → IsSpelt v.caller.formula (v.seen ++ more) xs → KeepsSpelt (stored_in v.spelt) (stored_in xs)
    → PassMoves v (learned v more xs) [] × IsFair (learned v more xs)
moves_learn v more xs fair others legal spelt keeps =
    let after : IsFair (learned v more xs) = record {
      caller = fair.caller;
      legal = legal;
      mine = own-others v.seen more v.caller.stream others ∙ fair.mine;
      spelt = spelt;
    } in
    (moves_on v (learned v more xs) [] fair after refl tt (sym (append-nil v.mine)) (more, refl) keeps, after)

-- One call

-- events of others, and then a call of the pass's stream, add only this call to the stream's own
-- events
pub own_stepped : (v : View) (between : History) (e : Event) → IsFair v
    → AllByRecursion (λ d. stream_of d ≢ v.caller.stream) between → stream_of e ≡ v.caller.stream
    → own (v.seen ++ between ++ e ∷ []) v.caller.stream ≡ v.mine ++ e ∷ []
own_stepped v between e fair others mine =
    own-append (v.seen ++ between) (e ∷ []) v.caller.stream
    ∙ ap₂ (λ (g h : History). g ++ h) (own-others v.seen between v.caller.stream others ∙ fair.mine) (own-mine e [] v.caller.stream mine)

-- the pass after it has seen these events of others and then made this call, with these clauses
-- stored
abbrev pub stepped : View → History → Event → List Spelling → View
stepped v between e xs = record v {
  seen = v.seen ++ between ++ e ∷ [];
  mine = v.mine ++ e ∷ [];
  spelt = xs;
}

pub moves_step : (v : View) (between : History) (e : Event) (xs : List Spelling)
    → IsFair v
    → AllByRecursion (λ d. stream_of d ≢ v.caller.stream) between → stream_of e ≡ v.caller.stream
    → IsLegal v.caller.formula v.caller.layout (v.seen ++ between ++ e ∷ [])
    → IsSpelt v.caller.formula (v.seen ++ between ++ e ∷ []) xs
    → KeepsSpelt (stored_in v.spelt) (stored_in xs)
    → PassMoves v (stepped v between e xs) (e ∷ []) × IsFair (stepped v between e xs)
moves_step v between e xs fair others mine legal spelt keeps =
    let after : IsFair (stepped v between e xs) = record {
      caller = fair.caller;
      legal = legal;
      mine = own_stepped v between e fair others mine;
      spelt = spelt;
    } in
    (moves_on v (stepped v between e xs) (e ∷ []) fair after refl (mine, tt) refl (between ++ e ∷ [], append_assoc v.seen between (e ∷ [])) keeps, after)

-- Fetches

-- the last event of a legal history has the reply that the state before the event gives
pub last_answers : (f : Cnf) (p : LayoutValue) (before : History) (e : Event)
    → IsLegal f p (before ++ e ∷ []) → Answers (state f before) e
last_answers f p before e legal = (legal-back f p (opening f) before (e ∷ []) legal.events).0

fetch_at : (m n : State) (s id : ℕ) (r : Reply) → m id ≡ n id → Answers m (events.fetch s id r)
    → Answers n (events.fetch s id r)
fetch_at m n s id events.vacant same answers = sym same ∙ answers
fetch_at m n s id (events.live c) same answers = sym same ∙ answers
fetch_at m n s id events.retired same answers = subst (λ (x : Slot). IsRetired x) same answers

fetch_live : (m : State) (s id : ℕ) (c : Clause) (r : Reply) → m id ≡ live c
    → Answers m (events.fetch s id r) → r ≡ events.live c
fetch_live m s id c events.vacant is answers = let no : live c ≡ absent = sym is ∙ answers in absurd (cc)
fetch_live m s id c (events.live d) is answers = let same : live d ≡ live c = sym answers ∙ is in cc
fetch_live m s id c events.retired is answers = absurd (subst (λ (x : Slot). IsRetired x) is answers)

own_answers : (f : Cnf) (p : LayoutValue) (before mine : History) (s id : ℕ) (r : Reply)
    → IsLegal f p (before ++ events.fetch s id r ∷ [])
    → own (before ++ events.fetch s id r ∷ []) s ≡ mine ++ events.fetch s id r ∷ [] → Owns p s id
    → Answers (state f mine) (events.fetch s id r)
own_answers f p before mine s id r legal mine_is owns =
    let e : Event = events.fetch s id r in
    let fronts : own before s ≡ mine = append_cancel_right (own before s) mine (e ∷ []) (ap (λ (h : History). own before s ++ h) (sym (own-mine e [] s refl)) ∙ sym (own-append before (e ∷ []) s) ∙ mine_is) in
    let at : state f before id ≡ state f mine id =
    run-own f p (opening f) (opening f) before s id (legal-front f p (opening f) before (e ∷ []) legal.events) owns refl ∙ ap (λ (h : History). state f h id) fronts in
    fetch_at (state f before) (state f mine) s id r at (last_answers f p before e legal)

pub pass_fetches : (old new : View) (before : History) (id : ℕ) (r : Reply)
    → PassMoves old new (events.fetch old.caller.stream id r ∷ [])
    → new.seen ≡ before ++ events.fetch old.caller.stream id r ∷ []
    → AnswersOwn (pass_caller_view old) id r × AnswersFormula (pass_caller_view old) id r
pass_fetches old new before id r moves last =
    let s : ℕ = old.caller.stream in
    let e : Event = events.fetch s id r in
    let fair : IsFair new = moves.fair_after (λ none. cc) in
    let here : IsCaller old.caller = subst IsCaller moves.caller fair.caller in
    let legal : IsLegal old.caller.formula old.caller.layout (before ++ e ∷ []) =
    subst (λ (c : Caller). IsLegal c.formula c.layout (before ++ e ∷ [])) moves.caller
    (subst (λ (h : History). IsLegal new.caller.formula new.caller.layout h) last fair.legal) in
    let mine : own (before ++ e ∷ []) s ≡ old.mine ++ e ∷ [] =
    ap₂ (λ (h : History) (t : ℕ). own h t) (sym last) (sym (ap (λ (c : Caller). c.stream) moves.caller)) ∙ fair.mine ∙ moves.mine in (
      λ owns. own_answers old.caller.formula old.caller.layout before old.mine s id r legal mine owns,
      λ positive within.
          fetch_live (state old.caller.formula before) s id (clause_at old.caller.formula id) r
          (formula_stays old.caller.formula old.caller.layout before id here.fits
          (legal-front old.caller.formula old.caller.layout (opening old.caller.formula) before (e ∷ []) legal.events) positive within)
          (last_answers old.caller.formula old.caller.layout before e legal),
    )

-- Meetings

-- a pass that has met others in turn has seen all that it had seen before, and all that each of the
-- others has now seen
synced_once : (u v : View) (xs ys : List View) → SyncInTurn u xs v ys
    → ((more : History) × (v.seen ≡ u.seen ++ more))
    × AllByRecursion (λ y. (more : History) × (v.seen ≡ y.seen ++ more)) ys
synced_once u v [] [] meets = (([], ap (λ (w : View). w.seen) meets ∙ sym (append-nil u.seen)), tt)
synced_once u v [] (y ∷ ys) meets = absurd meets
synced_once u v (x ∷ xs) [] meets = absurd meets
synced_once u v (x ∷ xs) (y ∷ ys) meets =
    let w : View = meets.0 in
    let rest = synced_once w v xs ys meets.2 in
    let grown : History = rest.0.0 in (
      (meets.1.first.seen.0 ++ grown, rest.0.1 ∙ ap (λ (h : History). h ++ grown) meets.1.first.seen.1 ∙ append_assoc u.seen meets.1.first.seen.0 grown),
      ((grown, rest.0.1 ∙ ap (λ (h : History). h ++ grown) (sym meets.1.one)), rest.1),
    )

-- if a pass has seen all that each of the others has seen, and then meets them in turn, all have
-- seen its history afterwards
synced_again : (h : History) (v w : View) (ys zs : List View) → v.seen ≡ h
    → AllByRecursion (λ y. (more : History) × (h ≡ y.seen ++ more)) ys → SyncInTurn v ys w zs
    → (w.seen ≡ h) × AllSaw h zs
synced_again h v w [] [] here following meets = (ap (λ (x : View). x.seen) meets ∙ here, tt)
synced_again h v w [] (z ∷ zs) here following meets = absurd meets
synced_again h v w (y ∷ ys) [] here following meets = absurd meets
synced_again h v w (y ∷ ys) (z ∷ zs) here following meets =
    let met : SyncViews v y meets.0 z = meets.1 in
    let stays : meets.0.seen ≡ h = met.longer following.0.0 (here ∙ following.0.1) ∙ here in
    let rest = synced_again h meets.0 w ys zs stays following.1 meets.2 in
    (rest.0, (met.one ∙ stays, rest.1))

-- when a pass meets others in turn, no pass makes a call, and the others are fair afterwards
pub synced_keep : (u v : View) (xs ys : List View) → SyncInTurn u xs v ys → PassMoves u v []
    × AreSynced xs ys × (IsFair u → IsFair v)
synced_keep u v [] [] meets = (subst (λ (w : View). PassMoves u w []) (sym meets) (moves_none u), tt, λ fair. subst IsFair (sym meets) fair)
synced_keep u v [] (y ∷ ys) meets = absurd meets
synced_keep u v (x ∷ xs) [] meets = absurd meets
synced_keep u v (x ∷ xs) (y ∷ ys) meets =
    let rest = synced_keep meets.0 v xs ys meets.2 in
    (moves_append u meets.0 v [] [] meets.1.first rest.0, (meets.1.second, meets.1.fair', rest.1), λ fair. rest.2 meets.1.fair)

-- a pass that has seen nothing and made no call
abbrev pub opened : Caller → List Spelling → View
opened caller spellings = record { caller = caller; seen = []; mine = []; spelt = spellings }

-- a pass that has seen nothing is fair
pub opening_fair : (c : Caller) (xs : List Spelling) → IsCaller c → IsSpelt c.formula [] xs
    → IsFair (opened c xs)
opening_fair c xs caller spelt = record {
  caller = caller;
  legal = record { events = tt; room = λ s. omega arith };
  mine = refl;
  spelt = spelt;
}

pub sync_twice : (u v w : View) (xs ys zs : List View) → SyncInTurn u xs v ys
    → SyncInTurn v ys w zs → (w.seen ≡ v.seen) × AllSaw w.seen zs
sync_twice u v w xs ys zs once again =
    let all = synced_again v.seen v w ys zs refl (synced_once u v xs ys once).1 again in
    (all.0, subst (λ (h : History). AllSaw h zs) (sym all.0) all.1)
