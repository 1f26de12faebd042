-- Lemmas about a meeting: thread states move between tokens, and two thread states both see the
-- longer history.
use Rattle.std.proofs.Common.{◌≡◌, ◌⊎◌, ℕ, ◌+◌, ◌≤◌, List, [], ◌∷◌, ◌++◌, length, set, slice_index, refl, sym, ap, subst, ◌∙◌, inl, inr}
use Rattle.std.proofs.Common.{arith, ap₂, cond, eqb, append-nil, append_assoc, length-append}
use Rattle.std.specs.List.{AllByRecursion}
use mathlib.Core.Option.{some}
use lib.ListN.{get_elem?}
use Rattle.std.proofs.lemmas.List.{set-get_or}
use Rattle.atomic_table.specs.Table.{Step, Me, keeps, Allows, Splits, Joins}
use Rattle.atomic_table.proofs.Lists.{set_else}
use Rattle.lrup_model.specs.Formula.{Cnf}
use Rattle.lrup_model.specs.Layout.{LayoutValue, row_words}
use Rattle.lrup_model.specs.Event.{Event, History, own}
use Rattle.lrup_model.specs.History.{IsLegal}
use Rattle.lrup_model.specs.CallerView.{KeepsSpelt}
use Rattle.lrup_model.specs.Pass.{Spelling, stored_in, IsFair, PassMoves}
use Rattle.lrup_model.specs.lemmas.PassLemmas.{learned, moves_learn}
use Rattle.lrup_model.specs.lemmas.RunningLemmas.{own-append}
use Rattle.lrup_model.specs.lemmas.HistoryLemmas.{IsLegal-front}
use Rattle.lrup_model.specs.lemmas.ListLemmas.{All-front}
use Rattle.idwords.specs.Spelling.{spelling_of, LieWithin}
use Rattle.idwords.specs.Seats.{ThreadState}
use Rattle.idwords.specs.internal.Rule.{thread_stream, AllThreads, count_in, times, Keeps, HoldsRowInvariant, Agrees}
use Rattle.idwords.specs.internal.Steps.{SyncThreads, Joined}
use Rattle.idwords.specs.internal.Seating.{first_thread, first_only, others}
use Rattle.idwords.proofs.SpellingLemmas.{lies_within, keeps_spelt, spelt}
use Rattle.idwords.proofs.ViewLemmas.{all_at, all-set, all-snoc, times-set, times-snoc}
use Rattle.idwords.proofs.RuleLemmas.{own_rest, between, fair_thread}

-- Thread states move between tokens

all-back : (P : ThreadState → Type 0) (vs ws : List ThreadState) → AllByRecursion P (vs ++ ws) → AllByRecursion P ws
all-back P [] ws all = all
all-back P (v ∷ vs) ws all = all-back P vs ws all.1

all-both : (P : ThreadState → Type 0) (vs ws : List ThreadState) → AllByRecursion P vs → AllByRecursion P ws → AllByRecursion P (vs ++ ws)
all-both P [] ws front back = back
all-both P (v ∷ vs) ws front back = (front.0, all-both P vs ws front.1 back)

count-append : (s : ℕ) (vs ws : List ThreadState) → count_in s (vs ++ ws) ≡ count_in s vs + count_in s ws
count-append s [] ws = omega arith
count-append s (v ∷ vs) ws = let rest = count-append s vs ws in omega arith

-- the row still fits the history if tokens have other thread states, each of which agrees with the
-- history, and no stream has more thread states than before
with_views : (f : Cnf) (p : LayoutValue) (log : History) (words : List ℕ) (views views' : List (List ThreadState))
    → Keeps f p log words views
    → AllThreads (Agrees f p log words) views' → ((s : ℕ) → times s views' ≤ times s views) → Keeps f p log words views'
with_views f p log words views views' kept threads once = record {
  plan = kept.plan;
  legal = kept.legal;
  count = kept.count;
  first = kept.first;
  slots = kept.slots;
  texts = kept.texts;
  threads = threads;
  once = λ s. omega (arith, once s, kept.once s);
}

module _ {S : Type 0} where
  -- a token's thread states are split, and a new token gets the first part
  pub splits_front : (f : Cnf) (p : LayoutValue) (id : ℕ) (front back : List ThreadState)
      → Splits {S = S} (HoldsRowInvariant f p) id (front ++ back) back front
  splits_front f p id front back s kept here =
      let P : ThreadState → Type 0 = Agrees f p kept.0 s.words in
      let all = all_at P s.views id (front ++ back) here kept.1.threads in (
        kept.0,
        with_views f p kept.0 s.words s.views (set s.views id back ++ front ∷ []) kept.1
            (all-snoc P (set s.views id back) front (all-set P s.views id back kept.1.threads (all-back P front back all))
            (All-front P front back all))
            (λ t. omega
            (arith, times-snoc t (set s.views id back) front, times-set t s.views id (front ++ back) back here, count-append t front back)),
      )

  -- a token's thread states are split, and a new token gets the second part
  pub splits_back : (f : Cnf) (p : LayoutValue) (id : ℕ) (front back : List ThreadState)
      → Splits {S = S} (HoldsRowInvariant f p) id (front ++ back) front back
  splits_back f p id front back s kept here =
      let P : ThreadState → Type 0 = Agrees f p kept.0 s.words in
      let all = all_at P s.views id (front ++ back) here kept.1.threads in (
        kept.0,
        with_views f p kept.0 s.words s.views (set s.views id front ++ back ∷ []) kept.1
            (all-snoc P (set s.views id front) back (all-set P s.views id front kept.1.threads (All-front P front back all))
            (all-back P front back all))
            (λ t. omega (
              arith,
              times-snoc t (set s.views id front) back,
              times-set t s.views id (front ++ back) front here,
              count-append t front back,
            )),
      )

  -- a token takes over the thread states of another one
  pub joins : (f : Cnf) (p : LayoutValue) (id : ℕ) (vs : List ThreadState) (other : ℕ) (ws : List ThreadState)
      → Joins {S = S} (HoldsRowInvariant f p) id vs other ws (vs ++ ws) []
  joins f p id vs other ws s kept here apart there =
      let P : ThreadState → Type 0 = Agrees f p kept.0 s.words in
      let there' : get_elem? s.views other ≡ some ws = sym (set_else s.views id other (vs ++ ws) apart) ∙ there in
      let all = all-both P vs ws (all_at P s.views id vs here kept.1.threads) (all_at P s.views other ws there' kept.1.threads) in (
        kept.0,
        with_views f p kept.0 s.words s.views (set (set s.views id (vs ++ ws)) other []) kept.1
            (all-set P (set s.views id (vs ++ ws)) other [] (all-set P s.views id (vs ++ ws) kept.1.threads all) tt)
            (λ t. omega (
              arith,
              times-set t (set s.views id (vs ++ ws)) other ws [] there,
              times-set t s.views id vs (vs ++ ws) here,
              count-append t vs ws,
            )),
      )

-- Of two prefixes of a log, one is a prefix of the other

abbrev Begins : History → History → Type 0
Begins g h = (rest : History) × (h ≡ g ++ rest)

comparable : (g h k l : History) → g ++ k ≡ h ++ l → Begins g h ⊎ Begins h g
comparable [] h k l same = inl (h, refl)
comparable (e ∷ g) [] k l same = inr (e ∷ g, refl)
comparable (e ∷ g) (d ∷ h) k l same =
    let first : d ≡ e = cc in
    let rest : g ++ k ≡ h ++ l = cc in
    elim (comparable g h k l rest) [
      | inl longer ↦ inl (longer.0, ap (λ (x : Event). x ∷ h) first ∙ ap (λ (x : History). e ∷ x) longer.1)
      | inr longer ↦ inr (longer.0, ap (λ (x : Event). x ∷ g) (sym first) ∙ ap (λ (x : History). d ∷ x) longer.1)
    ]

-- A thread state after it has seen more of the log

abbrev pub informed : ThreadState → History → ThreadState
informed v rest = record {
  view = learned v.view rest (spelling_of v.view.caller.formula v.view.caller.layout (v.view.seen ++ rest));
  top = v.top;
  draft = v.draft;
}

front_nil : (g h : History) → g ++ h ≡ [] → g ≡ []
front_nil [] h none = refl
front_nil (e ∷ g) h none = absurd (cc)

own_all : (seen rest more mine : History) (s : ℕ) → own seen s ≡ mine → own (seen ++ (rest ++ more)) s ≡ mine → own (seen ++ rest) s ≡ mine
own_all seen rest more mine s here all =
    let nothing : own rest s ++ own more s ≡ [] = own_rest (own seen s) (own rest s ++ own more s) mine (sym here)
    (ap (λ (h : History). own seen s ++ h) (sym (own-append rest more s)) ∙ sym (own-append seen (rest ++ more) s) ∙ all) in
    own-append seen rest s ∙ ap (λ (h : History). own seen s ++ h) (front_nil (own rest s) (own more s) nothing)
    ∙ append-nil (own seen s) ∙ here

-- the new thread state agrees with the log, has made no call, and has seen this history
pub record Learns (f : Cnf) (p : LayoutValue) (log : History) (words : List ℕ) (v w : ThreadState) (h : History) : Type 0 where
  pub agrees : Agrees f p log words w
  pub moves : PassMoves v.view w.view []
  pub fair : IsFair w.view
  pub within : LieWithin (row_words w.view.caller.layout) w.view.spelt
  pub seen : w.view.seen ≡ h
  pub top : w.top ≡ v.top
  pub draft : w.draft ≡ v.draft

learns_own : (v : ThreadState) (rest more : History) (words : List ℕ) (views : List (List ThreadState))
    → Keeps v.view.caller.formula v.view.caller.layout (v.view.seen ++ (rest ++ more)) words views
    → Agrees v.view.caller.formula v.view.caller.layout (v.view.seen ++ (rest ++ more)) words v
    → Learns v.view.caller.formula v.view.caller.layout (v.view.seen ++ (rest ++ more)) words v (informed v rest) (v.view.seen ++ rest)
learns_own v rest more words views kept agrees =
    let f = v.view.caller.formula in
    let p = v.view.caller.layout in
    let s = thread_stream v in
    let all = v.view.seen ++ (rest ++ more) in
    let cut : v.view.seen ++ rest ++ more ≡ all = append_assoc v.view.seen rest more in
    let legal : IsLegal f p (v.view.seen ++ rest) = IsLegal-front f p (v.view.seen ++ rest) more (rw cut kept.legal) in
    let mine : own (v.view.seen ++ rest) s ≡ v.view.mine = own_all v.view.seen rest more v.view.mine s agrees.seen agrees.mine in
    let keeps_on : KeepsSpelt (stored_in v.view.spelt) (stored_in (spelling_of f p (v.view.seen ++ rest))) = λ j text there.
    keeps_spelt f p v.view.seen rest j text (ap (λ (xs : List Spelling). stored_in xs j) (sym agrees.spelt) ∙ there) in
    let step =
    moves_learn v.view rest (spelling_of f p (v.view.seen ++ rest)) (fair_thread v (rest ++ more) words kept.plan kept.legal agrees)
    (between v.view.seen rest v.view.mine s agrees.seen mine) legal (spelt f p (v.view.seen ++ rest) legal.events) keeps_on in
    record {
      agrees = record {
        formula = refl;
        layout = refl;
        stream = agrees.stream;
        begins = (more, sym cut);
        seen = mine;
        mine = agrees.mine;
        spelt = refl;
        top = agrees.top;
        room = agrees.room;
        draft = agrees.draft;
      };
      moves = step.0;
      fair = step.1;
      within = lies_within f p (v.view.seen ++ rest) kept.plan.layout.some_stream kept.plan.fits legal;
      seen = refl;
      top = refl;
      draft = refl;
    }

learns_cut : (f : Cnf) (p : LayoutValue) (log : History) (words : List ℕ) (views : List (List ThreadState)) (v : ThreadState)
    (h more rest : History)
    → Keeps f p log words views → Agrees f p log words v
    → v.view.seen ++ (rest ++ more) ≡ log → v.view.seen ++ rest ≡ h
    → (w : ThreadState) × (thread_stream w ≡ thread_stream v) × Learns f p log words v w h
learns_cut f p log words views v h more rest kept agrees cut same =
    let g = v.view.caller.formula in
    let q = v.view.caller.layout in
    let kept_log : Keeps g q (v.view.seen ++ (rest ++ more)) words views = rw (cut, agrees.layout, agrees.formula) kept in
    let st_log : Agrees g q (v.view.seen ++ (rest ++ more)) words v = rw (← agrees.formula, ← agrees.layout, ← cut) at agrees in
    let own = learns_own v rest more words views kept_log st_log in
    let w : ThreadState = informed v rest in
    let at_log : Learns g q log words v w (v.view.seen ++ rest) =
    subst (λ (x : History). Learns g q x words v w (v.view.seen ++ rest)) cut own in
    let at_h : Learns g q log words v w h = subst (λ (x : History). Learns g q log words v w x) same at_log in
    let at_layout : Learns g p log words v w h = subst (λ (x : LayoutValue). Learns g x log words v w h) agrees.layout at_h in
    (w, refl, subst (λ (x : Cnf). Learns x p log words v w h) agrees.formula at_layout)

-- a thread state learns a history that begins with what it has seen and is a prefix of the log
learns : (f : Cnf) (p : LayoutValue) (log : History) (words : List ℕ) (views : List (List ThreadState)) (v : ThreadState) (h more : History)
    → Keeps f p log words views → Agrees f p log words v
    → log ≡ h ++ more → Begins v.view.seen h → (w : ThreadState) × (thread_stream w ≡ thread_stream v) × Learns f p log words v w h
learns f p log words views v h more kept agrees whole begins =
    let rest : History = begins.0 in
    let cut : log ≡ v.view.seen ++ (rest ++ more) = whole ∙ ap (λ (g : History). g ++ more) begins.1 ∙ append_assoc v.view.seen rest more in
    learns_cut f p log words views v h more rest kept agrees (sym cut) (sym begins.1)

-- Two thread states of one token

no_rest : (g h k : History) → g ≡ g ++ h ++ k → h ≡ []
no_rest g [] k same = refl
no_rest g (e ∷ h) k same =
    absurd (let len : length g ≡ length (g ++ e ∷ h ++ k) = ap length same in
    omega (arith, length-append (g ++ e ∷ h) k, length-append g (e ∷ h)))

-- two histories that are prefixes of each other are equal
begins_both : (g h : History) → Begins g h → Begins h g → g ≡ h
begins_both g h longer shorter =
    let none : longer.0 ≡ [] = no_rest g longer.0 shorter.0 (shorter.1 ∙ ap (λ (x : History). x ++ shorter.0) longer.1) in
    sym (longer.1 ∙ ap (λ (x : History). g ++ x) none ∙ append-nil g)

module _ (f : Cnf) (p : LayoutValue) (log : History) (words : List ℕ) (views : List (List ThreadState)) (v v' : ThreadState)
    (kept : Keeps f p log words views) (agrees : Agrees f p log words v)
    (stands' : Agrees f p log words v') where
  abbrev Pair : Type 0
  Pair = (w w' : ThreadState) × (thread_stream w ≡ thread_stream v) × (thread_stream w' ≡ thread_stream v') × Agrees f p log words w
      × Agrees f p log words w' × SyncThreads v v' w w'

  met_at : (h more : History) → log ≡ h ++ more → Begins v.view.seen h → Begins v'.view.seen h
      → ((rest : History) → v.view.seen ≡ v'.view.seen ++ rest → h ≡ v.view.seen)
      → ((rest : History) → v'.view.seen ≡ v.view.seen ++ rest → h ≡ v'.view.seen) → Pair
  met_at h more whole begins begins' longer longer' =
      let a = learns f p log words views v h more kept agrees whole begins in
      let b = learns f p log words views v' h more kept stands' whole begins' in (
        a.0,
        b.0,
        a.1,
        b.1,
        a.2.agrees,
        b.2.agrees,
        record {
          meets = record {
            one = b.2.seen ∙ sym a.2.seen;
            first = a.2.moves;
            second = b.2.moves;
            fair = a.2.fair;
            fair' = b.2.fair;
            longer = λ rest is. a.2.seen ∙ longer rest is;
            longer' = λ rest is. a.2.seen ∙ longer' rest is;
          };
          within = a.2.within;
          within' = b.2.within;
          top = a.2.top;
          draft = a.2.draft;
          top' = b.2.top;
          draft' = b.2.draft;
        },
      )

  met : Pair
  met =
      elim (comparable v.view.seen v'.view.seen agrees.begins.0 stands'.begins.0 (sym agrees.begins.1 ∙ stands'.begins.1)) [
        | inl longer ↦ met_at v'.view.seen stands'.begins.0 stands'.begins.1 longer ([], sym (append-nil v'.view.seen))
            (λ rest is. sym (begins_both v.view.seen v'.view.seen longer (rest, is))) (λ rest is. refl)
        | inr shorter ↦ met_at v.view.seen agrees.begins.0 agrees.begins.1 ([], sym (append-nil v.view.seen)) shorter
            (λ rest is. refl) (λ rest is. begins_both v.view.seen v'.view.seen (rest, is) shorter)
      ]

pair_of : (v v' u u' : ThreadState) → v ∷ v' ∷ [] ≡ u ∷ u' ∷ [] → (v ≡ u) × (v' ≡ u')
pair_of v v' u u' same = (cc, cc)

module _ {S : Type 0} where
  pub meets : (f : Cnf) (p : LayoutValue) (slots id : ℕ) (v v' : ThreadState) (i : ℕ) (then : ℕ → Me S (List ThreadState) → Type 0)
      → ((n : ℕ) (w w' : ThreadState) → SyncThreads v v' w w' → then n (w ∷ w' ∷ [], []))
      → Allows {S = S} (HoldsRowInvariant f p) slots id (v ∷ v' ∷ [], []) i (λ n. n) then
  meets f p slots id v v' i then tell s kept homes here small =
      let P : ThreadState → Type 0 = Agrees f p kept.0 s.words in
      let all = all_at P s.views id (v ∷ v' ∷ []) here kept.1.threads in
      let pair = met f p kept.0 s.words s.views v v' kept.1 all.0 all.1.0 in
      let w : ThreadState = pair.0 in
      let w' : ThreadState = pair.1 in
      let same : (t : ℕ) → count_in t (w ∷ w' ∷ []) ≡ count_in t (v ∷ v' ∷ []) = λ t.
      ap₂ (λ (a b : ℕ). cond (eqb a t) 1 0 + (cond (eqb b t) 1 0 + 0)) pair.2 pair.3 in (
        w ∷ w' ∷ [],
        keeps,
        tt,
        (
          kept.0,
          subst (λ (ws : List ℕ). Keeps f p kept.0 ws (set s.views id (w ∷ w' ∷ []))) (sym (set-get_or s.words i 0))
              (with_views f p kept.0 s.words s.views (set s.views id (w ∷ w' ∷ [])) kept.1
              (all-set P s.views id (w ∷ w' ∷ []) kept.1.threads (pair.4, (pair.5, tt)))
              (λ t. omega (arith, times-set t s.views id (v ∷ v' ∷ []) (w ∷ w' ∷ []) here, same t))),
        ),
        tell (slice_index s.words i) w w' pair.6,
      )

module _ {S : Type 0} where
  -- the first thread state moves to a new token
  pub splits_first : (f : Cnf) (p : LayoutValue) (id : ℕ) (vs : List ThreadState)
      → Splits {S = S} (HoldsRowInvariant f p) id vs (others vs) (first_only vs)
  splits_first f p id [] = splits_front f p id [] []
  splits_first f p id (v ∷ vs) = splits_front f p id (v ∷ []) vs

  -- all thread states move to a new token
  pub splits_all : (f : Cnf) (p : LayoutValue) (id : ℕ) (vs : List ThreadState) → Splits {S = S} (HoldsRowInvariant f p) id vs [] vs
  splits_all f p id vs = splits_back f p id [] vs

  -- all thread states except the first move to a new token
  pub splits_thread : (f : Cnf) (p : LayoutValue) (id : ℕ) (vs : List ThreadState)
      → Splits {S = S} (HoldsRowInvariant f p) id vs (first_only vs) (others vs)
  splits_thread f p id [] = splits_back f p id [] []
  splits_thread f p id (v ∷ vs) = splits_back f p id (v ∷ []) vs

  -- if two thread states have met, `Joined` holds for the token that has both
  pub joined : (step : Step S) (v v' : ThreadState) (n : ℕ) (w w' : ThreadState) → SyncThreads v v' w w'
      → Joined step (v ∷ v' ∷ [], []) n (w ∷ w' ∷ [], [])
  joined step v v' n w w' met u u' same =
      let both = pair_of v v' u u' same in (
        w,
        w',
        refl,
        refl,
        subst (λ (x : ThreadState). SyncThreads x u' w w') both.0
            (subst (λ (x : ThreadState). SyncThreads v x w w') both.1 met),
      )

  -- after the load, once each thread state is back in its own token, the two have met
  pub parted : (step : Step S) (me met left right : Me S (List ThreadState)) (v v' : ThreadState) (n : ℕ) → me ≡ (v ∷ v' ∷ [], [])
      → Joined step me n met
      → left ≡ (first_only met.0, met.1) → right ≡ (others met.0, [])
      → SyncThreads v v' (first_thread left.0) (first_thread right.0) × (left ≡ (first_thread left.0 ∷ [], []))
      × (right ≡ (first_thread right.0 ∷ [], []))
  parted step me met left right v v' n both known gives keeps_on =
      let all = known v v' (ap (λ (m : Me S (List ThreadState)). m.0) both) in
      let w : ThreadState = all.0 in
      let w' : ThreadState = all.1 in
      let none : met.1 ≡ [] = all.3 ∙ ap (λ (m : Me S (List ThreadState)). m.1) both in
      let first : left ≡ (w ∷ [], []) = gives ∙ ap₂ (λ (vs : List ThreadState) (slots : List (ℕ × S)). (first_only vs, slots)) all.2 none in
      let second : right ≡ (w' ∷ [], []) = keeps_on ∙ ap (λ (vs : List ThreadState). (others vs, [])) all.2 in
      let at : w ≡ first_thread left.0 = sym (ap (λ (m : Me S (List ThreadState)). first_thread m.0) first) in
      let at' : w' ≡ first_thread right.0 = sym (ap (λ (m : Me S (List ThreadState)). first_thread m.0) second) in (
        subst (λ (u : ThreadState). SyncThreads v v' u (first_thread right.0)) at
            (subst (λ (u : ThreadState). SyncThreads v v' w u) at' all.4),
        first ∙ ap (λ (u : ThreadState). (u ∷ [], [])) at,
        second ∙ ap (λ (u : ThreadState). (u ∷ [], [])) at',
      )
