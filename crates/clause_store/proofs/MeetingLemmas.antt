-- Lemmas about a pass that meets others in turn.
use Rattle.std.proofs.Common.{◌≡◌, ℕ, ◌+◌, ◌<◌, ◌≤◌, zero, suc, List, [], ◌∷◌, length, get_or, set, refl, sym, subst, arith, add-one}
use Rattle.lrup_model.specs.Pass.{View, IsFair, PassMoves, SyncViews, SyncInTurn, AreSynced}
use Rattle.lrup_model.specs.lemmas.PassLemmas.{moves_append, synced_keep, sync_twice}
use Rattle.clause_store.specs.Passes.{StoreValue, PassValue, store_of, views, AreOf, ShareHistory}

-- the pass has met the first i of the others in turn, and the rest are unchanged
abbrev pub IsSynced : ℕ → View → View → List PassValue → List PassValue → Type 0
IsSynced zero u v xs ys = (v ≡ u) × (ys ≡ xs)
IsSynced (suc i) u v [] ys = ⊥
IsSynced (suc i) u v (x ∷ xs) [] = ⊥
IsSynced (suc i) u v (x ∷ xs) (y ∷ ys) = (w : View) × SyncViews u x.view w y.view × IsSynced i w v xs ys

-- if a pass that has met the first i of the others meets the next one, it has met the first i + 1
pub sync_next : (i : ℕ) (u v w : View) (xs ys : List PassValue) (d y : PassValue) → i < length ys → IsSynced i u v xs ys
    → SyncViews v (get_or ys i d).view w y.view → IsSynced (suc i) u w xs (set ys i y)
sync_next zero u v w xs [] d y within synced meets = absurd (omega arith)
sync_next zero u v w [] (z ∷ ys) d y within synced meets = absurd (let same : z ∷ ys ≡ [] = synced.1 in cc)
sync_next zero u v w (x ∷ xs) (z ∷ ys) d y within synced meets =
    let first : z ≡ x = let same : z ∷ ys ≡ x ∷ xs = synced.1 in cc in
    let rest : ys ≡ xs = let same : z ∷ ys ≡ x ∷ xs = synced.1 in cc in (
      w,
      subst (λ (p : PassValue). SyncViews u p.view w y.view) first (subst (λ (t : View). SyncViews t z.view w y.view) synced.0 meets),
      (refl, rest),
    )
sync_next (suc i) u v w [] ys d y within synced meets = absurd synced
sync_next (suc i) u v w (x ∷ xs) [] d y within synced meets = absurd synced
sync_next (suc i) u v w (x ∷ xs) (z ∷ ys) d y within synced meets =
    (synced.0, synced.1, sync_next i synced.0 v w xs ys d y (omega arith) synced.2 meets)

-- if the pass has met the first n of n others in turn, it has met all of them in turn
pub synced_all : (u v : View) (xs ys : List PassValue) → IsSynced (length xs) u v xs ys → SyncInTurn u (views xs) v (views ys)
synced_all u v [] [] synced = synced.0
synced_all u v [] (y ∷ ys) synced = absurd (let same : y ∷ ys ≡ [] = synced.1 in cc)
synced_all u v (x ∷ xs) [] synced = absurd synced
synced_all u v (x ∷ xs) (y ∷ ys) synced = (synced.0, synced.1, synced_all synced.0 v xs ys synced.2)

-- passes of a store still belong to the store after one of them is replaced by another pass of the
-- store
pub are_of-set : (store : StoreValue) (i : ℕ) (ps : List PassValue) (p : PassValue) → store_of p ≡ store → AreOf store ps
    → AreOf store (set ps i p)
are_of-set store i [] p here all = tt
are_of-set store zero (q ∷ ps) p here all = (here, all.1)
are_of-set store (suc i) (q ∷ ps) p here all = (all.0, are_of-set store i ps p here all.1)

-- two meetings, one after the other, are together a meeting
pub are_synced-again : (xs ys zs : List View) → AreSynced xs ys → AreSynced ys zs → AreSynced xs zs
are_synced-again [] [] [] once again = tt
are_synced-again [] [] (z ∷ zs) once again = absurd again
are_synced-again [] (y ∷ ys) zs once again = absurd once
are_synced-again (x ∷ xs) [] zs once again = absurd once
are_synced-again (x ∷ xs) (y ∷ ys) [] once again = absurd again
are_synced-again (x ∷ xs) (y ∷ ys) (z ∷ zs) once again =
    (moves_append x y z [] [] once.0 again.0, again.1, are_synced-again xs ys zs once.2 again.2)

-- n rounds, in each of which the first pass meets all others in turn
abbrev pub SyncInRounds : ℕ → View → List View → View → List View → Type 0
SyncInRounds zero u xs v ys = (v ≡ u) × (ys ≡ xs)
SyncInRounds (suc n) u xs v ys = (w : View) × (ws : List View) × SyncInRounds n u xs w ws × SyncInTurn w ws v ys × IsFair v

-- n rounds and one more are n + 1 rounds
pub rounds_next : (n : ℕ) (u v w : View) (xs ys zs : List View) → SyncInRounds n u xs v ys → SyncInTurn v ys w zs → IsFair w
    → SyncInRounds (n + 1) u xs w zs
rounds_next n u v w xs ys zs rounds turns fair = subst (λ (m : ℕ). SyncInRounds m u xs w zs) (sym (add-one n)) (v, ys, rounds, turns, fair)

-- in one or more rounds, no pass makes a call
rounds_keep : (n : ℕ) (u v : View) (xs ys : List View) → SyncInRounds (suc n) u xs v ys → AreSynced (u ∷ xs) (v ∷ ys)
rounds_keep zero u v xs ys rounds =
    let once = synced_keep rounds.0 v rounds.1 ys rounds.3 in (
      subst (λ (w : View). PassMoves w v []) rounds.2.0 once.0,
      rounds.4,
      subst (λ (ws : List View). AreSynced ws ys) rounds.2.1 once.1,
    )
rounds_keep (suc n) u v xs ys rounds =
    let before = rounds_keep n u rounds.0 xs rounds.1 rounds.2 in
    let last = synced_keep rounds.0 v rounds.1 ys rounds.3 in
    (moves_append u rounds.0 v [] [] before.0 last.0, rounds.4, are_synced-again xs rounds.1 ys before.2 last.1)

pub synced_in_rounds : (n : ℕ) (p q : PassValue) (ps qs rs : List PassValue) → 0 < n → ps ≡ p ∷ qs
    → SyncInRounds n p.view (views qs) q.view (views rs) → AreSynced (views ps) (q.view ∷ views rs)
synced_in_rounds zero p q ps qs rs some all rounds = absurd (omega arith)
synced_in_rounds (suc n) p q ps qs rs some all rounds =
    subst (λ (os : List PassValue). AreSynced (views os) (q.view ∷ views rs)) (sym all)
    (rounds_keep n p.view q.view (views qs) (views rs) rounds)

-- after two or more rounds, all passes have seen the same history
pub one_in_rounds : (n : ℕ) (u v : View) (xs ys : List View) → 2 ≤ n → SyncInRounds n u xs v ys → ShareHistory (v ∷ ys)
one_in_rounds zero u v xs ys two rounds = absurd (omega arith)
one_in_rounds (suc zero) u v xs ys two rounds = absurd (omega arith)
one_in_rounds (suc (suc n)) u v xs ys two rounds =
    let once = rounds.2 in
    (v.seen, (refl, (sync_twice once.0 rounds.0 v once.1 rounds.1 ys once.3 rounds.3).1))
