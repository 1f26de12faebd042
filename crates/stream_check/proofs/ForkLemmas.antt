-- Lists of events that never fork.
use Rattle.std.proofs.Common.{◌≡◌, ◌+◌, ◌≤◌, ℕ, zero, suc, [], ◌∷◌, ◌++◌, replicate, refl, sym, ap, subst, ◌∙◌, arith}
use Rattle.lrup_model.specs.Event.{Event, History, Reply, vacant, fetch, publish, retire}
use Rattle.stream_check.specs.declared.params.Ownership.{Ownership}
use Rattle.stream_check.specs.declared.params.Ownership.TheVariants as ownerships
use Rattle.stream_check.specs.StreamParams.{StreamParams, ownership_of}
use Rattle.stream_check.specs.Lookup.{FetchesHintAt, FetchesHint}
use Rattle.stream_check.specs.Forks.{IsSameCall, NeverFork}

same_call_turned : (d e : Event) → IsSameCall d e → IsSameCall e d
same_call_turned (fetch s id r) (fetch t j q) same = (sym same.0, sym same.1)
same_call_turned (fetch s id r) (publish t j c q) same = same
same_call_turned (fetch s id r) (retire t j q) same = same
same_call_turned (publish s id c r) (fetch t j q) same = same
same_call_turned (publish s id c r) (publish t j d q) same = (sym same.0, sym same.1, sym same.2)
same_call_turned (publish s id c r) (retire t j q) same = same
same_call_turned (retire s id r) (fetch t j q) same = same
same_call_turned (retire s id r) (publish t j c q) same = same
same_call_turned (retire s id r) (retire t j q) same = (sym same.0, sym same.1)

pub never_fork_turned : (g h : History) → NeverFork g h → NeverFork h g
never_fork_turned [] [] never = tt
never_fork_turned [] (e ∷ h) never = tt
never_fork_turned (d ∷ g) [] never = tt
never_fork_turned (d ∷ g) (e ∷ h) never =
    (λ same. sym (never.0 (same_call_turned e d same)), λ is. never_fork_turned g h (never.1 (sym is)))

pub never_fork_alone : (g : History) → NeverFork g g
never_fork_alone [] = tt
never_fork_alone (d ∷ g) = (λ same. refl, λ is. never_fork_alone g)

-- if lists with the same first events never fork, neither do the lists without these events
pub never_fork_after : (a g h : History) → NeverFork (a ++ g) (a ++ h) → NeverFork g h
never_fork_after [] g h never = never
never_fork_after (d ∷ a) g h never = never_fork_after a g h (never.1 refl)

-- k vacant fetches, and one more fetch
abbrev pub fetches : ℕ → ℕ → ℕ → Reply → History
fetches s id k r = replicate k (fetch s id vacant) ++ fetch s id r ∷ []

-- two lists of fetches that never fork are equally long and have the same last reply, if `done`
-- fetches came before
same_fetches : (s id most done k j : ℕ) (x y : Reply) (q r : History)
    → k + done ≤ most → j + done ≤ most → (x ≡ vacant → k + done ≡ most) → (y ≡ vacant → j + done ≡ most)
    → NeverFork (fetches s id k x ++ q) (fetches s id j y ++ r) → (k ≡ j) × (x ≡ y)
same_fetches s id most done zero zero x y q r a b last other never = (refl, let e = never.0 (refl, refl) in cc)
same_fetches s id most done zero (suc j) x y q r a b last other never =
    let e = never.0 (refl, refl) in let vacant_one : x ≡ vacant = cc in let full = last vacant_one in absurd (omega arith)
same_fetches s id most done (suc k) zero x y q r a b last other never =
    let e = never.0 (refl, refl) in let vacant_one : y ≡ vacant = cc in let full = other vacant_one in absurd (omega arith)
same_fetches s id most done (suc k) (suc j) x y q r a b last other never =
    let rest = same_fetches s id most (done + 1) k j x y q r (omega arith) (omega arith)
    (λ is. let full = last is in omega arith) (λ is. let full = other is in omega arith) (never.1 refl) in
    (ap suc rest.0, rest.1)

same_at : (ownership : Ownership) (c : StreamParams) (h : ℕ) (a b q r : History) (x y : Reply) → FetchesHintAt ownership c h a x
    → FetchesHintAt ownership c h b y
    → NeverFork (a ++ q) (b ++ r) → (a ≡ b) × (x ≡ y)
same_at ownerships.Foreign c h a b q r x y one two never =
    let here = rw (two.3, one.3) at never in
    let same = same_fetches c.stream h c.tries 0 one.0 two.0 x y q r (omega (arith, one.1)) (omega (arith, two.1))
    (λ is. let full = one.2 is in omega arith) (λ is. let full = two.2 is in omega arith) here in
    (one.3 ∙ ap (λ k. fetches c.stream h k x) same.0 ∙ ap (λ z. fetches c.stream h two.0 z) same.1 ∙ sym two.3, same.1)
same_at ownerships.Outside c h a b q r x y one two never = (one.0 ∙ sym two.0, one.1 ∙ sym two.1)
same_at _ c h a b q r x y one two never =
    let here = subst (λ e. NeverFork (e ++ q) ((fetch c.stream h y ∷ []) ++ r)) one (subst (λ e. NeverFork (a ++ q) (e ++ r)) two never) in
    let e = here.0 (refl, refl) in
    let is : x ≡ y = cc in (one ∙ ap (λ z. fetch c.stream h z ∷ []) is ∙ sym two, is)

-- two lists of events of one hint are the same if they never fork
pub same_asked : (c : StreamParams) (h : ℕ) (a b q r : History) (x y : Reply) → FetchesHint c h a x → FetchesHint c h b y
    → NeverFork (a ++ q) (b ++ r)
    → (a ≡ b) × (x ≡ y)
same_asked c h a b q r x y one two never = same_at (ownership_of c h) c h a b q r x y one two never
