-- An event that joins the first block of its stream, in an order of blocks.
use Rattle.std.proofs.Common.{◌≡◌, ℕ, false, cond, eqb, List, [], ◌∷◌, ◌++◌, refl, sym, ap, ◌∙◌, inl, inr, ne_eqb, eq-eqb}
use Rattle.std.specs.List.{AllByRecursion}
use Rattle.std.proofs.lemmas.Bool.{cases_eq, cond-true, cond-false}
use Rattle.lrup_model.specs.Formula.{Cnf}
use Rattle.lrup_model.specs.Layout.{LayoutValue, IsStream}
use Rattle.lrup_model.specs.Event as events
use Rattle.lrup_model.specs.Event.{Event, History, stream_of}
use Rattle.lrup_model.specs.State.{State, run}
use Rattle.lrup_model.specs.History.{LegalFrom}
use Rattle.lrup_model.specs.lemmas.RunningLemmas.{legal-append}
use Rattle.lrup_model.specs.lemmas.HistoryLemmas.{legal-front, legal-back}
use Rattle.stream_check.specs.Reducing.{is_vacant}
use Rattle.stream_check.specs.Streams.{Block, blocks_of, events_in}
use Rattle.stream_check.specs.lemmas.StreamLemmas.{blocks-same, blocks-other}
use Rattle.stream_check.specs.internal.Checking.{IsFetch}
use Rattle.stream_check.specs.Deletions.{IsRetire}
use Rattle.run_laws.proofs.SwapLemmas.{Settles, goes-following, comes-before}

-- Blocks

-- what is known about a block in an order: whose events it has, and what they say about retired
-- identities
pub record IsSettled (p : LayoutValue) (final : State) (block : Block) : Type 0 where
  pub stream : IsStream p block.stream
  pub calls : AllByRecursion (λ e. stream_of e ≡ block.stream) block.events
  pub settles : AllByRecursion (Settles p final) block.events

-- puts the event in front of its stream's first block
abbrev pub join : Event → List Block → List Block
join e [] = []
join e (block ∷ blocks) =
    cond (eqb block.stream (stream_of e)) (record { stream = block.stream; events = e ∷ block.events } ∷ blocks) (block ∷ join e blocks)

abbrev joined_block : Event → Block → Block
joined_block e block = record { stream = block.stream; events = e ∷ block.events }

join-same : (e : Event) (block : Block) (blocks : List Block) → block.stream ≡ stream_of e
    → join e (block ∷ blocks) ≡ joined_block e block ∷ blocks
join-same e block blocks same = cond-true (eqb block.stream (stream_of e)) (joined_block e block ∷ blocks) (block ∷ join e blocks)
    (eq-eqb block.stream (stream_of e) same)

join-other : (e : Event) (block : Block) (blocks : List Block) → (block.stream ≡ stream_of e → ⊥)
    → join e (block ∷ blocks) ≡ block ∷ join e blocks
join-other e block blocks other = cond-false (eqb block.stream (stream_of e)) (joined_block e block ∷ blocks) (block ∷ join e blocks)
    (ne_eqb block.stream (stream_of e) other)

-- after `join`, the event's stream has the same blocks, except that the first begins with the event
pub join-own : (e : Event) (blocks : List Block) (b : History) (more : List History) → blocks_of (stream_of e) blocks ≡ b ∷ more
    → blocks_of (stream_of e) (join e blocks) ≡ (e ∷ b) ∷ more
join-own e [] b more is = absurd (cc)
join-own e (block ∷ blocks) b more is =
    let s : ℕ = stream_of e in
    elim (cases_eq block.stream s) [
      | inl same ↦
          let here : block.events ∷ blocks_of s blocks ≡ b ∷ more = sym (blocks-same block blocks s same) ∙ is in
          let first : block.events ≡ b = cc in
          let rest : blocks_of s blocks ≡ more = cc in
          ap (blocks_of s) (join-same e block blocks same)
          ∙ blocks-same (joined_block e block) blocks s same
          ∙ ap (λ (g : History). (e ∷ g) ∷ blocks_of s blocks) first
          ∙ ap (λ (bs : List History). (e ∷ b) ∷ bs) rest
      | inr other ↦
          ap (blocks_of s) (join-other e block blocks other)
          ∙ blocks-other block (join e blocks) s other
          ∙ join-own e blocks b more (sym (blocks-other block blocks s other) ∙ is)
    ]

-- `join` doesn't change the blocks of other streams
pub join-others : (e : Event) (blocks : List Block) (t : ℕ) → (stream_of e ≡ t → ⊥) → blocks_of t (join e blocks) ≡ blocks_of t blocks
join-others e [] t apart = refl
join-others e (block ∷ blocks) t apart =
    elim (cases_eq block.stream (stream_of e)) [
      | inl same ↦
          ap (blocks_of t) (join-same e block blocks same)
          ∙ blocks-other (joined_block e block) blocks t (λ is. apart (sym same ∙ is))
          ∙ sym (blocks-other block blocks t (λ is. apart (sym same ∙ is)))
      | inr other ↦
          ap (blocks_of t) (join-other e block blocks other)
          ∙ elim (cases_eq block.stream t) [
            | inl mine ↦ blocks-same block (join e blocks) t mine
                ∙ ap (λ (bs : List History). block.events ∷ bs) (join-others e blocks t apart)
                ∙ sym (blocks-same block blocks t mine)
            | inr theirs ↦ blocks-other block (join e blocks) t theirs ∙ join-others e blocks t apart
                ∙ sym (blocks-other block blocks t theirs)
          ]
    ]

pub join-settled : (p : LayoutValue) (final : State) (e : Event) (blocks : List Block) → Settles p final e
    → AllByRecursion (IsSettled p final) blocks → AllByRecursion (IsSettled p final) (join e blocks)
join-settled p final e [] settles all = tt
join-settled p final e (block ∷ blocks) settles all =
    elim (cases_eq block.stream (stream_of e)) [
      | inl same ↦ rw (join-same e block blocks same)
          (record { stream = all.0.stream; calls = (sym same, all.0.calls); settles = (settles, all.0.settles) }, all.1)
      | inr other ↦ rw (join-other e block blocks other) (all.0, join-settled p final e blocks settles all.1)
    ]

-- an order stays legal if a fetch that found something is moved into its stream's next block
pub join-legal : (f : Cnf) (p : LayoutValue) (final m : State) (e : Event) (blocks : List Block) (b : History) (more : List History)
    → IsFetch e → is_vacant e ≡ false → Settles p final e → AllByRecursion (IsSettled p final) blocks
    → blocks_of (stream_of e) blocks ≡ b ∷ more → LegalFrom f p m (e ∷ events_in blocks) → LegalFrom f p m (events_in (join e blocks))
join-legal f p final m e [] b more early some settles all is legal = absurd (cc)
join-legal f p final m e (block ∷ blocks) b more early some settles all is legal =
    elim (cases_eq block.stream (stream_of e)) [
      | inl same ↦ rw (join-same e block blocks same) legal
      | inr other ↦
          let following : LegalFrom f p m (block.events ++ e ∷ events_in blocks)
          = goes-following f p final m e block.stream block.events (events_in blocks) early some
          (λ same. other (sym same)) settles all.0.calls all.0.settles legal in
          rw (join-other e block blocks other)
          (legal-append f p m block.events (events_in (join e blocks)) (legal-front f p m block.events (e ∷ events_in blocks) following)
          (join-legal f p final (run m block.events) e blocks b more early some settles all.1
          (sym (blocks-other block blocks (stream_of e) other) ∙ is) (legal-back f p m block.events (e ∷ events_in blocks) following)))
    ]

-- an order stays legal if a fetch that found nothing is put before a repetition of itself
pub join-again : (f : Cnf) (p : LayoutValue) (m : State) (s id : ℕ) (blocks : List Block) (b : History) (more : List History)
    → blocks_of s blocks ≡ (events.fetch s id events.vacant ∷ b) ∷ more
    → LegalFrom f p m (events_in blocks) → LegalFrom f p m (events_in (join (events.fetch s id events.vacant) blocks))
join-again f p m s id [] b more is legal = absurd (cc)
join-again f p m s id (block ∷ blocks) b more is legal =
    let e : Event = events.fetch s id events.vacant in
    elim (cases_eq block.stream s) [
      | inl same ↦
          let here : block.events ∷ blocks_of s blocks ≡ (e ∷ b) ∷ more = sym (blocks-same block blocks s same) ∙ is in
          let first : block.events ≡ e ∷ b = cc in
          let whole : LegalFrom f p m (e ∷ b ++ events_in blocks) = rw first at legal in
          rw (join-same e block blocks same) (whole.0, whole.1, legal)
      | inr other ↦
          rw (join-other e block blocks other)
          (legal-append f p m block.events (events_in (join e blocks)) (legal-front f p m block.events (events_in blocks) legal)
          (join-again f p (run m block.events) s id blocks b more (sym (blocks-other block blocks s other) ∙ is)
          (legal-back f p m block.events (events_in blocks) legal)))
    ]

-- An order without the first block of a stream

abbrev pub without : ℕ → List Block → List Block
without s [] = []
without s (block ∷ blocks) = cond (eqb block.stream s) blocks (block ∷ without s blocks)

without-same : (s : ℕ) (block : Block) (blocks : List Block) → block.stream ≡ s → without s (block ∷ blocks) ≡ blocks
without-same s block blocks same = cond-true (eqb block.stream s) blocks (block ∷ without s blocks) (eq-eqb block.stream s same)

without-other : (s : ℕ) (block : Block) (blocks : List Block) → (block.stream ≡ s → ⊥)
    → without s (block ∷ blocks) ≡ block ∷ without s blocks
without-other s block blocks other = cond-false (eqb block.stream s) blocks (block ∷ without s blocks) (ne_eqb block.stream s other)

pub without-own : (s : ℕ) (blocks : List Block) (b : History) (more : List History) → blocks_of s blocks ≡ b ∷ more
    → blocks_of s (without s blocks) ≡ more
without-own s [] b more is = absurd (cc)
without-own s (block ∷ blocks) b more is =
    elim (cases_eq block.stream s) [
      | inl same ↦
          let here : block.events ∷ blocks_of s blocks ≡ b ∷ more = sym (blocks-same block blocks s same) ∙ is in
          let rest : blocks_of s blocks ≡ more = cc in
          ap (blocks_of s) (without-same s block blocks same) ∙ rest
      | inr other ↦
          ap (blocks_of s) (without-other s block blocks other)
          ∙ blocks-other block (without s blocks) s other
          ∙ without-own s blocks b more (sym (blocks-other block blocks s other) ∙ is)
    ]

pub without-others : (s : ℕ) (blocks : List Block) (t : ℕ) → (s ≡ t → ⊥) → blocks_of t (without s blocks) ≡ blocks_of t blocks
without-others s [] t apart = refl
without-others s (block ∷ blocks) t apart =
    elim (cases_eq block.stream s) [
      | inl same ↦ ap (blocks_of t) (without-same s block blocks same) ∙ sym (blocks-other block blocks t (λ is. apart (sym same ∙ is)))
      | inr other ↦
          ap (blocks_of t) (without-other s block blocks other)
          ∙ elim (cases_eq block.stream t) [
            | inl mine ↦ blocks-same block (without s blocks) t mine
                ∙ ap (λ (bs : List History). block.events ∷ bs) (without-others s blocks t apart)
                ∙ sym (blocks-same block blocks t mine)
            | inr theirs ↦ blocks-other block (without s blocks) t theirs ∙ without-others s blocks t apart
                ∙ sym (blocks-other block blocks t theirs)
          ]
    ]

pub without-settled : (p : LayoutValue) (final : State) (s : ℕ) (blocks : List Block) → AllByRecursion (IsSettled p final) blocks
    → AllByRecursion (IsSettled p final) (without s blocks)
without-settled p final s [] all = tt
without-settled p final s (block ∷ blocks) all =
    elim (cases_eq block.stream s) [
      | inl same ↦ rw (without-same s block blocks same) all.1
      | inr other ↦ rw (without-other s block blocks other) (all.0, without-settled p final s blocks all.1)
    ]

-- what is known about all blocks is known about a stream's first block
pub first-settled : (p : LayoutValue) (final : State) (s : ℕ) (blocks : List Block) (b : History) (more : List History)
    → AllByRecursion (IsSettled p final) blocks → blocks_of s blocks ≡ b ∷ more → IsSettled p final (record { stream = s; events = b })
first-settled p final s [] b more all is = absurd (cc)
first-settled p final s (block ∷ blocks) b more all is =
    elim (cases_eq block.stream s) [
      | inl same ↦
          let here : block.events ∷ blocks_of s blocks ≡ b ∷ more = sym (blocks-same block blocks s same) ∙ is in
          let first : block.events ≡ b = cc in
          rw (first, same) at all.0
      | inr other ↦ first-settled p final s blocks b more all.1 (sym (blocks-other block blocks s other) ∙ is)
    ]

-- an order stays legal if a stream's first block, which has only retires, is moved to the front
pub retires-first : (f : Cnf) (p : LayoutValue) (final m : State) (s : ℕ) (blocks : List Block) (b : History) (more : List History)
    → AllByRecursion IsRetire b → AllByRecursion (λ e. stream_of e ≡ s) b → AllByRecursion (Settles p final) b
    → AllByRecursion (IsSettled p final) blocks → blocks_of s blocks ≡ b ∷ more
    → LegalFrom f p m (events_in blocks) → LegalFrom f p m (b ++ events_in (without s blocks))
retires-first f p final m s [] b more retires mine settles all is legal = absurd (cc)
retires-first f p final m s (block ∷ blocks) b more retires mine settles all is legal =
    elim (cases_eq block.stream s) [
      | inl same ↦
          let here : block.events ∷ blocks_of s blocks ≡ b ∷ more = sym (blocks-same block blocks s same) ∙ is in
          let first : block.events ≡ b = cc in
          rw (without-same s block blocks same) (rw first at legal)
      | inr other ↦
          rw (without-other s block blocks other)
          (comes-before f p final m s b block.stream block.events (events_in (without s blocks)) (λ same. other (sym same)) retires mine
          settles all.0.calls all.0.settles
          (legal-append f p m block.events (b ++ events_in (without s blocks)) (legal-front f p m block.events (events_in blocks) legal)
          (retires-first f p final (run m block.events) s blocks b more retires mine settles all.1
          (sym (blocks-other block blocks s other) ∙ is) (legal-back f p m block.events (events_in blocks) legal))))
    ]
