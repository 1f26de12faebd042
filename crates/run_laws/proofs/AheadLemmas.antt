-- The blocks that the streams still have ahead of them in a history.
use Rattle.std.proofs.Common.{◌≡◌, ◌⊎◌, ◌<◌, ◌≤◌, ℕ, zero, suc, cond, eqb, List, [], ◌∷◌, ◌++◌, map, refl, sym, ap, subst, ◌∙◌, inl, inr}
use Rattle.std.proofs.Common.{ne_eqb, eq-eqb, arith, append-nil}
use Rattle.std.specs.List.{AllByRecursion}
use Rattle.std.proofs.lemmas.Bool.{cases_eq, cases_lt, cond-true, cond-false}
use Rattle.lrup_model.specs.Formula.{Cnf}
use Rattle.lrup_model.specs.Layout.{LayoutValue, IsStream}
use Rattle.lrup_model.specs.Event.{History, stream_of, own}
use Rattle.lrup_model.specs.State.{State}
use Rattle.lrup_model.specs.History.{LegalFrom}
use Rattle.stream_check.specs.Judging.{joined}
use Rattle.stream_check.specs.Reducing.{reduced}
use Rattle.stream_check.specs.Streams.{Block, blocks_of, events_in}
use Rattle.stream_check.specs.lemmas.StreamLemmas.{blocks-same, blocks-other}
use Rattle.run_laws.specs.Lines.{IsLineBlock}
use Rattle.run_laws.proofs.BlockLemmas.{IsSettled}
use Rattle.run_laws.proofs.SwapLemmas.{Settles}

abbrev pub Lines : Type 0
Lines = ℕ → List History

-- each stream's lines, with the lines of stream s replaced by these
abbrev pub with : Lines → ℕ → List History → Lines
with rest s bs = λ t. cond (eqb t s) bs (rest t)

pub with-same : (rest : Lines) (s : ℕ) (bs : List History) (t : ℕ) → t ≡ s → with rest s bs t ≡ bs
with-same rest s bs t same = cond-true (eqb t s) bs (rest t) (eq-eqb t s same)

pub with-other : (rest : Lines) (s : ℕ) (bs : List History) (t : ℕ) → (t ≡ s → ⊥) → with rest s bs t ≡ rest t
with-other rest s bs t other = cond-false (eqb t s) bs (rest t) (ne_eqb t s other)

-- each stream's blocks have its events; a stream that isn't in the layout has no blocks
pub record Ahead (p : LayoutValue) (h : History) (rest : Lines) : Type 0 where
  pub own_events : (s : ℕ) → own h s ≡ joined (rest s)
  pub lines : (s : ℕ) → AllByRecursion IsLineBlock (rest s)
  pub outside : (s : ℕ) → (IsStream p s → ⊥) → rest s ≡ []

-- the blocks still have the streams' events after only stream s has advanced
pub ahead-with : (p : LayoutValue) (g h : History) (rest : Lines) (s : ℕ) (bs : List History) → Ahead p g rest → IsStream p s
    → own h s ≡ joined bs → ((t : ℕ) → (t ≡ s → ⊥) → own h t ≡ own g t) → AllByRecursion IsLineBlock bs → Ahead p h (with rest s bs)
ahead-with p g h rest s bs ahead is here others lines = record {
  own_events = λ t. elim (cases_eq t s) [
    | inl same ↦ ap (own h) same ∙ here ∙ sym (ap joined (with-same rest s bs t same))
    | inr other ↦ others t other ∙ ahead.own_events t ∙ sym (ap joined (with-other rest s bs t other))
  ];
  lines = λ t. elim (cases_eq t s) [
    | inl same ↦ subst (AllByRecursion IsLineBlock) (sym (with-same rest s bs t same)) lines
    | inr other ↦ subst (AllByRecursion IsLineBlock) (sym (with-other rest s bs t other)) (ahead.lines t)
  ];
  outside = λ t none. with-other rest s bs t (λ same. none (subst (IsStream p) (sym same) is)) ∙ ahead.outside t none;
}

-- an order of these lines, each one reduced, that is legal from this state on
pub record Orders (f : Cnf) (p : LayoutValue) (final m : State) (rest : Lines) (blocks : List Block) : Type 0 where
  pub settled : AllByRecursion (IsSettled p final) blocks
  pub legal : LegalFrom f p m (events_in blocks)
  pub lines : (s : ℕ) → blocks_of s blocks ≡ map reduced (rest s)

abbrev pub HasOrder : Cnf → LayoutValue → State → State → Lines → Type 0
HasOrder f p final m rest = (blocks : List Block) × Orders f p final m rest blocks

abbrev block_of : ℕ → History → Block
block_of s es = record { stream = s; events = es }

-- a stream's next line, reduced and put in front of an order of the other lines, gives an order of
-- all lines
pub lines-front : (rest : Lines) (s : ℕ) (b : History) (bs : List History) (es : History) (blocks : List Block)
    → rest s ≡ b ∷ bs → es ≡ reduced b → ((t : ℕ) → blocks_of t blocks ≡ map reduced (with rest s bs t))
    → (t : ℕ) → blocks_of t (record { stream = s; events = es } ∷ blocks) ≡ map reduced (rest t)
lines-front rest s b bs es blocks is reduces lines t =
    elim (cases_eq s t) [
      | inl same ↦
          blocks-same (block_of s es) blocks t same
          ∙ ap (λ (g : History). g ∷ blocks_of t blocks) reduces
          ∙ ap (λ (gs : List History). reduced b ∷ gs) (lines t ∙ ap (map reduced) (with-same rest s bs t (sym same)))
          ∙ sym (ap (map reduced) (ap rest (sym same) ∙ is))
      | inr other ↦
          blocks-other (block_of s es) blocks t other ∙ lines t ∙ ap (map reduced) (with-other rest s bs t (λ same. other (sym same)))
    ]

-- No events left

abbrev at : ℕ → List History → List Block
at s [] = []
at s (b ∷ bs) = record { stream = s; events = b } ∷ at s bs

at-same : (s : ℕ) (bs : List History) (blocks : List Block) (t : ℕ) → s ≡ t → blocks_of t (at s bs ++ blocks) ≡ bs ++ blocks_of t blocks
at-same s [] blocks t same = refl
at-same s (b ∷ bs) blocks t same =
    blocks-same (block_of s b) (at s bs ++ blocks) t same ∙ ap (λ (gs : List History). b ∷ gs) (at-same s bs blocks t same)

at-other : (s : ℕ) (bs : List History) (blocks : List Block) (t : ℕ) → (s ≡ t → ⊥) → blocks_of t (at s bs ++ blocks) ≡ blocks_of t blocks
at-other s [] blocks t other = refl
at-other s (b ∷ bs) blocks t other = blocks-other (block_of s b) (at s bs ++ blocks) t other ∙ at-other s bs blocks t other

abbrev empty : ℕ → Lines → List Block
empty zero rest = []
empty (suc n) rest = at (suc n) (rest (suc n)) ++ empty n rest

empty-none : (n : ℕ) (rest : Lines) (t : ℕ) → ((0 < t) × (t ≤ n) → ⊥) → blocks_of t (empty n rest) ≡ []
empty-none zero rest t none = refl
empty-none (suc n) rest t none =
    at-other (suc n) (rest (suc n)) (empty n rest) t (λ same. none (omega (arith, same), omega (arith, same)))
    ∙ empty-none n rest t (λ is. none (is.0, omega (arith, is.1)))

empty-some : (n : ℕ) (rest : Lines) (t : ℕ) → 0 < t → t ≤ n → blocks_of t (empty n rest) ≡ rest t
empty-some zero rest t positive within = absurd (omega arith)
empty-some (suc n) rest t positive within =
    elim (cases_eq (suc n) t) [
      | inl same ↦
          at-same (suc n) (rest (suc n)) (empty n rest) t same
          ∙ ap (λ (gs : List History). rest (suc n) ++ gs) (empty-none n rest t (λ is. omega (arith, same, is.1)))
          ∙ append-nil (rest (suc n))
          ∙ ap rest same
      | inr other ↦ at-other (suc n) (rest (suc n)) (empty n rest) t other ∙ empty-some n rest t positive (omega (arith, other))
    ]

pub stream_or_not : (p : LayoutValue) (s : ℕ) → IsStream p s ⊎ (IsStream p s → ⊥)
stream_or_not p s =
    elim (cases_lt 0 s) [
      | inl positive ↦ elim (cases_lt p.streams s) [
        | inl above ↦ inr (λ is. omega (arith, above, is.1))
        | inr within ↦ inl (positive, within)
      ]
      | inr nil ↦ inr (λ is. omega (arith, nil, is.0))
    ]

abbrev AreEmpty : List History → Type 0
AreEmpty bs = AllByRecursion (λ b. b ≡ []) bs

joined_empty : (bs : List History) → [] ≡ joined bs → AreEmpty bs
joined_empty [] is = tt
joined_empty ([] ∷ bs) is = (refl, joined_empty bs is)
joined_empty ((e ∷ b) ∷ bs) is = absurd (cc)

reduced_empty : (bs : List History) → AreEmpty bs → map reduced bs ≡ bs
reduced_empty [] all = refl
reduced_empty (b ∷ bs) all =
    ap (λ (g : History). g ∷ map reduced bs) (ap reduced all.0 ∙ sym all.0) ∙ ap (λ (gs : List History). b ∷ gs) (reduced_empty bs all.1)

at-settled : (p : LayoutValue) (final : State) (s : ℕ) (bs : List History) (blocks : List Block) → IsStream p s → AreEmpty bs
    → AllByRecursion (IsSettled p final) blocks → AllByRecursion (IsSettled p final) (at s bs ++ blocks)
at-settled p final s [] blocks is none all = all
at-settled p final s (b ∷ bs) blocks is none all = (
  record {
    stream = is;
    calls = subst (AllByRecursion (λ e. stream_of e ≡ s)) (sym none.0) tt;
    settles = subst (AllByRecursion (Settles p final)) (sym none.0) tt;
  },
  at-settled p final s bs blocks is none.1 all,
)

empty-settled : (p : LayoutValue) (final : State) (n : ℕ) (rest : Lines) → n ≤ p.streams → ((s : ℕ) → AreEmpty (rest s))
    → AllByRecursion (IsSettled p final) (empty n rest)
empty-settled p final zero rest within none = tt
empty-settled p final (suc n) rest within none =
    at-settled p final (suc n) (rest (suc n)) (empty n rest) (omega arith, within) (none (suc n))
    (empty-settled p final n rest (omega arith) none)

at-events : (s : ℕ) (bs : List History) (blocks : List Block) → AreEmpty bs → events_in (at s bs ++ blocks) ≡ events_in blocks
at-events s [] blocks none = refl
at-events s (b ∷ bs) blocks none = ap (λ (g : History). g ++ events_in (at s bs ++ blocks)) none.0 ∙ at-events s bs blocks none.1

empty-events : (n : ℕ) (rest : Lines) → ((s : ℕ) → AreEmpty (rest s)) → events_in (empty n rest) ≡ []
empty-events zero rest none = refl
empty-events (suc n) rest none = at-events (suc n) (rest (suc n)) (empty n rest) (none (suc n)) ∙ empty-events n rest none

-- if no events are left, the lines without events can be put in an order
pub order-empty : (f : Cnf) (p : LayoutValue) (final m : State) (rest : Lines) → Ahead p [] rest → HasOrder f p final m rest
order-empty f p final m rest ahead =
    let none : (s : ℕ) → AreEmpty (rest s) = λ s. joined_empty (rest s) (ahead.own_events s) in (
      empty p.streams rest,
      record {
        settled = empty-settled p final p.streams rest (omega arith) none;
        legal = subst (LegalFrom f p m) (sym (empty-events p.streams rest none)) tt;
        lines = λ s. elim (stream_or_not p s) [
          | inl is ↦ empty-some p.streams rest s is.0 is.1
          | inr not_one ↦ empty-none p.streams rest s not_one ∙ sym (ahead.outside s not_one)
        ] ∙ sym (reduced_empty (rest s) (none s));
      },
    )
