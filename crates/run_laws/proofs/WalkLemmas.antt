-- The order of lines, made by one walk along a history, from end to start: an event joins its
-- stream's next block, or begins a block.
use Rattle.std.proofs.Common.{◌≡◌, ◌&&◌, ℕ, Bool, true, false, not, List, [], ◌∷◌, ◌++◌, map, refl, sym, ap, subst, ◌∙◌, inl, inr}
use Rattle.std.specs.List.{AllByRecursion, list_all}
use Rattle.std.proofs.lemmas.Bool.{cases_eq, cases_Bool, true≢false}
use Rattle.lrup_model.specs.Formula.{Cnf}
use Rattle.lrup_model.specs.Layout.{LayoutValue, IsStream}
use Rattle.lrup_model.specs.Event as events
use Rattle.lrup_model.specs.Event.{Event, History, stream_of, own}
use Rattle.lrup_model.specs.State.{State, after}
use Rattle.lrup_model.specs.History.{LegalFrom, IsAllowed}
use Rattle.lrup_model.specs.State.{Answers}
use Rattle.lrup_model.specs.declared.clause_map.Retired.{Retired}
use Rattle.lrup_model.specs.lemmas.HistoryLemmas.{own-mine, own-other}
use Rattle.stream_check.specs.Judging.{joined}
use Rattle.stream_check.specs.Reducing.{is_vacant, IsEarly, StartsWithFetchOf, TriesAgain, reduced}
use Rattle.stream_check.specs.lemmas.ReducingLemmas.{reduced_kept, reduced_left_out, all_vacant_stay}
use Rattle.stream_check.specs.Streams.{Block, blocks_of}
use Rattle.stream_check.specs.internal.Checking.{IsFetch}
use Rattle.stream_check.specs.Deletions.{IsRetire}
use Rattle.run_laws.specs.Lines.{IsLineBlock, RetiresLast}
use Rattle.run_laws.proofs.SwapLemmas.{Settles}
use Rattle.run_laws.proofs.BlockLemmas.{IsSettled, join, join-own, join-others, join-settled, join-legal, join-again, without, without-own}
use Rattle.run_laws.proofs.BlockLemmas.{without-others, without-settled, first-settled, retires-first}
use Rattle.run_laws.proofs.AheadLemmas.{Lines, with, with-same, with-other, Ahead, ahead-with, HasOrder, lines-front, order-empty}

-- Reduced

reduced-one : (e : Event) → reduced (e ∷ []) ≡ e ∷ []
reduced-one (events.fetch s id events.vacant) = refl
reduced-one (events.fetch s id (events.live c)) = refl
reduced-one (events.fetch s id events.retired) = refl
reduced-one (events.publish s id c r) = refl
reduced-one (events.retire s id r) = refl

-- if a line starts with a fetch of an identity, and all its events are vacant fetches, the first
-- event is a vacant fetch of that identity
same_fetch : (s id : ℕ) (d : Event) (es : History) → stream_of d ≡ s → StartsWithFetchOf id (d ∷ es) → list_all is_vacant (d ∷ es) ≡ true
    → d ≡ events.fetch s id events.vacant
same_fetch s id (events.fetch t j events.vacant) es caller is all = ap (λ (i : ℕ). events.fetch i j events.vacant) caller
    ∙ ap (λ (i : ℕ). events.fetch s i events.vacant) is
same_fetch s id (events.fetch t j (events.live c)) es caller is all = absurd (true≢false (sym all))
same_fetch s id (events.fetch t j events.retired) es caller is all = absurd (true≢false (sym all))
same_fetch s id (events.publish t j c r) es caller is all = absurd is
same_fetch s id (events.retire t j r) es caller is all = absurd is

-- A stream's own events are its calls.

pub own-calls : (h : History) (s : ℕ) → AllByRecursion (λ e. stream_of e ≡ s) (own h s)
own-calls [] s = tt
own-calls (e ∷ h) s =
    elim (cases_eq (stream_of e) s) [
      | inl mine ↦ subst (AllByRecursion (λ d. stream_of d ≡ s)) (sym (own-mine e h s mine)) (mine, own-calls h s)
      | inr other ↦ subst (AllByRecursion (λ d. stream_of d ≡ s)) (sym (own-other e h s other)) (own-calls h s)
    ]

again-tail : (e : Event) (es : History) → TriesAgain (e ∷ es) → TriesAgain es
again-tail (events.fetch s id events.vacant) es again = again.1
again-tail _ es again = again

-- An event that is the first of a longer line

module _ (f : Cnf) (p : LayoutValue) (final m : State) where
  -- if reducing a line keeps its first event, joining this event to an order of the lines without
  -- the event gives an order of all lines
  lines-join : (rest : Lines) (e d : Event) (b : History) (more : List History) (blocks : List Block)
      → rest (stream_of e) ≡ (e ∷ d ∷ b) ∷ more → reduced (e ∷ d ∷ b) ≡ e ∷ reduced (d ∷ b)
      → ((t : ℕ) → blocks_of t blocks ≡ map reduced (with rest (stream_of e) ((d ∷ b) ∷ more) t))
      → (t : ℕ) → blocks_of t (join e blocks) ≡ map reduced (rest t)
  lines-join rest e d b more blocks is kept lines t =
      let s : ℕ = stream_of e in
      elim (cases_eq s t) [
        | inl same ↦
            ap (λ (i : ℕ). blocks_of i (join e blocks)) (sym same)
            ∙ join-own e blocks (reduced (d ∷ b)) (map reduced more) (lines s ∙ ap (map reduced) (with-same rest s ((d ∷ b) ∷ more) s refl))
            ∙ ap (λ (g : History). g ∷ map reduced more) (sym kept)
            ∙ sym (ap (map reduced) (ap rest (sym same) ∙ is))
        | inr other ↦
            join-others e blocks t other ∙ lines t ∙ ap (map reduced) (with-other rest s ((d ∷ b) ∷ more) t (λ same. other (sym same)))
      ]

  lines-skip : (rest : Lines) (e d : Event) (b : History) (more : List History) (blocks : List Block)
      → rest (stream_of e) ≡ (e ∷ d ∷ b) ∷ more → reduced (e ∷ d ∷ b) ≡ reduced (d ∷ b)
      → ((t : ℕ) → blocks_of t blocks ≡ map reduced (with rest (stream_of e) ((d ∷ b) ∷ more) t))
      → (t : ℕ) → blocks_of t blocks ≡ map reduced (rest t)
  lines-skip rest e d b more blocks is dropped lines t =
      let s : ℕ = stream_of e in
      elim (cases_eq s t) [
        | inl same ↦
            lines t
            ∙ ap (map reduced) (with-same rest s ((d ∷ b) ∷ more) t (sym same))
            ∙ ap (λ (g : History). g ∷ map reduced more) (sym dropped)
            ∙ sym (ap (map reduced) (ap rest (sym same) ∙ is))
        | inr other ↦ lines t ∙ ap (map reduced) (with-other rest s ((d ∷ b) ∷ more) t (λ same. other (sym same)))
      ]

  -- the first event is a fetch that found something
  goes-on : (rest : Lines) (e d : Event) (b : History) (more : List History)
      → rest (stream_of e) ≡ (e ∷ d ∷ b) ∷ more → IsFetch e → is_vacant e ≡ false → Settles p final e → Answers m e → IsAllowed f p e
      → HasOrder f p final (after m e) (with rest (stream_of e) ((d ∷ b) ∷ more)) → HasOrder f p final m rest
  goes-on rest e d b more is early some settles answers allowed made =
      let blocks : List Block = made.0 in (
        join e blocks,
        record {
          settled = join-settled p final e blocks settles made.1.settled;
          legal = join-legal f p final m e blocks (reduced (d ∷ b)) (map reduced more) early some settles made.1.settled
              (made.1.lines (stream_of e) ∙ ap (map reduced) (with-same rest (stream_of e) ((d ∷ b) ∷ more) (stream_of e) refl))
              (answers, allowed, made.1.legal);
          lines = lines-join rest e d b more blocks is
              (reduced_kept e (d ∷ b) (ap (λ (x : Bool). x && not (list_all is_vacant (d ∷ b))) some)) made.1.lines;
        },
      )

  -- the first event is a fetch that found nothing, and the next one repeats it
  tries-on : (rest : Lines) (s id : ℕ) (d : Event) (b : History) (more : List History)
      → rest s ≡ (events.fetch s id events.vacant ∷ d ∷ b) ∷ more → stream_of d ≡ s → StartsWithFetchOf id (d ∷ b)
      → HasOrder f p final m (with rest s ((d ∷ b) ∷ more)) → HasOrder f p final m rest
  tries-on rest s id d b more is caller again made =
      let e : Event = events.fetch s id events.vacant in
      let blocks : List Block = made.0 in
      elim (cases_Bool (list_all is_vacant (d ∷ b))) [
        | inl vacants ↦ (
          join e blocks,
          record {
            settled = join-settled p final e blocks tt made.1.settled;
            legal = join-again f p m s id blocks b (map reduced more)
                (made.1.lines s ∙ ap (map reduced) (with-same rest s ((d ∷ b) ∷ more) s refl)
                ∙ ap (λ (g : History). g ∷ map reduced more) (all_vacant_stay (d ∷ b) vacants
                ∙ ap (λ (x : Event). x ∷ b) (same_fetch s id d b caller again vacants)))
                made.1.legal;
            lines = lines-join rest e d b more blocks is (reduced_kept e (d ∷ b) (ap not vacants)) made.1.lines;
          },
        )
        | inr others ↦ (
          blocks,
          record {
            settled = made.1.settled;
            legal = made.1.legal;
            lines = lines-skip rest e d b more blocks is (reduced_left_out e (d ∷ b) (ap not others)) made.1.lines;
          },
        )
      ]

  -- an order without a stream's first block has the lines without the stream's first line
  lines-without : (rest : Lines) (s : ℕ) (b : History) (more : List History) (blocks : List Block)
      → ((t : ℕ) → blocks_of t blocks ≡ map reduced (with rest s (b ∷ more) t)) → (t : ℕ)
      → blocks_of t (without s blocks) ≡ map reduced (with rest s more t)
  lines-without rest s b more blocks lines t =
      elim (cases_eq s t) [
        | inl same ↦
            ap (λ (i : ℕ). blocks_of i (without s blocks)) (sym same)
            ∙ without-own s blocks (reduced b) (map reduced more) (lines s ∙ ap (map reduced) (with-same rest s (b ∷ more) s refl))
            ∙ sym (ap (map reduced) (with-same rest s more t (sym same)))
        | inr other ↦
            without-others s blocks t other
            ∙ lines t
            ∙ ap (map reduced) (with-other rest s (b ∷ more) t (λ same. other (sym same))
            ∙ sym (with-other rest s more t (λ same. other (sym same))))
      ]

  reduced_retires : (es : History) → AllByRecursion IsRetire es → AllByRecursion IsRetire (reduced es)
  reduced_retires [] all = tt
  reduced_retires (events.fetch s id r ∷ es) all = absurd all.0
  reduced_retires (events.publish s id c r ∷ es) all = absurd all.0
  reduced_retires (events.retire s id r ∷ es) all = (tt, reduced_retires es all.1)

  retires-on : (rest : Lines) (s id : ℕ) (r : Retired) (d : Event) (b : History) (more : List History)
      → rest s ≡ (events.retire s id r ∷ d ∷ b) ∷ more → IsStream p s → AllByRecursion IsRetire (d ∷ b)
      → Settles p final (events.retire s id r) → Answers m (events.retire s id r) → IsAllowed f p (events.retire s id r)
      → HasOrder f p final (after m (events.retire s id r)) (with rest s ((d ∷ b) ∷ more)) → HasOrder f p final m rest
  retires-on rest s id r d b more is stream retires settles answers allowed made =
      let e : Event = events.retire s id r in
      let blocks : List Block = made.0 in
      let here : blocks_of s blocks ≡ reduced (d ∷ b) ∷ map reduced more = made.1.lines s
      ∙ ap (map reduced) (with-same rest s ((d ∷ b) ∷ more) s refl) in
      let first : IsSettled p final (record {
        stream = s;
        events = reduced (d ∷ b);
      }) = first-settled p final s blocks (reduced (d ∷ b)) (map reduced more) made.1.settled here in (
        record { stream = s; events = e ∷ reduced (d ∷ b) } ∷ without s blocks,
        record {
          settled = (
            record { stream = stream; calls = (refl, first.calls); settles = (settles, first.settles) },
            without-settled p final s blocks made.1.settled,
          );
          legal = (
            answers,
            allowed,
            retires-first f p final (after m e) s blocks (reduced (d ∷ b)) (map reduced more)
                (reduced_retires (d ∷ b) retires) first.calls first.settles
                made.1.settled here made.1.legal,
          );
          lines = lines-front rest s (e ∷ d ∷ b) more (e ∷ reduced (d ∷ b)) (without s blocks) is refl
              (lines-without rest s (d ∷ b) more blocks made.1.lines);
        },
      )

  goes : (rest : Lines) (e d : Event) (b : History) (more : List History)
      → rest (stream_of e) ≡ (e ∷ d ∷ b) ∷ more → IsStream p (stream_of e) → IsEarly e → TriesAgain (e ∷ d ∷ b) → RetiresLast (e ∷ d ∷ b)
      → stream_of d ≡ stream_of e → Settles p final e → Answers m e → IsAllowed f p e
      → HasOrder f p final (after m e) (with rest (stream_of e) ((d ∷ b) ∷ more)) → HasOrder f p final m rest
  goes rest (events.fetch s id events.vacant) d b more is stream early again apart caller settles answers allowed made =
      tries-on rest s id d b more is caller again.0 made
  goes rest (events.fetch s id (events.live c)) d b more is stream early again apart caller settles answers allowed made =
      goes-on rest (events.fetch s id (events.live c)) d b more is tt refl settles answers allowed made
  goes rest (events.fetch s id events.retired) d b more is stream early again apart caller settles answers allowed made =
      goes-on rest (events.fetch s id events.retired) d b more is tt refl settles answers allowed made
  goes rest (events.publish s id c r) d b more is stream early again apart caller settles answers allowed made = absurd early
  goes rest (events.retire s id r) d b more is stream early again apart caller settles answers allowed made =
      retires-on rest s id r d b more is stream (apart.0 tt) settles answers allowed made

  -- the event is a line by itself, which begins the order
  begins : (rest : Lines) (e : Event) (more : List History)
      → rest (stream_of e) ≡ (e ∷ []) ∷ more → IsStream p (stream_of e) → Settles p final e → Answers m e → IsAllowed f p e
      → HasOrder f p final (after m e) (with rest (stream_of e) more) → HasOrder f p final m rest
  begins rest e more is stream settles answers allowed made = (
    record { stream = stream_of e; events = e ∷ [] } ∷ made.0,
    record {
      settled = (record { stream = stream; calls = (refl, tt); settles = (settles, tt) }, made.1.settled);
      legal = (answers, allowed, made.1.legal);
      lines = lines-front rest (stream_of e) (e ∷ []) more (e ∷ []) made.0 is (sym (reduced-one e)) made.1.lines;
    },
  )

  -- a line without events begins the order
  waits : (rest : Lines) (s : ℕ) (bs : List History) → rest s ≡ [] ∷ bs → IsStream p s → HasOrder f p final m (with rest s bs)
      → HasOrder f p final m rest
  waits rest s bs is stream made = (
    record { stream = s; events = [] } ∷ made.0,
    record {
      settled = (record { stream = stream; calls = tt; settles = tt }, made.1.settled);
      legal = made.1.legal;
      lines = lines-front rest s [] bs [] made.0 is refl made.1.lines;
    },
  )

-- The walk

abbrev IsWalked : Cnf → LayoutValue → State → History → Type 0
IsWalked f p final h = (m : State) (rest : Lines) → LegalFrom f p m h → Ahead p h rest → HasOrder f p final m rest

module _ (f : Cnf) (p : LayoutValue) (final m : State) (e : Event) (h : History) (stream : IsStream p (stream_of e))
    (settles : Settles p final e)
    (legal : LegalFrom f p m (e ∷ h)) (walked : IsWalked f p final h) where
  -- after the event, the blocks still have the events of each stream
  after-it : (rest : Lines) (bs : List History) → Ahead p (e ∷ h) rest → own h (stream_of e) ≡ joined bs → AllByRecursion IsLineBlock bs
      → Ahead p h (with rest (stream_of e) bs)
  after-it rest bs ahead here lines =
      ahead-with p (e ∷ h) h rest (stream_of e) bs ahead stream here (λ t other. sym (own-other e h t (λ same. other (sym same)))) lines

  first_line : (b : History) (more : List History) (rest : Lines) → rest (stream_of e) ≡ (e ∷ b) ∷ more
      → own h (stream_of e) ≡ b ++ joined more → Ahead p (e ∷ h) rest → HasOrder f p final m rest
  first_line [] more rest is tail ahead =
      let lines : AllByRecursion IsLineBlock ((e ∷ []) ∷ more) = subst (AllByRecursion IsLineBlock) is (ahead.lines (stream_of e)) in
      begins f p final m rest e more is stream settles legal.0 legal.1
      (walked (after m e) (with rest (stream_of e) more) legal.2 (after-it rest more ahead tail lines.1))
  first_line (d ∷ b) more rest is tail ahead =
      let lines : AllByRecursion IsLineBlock ((e ∷ d ∷ b) ∷ more) = subst (AllByRecursion IsLineBlock) is (ahead.lines (stream_of e)) in
      let calls : AllByRecursion (λ x. stream_of x ≡ stream_of e) (d ∷ b ++ joined more) =
      subst (AllByRecursion (λ x. stream_of x ≡ stream_of e)) tail (own-calls h (stream_of e)) in
      goes f p final m rest e d b more is stream lines.0.early.0 lines.0.again lines.0.apart calls.0 settles legal.0 legal.1
      (walked (after m e) (with rest (stream_of e) ((d ∷ b) ∷ more)) legal.2
      (after-it rest ((d ∷ b) ∷ more) ahead tail (
        record { early = lines.0.early.1; again = again-tail e (d ∷ b) lines.0.again; apart = lines.0.apart.1 },
        lines.1,
      )))

  -- the stream's blocks are lines without events, and then the line that begins with the event
  passes : (bs : List History) (rest : Lines) → rest (stream_of e) ≡ bs → e ∷ own h (stream_of e) ≡ joined bs → Ahead p (e ∷ h) rest
      → HasOrder f p final m rest
  passes [] rest is events ahead = absurd (cc)
  passes ([] ∷ bs) rest is events ahead =
      let lines : AllByRecursion IsLineBlock ([] ∷ bs) = subst (AllByRecursion IsLineBlock) is (ahead.lines (stream_of e)) in
      waits f p final m rest (stream_of e) bs is stream
      (passes bs (with rest (stream_of e) bs) (with-same rest (stream_of e) bs (stream_of e) refl) events
      (ahead-with p (e ∷ h) (e ∷ h) rest (stream_of e) bs ahead stream (own-mine e h (stream_of e) refl ∙ events)
      (λ t other. refl) lines.1))
  passes ((d ∷ b) ∷ more) rest is events ahead =
      let first : e ≡ d = cc in
      let tail : own h (stream_of e) ≡ b ++ joined more = cc in
      first_line b more rest (is ∙ ap (λ (x : Event). (x ∷ b) ∷ more) (sym first)) tail ahead

pub walk : (f : Cnf) (p : LayoutValue) (final : State) (h : History) → AllByRecursion (λ e. IsStream p (stream_of e)) h
    → AllByRecursion (Settles p final) h → IsWalked f p final h
walk f p final [] streams settled m rest legal ahead = order-empty f p final m rest ahead
walk f p final (e ∷ h) streams settled m rest legal ahead =
    passes f p final m e h streams.0 settled.0 legal (λ n left. walk f p final h streams.1 settled.1 n left)
    (rest (stream_of e)) rest refl (sym (own-mine e h (stream_of e) refl) ∙ ahead.own_events (stream_of e)) ahead
