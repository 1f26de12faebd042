-- Lemmas about seats: what contracts say about a seat implies what a step requires of its token.
use Rattle.std.proofs.Common.{◌≡◌, ◌≢◌, ◌+◌, ◌-◌, ◌<◌, ◌≤◌, ℕ, eqb, List, [], ◌∷◌, length, refl, sym, ap, ap₂, subst, ◌∙◌, arith, eq-eqb}
use Rattle.std.proofs.Common.{ne_eqb, ◌++◌, length-append}
use Rattle.std.proofs.lemmas.Bool.{cond-true, cond-false}
use Rattle.atomic_table.specs.Seated.{TableId}
use Rattle.atomic_table.specs.Table.{Step, Me, Allows}
use Rattle.lrup_model.specs.Formula.{Cnf}
use Rattle.lrup_model.specs.Layout.{LayoutValue, row_words}
use Rattle.lrup_model.specs.Event as events
use Rattle.lrup_model.specs.Event.{Event, History, stream_of, spent, size_of}
use Rattle.lrup_model.specs.CallerView.{Caller}
use Rattle.lrup_model.specs.Pass.{IsFair, PassMoves}
use Rattle.lrup_model.specs.lemmas.RunningLemmas.{spent-append}
use Rattle.lrup_model.specs.lemmas.HistoryLemmas.{spent_one}
use Rattle.lrup_model.specs.declared.clause_map.Published.{Published}
use Rattle.lrup_model.specs.declared.clause_map.Published.TheVariants as publishing
use Rattle.idwords.specs.Words.{words_for}
use Rattle.idwords.specs.Spelling.{first_place, words_taken, words_spent}
use Rattle.lrup_model.specs.Clause.{Clause}
use Rattle.idwords.specs.Seats.{ThreadState, SeatValue, seat_value}
use Rattle.idwords.specs.internal.Rule.{thread_stream, HoldsRowInvariant}
use Rattle.idwords.specs.RowCalls.{Calls}
use Rattle.idwords.specs.internal.Steps.{Changes, Claims, published_at}
use Rattle.idwords.specs.internal.Seating.{first_thread, thread_of, IsSeated}
use Rattle.idwords.proofs.SpellingLemmas.{words_spent-append, words_spent_one, words_within}
use Rattle.idwords.proofs.StepLemmas.{OwnStep, allows}

-- the row of a seat has as many words as the seat's layout says
pub words_of : {S : Type 0} (table row : TableId) (me : Me S (List ThreadState)) (top drafted room : ℕ)
    → IsSeated table me top drafted room → table ≡ row → row.words ≡ row_words (first_thread me.0).view.caller.layout
words_of table row me top drafted room seated same = ap (λ (t : TableId). t.words) (sym same) ∙ seated.words

module _ {S : Type 0} where
  -- what a step requires of a token, from what it requires of the token's one thread state
  pub asks_thread : (f : Cnf) (p : LayoutValue) (slots id i : ℕ) (g : ℕ → ℕ) (known : ThreadState → ℕ → ThreadState → Type 0)
      (then : Me S (List ThreadState) → ℕ → Me S (List ThreadState) → Type 0)
      (table row : TableId) (me : Me S (List ThreadState)) (v : ThreadState)
      → me ≡ (v ∷ [], []) → table ≡ row → i < row.words → OwnStep v id i g (known v)
      → ((u : ThreadState) (n : ℕ) (w : ThreadState) → known u n w → then (u ∷ [], []) n (w ∷ [], []))
      → (table ≡ row) × (i < row.words) × Allows {S = S} (HoldsRowInvariant f p) slots id me i g (then me)
  asks_thread f p slots id i g known then table row me v one same within own tell = (
    same,
    within,
    rw one (allows f p slots id v i g (known v) (then (v ∷ [], [])) own (tell v)),
  )

  pub asks : (f : Cnf) (p : LayoutValue) (slots id i : ℕ) (g : ℕ → ℕ) (known : ThreadState → ℕ → ThreadState → Type 0)
      (then : Me S (List ThreadState) → ℕ → Me S (List ThreadState) → Type 0)
      (table row : TableId) (me : Me S (List ThreadState)) (seat : SeatValue) (top drafted room : ℕ)
      → IsSeated table me top drafted room → seat_value table (first_thread me.0) ≡ seat → seat.table ≡ row
      → i < row_words seat.view.caller.layout → OwnStep (thread_of seat) id i g (known (thread_of seat))
      → ((v : ThreadState) (n : ℕ) (w : ThreadState) → known v n w → then (v ∷ [], []) n (w ∷ [], []))
      → (table ≡ row) × (i < row.words) × Allows {S = S} (HoldsRowInvariant f p) slots id me i g (then me)
  asks f p slots id i g known then table row me seat top drafted room seated view same within own tell =
      let here : first_thread me.0 ≡ thread_of seat = ap thread_of view in
      let tables : table ≡ row = ap (λ (s : SeatValue). s.table) view ∙ same in
      let words : row.words ≡ row_words seat.view.caller.layout = words_of table row me top drafted room seated tables
      ∙ ap (λ (u : ThreadState). row_words u.view.caller.layout) here in
      asks_thread f p slots id i g known then table row me (thread_of seat)
      (seated.one ∙ ap (λ (u : ThreadState). (u ∷ [], [])) here) tables
      (omega arith) own tell

-- A seat after a step

module _ {S : Type 0} where
  -- `IsSeated` holds for a token if it holds for the pair of the token's one thread state and no
  -- slots
  pub seat_of : (table : TableId) (me : Me S (List ThreadState)) (w : ThreadState) (top drafted room : ℕ) → me.0 ≡ w ∷ [] → me.1 ≡ []
      → IsSeated {S = S} table (w ∷ [], []) top drafted room → IsSeated table me top drafted room
  seat_of table me w top drafted room one none seated =
      let whole : (w ∷ [], []) ≡ me = sym (ap₂ (λ (vs : List ThreadState) (slots : List (ℕ × S)). (vs, slots)) one none) in
      subst (λ (m : Me S (List ThreadState)). IsSeated table m top drafted room) whole seated

  -- the seat after a step in which the stream spent nothing and kept its top and its draft
  pub seated_on : (table table' : TableId) (me me' : Me S (List ThreadState)) (top drafted room : ℕ) (w : ThreadState) (es : History)
      → IsSeated table me top drafted room → table' ≡ table
      → me'.0 ≡ w ∷ [] → me'.1 ≡ [] → PassMoves (first_thread me.0).view w.view es → IsFair w.view
      → spent (thread_stream (first_thread me.0)) es ≡ 0
      → w.top ≡ (first_thread me.0).top → w.draft ≡ (first_thread me.0).draft → IsSeated table' me' top drafted room
  seated_on table table' me me' top drafted room w es seated same one none moves fair nothing top_stays draft_stays =
      let v : ThreadState = first_thread me.0 in
      let s = thread_stream v in
      let p = v.view.caller.layout in
      let stream : thread_stream w ≡ s = ap (λ (r : Caller). r.stream) moves.caller in
      let layout : w.view.caller.layout ≡ p = ap (λ (r : Caller). r.layout) moves.caller in
      let room_is : p.room ≡ w.view.caller.layout.room = ap (λ (q : LayoutValue). q.room) (sym layout) in
      let words : table'.words ≡ row_words w.view.caller.layout = ap (λ (t : TableId). t.words) same ∙ seated.words
      ∙ ap row_words (sym layout) in
      let spends : spent (thread_stream w) w.view.mine ≡ spent s v.view.mine + spent s es =
      ap₂ (λ (t : ℕ) (h : History). spent t h) stream moves.mine ∙ spent-append s v.view.mine es in
      let takes : words_spent (thread_stream w) w.view.mine ≡ words_spent s v.view.mine + words_spent s es =
      ap₂ (λ (t : ℕ) (h : History). words_spent t h) stream moves.mine ∙ words_spent-append s v.view.mine es in
      let none_taken : words_spent s es ≤ spent s es = words_within s es in
      let first : first_place w.view.caller.layout (thread_stream w) ≡ first_place p s =
      ap₂ (λ (q : LayoutValue) (t : ℕ). first_place q t) layout stream in
      let len : length w.draft ≡ length v.draft = ap length draft_stays in
      seat_of table' me' w top drafted room one none (record {
        one = refl;
        fair = fair;
        words = words;
        top_is = omega (arith, seated.top_is);
        draft_is = omega (arith, seated.draft_is);
        top_kept = omega (arith, seated.top_kept);
        room_kept = omega (arith, seated.room_kept);
        within = seated.within;
      })

  -- the seat after a call that uses none of the stream's room
  pub seated_call : (table table' : TableId) (me me' : Me S (List ThreadState)) (top drafted room : ℕ) (w : ThreadState) (e : Event)
      → IsSeated table me top drafted room → table' ≡ table
      → me'.0 ≡ w ∷ [] → me'.1 ≡ me.1 → Calls (first_thread me.0).view w.view e → stream_of e ≡ thread_stream (first_thread me.0)
      → size_of e ≡ 0
      → w.top ≡ (first_thread me.0).top → w.draft ≡ (first_thread me.0).draft → IsSeated table' me' top drafted room
  seated_call table table' me me' top drafted room w e seated same one slots calls own nothing top_stays draft_stays =
      seated_on table table' me me' top drafted room w (e ∷ []) seated same one
      (slots ∙ ap (λ (m : Me S (List ThreadState)). m.1) seated.one) calls.moves calls.fair
      (spent_one (thread_stream (first_thread me.0)) e own ∙ nothing) top_stays draft_stays

  -- the seat after a store that added literals to the draft
  pub seated_write : (table table' : TableId) (me me' : Me S (List ThreadState)) (top drafted room more : ℕ) (c : Clause) (w : ThreadState)
      → IsSeated table me top drafted room → table' ≡ table
      → me'.0 ≡ w ∷ [] → me'.1 ≡ me.1 → w ≡ record (first_thread me.0) { draft = (first_thread me.0).draft ++ c } → more ≡ length c
      → drafted + more ≤ room → IsSeated table' me' top (drafted + more) room
  seated_write table table' me me' top drafted room more c w seated same one slots grown count fits =
      let v : ThreadState = first_thread me.0 in
      let u : ThreadState = record v { draft = v.draft ++ c } in
      seat_of table' me' u top (drafted + more) room (one ∙ ap (λ (x : ThreadState). x ∷ []) grown)
      (slots ∙ ap (λ (m : Me S (List ThreadState)). m.1) seated.one) (record {
        one = refl;
        fair = seated.fair;
        words = ap (λ (t : TableId). t.words) same ∙ seated.words;
        top_is = seated.top_is;
        draft_is = omega (arith, seated.draft_is, length-append v.draft c);
        top_kept = seated.top_kept;
        room_kept = seated.room_kept;
        within = fits;
      })

  -- the seat after a publish whose compare-exchange found this word
  pub seated_claim : (table table' : TableId) (me me' : Me S (List ThreadState)) (top drafted room found id : ℕ) (one : Step S)
      → IsSeated table me top drafted room → table' ≡ table → Changes Claims one me found me'
      → (found ≡ 0 → IsSeated table' me' (top + words_for drafted) 0 (room - drafted)) × (found ≢ 0 → IsSeated table' me' top 0 room)
  seated_claim table table' me me' top drafted room found id one seated same known =
      let v : ThreadState = first_thread me.0 in
      let s = thread_stream v in
      let p = v.view.caller.layout in
      let all = known v (ap (λ (m : Me S (List ThreadState)). m.0) seated.one) in
      let w : ThreadState = all.0 in
      let claim : Claims one.word v found w = all.3 in
      let none : me'.1 ≡ [] = all.2 ∙ ap (λ (m : Me S (List ThreadState)). m.1) seated.one in
      let stream : thread_stream w ≡ s = ap (λ (r : Caller). r.stream) claim.calls.moves.caller in
      let layout : w.view.caller.layout ≡ p = ap (λ (r : Caller). r.layout) claim.calls.moves.caller in
      let room_is : p.room ≡ w.view.caller.layout.room = ap (λ (q : LayoutValue). q.room) (sym layout) in
      let words : table'.words ≡ row_words w.view.caller.layout = ap (λ (t : TableId). t.words) same ∙ seated.words
      ∙ ap row_words (sym layout) in
      let nil : length w.draft ≡ 0 = ap length claim.draft in
      let e : Published → Event = λ r. events.publish s one.word v.draft r in
      let spends : spent (thread_stream w) w.view.mine ≡ spent s v.view.mine + size_of (e (published_at found)) =
      ap₂ (λ (t : ℕ) (h : History). spent t h) stream claim.calls.moves.mine ∙ spent-append s v.view.mine (e (published_at found) ∷ [])
      ∙ ap (λ (n : ℕ). spent s v.view.mine + n) (spent_one s (e (published_at found)) refl) in
      let takes : words_spent (thread_stream w) w.view.mine ≡ words_spent s v.view.mine + words_taken (e (published_at found)) =
      ap₂ (λ (t : ℕ) (h : History). words_spent t h) stream claim.calls.moves.mine
      ∙ words_spent-append s v.view.mine (e (published_at found) ∷ [])
      ∙ ap (λ (n : ℕ). words_spent s v.view.mine + n) (words_spent_one s (e (published_at found)) refl) in
      let first : first_place w.view.caller.layout (thread_stream w) ≡ first_place p s =
      ap₂ (λ (q : LayoutValue) (t : ℕ). first_place q t) layout stream in (
        λ is.
            let done : published_at found ≡ publishing.Done =
            cond-true (eqb found 0) publishing.Done publishing.Taken (eq-eqb found 0 is) in
            let size : size_of (e (published_at found)) ≡ length v.draft = ap (λ (r : Published). size_of (e r)) done in
            let grown : w.top ≡ v.top + words_for (length v.draft) = claim.top
            ∙ cond-true (eqb found 0) (v.top + words_for (length v.draft)) v.top (eq-eqb found 0 is) in
            seat_of table' me' w (top + words_for drafted) 0 (room - drafted) all.1 none (record {
              one = refl;
              fair = claim.calls.fair;
              words = words;
              top_is = omega (arith, seated.top_is);
              draft_is = sym nil;
              top_kept = omega (arith, seated.top_kept, seated.draft_is);
              room_kept = omega (arith, seated.room_kept, seated.draft_is, seated.within);
              within = omega arith;
            }),
        λ not.
            let taken : published_at found ≡ publishing.Taken =
            cond-false (eqb found 0) publishing.Done publishing.Taken (ne_eqb found 0 not) in
            let size : size_of (e (published_at found)) ≡ 0 = ap (λ (r : Published). size_of (e r)) taken in
            let stays : w.top ≡ v.top = claim.top
            ∙ cond-false (eqb found 0) (v.top + words_for (length v.draft)) v.top (ne_eqb found 0 not) in
            seat_of table' me' w top 0 room all.1 none (record {
              one = refl;
              fair = claim.calls.fair;
              words = words;
              top_is = omega (arith, seated.top_is);
              draft_is = sym nil;
              top_kept = omega (arith, seated.top_kept);
              room_kept = omega (arith, seated.room_kept);
              within = omega arith;
            }),
      )
