-- Lemmas about the row at the opening: the loops that make its words, and the rule that these words
-- satisfy.
use Rattle.std.proofs.Common.{◌≡◌, ℕ, zero, suc, ◌+◌, ◌-◌, ◌*◌, ◌<◌, ◌≤◌, cond, eqb, List, [], ◌∷◌, ◌++◌, length, get_or, take, replicate}
use Rattle.std.proofs.Common.{slice_index, slice_get, Some, refl, sym, ap, subst, ◌∙◌, inl, inr, arith, append-nil, append_assoc}
use Rattle.std.proofs.Common.{length-append, eq-eqb, ne_eqb}
use Rattle.std.specs.List.{sum_by, AllByRecursion}
use Rattle.std.proofs.lemmas.Bool.{cases_eq, cases_lt, cond-true, cond-false}
use Rattle.std.proofs.lemmas.List.{take_more, take_all, length-replicate, get_or-replicate, get_or_at, get_or-append_right}
use Rattle.std.proofs.lemmas.List.{get_or_append_left}
use Rattle.std.proofs.lemmas.List.Sums.{sum_by-cons, sum_by-append, sum_by-take-le, sum_by-le-sum_by}
use Rattle.lrup_model.specs.Clause.{Clause}
use mathlib.Core.Option as Maybe
use Rattle.atomic_table.specs.Seated.{TableId}
use Rattle.atomic_table.specs.Table.{Me}
use Rattle.idwords.specs.internal.Seating.{IsSeated}
use Rattle.lrup_model.specs.Formula.{Cnf, IsCnf, clause_at}
use Rattle.lrup_model.specs.Layout.{LayoutValue, IsLayout, Fits, IsIdentity, IsStream, last_identity, row_words}
use Rattle.lrup_model.specs.State.{Slot, absent, live, opening}
use Rattle.lrup_model.specs.CallerView.{StoredClause}
use Rattle.lrup_model.specs.Pass.{stored_in, IsFair}
use Rattle.lrup_model.specs.lemmas.HistoryLemmas.{opening-formula, opening-above}
use Rattle.idwords.specs.internal.RowWords.{identity_word, stored_word, word_of, packed, OccurAt, LiesAt}
use Rattle.idwords.specs.Words.{words_for}
use Rattle.idwords.specs.Spelling.{clauses_spelling, first_place}
use Rattle.idwords.specs.Seats.{ThreadState, opening_thread}
use Rattle.idwords.specs.internal.Rule.{Agrees, IsPlan, HoldsRowInvariant, opening_threads, count_in}
use Rattle.idwords.proofs.SpellingLemmas.{either_kept, spelt}
use Rattle.idwords.proofs.WordLemmas.{length-packed}
use Rattle.idwords.specs.internal.Opening.{clause_words, literal_words, opening_words}

-- How many words the literals of clauses take

abbrev pub words_in : List Clause → ℕ
words_in cs = sum_by (λ c. words_for (length c)) cs

words_in-cons : (c : Clause) (cs : List Clause) → words_in (c ∷ cs) ≡ words_for (length c) + words_in cs
words_in-cons c cs = sum_by-cons (λ d. words_for (length d)) c cs

-- clauses take at most as many words as they have literals
pub words_in-le : (cs : List Clause) → words_in cs ≤ sum_by length cs
words_in-le cs = sum_by-le-sum_by (λ d. words_for (length d)) length cs (λ d. omega arith)

pub words_in-take : (cs : List Clause) (i : ℕ) → words_in (take i cs) ≤ sum_by length cs
words_in-take cs i = omega (arith, words_in-le (take i cs), sum_by-take-le length cs i)

-- The loops

clause_words-append : (start : ℕ) (cs ds : List Clause)
    → clause_words start (cs ++ ds) ≡ clause_words start cs ++ clause_words (start + words_in cs) ds
clause_words-append start [] ds = ap (λ (n : ℕ). clause_words n ds) (omega arith)
clause_words-append start (c ∷ cs) ds =
    let all = words_in-cons c cs in
    ap (λ (ws : List ℕ). identity_word 1 (length c) start ∷ ws)
    (clause_words-append (start + words_for (length c)) cs ds
    ∙ ap (λ (n : ℕ). clause_words (start + words_for (length c)) cs ++ clause_words n ds) (omega arith))

literal_words-append : (cs ds : List Clause) → literal_words (cs ++ ds) ≡ literal_words cs ++ literal_words ds
literal_words-append [] ds = refl
literal_words-append (c ∷ cs) ds = ap (λ (ws : List ℕ). packed c ++ ws) (literal_words-append cs ds)
    ∙ sym (append_assoc (packed c) (literal_words cs) (literal_words ds))

-- with the word of clause i appended, the words are those of the first i + 1 clauses
pub clause_words_more : (first start i : ℕ) (cs : List Clause) (c : Clause) (new words old : List ℕ) (word : ℕ) → i < length cs
    → c ≡ get_or cs i []
    → start ≡ first + words_in (take i cs) → words ≡ old ++ clause_words first (take i cs) → new ≡ words ++ word ∷ []
    → word ≡ identity_word 1 (length c) start → new ≡ old ++ clause_words first (take (i + 1) cs)
clause_words_more first start i cs c new words old word within here from is pushed word_is =
    let cut : take (i + 1) cs ≡ take i cs ++ c ∷ [] = take_more cs i [] within ∙ ap (λ (d : Clause). take i cs ++ d ∷ []) (sym here) in
    let place : word ≡ identity_word 1 (length c) (first + words_in (take i cs)) = word_is ∙ ap (identity_word 1 (length c)) from in
    pushed ∙ ap (λ (ws : List ℕ). ws ++ word ∷ []) is
    ∙ append_assoc old (clause_words first (take i cs)) (word ∷ [])
    ∙ ap (λ (ws : List ℕ). old ++ ws)
    (ap (λ (n : ℕ). clause_words first (take i cs) ++ n ∷ []) place ∙ sym (clause_words-append first (take i cs) (c ∷ []))
    ∙ ap (clause_words first) (sym cut))

pub literal_words_more : (i : ℕ) (cs : List Clause) (c : Clause) (words old : List ℕ) → i < length cs → c ≡ get_or cs i []
    → words ≡ old ++ literal_words (take i cs) → words ++ packed c ≡ old ++ literal_words (take (i + 1) cs)
literal_words_more i cs c words old within here is =
    let cut : take (i + 1) cs ≡ take i cs ++ c ∷ [] = take_more cs i [] within ∙ ap (λ (d : Clause). take i cs ++ d ∷ []) (sym here) in
    ap (λ (ws : List ℕ). ws ++ packed c) is
    ∙ append_assoc old (literal_words (take i cs)) (packed c)
    ∙ ap (λ (ws : List ℕ). old ++ ws)
    (ap (λ (ws : List ℕ). literal_words (take i cs) ++ ws) (sym (append-nil (packed c)))
    ∙ sym (literal_words-append (take i cs) (c ∷ [])) ∙ ap literal_words (sym cut))

pub words_more : (cs : List Clause) (i : ℕ) (c : Clause) → i < length cs → c ≡ get_or cs i []
    → words_in (take (i + 1) cs) ≡ words_in (take i cs) + words_for (length c)
words_more cs i c within here =
    let cut : take (i + 1) cs ≡ take i cs ++ c ∷ [] = take_more cs i [] within ∙ ap (λ (d : Clause). take i cs ++ d ∷ []) (sym here) in
    let one = sum_by-append (λ d. words_for (length d)) (take i cs) (c ∷ []) in
    let last = words_in-cons c [] in
    omega (arith, ap words_in cut)

-- The lengths of the parts

pub length-clause_words : (start : ℕ) (cs : List Clause) → length (clause_words start cs) ≡ length cs
length-clause_words start [] = refl
length-clause_words start (c ∷ cs) = let rest = length-clause_words (start + words_for (length c)) cs in omega arith

pub length-literal_words : (cs : List Clause) → length (literal_words cs) ≡ words_in cs
length-literal_words [] = refl
length-literal_words (c ∷ cs) =
    let rest = length-literal_words cs in omega (arith, length-append (packed c) (literal_words cs), length-packed c, words_in-cons c cs)

-- after all loops, the words are those of the opening
pub opened_words : (f : Cnf) (p : LayoutValue) (first n k : ℕ) (w1 w2 w3 w4 w5 : List ℕ) → Fits p f → first ≡ last_identity p + 1
    → n ≡ last_identity p + 1 → k ≡ row_words p
    → w1 ≡ 0 ∷ [] → w2 ≡ w1 ++ clause_words first f.clauses → w3 ≡ take n w2 ++ replicate (n - length w2) 0
    → w4 ≡ w3 ++ literal_words f.clauses → w5 ≡ take k w4 ++ replicate (k - length w4) 0 → w5 ≡ opening_words f p
opened_words f p first n k w1 w2 w3 w4 w5 fits from to all e1 e2 e3 e4 e5 =
    let cs : List Clause = f.clauses in
    let front : List ℕ = 0 ∷ clause_words (1 + last_identity p) cs in
    let w2_is : w2 ≡ front = e2 ∙ ap (λ (ws : List ℕ). ws ++ clause_words first cs) e1
    ∙ ap (λ (m : ℕ). 0 ∷ clause_words m cs) (omega arith) in
    let len2 : length w2 ≡ 1 + length cs = ap length w2_is ∙ omega (arith, length-clause_words (1 + last_identity p) cs) in
    let vacant : List ℕ = replicate (p.streams * p.lines) 0 in
    let w3_is : w3 ≡ front ++ vacant = e3
    ∙ ap (λ (ws : List ℕ). ws ++ replicate (n - length w2) 0) (take_all n w2 (omega (arith, fits.clauses)) ∙ w2_is)
    ∙ ap (λ (m : ℕ). front ++ replicate m 0) (omega (arith, fits.clauses)) in
    let len3 : length w3 ≡ 1 + last_identity p = ap length w3_is ∙ omega (
      arith,
      length-append front vacant,
      length-clause_words (1 + last_identity p) cs,
      length-replicate {A = ℕ} (p.streams * p.lines) 0,
      fits.clauses,
    ) in
    let w4_is : w4 ≡ front ++ vacant ++ literal_words cs = e4 ∙ ap (λ (ws : List ℕ). ws ++ literal_words cs) w3_is in
    let len4 : length w4 ≡ 1 + last_identity p + length (literal_words cs) = ap length e4
    ∙ omega (arith, length-append w3 (literal_words cs)) in
    let few : length (literal_words cs) ≤ p.literals = omega (arith, length-literal_words cs, words_in-le cs, fits.literals) in
    e5 ∙ ap (λ (ws : List ℕ). ws ++ replicate (k - length w4) 0) (take_all k w4 (omega arith) ∙ w4_is)
    ∙ ap (λ (m : ℕ). front ++ vacant ++ literal_words cs ++ replicate m 0) (omega arith)

-- The words at each index

pub length-opening_words : (f : Cnf) (p : LayoutValue) → Fits p f → length (opening_words f p) ≡ row_words p
length-opening_words f p fits =
    let front : List ℕ = 0 ∷ clause_words (1 + last_identity p) f.clauses in
    let vacant : List ℕ = replicate (p.streams * p.lines) 0 in
    let texts : List ℕ = literal_words f.clauses in
    let rooms : List ℕ = replicate (p.literals + p.streams * p.room - length (literal_words f.clauses)) 0 in
    omega (
      arith,
      length-append (front ++ vacant ++ texts) rooms,
      length-append (front ++ vacant) texts,
      length-append front vacant,
      length-clause_words (1 + last_identity p) f.clauses,
      length-replicate {A = ℕ} (p.streams * p.lines) 0,
      length-replicate {A = ℕ} (p.literals + p.streams * p.room - length (literal_words f.clauses)) 0,
      length-literal_words f.clauses,
      words_in-le f.clauses,
      fits.clauses,
      fits.literals,
    )

-- the word of a clause shows where the clause is stored, and how long it is
clause_word_at : (id start : ℕ) (cs : List Clause) (back : List ℕ) (k : ℕ) → k < length cs
    → get_or (clause_words start cs ++ back) k 0 ≡ stored_word 1 (stored_in (clauses_spelling id start cs) (id + k))
clause_word_at id start [] back k within = absurd (omega arith)
clause_word_at id start (c ∷ cs) back zero within =
    ap (stored_word 1) (sym (cond-true (eqb id (id + 0)) (Some (record { start = start; literals = c }))
    (stored_in (clauses_spelling (id + 1) (start + words_for (length c)) cs) (id + 0)) (eq-eqb id (id + 0) (omega arith))))
clause_word_at id start (c ∷ cs) back (suc k) within =
    let next : id + suc k ≡ id + 1 + k = omega arith in
    clause_word_at (id + 1) (start + words_for (length c)) cs back k (omega arith)
    ∙ ap (stored_word 1) (sym (cond-false (eqb id (id + 1 + k)) (Some (record { start = start; literals = c }))
    (stored_in (clauses_spelling (id + 1) (start + words_for (length c)) cs) (id + 1 + k)) (ne_eqb id (id + 1 + k) (λ same. omega arith))))
    ∙ ap (λ (j : ℕ). stored_word 1 (stored_in (clauses_spelling id start (c ∷ cs)) j)) (sym next)

vacant_at : (n k : ℕ) (back : List ℕ) → k < n → get_or (replicate n 0 ++ back) k 0 ≡ 0
vacant_at n k back within = get_or_append_left (replicate n 0) back 0 k (omega (arith, length-replicate {A = ℕ} n 0))
    ∙ get_or-replicate n k 0 0 within

-- words that come after `place` other words are in the row from index `place` on
agree_front : (pre back ws : List ℕ) (place : ℕ) → length pre ≡ place → OccurAt (pre ++ (ws ++ back)) place ws
agree_front pre back [] place len = tt
agree_front pre back (w ∷ ws) place len = (
  get_or_at pre w (ws ++ back) 0 place len,
  subst (λ (vs : List ℕ). OccurAt vs (place + 1) ws) (append_assoc pre (w ∷ []) (ws ++ back))
      (agree_front (pre ++ w ∷ []) back ws (place + 1) (omega (arith, length-append pre (w ∷ [])))),
)

lies_clauses : (pre back : List ℕ) (id start : ℕ) (cs : List Clause) (j : ℕ) (stored : StoredClause) → length pre ≡ start
    → stored_in (clauses_spelling id start cs) j ≡ Some stored → LiesAt (pre ++ (literal_words cs ++ back)) stored.start stored.literals
lies_clauses pre back id start [] j stored len here = absurd (cc)
lies_clauses pre back id start (c ∷ cs) j stored len here =
    let tail : List ℕ = literal_words cs ++ back in
    let cut : packed c ++ literal_words cs ++ back ≡ packed c ++ tail = append_assoc (packed c) (literal_words cs) back in
    let whole : pre ++ (packed c ++ tail) ≡ pre ++ (packed c ++ literal_words cs ++ back) = ap (λ (ws : List ℕ). pre ++ ws) (sym cut) in
    elim (either_kept (eqb id j) (record {
      start = start;
      literals = c;
    }) (stored_in (clauses_spelling (id + 1) (start + words_for (length c)) cs) j) stored here) [
      | inl same ↦ rw (← same, ← whole) (agree_front pre tail (packed c) start len)
      | inr later ↦ rw (append_assoc pre (packed c) tail ∙ whole)
          at (lies_clauses (pre ++ packed c) back (id + 1) (start + words_for (length c)) cs j stored
          (omega (arith, length-append pre (packed c), length-packed c)) later)
    ]

below_one : (id : ℕ) → 0 < id → id ≡ suc (id - 1)
below_one id positive = omega arith

opening_slot : (f : Cnf) (p : LayoutValue) (id : ℕ) → Fits p f → IsIdentity p id
    → slice_index (opening_words f p) id ≡ word_of (opening f id) (stored_in (clauses_spelling 1 (1 + last_identity p) f.clauses) id)
opening_slot f p id fits identity =
    let cs : List Clause = f.clauses in
    let words : List ℕ = clause_words (1 + last_identity p) cs in
    let vacant : List ℕ = replicate (p.streams * p.lines) 0 in
    let texts : List ℕ = literal_words cs in
    let rooms : List ℕ = replicate (p.literals + p.streams * p.room - length (literal_words f.clauses)) 0 in
    let xs = clauses_spelling 1 (1 + last_identity p) cs in
    let k : ℕ = id - 1 in
    let tail : words ++ vacant ++ texts ++ rooms ≡ words ++ (vacant ++ (texts ++ rooms)) =
    append_assoc (words ++ vacant) texts rooms ∙ append_assoc words vacant (texts ++ rooms) in
    let drop_one : slice_index (opening_words f p) id ≡ get_or (words ++ (vacant ++ (texts ++ rooms))) k 0 =
    ap (λ (n : ℕ). get_or (opening_words f p) n 0) (below_one id identity.0) ∙ ap (λ (ws : List ℕ). get_or ws k 0) tail in
    elim (cases_lt k (length cs)) [
      | inl formula ↦
          let at = clause_word_at 1 (1 + last_identity p) cs (vacant ++ (texts ++ rooms)) k formula in
          let slot : opening f id ≡ live (clause_at f id) = opening-formula f id identity.0 (omega arith) in
          drop_one ∙ at ∙ ap (λ (n : ℕ). stored_word 1 (stored_in xs n)) (omega arith)
          ∙ ap (λ (y : Slot). word_of y (stored_in xs id)) (sym slot)
      | inr above ↦
          let slot : opening f id ≡ absent = opening-above f id (omega arith) in
          let len : length words ≡ length cs = length-clause_words (1 + last_identity p) cs in
          drop_one ∙ get_or-append_right words (vacant ++ (texts ++ rooms)) (length cs) k 0 len above
          ∙ vacant_at (p.streams * p.lines) (k - length cs) (texts ++ rooms) (omega (arith, identity.1, fits.clauses))
          ∙ ap (λ (y : Slot). word_of y (stored_in xs id)) (sym slot)
    ]

opening_text : (f : Cnf) (p : LayoutValue) (j : ℕ) (stored : StoredClause) → Fits p f
    → stored_in (clauses_spelling 1 (1 + last_identity p) f.clauses) j ≡ Some stored
    → LiesAt (opening_words f p) stored.start stored.literals
opening_text f p j stored fits here =
    let front : List ℕ = 0 ∷ clause_words (1 + last_identity p) f.clauses in
    let vacant : List ℕ = replicate (p.streams * p.lines) 0 in
    let rooms : List ℕ = replicate (p.literals + p.streams * p.room - length (literal_words f.clauses)) 0 in
    subst (λ (ws : List ℕ). LiesAt ws stored.start stored.literals) (sym (append_assoc (front ++ vacant) (literal_words f.clauses) rooms))
    (lies_clauses (front ++ vacant) rooms 1 (1 + last_identity p) f.clauses j stored
    (omega (
      arith,
      length-append front vacant,
      length-clause_words (1 + last_identity p) f.clauses,
      length-replicate {A = ℕ} (p.streams * p.lines) 0,
      fits.clauses,
    )) here)

-- The thread states

opening_agrees : (f : Cnf) (p : LayoutValue) (words : List ℕ) (s : ℕ) → IsStream p s → Agrees f p [] words (opening_thread f p s)
opening_agrees f p words s stream = record {
  formula = refl;
  layout = refl;
  stream = stream;
  begins = ([], refl);
  seen = refl;
  mine = refl;
  spelt = refl;
  top = omega arith;
  room = omega arith;
  draft = tt;
}

all_agree : (f : Cnf) (p : LayoutValue) (words : List ℕ) (s count : ℕ) → 0 < s → s + count ≤ p.streams + 1
    → AllByRecursion (Agrees f p [] words) (opening_threads f p s count)
all_agree f p words s zero positive within = tt
all_agree f p words s (suc count) positive within =
    (opening_agrees f p words s (positive, omega arith), all_agree f p words (s + 1) count (omega arith) (omega arith))

counted_below : (f : Cnf) (p : LayoutValue) (s count t : ℕ) → t < s → count_in t (opening_threads f p s count) ≡ 0
counted_below f p s zero t below = refl
counted_below f p s (suc count) t below =
    let none : ◌≡◌ {A = ℕ} (cond (eqb s t) 1 0) 0 = cond-false (eqb s t) 1 0 (ne_eqb s t (λ same. omega arith)) in
    let rest = counted_below f p (s + 1) count t (omega arith) in
    omega arith

counted_once : (f : Cnf) (p : LayoutValue) (s count t : ℕ) → count_in t (opening_threads f p s count) ≤ 1
counted_once f p s zero t = omega arith
counted_once f p s (suc count) t =
    elim (cases_eq s t) [
      | inl same ↦
          let one : ◌≡◌ {A = ℕ} (cond (eqb s t) 1 0) 1 = cond-true (eqb s t) 1 0 (eq-eqb s t same) in
          let rest = counted_below f p (s + 1) count t (omega arith) in
          omega arith
      | inr other ↦
          let none : ◌≡◌ {A = ℕ} (cond (eqb s t) 1 0) 0 = cond-false (eqb s t) 1 0 (ne_eqb s t other) in
          let rest = counted_once f p (s + 1) count t in
          omega arith
    ]

-- the rule holds at the opening
pub opens : {S : Type 0} (f : Cnf) (p : LayoutValue) (homes : List (Maybe.Option S)) → IsCnf f → IsLayout p → Fits p f
    → HoldsRowInvariant {S = S} f p (record { words = opening_words f p; homes = homes; views = opening_threads f p 1 p.streams ∷ [] })
opens f p homes cnf layout fits =
    let xs = clauses_spelling 1 (1 + last_identity p) f.clauses in
    let same : xs ++ [] ≡ xs = append-nil xs in (
      [],
      record {
        plan = record { formula = cnf; layout = layout; fits = fits };
        legal = record { events = tt; room = λ s. omega arith };
        count = length-opening_words f p fits;
        first = refl;
        slots = λ id identity. opening_slot f p id fits identity ∙ ap (λ ys. word_of (opening f id) (stored_in ys id)) (sym same);
        texts = λ id stored there. opening_text f p id stored fits (ap (λ ys. stored_in ys id) (sym same) ∙ there);
        threads = (all_agree f p (opening_words f p) 1 p.streams (omega arith) (omega arith), tt);
        once = λ s. omega (arith, counted_once f p 1 p.streams s);
      },
    )

-- The seats

pub opening_fair : (f : Cnf) (p : LayoutValue) (s : ℕ) → IsPlan f p → IsStream p s → IsFair (opening_thread f p s).view
opening_fair f p s plan stream = record {
  caller = record { formula = plan.formula; layout = plan.layout; fits = plan.fits; stream = stream };
  legal = record { events = tt; room = λ t. omega arith };
  mine = refl;
  spelt = spelt f p [] tt;
}

left_next : (n i : ℕ) → i < n → n - i ≡ suc (n - (i + 1))
left_next n i within = omega arith

pub threads_next : (f : Cnf) (p : LayoutValue) (s n i : ℕ) → i < n
    → opening_threads f p s (n - i) ≡ opening_thread f p s ∷ opening_threads f p (s + 1) (n - (i + 1))
threads_next f p s n i within = ap (opening_threads f p s) (left_next n i within)

pub first_next : (p : LayoutValue) (i : ℕ) → first_place p (i + 1) + p.room ≡ first_place p (i + 1 + 1)
first_next p i =
    let here : (i + 1 - 1) * p.room ≡ i * p.room = ap (λ (n : ℕ). n * p.room) (omega arith) in
    let there : (i + 1 + 1 - 1) * p.room ≡ (i + 1) * p.room = ap (λ (n : ℕ). n * p.room) (omega arith) in
    omega arith

-- the seat of stream s, given out at the opening, is sound
pub dealt : {S : Type 0} (f : Cnf) (p : LayoutValue) (s : ℕ) (table : TableId) (me : Me S (List ThreadState)) (top room : ℕ) → IsPlan f p
    → IsStream p s → table.words ≡ row_words p
    → me ≡ (opening_thread f p s ∷ [], []) → top ≡ first_place p s → room ≡ p.room → IsSeated {S = S} table me top 0 room
dealt {S} f p s table me top room plan stream words whole at all = rw whole (record {
  one = refl;
  fair = opening_fair f p s plan stream;
  words = words;
  top_is = omega arith;
  draft_is = refl;
  top_kept = at;
  room_kept = omega arith;
  within = omega arith;
})

pub get_old : {X : Type 0} (xs : List X) (x a : X) (k : ℕ) → slice_get xs k ≡ Some a → slice_get (xs ++ x ∷ []) k ≡ Some a
get_old [] x a k here = absurd (cc)
get_old (y ∷ xs) x a zero here = here
get_old (y ∷ xs) x a (suc k) here = get_old xs x a k here

pub get_new : {X : Type 0} (xs : List X) (x : X) (k : ℕ) → length xs ≡ k → slice_get (xs ++ x ∷ []) k ≡ Some x
get_new [] x zero len = refl
get_new [] x (suc k) len = absurd (omega arith)
get_new (y ∷ xs) x zero len = absurd (omega arith)
get_new (y ∷ xs) x (suc k) len = get_new xs x k (omega arith)
