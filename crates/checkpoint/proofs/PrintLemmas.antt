-- The text of a formula, in the parts that are written one after the other.
use Rattle.std.proofs.Common.{◌≡◌, ◌≤◌, ◌<◌, ◌≢◌, ◌+◌, ◌*◌, ◌++◌, ◌∷◌, ℕ, ℤ, List, [], length, map, take, drop, get_or, Option, Some, inl}
use Rattle.std.proofs.Common.{inr, refl, sym, ap, subst, ◌∙◌, add-one, arith}
use Rattle.std.specs.Prelude.{codes, flat_map, slice_get, Result}
use Rattle.std.specs.Fmt.{decimal, signed_decimal}
use Rattle.std.proofs.lemmas.Grind.{flat_map-append}
use Rattle.std.proofs.lemmas.Option.{slice_get_cases}
use Rattle.std.proofs.lemmas.List.{append_assoc, append-nil, flat_map_more, map_more, map-append, take_all, take-append-drop, length-map}
use Rattle.std.proofs.lemmas.List.{length-take}
use Rattle.std.proofs.lemmas.Bool.{eq-eqb, ne_eqb}
use Rattle.lrup_model.specs.Clause.{Clause}
use Rattle.lrup_model.specs.lemmas.ClauseLemmas.{take-next}
use Rattle.lrup_model.specs.CallerView.{ClipValue}
use Rattle.lrup_text.specs.Writing.{Puts, PutsAll}
use Rattle.checkpoint.specs.Live.{Entry}
use Rattle.checkpoint.specs.Printing.{clause_line, entries_text, entry_text, formula_text, header_line, note}

-- a literal, and a space after it
abbrev pub literal_text : ℤ → List ℕ
literal_text l = signed_decimal l ++ codes " "

abbrev pub literals_text : Clause → List ℕ
literals_text c = flat_map literal_text c

module _ (c : Clause) (k : ℕ) where
  literals_next : (l : ℤ) → slice_get c k ≡ Some l → literals_text (take (k + 1) c) ≡ literals_text (take k c) ++ literal_text l
  literals_next l at =
      ap literals_text (ap (λ n. take n c) (add-one k) ∙ take-next c k l at) ∙ sym (flat_map_more literal_text [] (take k c) l)

  pub literals_split : (l : ℤ) → slice_get c k ≡ Some l
      → clause_line c ≡ (literals_text (take k c) ++ literal_text l) ++ (literals_text (drop (k + 1) c) ++ codes "0\n")
  unfolding clause_line
  literals_split l at =
      ap (λ t. t ++ codes "0\n")
      (ap literals_text (sym (take-append-drop (k + 1) c)) ∙ flat_map-append literal_text (take (k + 1) c) (drop (k + 1) c)
      ∙ ap (λ t. t ++ literals_text (drop (k + 1) c)) (literals_next l at))
      ∙ append_assoc (literals_text (take k c) ++ literal_text l) (literals_text (drop (k + 1) c)) (codes "0\n")

  pub literals_all : length c ≤ k → clause_line c ≡ literals_text (take k c) ++ codes "0\n"
  unfolding clause_line
  literals_all all = ap (λ d. literals_text d ++ codes "0\n") (sym (take_all k c all))

-- a pair of literals, the second of which may be missing
module _ (c : Clause) (i : ℕ) (first : ℤ) (at : slice_get c (2 * i) ≡ Some first) where
  pub pair_first : literals_text (take (2 * i + 1) c) ≡ literals_text (take (2 * i) c) ++ literal_text first
  pair_first = literals_next c (2 * i) first at

  pub pair_both : (second : ℤ) → slice_get c (2 * i + 1) ≡ Some second
      → literals_text (take (2 * (i + 1)) c) ≡ (literals_text (take (2 * i) c) ++ literal_text first) ++ literal_text second
  pair_both second at' =
      let next : 2 * (i + 1) ≡ 2 * i + 1 + 1 = omega arith in
      ap (λ n. literals_text (take n c)) next ∙ literals_next c (2 * i + 1) second at' ∙ ap (λ t. t ++ literal_text second) pair_first

  pub pair_split : (second : ℤ) → slice_get c (2 * i + 1) ≡ Some second
      → clause_line c ≡ ((literals_text (take (2 * i) c) ++ literal_text first) ++ literal_text second)
      ++ (literals_text (drop (2 * i + 1 + 1) c) ++ codes "0\n")
  pair_split second at' =
      literals_split c (2 * i + 1) second at'
      ∙ ap (λ t. (t ++ literal_text second) ++ (literals_text (drop (2 * i + 1 + 1) c) ++ codes "0\n")) pair_first

  pub pair_alone : ((l : ℤ) → ¬ (slice_get c (2 * i + 1) ≡ Some l))
      → literals_text (take (2 * (i + 1)) c) ≡ literals_text (take (2 * i) c) ++ literal_text first
  pair_alone none =
      let short : length c ≤ 2 * i + 1 = elim (slice_get_cases c (2 * i + 1)).1 [
        | inl found ↦ absurd (none found.0 found.2)
        | inr short ↦ short.0
      ] in
      ap literals_text (take_all (2 * (i + 1)) c (omega (arith, short)) ∙ sym (take_all (2 * i + 1) c short)) ∙ pair_first

-- a clause's note: empty if the identity is the clause's number, otherwise a line
pub note_none : (id place : ℕ) → id ≡ place → note id place ≡ []
unfolding note
note_none id place same = rw (eq-eqb id place same) refl

pub note_some : (id place : ℕ) → id ≢ place → note id place ≡ codes "c id " ++ decimal id ++ codes "\n"
unfolding note
note_some id place other = rw (ne_eqb id place other) refl

-- the text of two appended lists is the text of the first, then the text of the second
entries_text-append : (place : ℕ) (xs ys : List Entry)
    → entries_text place (xs ++ ys) ≡ entries_text place xs ++ entries_text (place + length xs) ys
entries_text-append place [] ys = let same : place ≡ place + 0 = omega arith in ap (λ n. entries_text n ys) same
entries_text-append place (x ∷ xs) ys =
    let same : place + 1 + length xs ≡ place + length (x ∷ xs) = omega arith in
    ap (λ t. entry_text place x ++ t)
    (entries_text-append (place + 1) xs ys ∙ ap (λ n. entries_text (place + 1) xs ++ entries_text n ys) same)
    ∙ sym (append_assoc (entry_text place x) (entries_text (place + 1) xs) (entries_text (place + length (x ∷ xs)) ys))

-- the header and the texts of the first k clauses
abbrev pub header_entries : ℕ → (ClipValue → Entry) → List ClipValue → ℕ → List ℕ
header_entries vars entry clips k = header_line vars (length clips) ++ entries_text 1 (map entry (take k clips))

-- the texts of the clauses after the first k
abbrev pub later_entries : (ClipValue → Entry) → List ClipValue → ℕ → List ℕ
later_entries entry clips k = entries_text (1 + k) (map entry (drop k clips))

module _ (vars : ℕ) (entry : ClipValue → Entry) (clips : List ClipValue) where
  pub header_first : formula_text vars (map entry clips) ≡ header_line vars (length clips) ++ entries_text 1 (map entry clips)
  unfolding formula_text
  header_first = ap (λ n. header_line vars n ++ entries_text 1 (map entry clips)) (length-map clips entry)

  pub entries_next : (k : ℕ) (d : ClipValue) → k < length clips
      → header_entries vars entry clips (k + 1) ≡ header_entries vars entry clips k ++ entry_text (k + 1) (entry (get_or clips k d))
  entries_next k d inside =
      let at : 1 + length (map entry (take k clips)) ≡ k + 1 = omega (arith, length-map (take k clips) entry, length-take k clips) in
      let this : Entry = entry (get_or clips k d) in
      ap (λ t. header_line vars (length clips) ++ t)
      (ap (entries_text 1) (map_more entry clips k d inside) ∙ entries_text-append 1 (map entry (take k clips)) (this ∷ [])
      ∙ ap (λ n. entries_text 1 (map entry (take k clips)) ++ entries_text n (this ∷ [])) at
      ∙ ap (λ t. entries_text 1 (map entry (take k clips)) ++ t) (append-nil (entry_text (k + 1) this)))
      ∙ sym (append_assoc (header_line vars (length clips)) (entries_text 1 (map entry (take k clips))) (entry_text (k + 1) this))

  -- the whole text, cut after the first clauses
  entries_cut : (k : ℕ) → k ≤ length clips
      → formula_text vars (map entry clips) ≡ header_entries vars entry clips k ++ later_entries entry clips k
  entries_cut k inside =
      let at : 1 + length (map entry (take k clips)) ≡ 1 + k = omega (arith, length-map (take k clips) entry, length-take k clips) in
      header_first
      ∙ ap (λ t. header_line vars (length clips) ++ t)
      (ap (λ (cs : List ClipValue). entries_text 1 (map entry cs)) (sym (take-append-drop k clips))
      ∙ ap (entries_text 1) (map-append entry (take k clips) (drop k clips))
      ∙ entries_text-append 1 (map entry (take k clips)) (map entry (drop k clips))
      ∙ ap (λ n. entries_text 1 (map entry (take k clips)) ++ entries_text n (map entry (drop k clips))) at)
      ∙ sym (append_assoc (header_line vars (length clips)) (entries_text 1 (map entry (take k clips))) (later_entries entry clips k))

  pub entries_split : (k : ℕ) (d : ClipValue) → k < length clips
      → formula_text vars (map entry clips) ≡ (header_entries vars entry clips k ++ entry_text (k + 1) (entry (get_or clips k d)))
      ++ later_entries entry clips (k + 1)
  entries_split k d inside = entries_cut (k + 1) (omega arith) ∙ ap (λ t. t ++ later_entries entry clips (k + 1)) (entries_next k d inside)

  pub entries_all : (k : ℕ) → length clips ≤ k → formula_text vars (map entry clips) ≡ header_entries vars entry clips k
  entries_all k all = header_first
      ∙ ap (λ (cs : List ClipValue). header_line vars (length clips) ++ entries_text 1 (map entry cs)) (sym (take_all k clips all))

-- `PutsAll` holds for an equal text, too
pub puts_all_as : {E : Type 0} (r : Result (Unit {0}) E) (a b : Option (List ℕ)) (h i : List ℕ) {x z : List ℕ} → PutsAll r a b h i x → z ≡ x
    → PutsAll r a b h i z
puts_all_as r a b h i {x} {z} puts is = subst (λ t. PutsAll r a b h i t) (sym is) puts

pub puts_as : {a b : Option (List ℕ)} {h i x z : List ℕ} → Puts a b h i x → z ≡ x → Puts a b h i z
puts_as {a} {b} {h} {i} puts is = subst (λ t. Puts a b h i t) (sym is) puts
