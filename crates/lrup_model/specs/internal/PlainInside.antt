-- How the clause map of one thread is stored: an entry for each identity, and all literals in one
-- list (this project's own).
use Rattle.std.specs.Prelude.{◌≡◌, ◌+◌, ◌≤◌, ℕ, ℤ, List, [], ◌∷◌, ◌++◌, length, map, sum, slice_range}
use Rattle.std.specs.List.{AllByRecursion}
use Rattle.std.specs.Prelude.{◌≢◌, ◌-◌, ◌<◌, slice_index, slice_set}
use Rattle.lrup_model.specs.Clause.{Clause}
use Rattle.lrup_model.specs.Layout.{LayoutValue, IsLayout, last_identity, max_row_words}
use Rattle.lrup_model.specs.Plain as plain
use Rattle.lrup_model.specs.Plain.{PlainSlot, Plain, formula_of}
use Rattle.lrup_model.specs.declared.plain_map.Entry.{Entry}
use Rattle.lrup_model.specs.declared.plain_map.Entry.TheVariants as entries
use Rattle.lrup_model.specs.Formula.{Cnf}
use Rattle.lrup_model.specs.Entailment.{IsDerived}
use Rattle.lrup_model.specs.State.{IsLive}
use Rattle.lrup_model.specs.CallerView.{StoredClause}
use Rattle.lrup_model.specs.declared.clause_map.Fetched.{Fetched}
use Rattle.lrup_model.specs.declared.clause_map.Fetched.TheVariants as fetched
use Rattle.lrup_model.specs.declared.clause_map.Published.{Published}
use Rattle.lrup_model.specs.declared.clause_map.Published.TheVariants as publishing
use Rattle.lrup_model.specs.declared.clause_map.Retired.{Retired}
use Rattle.lrup_model.specs.declared.clause_map.Retired.TheVariants as retiring
use Rattle.lrup_model.specs.Plain.{vacant, live, retired, slot_of, plain_slot_at}

-- the slot of this entry
abbrev pub plain_slot_in : List ℤ → Entry → PlainSlot
plain_slot_in literals entries.Vacant = plain.vacant
plain_slot_in literals (entries.Live start len) =
    plain.live (record { start = start; literals = slice_range literals start (start + len) })
plain_slot_in literals (entries.Retired start len) =
    plain.retired (record { start = start; literals = slice_range literals start (start + len) })

abbrev pub plain_of : LayoutValue → List Entry → List ℤ → List ℕ → Plain
plain_of layout entry_list literals free =
    record { layout = layout; plain_slots = map (plain_slot_in literals) entry_list; free = free }

-- the entry's literals are inside the list
abbrev pub LiesWithin : ℕ → Entry → Type 0
LiesWithin count entries.Vacant = Unit {0}
LiesWithin count (entries.Live start len) = start + len ≤ count
LiesWithin count (entries.Retired start len) = start + len ≤ count

-- the formula's clauses are live
abbrev pub IsFormulaLive : Plain → Type 0
IsFormulaLive plain =
    (id : ℕ) → 0 < id → id ≤ plain.layout.clauses
    → (stored : StoredClause) × (plain_slot_at plain id ≡ live stored)

-- the stored clause, if any, follows from the formula
abbrev pub StoresClause : Cnf → PlainSlot → Type 0
StoresClause formula vacant = Unit {0}
StoresClause formula (live stored) = IsDerived formula stored.literals
StoresClause formula (retired stored) = IsDerived formula stored.literals

-- The invariant of the map. The list of literals has memory for `capacity` literals, which is
-- enough for all clauses that the streams may still publish.
pub record IsPlainSound (layout : LayoutValue) (entry_list : List Entry) (literals : List ℤ)
    (free : List ℕ) (capacity : ℕ) : Type 0 where
  pub limits : IsLayout layout
  pub count : length entry_list ≡ last_identity layout + 1
  pub streams : length free ≡ layout.streams
  pub within : AllByRecursion (LiesWithin (length literals)) entry_list
  pub reserved : length literals + sum free ≤ capacity
  pub small : length literals + sum free ≤ max_row_words
  pub formula : IsFormulaLive (plain_of layout entry_list literals free)
  pub clauses : AllByRecursion
      (StoresClause (formula_of (plain_of layout entry_list literals free)))
      (map (plain_slot_in literals) entry_list)

-- the literals of all clauses, clause by clause
abbrev pub flat : List Clause → List ℤ
flat [] = []
flat (clause ∷ clauses) = clause ++ flat clauses

-- live entries for these clauses; the first of them starts at `from`
abbrev pub entries_from : ℕ → List Clause → List Entry
entries_from from [] = []
entries_from from (clause ∷ clauses) =
    entries.Live from (length clause) ∷ entries_from (from + length clause) clauses

-- the result of a fetch of an identity, given what is stored under it
abbrev pub fetched_of : ℕ → PlainSlot → Fetched
fetched_of id vacant = fetched.Vacant
fetched_of id (live stored) =
    fetched.Live (record { id = id; len = length stored.literals; start = stored.start })
fetched_of id (retired stored) = fetched.Retired

-- how a publish with this result changes the map; the stream's room is at `index` in `free`,
-- counting from 0
abbrev pub AfterPublish : Plain → Plain → ℕ → ℕ → Clause → Published → Type 0
AfterPublish old new index id clause publishing.Done =
    (index < length old.free) × (id < length old.plain_slots) × (plain_slot_at old id ≡ vacant)
    × (start : ℕ) × (new
    ≡ record {
      layout = old.layout;
      plain_slots =
          slice_set old.plain_slots id (live (record { start = start; literals = clause }));
      free = slice_set old.free index (slice_index old.free index - length clause);
    })
AfterPublish old new index id clause publishing.Taken =
    (plain_slot_at old id ≢ vacant) × (new ≡ old)

abbrev pub AfterRetire : Plain → Plain → ℕ → Retired → Type 0
AfterRetire old new id retiring.Done =
    (id < length old.plain_slots) × (stored : StoredClause) × (plain_slot_at old id ≡ live stored)
    × (new ≡ record {
      layout = old.layout;
      plain_slots = slice_set old.plain_slots id (retired stored);
      free = old.free;
    })
AfterRetire old new id retiring.NotLive = (¬ IsLive (slot_of (plain_slot_at old id))) × (new ≡ old)
