-- Valid lines are judged good, by events with which a legal history may continue.
use Rattle.std.proofs.Common.{◌≡◌, ◌≢◌, ◌⊎◌, ◌<◌, ◌≤◌, ◌+◌, ◌-◌, ◌%◌, ℕ, ℤ, Bool, true, false, cond, eqb, List, [], ◌∷◌, ◌++◌}
use Rattle.std.proofs.Common.{length, map, Option, Some, None, inl, inr, refl, sym, ap, subst, ◌∙◌, arith, eq-eqb, ne_eqb, leb, leb-true}
use Rattle.std.specs.Prelude.{IsSome, ◌&&◌, ◌||◌, ◌==◌}
use Rattle.std.specs.List.{AllByRecursion, AllZip, sum_by}
use Rattle.std.proofs.lemmas.Bool.{cases_Bool, cases_eq, cond-true, cond-false, true≢false}
use Rattle.std.proofs.lemmas.List.Sums.{sum_by-append, sum_by-cons}
use Rattle.lrup_model.specs.Clause.{Clause, IsClause}
use Rattle.lrup_model.specs.Distinct.{distinct}
use Rattle.lrup_model.specs.lemmas.DistinctLemmas.{IsClause-distinct, length-distinct}
use Rattle.lrup_model.specs.Entailment.{Follows}
use Rattle.lrup_model.specs.Event as events
use Rattle.lrup_model.specs.Event.{History, stream_of, size_of}
use Rattle.lrup_model.specs.Formula.{Cnf}
use Rattle.lrup_model.specs.History.{LegalFrom}
use Rattle.lrup_model.specs.lemmas.HistoryLemmas.{put, put-same, put-other, vacant_above_stays}
use Rattle.lrup_model.specs.lemmas.EntryLemmas.{run-advances}
use Rattle.lrup_model.specs.Laws.{Advances}
use Rattle.lrup_model.specs.Layout.{LayoutValue, Fits, IsIdentity, Owns, owner, last_identity}
use Rattle.lrup_model.specs.lemmas.OwnerLemmas.{owned}
use Rattle.lrup_model.specs.lemmas.RunningLemmas.{run-append, legal-append, callers-append}
use Rattle.lrup_model.specs.State.{State, Slot, absent, live, retired, IsLive, retire_slot, run, AreVacantAbove}
use Rattle.lrup_model.specs.declared.clause_map.Retired.TheVariants as retiring
use Rattle.lrup_model.specs.declared.layout.Owner.{Owner}
use Rattle.lrup_model.specs.declared.layout.Owner.TheVariants as owners
use Rattle.lrup_model.specs.lemmas.EntailmentLemmas.{propagation_sound}
use Rattle.lrup_text.specs.Lines.{StreamLine, Addition, Deletion, Import, IsWithinLimits}
use Rattle.stream_check.specs.declared.params.Ownership.{Ownership}
use Rattle.stream_check.specs.declared.params.Ownership.TheVariants as ownerships
use Rattle.stream_check.specs.lemmas.AdditionLemmas.{literals_within}
use Rattle.stream_check.specs.Additions.{IsValidAddition, published_by}
use Rattle.stream_check.specs.Lookup.{FetchesHint, AreFound}
use Rattle.stream_check.specs.Deletions.{DeletesAt, DropsThen, JudgesDeletion}
use Rattle.stream_check.specs.Imports.{IsValidImport}
use Rattle.stream_check.specs.Judging.{JudgesLine}
use Rattle.stream_check.specs.Reaching.{context_after}
use Rattle.stream_check.specs.StreamParams.{StreamParams, ownership_of, is_shared}
use Rattle.stream_check.specs.StreamContext.{StreamContext, is_among}
use Rattle.stream_check.specs.Verdicts.{Good}
use Rattle.run_laws.proofs.VerdictLemmas.{or_none}
use Rattle.run_laws.specs.Valid.{is_own, beside_line}
use Rattle.run_laws.proofs.SwapLemmas.{mine_or_not}
use Rattle.run_laws.specs.Valid.{Database, after_line, after_step, AreDistinct, AreValidTogether, IsValidDeletion, IsValidLine, Step}

-- Lines of only one stream as an order of lines

-- each line is valid after those before it
abbrev pub AreValid : LayoutValue → ℕ → Database → List StreamLine → Type 0
AreValid layout s base [] = Unit {0}
AreValid layout s base (line ∷ lines) = IsValidLine layout s base line × AreValid layout s (after_line base line) lines

abbrev pub steps_of : ℕ → List StreamLine → List Step
steps_of s lines = map (λ line. record { stream = s; line = line }) lines

after_own : (p : LayoutValue) (s : ℕ) (line : StreamLine) (bases : ℕ → Database)
    → after_step p (record { stream = s; line = line }) bases s ≡ after_line (bases s) line
after_own p s line bases = cond-true (eqb s s) (after_line (bases s) line) (beside_line p s (bases s) line) (eq-eqb s s refl)

pub alone_valid : (p : LayoutValue) (s : ℕ) (lines : List StreamLine) (bases : ℕ → Database)
    → AreValidTogether p bases (steps_of s lines) → AreValid p s (bases s) lines
alone_valid p s [] bases valid = tt
alone_valid p s (line ∷ lines) bases valid = (
  valid.0,
  rw (after_own p s line bases) at (alone_valid p s lines (after_step p (record { stream = s; line = line }) bases) valid.1),
)

-- Who owns an identity

-- the identity belongs to the formula or to a stream
abbrev pub IsOneOf : LayoutValue → ℕ → Type 0
IsOneOf p id = (owner p id ≡ owners.Formula) ⊎ ((t : ℕ) × Owns p t id)

-- what an identity with this owner is to the stream
abbrev pub ownership_by : StreamParams → Owner → Ownership
ownership_by c o = elim o [
  | owners.Formula ↦ ownerships.Formula
  | owners.Stream s ↦ cond (eqb s c.stream) ownerships.Own ownerships.Foreign
  | owners.Outside ↦ ownerships.Outside
]

pub formulas_ownership : (c : StreamParams) (id : ℕ) → owner c.layout id ≡ owners.Formula → ownership_of c id ≡ ownerships.Formula
formulas_ownership c id is = ap (ownership_by c) is

pub own_ownership : (c : StreamParams) (id : ℕ) → Owns c.layout c.stream id → ownership_of c id ≡ ownerships.Own
own_ownership c id owns =
    ap (ownership_by c) owns ∙ cond-true (eqb c.stream c.stream) ownerships.Own ownerships.Foreign (eq-eqb c.stream c.stream refl)

others_ownership : (c : StreamParams) (id t : ℕ) → Owns c.layout t id → t ≢ c.stream → ownership_of c id ≡ ownerships.Foreign
others_ownership c id t owns other =
    ap (ownership_by c) owns ∙ cond-false (eqb t c.stream) ownerships.Own ownerships.Foreign (ne_eqb t c.stream other)

-- an identity of the formula isn't above the formula's last one
formulas_within : (a b d : Bool) (s : ℕ)
    → cond a owners.Outside (cond b owners.Formula (cond d (owners.Stream s) owners.Outside)) ≡ owners.Formula
    → (a ≡ false) × (b ≡ true)
formulas_within true b d s is = absurd (let no : owners.Outside ≡ owners.Formula = is in cc)
formulas_within false true d s is = (refl, refl)
formulas_within false false true s is = absurd (let no : owners.Stream s ≡ owners.Formula = is in cc)
formulas_within false false false s is = absurd (let no : owners.Outside ≡ owners.Formula = is in cc)

-- What lines leave

-- these agree: the database after some lines of stream s, the context of these lines, and the map
-- after all events
pub record Agrees (f : Cnf) (p : LayoutValue) (s : ℕ) (base : Database) (st : StreamContext) (m : State) : Type 0 where
  pub last : st.last ≡ base.last
  pub free : st.free ≡ base.free
  pub there : (id : ℕ) (d : Clause) → base.clauses id ≡ Some d → m id ≡ live d
  pub kept : (id : ℕ) (d : Clause) → base.clauses id ≡ Some d → st.is_dropped id ≡ false
  pub known : (id : ℕ) (d : Clause) → base.clauses id ≡ Some d → IsOneOf p id
  pub sound : (id : ℕ) (d : Clause) → base.clauses id ≡ Some d → IsClause f.vars d × Follows f d
  pub own : (id : ℕ) → Owns p s id → st.is_dropped id ≡ false
  pub unseen : (id : ℕ) → m id ≡ absent → st.is_dropped id ≡ false
  pub vacant : AreVacantAbove p s m base.last

-- this block judges the line good, is legal here, and uses exactly as much room as the line
pub record Goes (f : Cnf) (c : StreamParams) (base : Database) (st : StreamContext) (m : State) (line : StreamLine) : Type 0 where
  pub block : History
  pub judged : JudgesLine c st line block Good
  pub legal : LegalFrom f c.layout m block
  pub callers : AllByRecursion (λ e. stream_of e ≡ c.stream) block
  pub room : sum_by size_of block + (after_line base line).free ≡ base.free
  pub next : Agrees f c.layout c.stream (after_line base line) (context_after c st line) (run m block)
  pub beside : (t : ℕ) (its : Database) (also : StreamContext) → t ≢ c.stream → Agrees f c.layout t its also m
      → Agrees f c.layout t (beside_line c.layout c.stream its line) also (run m block)

-- Additions

-- the fetches of the hints, which find these clauses
record Finds (f : Cnf) (c : StreamParams) (is_dropped : ℕ → Bool) (m : State) (hints : List ℕ) (ds : List Clause) : Type 0 where
  fetches : History
  found : AreFound c is_dropped hints ds fetches
  legal : LegalFrom f c.layout m fetches
  callers : AllByRecursion (λ e. stream_of e ≡ c.stream) fetches
  still : run m fetches ≡ m
  size : sum_by size_of fetches ≡ 0
  sound : AllByRecursion (λ d. IsClause f.vars d × Follows f d) ds

pub formulas_near : (p : LayoutValue) (id : ℕ) → owner p id ≡ owners.Formula → (0 < id) × (id ≤ p.clauses)
formulas_near p id is =
    let tests = formulas_within (eqb id 0) (leb id p.clauses) (leb id (last_identity p)) ((id - p.clauses - 1) % p.streams + 1) is in
    elim (cases_eq id 0) [
      | inl nil ↦ absurd (true≢false (sym (eq-eqb id 0 nil) ∙ tests.0))
      | inr some ↦ (omega arith, leb-true id p.clauses tests.1)
    ]

asks_once : (c : StreamParams) (id : ℕ) (d : Clause) → IsOneOf c.layout id
    → FetchesHint c id (events.fetch c.stream id (events.live d) ∷ []) (events.live d)
asks_once c id d (inl is) = rw (formulas_ownership c id is) refl
asks_once c id d (inr its) = elim (cases_eq its.0 c.stream) [
  | inl same ↦ rw (own_ownership c id (rw same at its.1)) refl
  | inr other ↦
      rw (others_ownership c id its.0 its.1 other)
      (0, omega arith, (λ vacant. absurd (let no : events.live d ≡ events.vacant = vacant in cc)), refl)
]

is_identity : (p : LayoutValue) (id : ℕ) → 0 < p.streams → IsOneOf p id → IsIdentity p id
is_identity p id some (inl is) = let is = formulas_near p id is in (is.0, omega (arith, is.1))
is_identity p id some (inr its) = let is = owned p its.0 id some its.1 in (omega (arith, is.derived), is.identity)

finds : (f : Cnf) (c : StreamParams) (base : Database) (st : StreamContext) (m : State) (hints : List ℕ) (ds : List Clause)
    → 0 < c.layout.streams → Agrees f c.layout c.stream base st m → AllZip (λ h d. base.clauses h ≡ Some d) hints ds
    → Finds f c st.is_dropped m hints ds
finds f c base st m [] [] some a named = record {
  fetches = [];
  found = refl;
  legal = tt;
  callers = tt;
  still = refl;
  size = refl;
  sound = tt;
}
finds f c base st m [] (d ∷ ds) some a named = absurd named
finds f c base st m (h ∷ hints) [] some a named = absurd named
finds f c base st m (h ∷ hints) (d ∷ ds) some a named =
    let rest : Finds f c st.is_dropped m hints ds = finds f c base st m hints ds some a named.1 in
    let known = a.known h d named.0 in
    let e = events.fetch c.stream h (events.live d) in
    record {
      fetches = e ∷ rest.fetches;
      found = (e ∷ [], rest.fetches, refl, inr (a.kept h d named.0, events.live d, asks_once c h d known, refl), rest.found);
      legal = (a.there h d named.0, is_identity c.layout h some known, rest.legal);
      callers = (refl, rest.callers);
      still = rest.still;
      size = omega (arith, sum_by-cons size_of e rest.fetches, rest.size);
      sound = (a.sound h d named.0, rest.sound);
    }

pub neither : (a b : Bool) → a ≡ false → (a || (b && false)) ≡ false
neither true b is = is
neither false true is = refl
neither false false is = refl

back : (old new : Slot) → Advances old new → new ≡ absent → old ≡ absent
back absent new advances is = refl
back (live c) absent advances is = absurd advances
back (live c) (live d) advances is = absurd (let no : live d ≡ absent = is in cc)
back (live c) (retired d) advances is = absurd (let no : retired d ≡ absent = is in cc)
back (retired c) absent advances is = absurd advances
back (retired c) (live d) advances is = absurd advances
back (retired c) (retired d) advances is = absurd (let no : retired d ≡ absent = is in cc)

-- what is absent after legal events was absent before
was_absent : (f : Cnf) (p : LayoutValue) (m : State) (es : History) (id : ℕ) → LegalFrom f p m es → run m es id ≡ absent → m id ≡ absent
was_absent f p m es id legal is = back (m id) (run m es id) (run-advances f p m es id legal) is

pub not_callers : (s t : ℕ) (es : History) → t ≢ s → AllByRecursion (λ e. stream_of e ≡ s) es → AllByRecursion (λ e. stream_of e ≡ t → ⊥) es
not_callers s t [] other all = tt
not_callers s t (e ∷ es) other all = (λ same. other (sym same ∙ all.0), not_callers s t es other all.1)

addition_goes : (f : Cnf) (c : StreamParams) (base : Database) (st : StreamContext) (m : State)
    (id : ℕ) (lits : List ℤ) (hints : List ℕ)
    → Fits c.layout f → 0 < c.layout.streams → Agrees f c.layout c.stream base st m → IsWithinLimits (Addition id lits hints)
    → IsValidAddition c.layout c.stream base.last base.free (AllZip (λ h d. base.clauses h ≡ Some d)) id lits hints
    → Goes f c base st m (Addition id lits hints)
addition_goes f c base st m id lits hints fits some a limits valid =
    let found : Finds f c st.is_dropped m hints valid.clauses = finds f c base st m hints valid.clauses some a valid.named in
    let e = published_by c id lits in
    let clause = distinct lits in
    let is_clause =
    rw fits.vars at (IsClause-distinct c.layout.vars lits (literals_within c.layout.vars lits limits.1.each valid.literals)) in
    let follows : Follows f clause = propagation_sound f clause valid.clauses found.sound valid.shown in
    let after : run m (found.fetches ++ e ∷ []) ≡ put m id (live clause) =
    run-append m found.fetches (e ∷ []) ∙ ap (λ (n : State). run n (e ∷ [])) found.still in
    let absent_there : m id ≡ absent = a.vacant id valid.owns valid.above in
    let block = found.fetches ++ e ∷ [] in
    let line = Addition id lits hints in
    let legal : LegalFrom f c.layout m block = legal-append f c.layout m found.fetches (e ∷ []) found.legal (rw found.still (
      absent_there,
      (valid.owns, record { clause = is_clause; length = omega (arith, length-distinct lits, limits.1.count); follows = follows }),
      tt,
    )) in
    let callers : AllByRecursion (λ d. stream_of d ≡ c.stream) block =
    callers-append c.stream found.fetches (e ∷ []) found.callers (refl, tt) in
    let other_there : (j : ℕ) (x : Option Clause) (d : Clause) → j ≢ id → cond (eqb j id) (Some clause) x ≡ Some d → x ≡ Some d =
    λ j x d other is. sym (cond-false (eqb j id) (Some clause) x (ne_eqb j id other)) ∙ is in
    let same_there : (j : ℕ) (x : Option Clause) (d : Clause) → j ≡ id → cond (eqb j id) (Some clause) x ≡ Some d → clause ≡ d =
    λ j x d same is. (let found_there : Some clause ≡ Some d = sym (cond-true (eqb j id) (Some clause) x (eq-eqb j id same)) ∙ is in cc) in
    record {
      block = block;
      judged = (
        found.fetches,
        record {
          owns = valid.owns;
          above = omega (arith, a.last, valid.above);
          literals = valid.literals;
          room = omega (arith, a.free, valid.room);
          clauses = valid.clauses;
          named = found.found;
          shown = valid.shown;
        },
        refl,
      );
      legal = legal;
      callers = callers;
      room = omega (arith, sum_by-append size_of found.fetches (e ∷ []), sum_by-cons size_of e [], found.size, valid.room);
      next = rw after (record {
        last = refl;
        free = omega (arith, sum_by-cons (λ (x : ℕ × Clause). length x.1) (id, clause) [], a.free);
        there = λ j d is. elim (cases_eq j id) [
          | inl same ↦ put-same m id (live clause) j same ∙ ap live (same_there j (base.clauses j) d same is)
          | inr other ↦ put-other m id (live clause) j other ∙ a.there j d (other_there j (base.clauses j) d other is)
        ];
        kept = λ j d is. elim (cases_eq j id) [
          | inl same ↦ neither (st.is_dropped j) (is_shared (ownership_of c j)) (a.own j (rw same valid.owns))
          | inr other ↦ neither (st.is_dropped j) (is_shared (ownership_of c j)) (a.kept j d (other_there j (base.clauses j) d other is))
        ];
        known = λ j d is. elim (cases_eq j id) [
          | inl same ↦ inr (c.stream, rw same valid.owns)
          | inr other ↦ a.known j d (other_there j (base.clauses j) d other is)
        ];
        sound = λ j d is. elim (cases_eq j id) [
          | inl same ↦
              subst (λ (x : Clause). IsClause f.vars x × Follows f x) (same_there j (base.clauses j) d same is) (is_clause, follows)
          | inr other ↦ a.sound j d (other_there j (base.clauses j) d other is)
        ];
        own = λ j owns. neither (st.is_dropped j) (is_shared (ownership_of c j)) (a.own j owns);
        unseen = λ j is. neither (st.is_dropped j) (is_shared (ownership_of c j))
            (a.unseen j (was_absent f c.layout m block j legal (ap (λ (n : State). n j) after ∙ is)));
        vacant = λ j owns above. put-other m id (live clause) j (λ same. omega (arith, same, above))
            ∙ a.vacant j owns (omega (arith, above, valid.above));
      });
      beside = λ t its also other b. rw after (record {
        last = b.last;
        free = b.free;
        there = λ j d is. elim (cases_eq j id) [
          | inl same ↦ put-same m id (live clause) j same ∙ ap live (same_there j (its.clauses j) d same is)
          | inr apart ↦ put-other m id (live clause) j apart ∙ b.there j d (other_there j (its.clauses j) d apart is)
        ];
        kept = λ j d is. elim (cases_eq j id) [
          | inl same ↦ b.unseen j (ap m same ∙ absent_there)
          | inr apart ↦ b.kept j d (other_there j (its.clauses j) d apart is)
        ];
        known = λ j d is. elim (cases_eq j id) [
          | inl same ↦ inr (c.stream, rw same valid.owns)
          | inr apart ↦ b.known j d (other_there j (its.clauses j) d apart is)
        ];
        sound = λ j d is. elim (cases_eq j id) [
          | inl same ↦ subst (λ (x : Clause). IsClause f.vars x × Follows f x) (same_there j (its.clauses j) d same is) (is_clause, follows)
          | inr apart ↦ b.sound j d (other_there j (its.clauses j) d apart is)
        ];
        own = b.own;
        unseen = λ j is. b.unseen j (was_absent f c.layout m block j legal (ap (λ (n : State). n j) after ∙ is));
        vacant = rw after at (vacant_above_stays f c.layout m block t its.last legal (not_callers c.stream t block other callers) b.vacant);
      });
    }

-- Deletions

-- what can be deleted: an identity whose clause is live, and that isn't dropped
record CanDelete (c : StreamParams) (is_dropped : ℕ → Bool) (earlier : List ℕ) (m : State) (id : ℕ) : Type 0 where
  known : IsOneOf c.layout id
  kept : is_dropped id ≡ false
  new : is_among earlier id ≡ false
  alive : IsLive (m id)

-- this block judges the deletion of these identities good, is legal here, uses no room, and leaves
-- all other identities unchanged
record DeletionGoes (f : Cnf) (c : StreamParams) (is_dropped : ℕ → Bool) (earlier ids : List ℕ) (m : State) : Type 0 where
  block : History
  judged : JudgesDeletion c is_dropped earlier ids block Good
  legal : LegalFrom f c.layout m block
  callers : AllByRecursion (λ e. stream_of e ≡ c.stream) block
  size : sum_by size_of block ≡ 0
  apart : (j : ℕ) → is_among ids j ≡ false → run m block j ≡ m j
  others : (j : ℕ) → ¬ Owns c.layout c.stream j → run m block j ≡ m j

pub not_or : (a b : Bool) → (a || b) ≡ false → (a ≡ false) × (b ≡ false)
not_or true b is = absurd (true≢false is)
not_or false b is = (refl, is)

pub not_same : (i j : ℕ) → (i == j) ≡ false → i ≢ j
not_same i j test same = true≢false (sym (eq-eqb i j same) ∙ test)

pub among_snoc : (earlier : List ℕ) (id j : ℕ) → is_among earlier j ≡ false → id ≢ j → is_among (earlier ++ id ∷ []) j ≡ false
among_snoc [] id j none other = or_none (id == j) false (ne_eqb id j other) refl
among_snoc (i ∷ earlier) id j none other =
    let parts = not_or (i == j) (is_among earlier j) none in
    or_none (i == j) (is_among (earlier ++ id ∷ []) j) parts.0 (among_snoc earlier id j parts.1 other)

-- after one identity has been deleted, the others can still be deleted
still : (c : StreamParams) (is_dropped : ℕ → Bool) (earlier ids : List ℕ) (id : ℕ) (m n : State)
    → ((j : ℕ) → j ≢ id → n j ≡ m j) → is_among ids id ≡ false
    → AllByRecursion (CanDelete c is_dropped earlier m) ids → AllByRecursion (CanDelete c is_dropped (earlier ++ id ∷ []) n) ids
still c is_dropped earlier [] id m n same once all = tt
still c is_dropped earlier (j ∷ ids) id m n same once all =
    let parts = not_or (j == id) (is_among ids id) once in
    let other : j ≢ id = not_same j id parts.0 in (
      record {
        known = all.0.known;
        kept = all.0.kept;
        new = among_snoc earlier id j all.0.new (λ is. other (sym is));
        alive = subst IsLive (sym (same j other)) all.0.alive;
      },
      still c is_dropped earlier ids id m n same parts.1 all.1,
    )

-- a deletion starts by dropping an identity of the formula or of another stream, without an event
dropped : (f : Cnf) (c : StreamParams) (is_dropped : ℕ → Bool) (earlier ids : List ℕ) (id : ℕ) (m : State)
    → CanDelete c is_dropped earlier m id → AllByRecursion (CanDelete c is_dropped earlier m) ids → is_among ids id ≡ false
    → ((n : State) → AllByRecursion (CanDelete c is_dropped (earlier ++ id ∷ []) n) ids
    → DeletionGoes f c is_dropped (earlier ++ id ∷ []) ids n)
    → (ownership : Ownership) → ownership_of c id ≡ ownership
    → ((es : History) → DropsThen is_dropped earlier id es Good (λ rest. JudgesDeletion c is_dropped (earlier ++ id ∷ []) ids rest Good)
    → DeletesAt ownership c is_dropped earlier id es Good (λ rest. JudgesDeletion c is_dropped (earlier ++ id ∷ []) ids rest Good))
    → DeletionGoes f c is_dropped earlier (id ∷ ids) m
dropped f c is_dropped earlier ids id m can all once go ownership is at =
    let rest = go m (still c is_dropped earlier ids id m m (λ j other. refl) once all) in
    record {
      block = rest.block;
      judged = rw is (at rest.block (inr (or_none (is_dropped id) (is_among earlier id) can.kept can.new, rest.judged)));
      legal = rest.legal;
      callers = rest.callers;
      size = rest.size;
      apart = λ j out. rest.apart j (not_or (id == j) (is_among ids j) out).1;
      others = rest.others;
    }

deletes_one : (f : Cnf) (c : StreamParams) (is_dropped : ℕ → Bool) (earlier ids : List ℕ) (id : ℕ) (m : State)
    → CanDelete c is_dropped earlier m id → AllByRecursion (CanDelete c is_dropped earlier m) ids → is_among ids id ≡ false
    → ((n : State) → AllByRecursion (CanDelete c is_dropped (earlier ++ id ∷ []) n) ids
    → DeletionGoes f c is_dropped (earlier ++ id ∷ []) ids n)
    → IsOneOf c.layout id → DeletionGoes f c is_dropped earlier (id ∷ ids) m
deletes_one f c is_dropped earlier ids id m can all once go (inl is) =
    dropped f c is_dropped earlier ids id m can all once go ownerships.Formula (formulas_ownership c id is) (λ es at. at)
deletes_one f c is_dropped earlier ids id m can all once go (inr its) = elim (cases_eq its.0 c.stream) [
  | inr other ↦ dropped f c is_dropped earlier ids id m can all once go ownerships.Foreign (others_ownership c id its.0 its.1 other)
      (λ es at. at)
  | inl same ↦
      let owns : Owns c.layout c.stream id = rw same at its.1 in
      let n = put m id (retire_slot (m id)) in
      let rest = go n (still c is_dropped earlier ids id m n (λ j other. put-other m id (retire_slot (m id)) j other) once all) in
      let e = events.retire c.stream id retiring.Done in
      record {
        block = e ∷ rest.block;
        judged = rw (own_ownership c id owns) (record { rest = rest.block; decided = inl (refl, rest.judged) });
        legal = (can.alive, owns, rest.legal);
        callers = (refl, rest.callers);
        size = omega (arith, sum_by-cons size_of e rest.block, rest.size);
        apart = λ j out.
            let parts = not_or (id == j) (is_among ids j) out in
            rest.apart j parts.1 ∙ put-other m id (retire_slot (m id)) j (λ is. not_same id j parts.0 (sym is));
        others = λ j not_mine. rest.others j not_mine ∙ put-other m id (retire_slot (m id)) j (λ is. not_mine (rw is owns));
      }
]

deletes : (f : Cnf) (c : StreamParams) (is_dropped : ℕ → Bool) (earlier ids : List ℕ) (m : State)
    → AllByRecursion (CanDelete c is_dropped earlier m) ids → AreDistinct ids → DeletionGoes f c is_dropped earlier ids m
deletes f c is_dropped earlier [] m all once = record {
  block = [];
  judged = (refl, refl);
  legal = tt;
  callers = tt;
  size = refl;
  apart = λ j out. refl;
  others = λ j not_mine. refl;
}
deletes f c is_dropped earlier (id ∷ ids) m all once =
    deletes_one f c is_dropped earlier ids id m all.0 all.1 once.0
    (λ n can. deletes f c is_dropped (earlier ++ id ∷ []) ids n can once.1) all.0.known

-- an identity that is deleted had a live clause
deleted_there : (c : StreamParams) (is_dropped : ℕ → Bool) (m : State) (ids : List ℕ) (j : ℕ)
    → AllByRecursion (CanDelete c is_dropped [] m) ids → is_among ids j ≡ true → IsLive (m j)
deleted_there c is_dropped m [] j all among = absurd (true≢false (sym among))
deleted_there c is_dropped m (id ∷ ids) j all among = elim (cases_eq id j) [
  | inl same ↦ subst (λ (k : ℕ). IsLive (m k)) same all.0.alive
  | inr other ↦ deleted_there c is_dropped m ids j all.1 (sym (ap (λ (b : Bool). b || is_among ids j) (ne_eqb id j other)) ∙ among)
]

some_there : {X : Type 0} (o : Option X) → IsSome o → (x : X) × (o ≡ Some x)
some_there None some = absurd (true≢false (sym some))
some_there (Some x) some = (x, refl)

can_delete : (f : Cnf) (c : StreamParams) (base : Database) (st : StreamContext) (m : State) (ids : List ℕ)
    → Agrees f c.layout c.stream base st m
    → AllByRecursion (λ id. IsSome (base.clauses id)) ids → AllByRecursion (CanDelete c st.is_dropped [] m) ids
can_delete f c base st m [] a all = tt
can_delete f c base st m (id ∷ ids) a all =
    let d = some_there (base.clauses id) all.0 in (
      record {
        known = a.known id d.0 d.1;
        kept = a.kept id d.0 d.1;
        new = refl;
        alive = subst IsLive (sym (a.there id d.0 d.1)) tt;
      },
      can_delete f c base st m ids a all.1,
    )

-- a clause that is left in the database was there before, and wasn't deleted
pub left : (b : Bool) (o : Option Clause) (d : Clause) → cond b None o ≡ Some d → (b ≡ false) × (o ≡ Some d)
left true o d is = absurd (let no : None ≡ Some d = is in cc)
left false o d is = (refl, is)

-- the stream never drops one of its own identities
not_shared : (is_dropped among : Bool) (ownership : Ownership) → is_dropped ≡ false → ownership ≡ ownerships.Own
    → (is_dropped || (is_shared ownership && among)) ≡ false
not_shared is_dropped among ownership kept own =
    or_none is_dropped (is_shared ownership && among) kept (ap (λ (s : Ownership). is_shared s && among) own)

not_among : (is_dropped shared among : Bool) → is_dropped ≡ false → among ≡ false → (is_dropped || (shared && among)) ≡ false
not_among is_dropped true among kept out = or_none is_dropped among kept out
not_among is_dropped false among kept out = or_none is_dropped false kept refl

-- an absent identity isn't among those deleted
not_there : (c : StreamParams) (is_dropped : ℕ → Bool) (m : State) (ids : List ℕ) (j : ℕ) → AllByRecursion (CanDelete c is_dropped [] m) ids
    → m j ≡ absent
    → is_among ids j ≡ false
not_there c is_dropped m ids j can is = elim (cases_Bool (is_among ids j)) [
  | inl among ↦ absurd (subst IsLive is (deleted_there c is_dropped m ids j can among))
  | inr out ↦ out
]

-- if the identity is the stream's own, the test `is_own` says so
own_tested : (p : LayoutValue) (s id : ℕ) → Owns p s id → is_own p s id ≡ true
own_tested p s id owns = ap (λ (o : Owner). elim o [
  | owners.Formula ↦ false
  | owners.Stream t ↦ eqb t s
  | owners.Outside ↦ false
]) owns ∙ eq-eqb s s refl

not_both : (a b : Bool) → (a && b) ≡ false → b ≡ true → a ≡ false
not_both true b none is = absurd (true≢false (sym is ∙ none))
not_both false b none is = refl

-- an identity that isn't the deleter's own, or isn't deleted, is unchanged in the map
untouched : (f : Cnf) (c : StreamParams) (is_dropped : ℕ
    → Bool) (ids : List ℕ) (m : State) (d : DeletionGoes f c is_dropped [] ids m) (j : ℕ)
    → (is_among ids j && is_own c.layout c.stream j) ≡ false → run m d.block j ≡ m j
untouched f c is_dropped ids m d j none = elim (mine_or_not c.layout c.stream j) [
  | inl owns ↦ d.apart j (not_both (is_among ids j) (is_own c.layout c.stream j) none (own_tested c.layout c.stream j owns))
  | inr other ↦ d.others j other
]

deletion_goes : (f : Cnf) (c : StreamParams) (base : Database) (st : StreamContext) (m : State) (lead : ℕ) (ids : List ℕ)
    → Agrees f c.layout c.stream base st m → IsValidDeletion base ids → Goes f c base st m (Deletion lead ids)
deletion_goes f c base st m lead ids a valid =
    let can = can_delete f c base st m ids a valid.there in
    let is_dropped = deletes f c st.is_dropped [] ids m can valid.once in
    let line = Deletion lead ids in
    record {
      block = is_dropped.block;
      judged = is_dropped.judged;
      legal = is_dropped.legal;
      callers = is_dropped.callers;
      room = omega (arith, is_dropped.size);
      next = record {
        last = a.last;
        free = omega (arith, a.free);
        there = λ j d is. let l = left (is_among ids j) (base.clauses j) d is in is_dropped.apart j l.0 ∙ a.there j d l.1;
        kept = λ j d is.
            let l = left (is_among ids j) (base.clauses j) d is in
            not_among (st.is_dropped j) (is_shared (ownership_of c j)) (is_among ids j) (a.kept j d l.1) l.0;
        known = λ j d is. a.known j d (left (is_among ids j) (base.clauses j) d is).1;
        sound = λ j d is. a.sound j d (left (is_among ids j) (base.clauses j) d is).1;
        own = λ j owns. not_shared (st.is_dropped j) (is_among ids j) (ownership_of c j) (a.own j owns) (own_ownership c j owns);
        unseen = λ j is.
            let before = was_absent f c.layout m is_dropped.block j is_dropped.legal is in
            not_among (st.is_dropped j) (is_shared (ownership_of c j)) (is_among ids j) (a.unseen j before)
            (not_there c st.is_dropped m ids j can before);
        vacant = λ j owns above.
            is_dropped.apart j (not_there c st.is_dropped m ids j can (a.vacant j owns above)) ∙ a.vacant j owns above;
      };
      beside = λ t its also other b. record {
        last = b.last;
        free = b.free;
        there = λ j d is.
            let l = left (is_among ids j && is_own c.layout c.stream j) (its.clauses j) d is in
            untouched f c st.is_dropped ids m is_dropped j l.0 ∙ b.there j d l.1;
        kept = λ j d is. b.kept j d (left (is_among ids j && is_own c.layout c.stream j) (its.clauses j) d is).1;
        known = λ j d is. b.known j d (left (is_among ids j && is_own c.layout c.stream j) (its.clauses j) d is).1;
        sound = λ j d is. b.sound j d (left (is_among ids j && is_own c.layout c.stream j) (its.clauses j) d is).1;
        own = b.own;
        unseen = λ j is. b.unseen j (was_absent f c.layout m is_dropped.block j is_dropped.legal is);
        vacant = vacant_above_stays f c.layout m is_dropped.block t its.last is_dropped.legal
            (not_callers c.stream t is_dropped.block other is_dropped.callers) b.vacant;
      };
    }

-- Imports

import_goes : (f : Cnf) (c : StreamParams) (base : Database) (st : StreamContext) (m : State) (id : ℕ) (lits : List ℤ)
    → 0 < c.layout.streams → Agrees f c.layout c.stream base st m
    → IsValidImport c.layout c.stream (AllZip (λ h d. base.clauses h ≡ Some d)) id lits → Goes f c base st m (Import id lits)
import_goes f c base st m id lits some a valid =
    let d = valid.clause in
    let found : Finds f c st.is_dropped m (id ∷ []) (d ∷ []) = finds f c base st m (id ∷ []) (d ∷ []) some a valid.named in
    record {
      block = found.fetches;
      judged = record {
        identity = valid.identity;
        other = valid.other;
        literals = valid.literals;
        clause = d;
        named = found.found;
        same = valid.same;
      };
      legal = found.legal;
      callers = found.callers;
      room = omega (arith, found.size);
      next = subst (Agrees f c.layout c.stream base (context_after c st (Import id lits))) (sym found.still) (record {
        last = a.last;
        free = omega (arith, a.free);
        there = a.there;
        kept = λ j k is. neither (st.is_dropped j) (is_shared (ownership_of c j)) (a.kept j k is);
        known = a.known;
        sound = a.sound;
        own = λ j owns. neither (st.is_dropped j) (is_shared (ownership_of c j)) (a.own j owns);
        unseen = λ j is. neither (st.is_dropped j) (is_shared (ownership_of c j)) (a.unseen j is);
        vacant = a.vacant;
      });
      beside = λ t its also other b. subst (Agrees f c.layout t its also) (sym found.still) b;
    }

-- a legal history may continue with a valid line, which is judged good
pub line_goes : (f : Cnf) (c : StreamParams) (base : Database) (st : StreamContext) (m : State) (line : StreamLine)
    → Fits c.layout f → 0 < c.layout.streams → Agrees f c.layout c.stream base st m → IsWithinLimits line
    → IsValidLine c.layout c.stream base line → Goes f c base st m line
line_goes f c base st m (Addition id lits hints) fits some a limits valid =
    addition_goes f c base st m id lits hints fits some a limits valid
line_goes f c base st m (Deletion lead ids) fits some a limits valid = deletion_goes f c base st m lead ids a valid
line_goes f c base st m (Import id lits) fits some a limits valid = import_goes f c base st m id lits some a valid
