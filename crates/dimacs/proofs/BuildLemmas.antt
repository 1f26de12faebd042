-- What has been made from the tokens, token by token, and the faults at the next token.
use Rattle.std.proofs.Common.{◌≡◌, ◌+◌, ◌<◌, ◌≤◌, ℕ, ℤ, pos, nat_abs, List, [], ◌∷◌, ◌++◌, map, flat_map, length, Option, Some, refl}
use Rattle.std.proofs.Common.{sym, ap, ◌∙◌, inl, inr, ⊎_elim, subst, arith, length-append}
use Rattle.std.proofs.lemmas.List.{append-nil, append_assoc, map-append, flat_map_more, nil_from_length}
use Rattle.std.proofs.Math.Nat.{eq-zero-or-pos}
use Rattle.lrup_model.specs.Literal.{IsLiteral}
use Rattle.lrup_model.specs.Clause.{Clause}
use Rattle.lrup_model.specs.Formula.{Cnf, IsFormulaClause, max_clause_literals}
use Rattle.dimacs.specs.Lines.{Token}
use Rattle.dimacs.specs.Numerals.{number_of}
use Rattle.lrup_model.specs.lemmas.DistinctLemmas.{distinct-push_same, distinct-push_other}
use Rattle.lrup_model.specs.lemmas.ListLemmas.{All-push}
use Rattle.lrup_model.specs.lemmas.ClauseLemmas.{All-from_Has, All-Has}
use Rattle.dimacs.specs.FormulaTokens.{IsWritten, TokensSpell, IsSetOf, AreSetsOf, ended}
use Rattle.dimacs.specs.FormulaFault.{OccursAt, HasMoreClauses, HasLongClause, EndsOpen, EndsEarly}
use Rattle.dimacs.specs.internal.Places.{IsBuilt, AddsLiteral, AddsClause}
use Rattle.dimacs.specs.declared.body.Builder.{Builder}
use Rattle.dimacs.specs.declared.header.Header.{Header}
use Rattle.dimacs.proofs.SetLemmas.{Has-push}

abbrev numbers_of : List Token → List (Option ℤ)
numbers_of tokens = map (λ (t : Token). number_of t.text) tokens

abbrev somes : List ℤ → List (Option ℤ)
somes numbers = map (λ (z : ℤ). Some z) numbers

-- ## the tokens read so far

numbers_push : (tokens : List Token) (t : Token) (numbers : List ℤ) (z : ℤ) → numbers_of tokens ≡ somes numbers → number_of t.text ≡ Some z
    → numbers_of (tokens ++ t ∷ []) ≡ somes (numbers ++ z ∷ [])
numbers_push tokens t numbers z before new =
    map-append (λ (u : Token). number_of u.text) tokens (t ∷ [])
    ∙ ap (λ (x : List (Option ℤ)). x ++ number_of t.text ∷ []) before
    ∙ ap (λ (x : Option ℤ). somes numbers ++ x ∷ []) new
    ∙ sym (map-append (λ (y : ℤ). Some y) numbers (z ∷ []))

read_none : (vars count : ℕ) → TokensSpell vars count [] [] []
read_none vars count = record {
  numbers = refl;
  closed_within = tt;
  begun_within = record { within = tt; size = omega arith };
  closed_count = omega arith;
  begun_count = λ some. absurd (omega arith);
}

read_literal : (vars count : ℕ) (tokens : List Token) (t : Token) (closed : List (List ℤ)) (begun : List ℤ) (l : ℤ)
    → TokensSpell vars count tokens closed begun → number_of t.text ≡ Some l → IsLiteral vars l → length begun < max_clause_literals
    → length closed < count → TokensSpell vars count (tokens ++ t ∷ []) closed (begun ++ l ∷ [])
read_literal vars count tokens t closed begun l read is literal short room = record {
  numbers = numbers_push tokens t (flat_map ended closed ++ begun) l read.numbers is
      ∙ ap somes (append_assoc (flat_map ended closed) begun (l ∷ []));
  closed_within = read.closed_within;
  begun_within = record {
    within = All-push (IsLiteral vars) begun l read.begun_within.within literal;
    size = omega (arith, length-append begun (l ∷ []));
  };
  closed_count = read.closed_count;
  begun_count = λ some. room;
}

read_end : (vars count : ℕ) (tokens : List Token) (t : Token) (closed : List (List ℤ)) (begun : List ℤ)
    → TokensSpell vars count tokens closed begun → number_of t.text ≡ Some (pos 0) → length closed < count
    → TokensSpell vars count (tokens ++ t ∷ []) (closed ++ begun ∷ []) []
read_end vars count tokens t closed begun read is room = record {
  numbers =
      numbers_push tokens t (flat_map ended closed ++ begun) (pos 0) read.numbers is
      ∙ ap somes (append_assoc (flat_map ended closed) begun (pos 0 ∷ []) ∙ flat_map_more ended [] closed begun
      ∙ sym (append-nil (flat_map ended (closed ++ begun ∷ []))));
  closed_within = All-push (IsWritten vars) closed begun read.closed_within read.begun_within;
  begun_within = record { within = tt; size = omega arith };
  closed_count = omega (arith, length-append closed (begun ∷ []));
  begun_count = λ some. absurd (omega arith);
}

pub length-sets : (written : List (List ℤ)) (clauses : List Clause) → AreSetsOf written clauses → length written ≡ length clauses
length-sets [] [] h = refl
length-sets [] (c ∷ clauses) h = absurd h
length-sets (w ∷ written) [] h = absurd h
length-sets (w ∷ written) (c ∷ clauses) h = let below = length-sets written clauses h.1 in omega (arith, below)

sets_push : (written : List (List ℤ)) (clauses : List Clause) (w : List ℤ) (c : Clause) → AreSetsOf written clauses → IsSetOf w c
    → AreSetsOf (written ++ w ∷ []) (clauses ++ c ∷ [])
sets_push [] [] w c h one = (one, tt)
sets_push [] (d ∷ clauses) w c h one = absurd h
sets_push (v ∷ written) [] w c h one = absurd h
sets_push (v ∷ written) (d ∷ clauses) w c h one = (h.0, sets_push written clauses w c h.1 one)

set_push : (w : List ℤ) (old new : Clause) (l : ℤ) → IsSetOf w old → AddsLiteral old new l → IsSetOf (w ++ l ∷ []) new
set_push w old new l set added = record {
  members = λ m. (
    λ h. (Has-push w l m).1 (⊎_elim (λ before. inl ((set.members m).0 before)) (λ e. inr e) ((added.members m).0 h)),
    λ h. (added.members m).1 (⊎_elim (λ before. inl ((set.members m).1 before)) (λ e. inr e) ((Has-push w l m).0 h)),
  );
  each_once = added.each_once;
  order = elim added.order [
    | inl there ↦ there.1 ∙ set.order ∙ sym (distinct-push_same w l ((set.members l).0 there.0))
    | inr new ↦ new.1 ∙ ap (λ (c : Clause). c ++ l ∷ []) set.order ∙ sym (distinct-push_other w l (λ h. new.0 ((set.members l).1 h)))
  ];
}

-- ## the reader's state

-- `left` has the tokens of `all` that are still to be read; the builder has what was made from the
-- tokens before them.
pub record Reads (header : Header) (all left : List Token) (b : Builder) : Type 0 where
  pub before : List Token
  pub split : all ≡ before ++ left
  pub built : IsBuilt header.vars header.clauses before b.formula b.clause b.written
  pub left_is : length b.formula.clauses + b.left ≡ header.clauses

pub reads_none : (header : Header) (all : List Token) (f : Cnf) → f ≡ record { vars = header.vars; clauses = [] }
    → Reads header all all (record { formula = f; clause = []; written = 0; left = header.clauses })
reads_none header all f is = record {
  before = [];
  split = refl;
  built = record {
    closed = [];
    begun = [];
    read = read_none header.vars header.clauses;
    vars_are = ap (λ (x : Cnf). x.vars) is;
    sets = rw is tt;
    set = record { members = λ l. (λ h. h, λ h. h); each_once = tt; order = refl };
    written_is = refl;
    size = omega arith;
  };
  left_is = omega (arith, ap (λ (x : Cnf). length x.clauses) is);
}

pub reads_literal : {header : Header} {all old new : List Token} {t : Token} {b c : Builder} {l : ℤ} → Reads header all old b
    → old ≡ t ∷ new → number_of t.text ≡ Some l → IsLiteral header.vars l → 0 < b.left → b.written < max_clause_literals
    → AddsLiteral b.clause c.clause l → c.written ≡ b.written + 1 → c.formula ≡ b.formula → c.left ≡ b.left → Reads header all new c
reads_literal {header = header} {new = new} {t = t} {b = b} {c = c} {l = l} h taken is literal room short added written
    same_formula same_left =
    let built = h.built in
    let closed_is = length-sets built.closed b.formula.clauses built.sets in record {
      before = h.before ++ t ∷ [];
      split = h.split ∙ ap (λ (x : List Token). h.before ++ x) taken ∙ sym (append_assoc h.before (t ∷ []) new);
      built = record {
        closed = built.closed;
        begun = built.begun ++ l ∷ [];
        read = read_literal header.vars header.clauses h.before t built.closed built.begun l built.read is literal
            (omega (arith, built.written_is)) (omega (arith, closed_is, h.left_is));
        vars_are = ap (λ (x : Cnf). x.vars) same_formula ∙ built.vars_are;
        sets = rw same_formula built.sets;
        set = set_push built.begun b.clause c.clause l built.set added;
        written_is = omega (arith, length-append built.begun (l ∷ []), built.written_is, written);
        size = omega (arith, added.size, built.size, written);
      };
      left_is = omega (arith, h.left_is, same_left, ap (λ (x : Cnf). length x.clauses) same_formula);
    }

pub reads_end : {header : Header} {all old new : List Token} {t : Token} {b c : Builder} → Reads header all old b
    → old ≡ t ∷ new → number_of t.text ≡ Some (pos 0) → 0 < b.left → AddsClause b.formula c.formula b.clause
    → c.clause ≡ [] → c.written ≡ 0 → c.left + 1 ≡ b.left → Reads header all new c
reads_end {header = header} {new = new} {t = t} {b = b} {c = c} h taken is room added none none_written one_less =
    let built = h.built in
    let closed_is = length-sets built.closed b.formula.clauses built.sets in record {
      before = h.before ++ t ∷ [];
      split = h.split ∙ ap (λ (x : List Token). h.before ++ x) taken ∙ sym (append_assoc h.before (t ∷ []) new);
      built = record {
        closed = built.closed ++ built.begun ∷ [];
        begun = [];
        read = read_end header.vars header.clauses h.before t built.closed built.begun built.read is (omega (arith, closed_is, h.left_is));
        vars_are = added.0 ∙ built.vars_are;
        sets = rw added.1 (sets_push built.closed b.formula.clauses built.begun b.clause built.sets built.set);
        set = rw none (record { members = λ l. (λ x. x, λ x. x); each_once = tt; order = refl });
        written_is = sym none_written;
        size = omega (arith, ap length none);
      };
      left_is = omega (arith, h.left_is, one_less, ap length added.1, length-append b.formula.clauses (b.clause ∷ []));
    }

pub ends_clause : {header : Header} {all left : List Token} {b : Builder} → Reads header all left b
    → IsFormulaClause b.formula.vars b.clause
ends_clause {header = header} {b = b} h =
    let built = h.built in
    let within = built.read.begun_within.within in
    let literals = All-from_Has (IsLiteral header.vars) b.clause
    (λ l has. All-Has (IsLiteral header.vars) built.begun l within ((built.set.members l).0 has)) in
    rw built.vars_are ((
      record { literals = literals; each_once = built.set.each_once },
      omega (arith, built.size, built.written_is, built.read.begun_within.size),
    ))

-- ## the end, and the faults

read_whole : {header : Header} {all left : List Token} {b : Builder} → (h : Reads header all left b) → left ≡ []
    → TokensSpell header.vars header.clauses all h.built.closed h.built.begun
read_whole {all = all} h none =
    let whole : all ≡ h.before = h.split ∙ ap (λ (x : List Token). h.before ++ x) none ∙ append-nil h.before in
    rw whole h.built.read

-- if no literal has been written, the clause being read is still empty
none_begun : {header : Header} {all left : List Token} {b : Builder} → (h : Reads header all left b) → b.written ≡ 0 → h.built.begun ≡ []
none_begun h none = nil_from_length h.built.begun (omega (arith, h.built.written_is))

closed_whole : {header : Header} {all left : List Token} {b : Builder} → (h : Reads header all left b) → left ≡ [] → b.written ≡ 0
    → TokensSpell header.vars header.clauses all h.built.closed []
closed_whole {header = header} {all = all} h none no_literal = rw (none_begun h no_literal) at (read_whole h none)

pub ends_open : {header : Header} {all left : List Token} {b : Builder} → Reads header all left b → left ≡ [] → 0 < b.written
    → EndsOpen header.vars header.clauses all
ends_open h none some = record {
  closed = h.built.closed;
  begun = h.built.begun;
  read = read_whole h none;
  fault = omega (arith, h.built.written_is);
}

pub ends_early : {header : Header} {all left : List Token} {b : Builder} → Reads header all left b → left ≡ [] → b.written ≡ 0 → 0 < b.left
    → EndsEarly header.vars header.clauses all
ends_early {b = b} h none no_literal some = record {
  closed = h.built.closed;
  read = closed_whole h none no_literal;
  fault = omega (arith, h.left_is, length-sets h.built.closed b.formula.clauses h.built.sets);
}

occurs : {header : Header} {all left later : List Token} {b : Builder} {t : Token} → (h : Reads header all left b) → left ≡ t ∷ later
    → OccursAt t header.vars header.clauses all h.built.closed h.built.begun
occurs {later = later} h next = record {
  before = h.before;
  after = later;
  whole = h.split ∙ ap (λ (x : List Token). h.before ++ x) next;
  read = h.built.read;
}

pub more_clauses : {header : Header} {all left later : List Token} {b : Builder} {t : Token} {z : ℤ} → Reads header all left b
    → left ≡ t ∷ later → number_of t.text ≡ Some z → nat_abs z ≤ header.vars → b.left ≡ 0
    → HasMoreClauses t.line header.vars header.clauses all
more_clauses {header = header} {all = all} {b = b} {t = t} {z = z} h next is within none =
    let built = h.built in
    let full : length built.closed ≡ header.clauses = omega (arith, h.left_is, length-sets built.closed b.formula.clauses built.sets) in
    let no_more : length built.begun ≡ 0 =
    ⊎_elim (λ e. e) (λ some. absurd (omega (arith, built.read.begun_count some, full))) (eq-zero-or-pos (length built.begun)) in
    let at : List ℤ → Type 0 = λ x. OccursAt t header.vars header.clauses all built.closed x in record {
      text = t.text;
      number = z;
      closed = built.closed;
      place = subst at (nil_from_length built.begun no_more) (occurs h next);
      spelled = is;
      within = within;
      fault = full;
    }

pub long_clause : {header : Header} {all left later : List Token} {b : Builder} {t : Token} {l : ℤ} → Reads header all left b
    → left ≡ t ∷ later → number_of t.text ≡ Some l → IsLiteral header.vars l → max_clause_literals ≤ b.written
    → HasLongClause header.vars header.clauses all
long_clause {t = t} {l = l} h next is literal long = record {
  token = t;
  number = l;
  closed = h.built.closed;
  begun = h.built.begun;
  place = occurs h next;
  spelled = is;
  within = literal;
  fault = omega (arith, h.built.written_is, h.built.read.begun_within.size);
}
