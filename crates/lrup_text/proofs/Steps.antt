-- What a byte does at each spot: the spot to which it leads, or why no line can continue with it.
use Rattle.std.proofs.Common.{◌≡◌, ℕ, ◌+◌, ◌<◌, ◌≤◌, ◌≢◌, ◌⊎◌, ◌↔◌, inl, inr, Bool, true, false, List, [], ◌∷◌, ◌++◌, refl, sym, ◌∙◌, subst}
use Rattle.std.proofs.Common.{arith}
use Rattle.std.proofs.lemmas.List.{append_assoc}
use Rattle.lrup_text.specs.internal.ByteNames.{line_feed, letter_d, letter_i, minus, zero_digit}
use Rattle.lrup_text.specs.Writing.{space}
use Rattle.lrup_text.specs.Grammar.{Limits, AreLifted, IsDigit, IsLine, standard, Begins}
use Rattle.lrup_text.specs.internal.Rests.{Spot, AtStart, InLead, AfterImport, BeforeLiteral, AfterMinus, InLiteral, BeforeList}
use Rattle.lrup_text.specs.internal.Rests.{BeforeItem, InItem}
use Rattle.lrup_text.specs.internal.Rests.{AtEnd, ListFollows, ClauseEnds, ClauseFollows, LiteralsFollow, DeletionFollows, ImportFollows}
use Rattle.lrup_text.specs.internal.Rests.{BodyFollows, DigitsFollow, NumberFollows, MayComplete, Tracks, Moves, Blocks, Allows}
use Rattle.lrup_text.proofs.Rests as rests
use Rattle.lrup_text.proofs.Rests.{digits_to, digits_from_digit, digits_from_space, number_to, number_from, list_to_space, item_to}
use Rattle.lrup_text.proofs.Rests.{item_from_zero, item_from_digit, clause_to, clause_from_zero, clause_from_digit, clause_from_minus}
use Rattle.lrup_text.proofs.Rests.{line_to, line_from}

-- Moves.

pub at_start : Tracks [] AtStart
at_start = record {
  completes = λ signed limits lifted rest h. line_to limits rest h;
  line = λ signed limits lifted rest h. line_from limits rest h;
}

pub start_digit : (b : ℕ) → 49 ≤ b → b ≤ 57 → Moves AtStart b (InLead 1)
start_digit b low high = record {
  to = λ signed limits lifted rest h. (number_to limits _ b rest h).2;
  from = λ signed limits lifted rest h. number_from limits _ b rest low high h;
}

-- a digit after digits: the number continues
more_digit : (limits : Limits) (k : ℕ) (Next : List ℕ → Type 0) (b : ℕ) (rest : List ℕ) → IsDigit b → DigitsFollow limits k Next (b ∷ rest)
    → DigitsFollow limits (k + 1) Next rest
more_digit limits k Next b rest digit h = elim (digits_to limits k Next b rest h) [
  | inl d ↦ d.2
  | inr s ↦ let is : b ≡ 32 = s.0 in absurd (omega arith)
]

-- a space after digits: the number has ended
end_digits : (limits : Limits) (k : ℕ) (Next : List ℕ → Type 0) (rest : List ℕ) → DigitsFollow limits k Next (space ∷ rest) → Next rest
end_digits limits k Next rest h = elim (digits_to limits k Next space rest h) [
  | inl d ↦ let low : 48 ≤ 32 = d.0.0 in absurd (omega arith)
  | inr s ↦ s.1
]

pub lead_digit : (k b : ℕ) → IsDigit b → Moves (InLead k) b (InLead (k + 1))
lead_digit k b digit = record {
  to = λ signed limits lifted rest h. more_digit limits k _ b rest digit h;
  from = λ signed limits lifted rest h. digits_from_digit limits k _ b rest digit h;
}

pub lead_space : (k : ℕ) → k ≤ 18 → Moves (InLead k) space (BeforeLiteral false 0)
lead_space k few = record {
  to = λ signed limits lifted rest h. end_digits limits k _ rest h;
  from = λ signed limits lifted rest h. digits_from_space limits k _ rest (omega (arith, lifted.digits)) h;
}

-- a deletion begins with d, an import with i
deletion_to : (limits : Limits) (b : ℕ) (rest : List ℕ) → DeletionFollows limits (b ∷ rest)
    → (b ≡ letter_d) × ListFollows limits true 0 rest
deletion_to limits b rest h = (rests.same_head h.is, subst (ListFollows limits true 0) (sym (rests.same_tail h.is)) h.ids)

import_to : (limits : Limits) (b : ℕ) (rest : List ℕ) → ImportFollows limits (b ∷ rest) → (b ≡ letter_i) × LiteralsFollow limits rest
import_to limits b rest h = (rests.same_head h.is, subst (LiteralsFollow limits) (sym (rests.same_tail h.is)) h.lits)

-- if a byte is neither d nor i, the clause continues
no_letter : (limits : Limits) (imports : Bool) (n b : ℕ) (rest : List ℕ) → b ≢ letter_d → b ≢ letter_i
    → BodyFollows limits imports n (b ∷ rest) → rests.ClauseTo limits imports n b rest
no_letter limits imports n b rest not_d not_i (inl h) = clause_to limits imports n b rest h
no_letter limits imports n b rest not_d not_i (inr (_, _, inl h)) = absurd (not_d (deletion_to limits b rest h).0)
no_letter limits imports n b rest not_d not_i (inr (_, _, inr h)) = absurd (not_i (import_to limits b rest h).0)

-- if a byte is above the digits, the line is a deletion or an import
letter_to : (limits : Limits) (imports : Bool) (n b : ℕ) (rest : List ℕ) → 57 < b → BodyFollows limits imports n (b ∷ rest)
    → DeletionFollows limits (b ∷ rest) ⊎ ImportFollows limits (b ∷ rest)
letter_to limits imports n b rest high (inr h) = h.2
letter_to limits imports n b rest high (inl h) = elim (clause_to limits imports n b rest h) [
  | rests.closes e h ↦ let e' : b ≡ zero_digit = e in absurd (omega arith)
  | rests.numbers low top m h ↦ absurd (omega arith)
  | rests.signs e m h ↦ let e' : b ≡ minus = e in absurd (omega arith)
]

pub body_zero : (imports : Bool) (n : ℕ) → n ≤ 65535 → (next : Spot) → ((limits : Limits) (rest : List ℕ)
    → ClauseEnds limits imports rest ↔ MayComplete limits next rest) → Moves (BeforeLiteral imports n) zero_digit next
body_zero imports n few next same = record {
  to = λ signed limits lifted rest h. (same limits rest).0 (clause limits rest (no_letter limits imports n zero_digit rest
      (λ e. let e' : zero_digit ≡ letter_d = e in omega arith) (λ e. let e' : zero_digit ≡ letter_i = e in omega arith) h));
  from =
      λ signed limits lifted rest h. inl (clause_from_zero limits imports n rest (omega (arith, lifted.literals)) ((same limits rest).1 h));
}
  where
    clause : (limits : Limits) (rest : List ℕ) → rests.ClauseTo limits imports n 48 rest → ClauseEnds limits imports rest
    clause limits rest (rests.closes e h) = h
    clause limits rest (rests.numbers low high m h) = absurd (omega arith)
    clause limits rest (rests.signs e m h) = let e' : zero_digit ≡ minus = e in absurd (omega arith)

pub body_hints : (n : ℕ) → n ≤ 65535 → Moves (BeforeLiteral false n) zero_digit (BeforeList false)
body_hints n few = body_zero false n few (BeforeList false) (λ limits rest. ((λ h. h), (λ h. h)))

pub body_end : (n : ℕ) → n ≤ 65535 → Moves (BeforeLiteral true n) zero_digit AtEnd
body_end n few = body_zero true n few AtEnd (λ limits rest. ((λ h. h), (λ h. h)))

pub body_deletion : Moves (BeforeLiteral false 0) letter_d (BeforeList true)
body_deletion = record {
  to = λ signed limits lifted rest h. deletion limits rest (letter_to limits false 0 letter_d rest (omega arith) h);
  from = λ signed limits lifted rest h. inr (refl, refl, inl (record { after = rest; is = refl; ids = h }));
}
  where
    deletion : (limits : Limits) (rest : List ℕ) → DeletionFollows limits (letter_d ∷ rest) ⊎ ImportFollows limits (letter_d ∷ rest)
        → ListFollows limits true 0 rest
    deletion limits rest (inl h) = (deletion_to limits letter_d rest h).1
    deletion limits rest (inr h) = let e : letter_d ≡ letter_i = (import_to limits letter_d rest h).0 in absurd (omega arith)

pub body_import : Moves (BeforeLiteral false 0) letter_i AfterImport
body_import = record {
  to = λ signed limits lifted rest h. lits limits rest (letter_to limits false 0 letter_i rest (omega arith) h);
  from = λ signed limits lifted rest h. inr (refl, refl, inr (record { after = rest; is = refl; lits = h }));
}
  where
    lits : (limits : Limits) (rest : List ℕ) → DeletionFollows limits (letter_i ∷ rest) ⊎ ImportFollows limits (letter_i ∷ rest)
        → LiteralsFollow limits rest
    lits limits rest (inl h) = let e : letter_i ≡ letter_d = (deletion_to limits letter_i rest h).0 in absurd (omega arith)
    lits limits rest (inr h) = (import_to limits letter_i rest h).1

pub import_space : Moves AfterImport space (BeforeLiteral true 0)
import_space = record {
  to = λ signed limits lifted rest h. inl (subst (ClauseFollows limits true 0) (sym (rests.same_tail h.is)) h.clause);
  from = λ signed limits lifted rest h. record { after = rest; is = refl; clause = clause limits rest h };
}
  where
    clause : (limits : Limits) (rest : List ℕ) → BodyFollows limits true 0 rest → ClauseFollows limits true 0 rest
    clause limits rest (inl h) = h
    clause limits rest (inr h) = let e : true ≡ false = h.1 in cc

pub body_minus : (imports : Bool) (n : ℕ) → Moves (BeforeLiteral imports n) minus (AfterMinus imports n)
body_minus imports n = record {
  to = λ signed limits lifted rest h. clause limits rest (no_letter limits imports n minus rest
      (λ e. let e' : minus ≡ letter_d = e in omega arith) (λ e. let e' : minus ≡ letter_i = e in omega arith) h);
  from = λ signed limits lifted rest h. inl (clause_from_minus limits imports n rest h);
}
  where
    clause : (limits : Limits) (rest : List ℕ) → rests.ClauseTo limits imports n 45 rest
        → NumberFollows limits (ClauseFollows limits imports (n + 1)) rest
    clause limits rest (rests.closes e h) = let e' : minus ≡ zero_digit = e in absurd (omega arith)
    clause limits rest (rests.numbers low high m h) = absurd (omega arith)
    clause limits rest (rests.signs e m h) = h

pub body_digit : (imports : Bool) (n b : ℕ) → 49 ≤ b → b ≤ 57 → Moves (BeforeLiteral imports n) b (InLiteral imports 1 n)
body_digit imports n b low high = record {
  to = λ signed limits lifted rest h. clause limits rest
      (no_letter limits imports n b rest (λ e. let e' : b ≡ letter_d = e in omega arith) (λ e. let e' : b ≡ letter_i = e in omega arith) h);
  from = λ signed limits lifted rest h. inl (clause_from_digit limits imports n b rest low high h);
}
  where
    clause : (limits : Limits) (rest : List ℕ) → rests.ClauseTo limits imports n b rest
        → DigitsFollow limits 1 (ClauseFollows limits imports (n + 1)) rest
    clause limits rest (rests.closes e h) = let e' : b ≡ 48 = e in absurd (omega arith)
    clause limits rest (rests.numbers low' high' m h) = h
    clause limits rest (rests.signs e m h) = let e' : b ≡ 45 = e in absurd (omega arith)

pub minus_digit : (imports : Bool) (n b : ℕ) → 49 ≤ b → b ≤ 57 → Moves (AfterMinus imports n) b (InLiteral imports 1 n)
minus_digit imports n b low high = record {
  to = λ signed limits lifted rest h. (number_to limits _ b rest h).2;
  from = λ signed limits lifted rest h. number_from limits _ b rest low high h;
}

pub literal_digit : (imports : Bool) (k n b : ℕ) → IsDigit b → Moves (InLiteral imports k n) b (InLiteral imports (k + 1) n)
literal_digit imports k n b digit = record {
  to = λ signed limits lifted rest h. more_digit limits k _ b rest digit h;
  from = λ signed limits lifted rest h. digits_from_digit limits k _ b rest digit h;
}

pub literal_space : (imports : Bool) (k n : ℕ) → k ≤ 18 → Moves (InLiteral imports k n) space (BeforeLiteral imports (n + 1))
literal_space imports k n few = record {
  to = λ signed limits lifted rest h. inl (end_digits limits k _ rest h);
  from = λ signed limits lifted rest h. digits_from_space limits k _ rest (omega (arith, lifted.digits)) (body limits rest h);
}
  where
    body : (limits : Limits) (rest : List ℕ) → BodyFollows limits imports (n + 1) rest → ClauseFollows limits imports (n + 1) rest
    body limits rest (inl h) = h
    body limits rest (inr h) = let e : n + 1 ≡ 0 = h.0 in absurd (omega arith)

pub list_space : (deletes : Bool) → Moves (BeforeList deletes) space (BeforeItem deletes 0)
list_space deletes = record { to = λ signed limits lifted rest h. h; from = λ signed limits lifted rest h. h }

pub item_zero : (deletes : Bool) (j : ℕ) → j ≤ 65536 → Moves (BeforeItem deletes j) zero_digit AtEnd
item_zero deletes j few = record {
  to = λ signed limits lifted rest h. item limits rest (item_to limits deletes j 48 rest h);
  from = λ signed limits lifted rest h. rw h (item_from_zero limits deletes j (omega (arith, lifted.identities)));
}
  where
    item : (limits : Limits) (rest : List ℕ) → rests.ItemTo limits deletes j 48 rest → rest ≡ line_feed ∷ []
    item limits rest (rests.ItemTo.closes e h) = h
    item limits rest (rests.ItemTo.numbers low high m h) = absurd (omega arith)
    item limits rest (rests.ItemTo.signs e d s) = let e' : zero_digit ≡ minus = e in absurd (omega arith)

pub item_digit : (deletes : Bool) (j b : ℕ) → 49 ≤ b → b ≤ 57 → Moves (BeforeItem deletes j) b (InItem deletes 1 j)
item_digit deletes j b low high = record {
  to = λ signed limits lifted rest h. item limits rest (item_to limits deletes j b rest h);
  from = λ signed limits lifted rest h. item_from_digit limits deletes j b rest low high h;
}
  where
    item : (limits : Limits) (rest : List ℕ) → rests.ItemTo limits deletes j b rest
        → DigitsFollow limits 1 (λ after. ListFollows limits deletes (j + 1) (space ∷ after)) rest
    item limits rest (rests.ItemTo.closes e h) = let e' : b ≡ zero_digit = e in absurd (omega arith)
    item limits rest (rests.ItemTo.numbers low' high' m h) = h
    item limits rest (rests.ItemTo.signs e d s) = let e' : b ≡ minus = e in absurd (omega arith)

pub number_digit : (deletes : Bool) (k j b : ℕ) → IsDigit b → Moves (InItem deletes k j) b (InItem deletes (k + 1) j)
number_digit deletes k j b digit = record {
  to = λ signed limits lifted rest h. more_digit limits k _ b rest digit h;
  from = λ signed limits lifted rest h. digits_from_digit limits k _ b rest digit h;
}

pub number_space : (deletes : Bool) (k j : ℕ) → k ≤ 18 → Moves (InItem deletes k j) space (BeforeItem deletes (j + 1))
number_space deletes k j few = record {
  to = λ signed limits lifted rest h. end_digits limits k _ rest h;
  from = λ signed limits lifted rest h. digits_from_space limits k _ rest (omega (arith, lifted.digits)) h;
}

-- `Blocks`: no rest after the byte makes a line, whatever the limits.

-- the byte isn't a digit 1 to 9
abbrev pub NoFirst : ℕ → Type 0
NoFirst b = 49 ≤ b → b ≤ 57 → ⊥

abbrev pub NoDigit : ℕ → Type 0
NoDigit b = 48 ≤ b → b ≤ 57 → ⊥

no_digits : (limits : Limits) (k : ℕ) (Next : List ℕ → Type 0) (b : ℕ) (rest : List ℕ) → NoDigit b → b ≢ space
    → DigitsFollow limits k Next (b ∷ rest) → ⊥
no_digits limits k Next b rest never ne h = elim (digits_to limits k Next b rest h) [ inl d ↦ never d.0.0 d.0.1 | inr s ↦ ne s.0 ]

pub start_blocks : (signed : Bool) (b : ℕ) → NoFirst b → Blocks signed AtStart b
start_blocks signed b never limits lifted rest h = let n = number_to limits _ b rest h in never n.0 n.1

pub lead_blocks : (signed : Bool) (k b : ℕ) → NoDigit b → b ≢ space → Blocks signed (InLead k) b
lead_blocks signed k b never ne limits lifted rest h = no_digits limits k _ b rest never ne h

pub import_blocks : (signed : Bool) (b : ℕ) → b ≢ space → Blocks signed AfterImport b
import_blocks signed b ne limits lifted rest h = ne (rests.same_head h.is)

pub body_blocks : (signed imports : Bool) (n b : ℕ) → b ≢ zero_digit → b ≢ minus → NoFirst b
    → (n ≡ 0 → imports ≡ false → (b ≢ letter_d) × (b ≢ letter_i)) → Blocks signed (BeforeLiteral imports n) b
body_blocks signed imports n b not_zero not_minus never no_letter limits lifted rest (inl h) = elim (clause_to limits imports n b rest h) [
  | rests.closes e h ↦ not_zero e
  | rests.numbers low high m h ↦ never low high
  | rests.signs e m h ↦ not_minus e
]
body_blocks signed imports n b not_zero not_minus never no_letter limits lifted rest (inr (none, adds, inl h)) =
    (no_letter none adds).0 (deletion_to limits b rest h).0
body_blocks signed imports n b not_zero not_minus never no_letter limits lifted rest (inr (none, adds, inr h)) =
    (no_letter none adds).1 (import_to limits b rest h).0

pub minus_blocks : (signed imports : Bool) (n b : ℕ) → NoFirst b → Blocks signed (AfterMinus imports n) b
minus_blocks signed imports n b never limits lifted rest h = let m = number_to limits _ b rest h in never m.0 m.1

pub literal_blocks : (signed imports : Bool) (k n b : ℕ) → NoDigit b → b ≢ space → Blocks signed (InLiteral imports k n) b
literal_blocks signed imports k n b never ne limits lifted rest h = no_digits limits k _ b rest never ne h

pub list_blocks : (signed deletes : Bool) (b : ℕ) → b ≢ space → Blocks signed (BeforeList deletes) b
list_blocks signed deletes b ne limits lifted rest h = ne (list_to_space limits deletes 0 b rest h)

-- at the spot before an item, nothing may follow a byte other than 0, a digit 1 to 9 or, if hints
-- may be signed, a sign
pub item_blocks : (signed deletes : Bool) (j b : ℕ) → b ≢ zero_digit → NoFirst b → (b ≡ minus → deletes ≡ false → signed ≡ true → ⊥)
    → Blocks signed (BeforeItem deletes j) b
item_blocks signed deletes j b not_zero never not_minus limits lifted rest h = elim (item_to limits deletes j b rest h) [
  | rests.ItemTo.closes e h ↦ not_zero e
  | rests.ItemTo.numbers low high m h ↦ never low high
  | rests.ItemTo.signs e d s ↦ not_minus e d (sym lifted.sign ∙ s)
]

pub number_blocks : (signed deletes : Bool) (k j b : ℕ) → NoDigit b → b ≢ space → Blocks signed (InItem deletes k j) b
number_blocks signed deletes k j b never ne limits lifted rest h = no_digits limits k _ b rest never ne h

pub end_blocks : (signed : Bool) (b : ℕ) → b ≢ line_feed → Blocks signed AtEnd b
end_blocks signed b ne limits lifted rest h = ne (rests.same_head h)

-- Bytes that are refused only because of a stream's limits.

wider : Bool → Limits
wider signed = record { digits = 19; literals = 65536; identities = 65537; signed = signed }

wider_lifted : (signed : Bool) → AreLifted signed (wider signed)
unfolding wider
wider_lifted signed = record { digits = omega arith; literals = omega arith; identities = omega arith; sign = refl }

-- The byte is allowed with wider limits, but not with those of a stream.
pub record Exceeds (spot : Spot) (byte : ℕ) : Type 0 where
  pub stops : (rest : List ℕ) → ¬ MayComplete standard spot (byte ∷ rest)
  pub allows : Allows false spot byte

many_digits : (Next : List ℕ → Type 0) (b : ℕ) (rest : List ℕ) → IsDigit b → ¬ DigitsFollow standard 18 Next (b ∷ rest)
many_digits Next b rest digit h = elim (digits_to standard 18 Next b rest h) [
  | inl d ↦ let few : 18 < 18 = d.1 in absurd (omega arith)
  | inr s ↦ let is : b ≡ space = s.0 in absurd (omega arith)
]

empty_list : (signed deletes : Bool) (j : ℕ) → j ≤ 65537 → ListFollows (wider signed) deletes j (space ∷ zero_digit ∷ line_feed ∷ [])
unfolding wider
empty_list signed deletes j few = item_from_zero (wider signed) deletes j few

-- a text that may follow the 0 of a clause
abbrev clause_tail : Bool → List ℕ
clause_tail true = line_feed ∷ []
clause_tail false = space ∷ zero_digit ∷ line_feed ∷ []

empty_end : (imports : Bool) → ClauseEnds (wider false) imports (clause_tail imports)
empty_end true = refl
empty_end false = empty_list false false 0 (omega arith)

empty_clause : (imports : Bool) (n : ℕ) → n ≤ 65536 → ClauseFollows (wider false) imports n (zero_digit ∷ clause_tail imports)
unfolding wider
empty_clause imports n few = clause_from_zero (wider false) imports n _ few (empty_end imports)

last_digit : (Next : List ℕ → Type 0) (b : ℕ) (rest : List ℕ) → IsDigit b → Next rest
    → DigitsFollow (wider false) 18 Next (b ∷ space ∷ rest)
unfolding wider
last_digit Next b rest digit next =
    digits_from_digit (wider false) 18 Next b (space ∷ rest) digit (digits_from_space (wider false) 19 Next rest (omega arith) next)

pub lead_exceeds : (b : ℕ) → IsDigit b → Exceeds (InLead 18) b
lead_exceeds b digit = record {
  stops = λ rest h. many_digits _ b rest digit h;
  allows = record {
    limits = wider false;
    lifted = wider_lifted false;
    rest = _;
    completes = last_digit _ b _ digit (inl (empty_clause false 0 (omega arith)));
  };
}

pub literal_exceeds : (imports : Bool) (n b : ℕ) → n < 65535 → IsDigit b → Exceeds (InLiteral imports 18 n) b
literal_exceeds imports n b few digit = record {
  stops = λ rest h. many_digits _ b rest digit h;
  allows = record {
    limits = wider false;
    lifted = wider_lifted false;
    rest = _;
    completes = last_digit _ b _ digit (empty_clause imports (n + 1) (omega arith));
  };
}

pub number_exceeds : (deletes : Bool) (j b : ℕ) → j < 65536 → IsDigit b → Exceeds (InItem deletes 18 j) b
number_exceeds deletes j b few digit = record {
  stops = λ rest h. many_digits _ b rest digit h;
  allows = record {
    limits = wider false;
    lifted = wider_lifted false;
    rest = _;
    completes = last_digit _ b _ digit (empty_list false deletes (j + 1) (omega arith));
  };
}

no_more_literals : (imports : Bool) (b : ℕ) (rest : List ℕ) → b ≢ zero_digit → b ≤ 57 → ¬ BodyFollows standard imports 65535 (b ∷ rest)
no_more_literals imports b rest not_zero high h =
    elim (no_letter standard imports 65535 b rest (λ e. let e' : b ≡ letter_d = e in omega arith)
    (λ e. let e' : b ≡ letter_i = e in omega arith) h) [
      | rests.closes e h ↦ not_zero e
      | rests.numbers low top m h ↦ let few : 65535 < 65535 = m in absurd (omega arith)
      | rests.signs e m h ↦ let few : 65535 < 65535 = m in absurd (omega arith)
    ]

one_more_literal : (imports : Bool) (b : ℕ) → 49 ≤ b → b ≤ 57
    → DigitsFollow (wider false) 1 (ClauseFollows (wider false) imports 65536) (space ∷ zero_digit ∷ clause_tail imports)
unfolding wider
one_more_literal imports b low high = digits_from_space (wider false) 1 _ _ (omega arith) (empty_clause imports 65536 (omega arith))

pub body_exceeds_digit : (imports : Bool) (b : ℕ) → 49 ≤ b → b ≤ 57 → Exceeds (BeforeLiteral imports 65535) b
body_exceeds_digit imports b low high = record {
  stops = λ rest h. no_more_literals imports b rest (λ e. let e' : b ≡ zero_digit = e in omega arith) high h;
  allows = record {
    limits = wider false;
    lifted = wider_lifted false;
    rest = _;
    completes = inl (clause_from_digit (wider false) imports 65535 b _ low high (one_more_literal imports b low high));
  };
}

pub body_exceeds_minus : (imports : Bool) → Exceeds (BeforeLiteral imports 65535) minus
body_exceeds_minus imports = record {
  stops = λ rest h. no_more_literals imports minus rest (λ e. let e' : minus ≡ zero_digit = e in omega arith) (omega arith) h;
  allows = record {
    limits = wider false;
    lifted = wider_lifted false;
    rest = _;
    completes = inl (clause_from_minus (wider false) imports 65535 _
        (number_from (wider false) _ 49 _ (omega arith) (omega arith) (one_more_literal imports 49 (omega arith) (omega arith))));
  };
}

pub item_exceeds : (deletes : Bool) (b : ℕ) → 49 ≤ b → b ≤ 57 → Exceeds (BeforeItem deletes 65536) b
unfolding wider
item_exceeds deletes b low high = record {
  stops = λ rest h. elim (item_to standard deletes 65536 b rest h) [
    | rests.ItemTo.closes e h ↦ let e' : b ≡ zero_digit = e in omega arith
    | rests.ItemTo.numbers low high m h ↦ let few : 65536 < 65536 = m in absurd (omega arith)
    | rests.ItemTo.signs e d s ↦ let e' : b ≡ minus = e in omega arith
  ];
  allows = record {
    limits = wider false;
    lifted = wider_lifted false;
    rest = _;
    completes = item_from_digit (wider false) deletes 65536 b _ low high
        (digits_from_space (wider false) 1 _ _ (omega arith) (empty_list false deletes 65537 (omega arith)));
  };
}

-- a sign is allowed before a hint if hints may be signed
pub hint_allows : (j : ℕ) → j ≤ 65536 → Allows true (BeforeItem false j) minus
unfolding wider
hint_allows j few = record {
  limits = wider true;
  lifted = wider_lifted true;
  rest = 49 ∷ space ∷ zero_digit ∷ line_feed ∷ [];
  completes = record {
    words = (minus ∷ 49 ∷ []) ∷ [];
    count = omega arith;
    each = (inr (refl, (omega arith, omega arith, tt, omega arith)), tt);
    is = refl;
  };
}

-- Some rest can always follow, so the bytes read so far may become a line.

abbrev pub IsOpen : Spot → Type 0
IsOpen spot = (first : ℕ) × (rest : List ℕ) × MayComplete standard spot (first ∷ rest)

open_list : (deletes : Bool) (j : ℕ) → j ≤ 65536 → ListFollows standard deletes j (space ∷ zero_digit ∷ line_feed ∷ [])
open_list deletes j few = item_from_zero standard deletes j few

open_end : (imports : Bool) → ClauseEnds standard imports (clause_tail imports)
open_end true = refl
open_end false = open_list false 0 (omega arith)

open_clause : (imports : Bool) (n : ℕ) → n ≤ 65535 → ClauseFollows standard imports n (zero_digit ∷ clause_tail imports)
open_clause imports n few = clause_from_zero standard imports n _ few (open_end imports)

open_digits : (k : ℕ) (Next : List ℕ → Type 0) (rest : List ℕ) → k ≤ 18 → Next rest → DigitsFollow standard k Next (space ∷ rest)
open_digits k Next rest few next = digits_from_space standard k Next rest few next

open_number : (Next : List ℕ → Type 0) (rest : List ℕ) → Next rest → NumberFollows standard Next (49 ∷ space ∷ rest)
open_number Next rest next = number_from standard Next 49 _ (omega arith) (omega arith) (open_digits 1 Next rest (omega arith) next)

-- the counts of a spot are within the limits of a stream
abbrev pub IsBounded : Spot → Type 0
IsBounded AtStart = Unit {0}
IsBounded (InLead digits) = digits ≤ 18
IsBounded AfterImport = Unit {0}
IsBounded (BeforeLiteral imports literals) = literals ≤ 65535
IsBounded (AfterMinus imports literals) = literals < 65535
IsBounded (InLiteral imports digits literals) = (digits ≤ 18) × (literals < 65535)
IsBounded (BeforeList deletes) = Unit {0}
IsBounded (BeforeItem deletes items) = items ≤ 65536
IsBounded (InItem deletes digits items) = (digits ≤ 18) × (items < 65536)
IsBounded AtEnd = Unit {0}

pub open_spot : (spot : Spot) → IsBounded spot → IsOpen spot
open_spot AtStart h = (_, _, open_number _ _ (inl (open_clause false 0 (omega arith))))
open_spot (InLead digits) h = (_, _, open_digits digits _ _ h (inl (open_clause false 0 (omega arith))))
open_spot AfterImport h = (
  space,
  zero_digit ∷ line_feed ∷ [],
  record { after = zero_digit ∷ line_feed ∷ []; is = refl; clause = open_clause true 0 (omega arith) },
)
open_spot (BeforeLiteral imports literals) h = (_, _, inl (open_clause imports literals h))
open_spot (AfterMinus imports literals) h = (_, _, open_number _ _ (open_clause imports (literals + 1) (omega arith)))
open_spot (InLiteral imports digits literals) h = (_, _, open_digits digits _ _ h.0 (open_clause imports (literals + 1) (omega arith)))
open_spot (BeforeList deletes) h = (_, _, open_list deletes 0 (omega arith))
open_spot (BeforeItem deletes items) h = (_, _, open_list deletes items h)
open_spot (InItem deletes digits items) h = (_, _, open_digits digits _ _ h.0 (open_list deletes (items + 1) (omega arith)))
open_spot AtEnd h = (line_feed, [], refl)

-- From spots to texts.

pub standard_lifted : AreLifted false standard
standard_lifted = record { digits = omega arith; literals = omega arith; identities = omega arith; sign = refl }

pub one_more : (read : List ℕ) (b : ℕ) (rest : List ℕ) → (read ++ b ∷ []) ++ rest ≡ read ++ b ∷ rest
one_more read b rest = append_assoc read (b ∷ []) rest

pub tracks_more : (read : List ℕ) (spot next : Spot) (b : ℕ) → Tracks read spot → Moves spot b next → Tracks (read ++ b ∷ []) next
tracks_more read spot next b tracks moves = record {
  completes = λ signed limits lifted rest h. moves.to signed limits lifted rest
      (tracks.completes signed limits lifted (b ∷ rest) (subst (IsLine limits) (one_more read b rest) h));
  line = λ signed limits lifted rest h. subst (IsLine limits) (sym (one_more read b rest))
      (tracks.line signed limits lifted (b ∷ rest) (moves.from signed limits lifted rest h));
}

pub tracks_begins : (read : List ℕ) (spot : Spot) → Tracks read spot → IsBounded spot → Begins read
tracks_begins read spot tracks bounded =
    let some : IsOpen spot = open_spot spot bounded in
    (some.0 ∷ some.1, tracks.line false standard standard_lifted (some.0 ∷ some.1) some.2)
