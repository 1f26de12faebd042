-- The first fault, in byte order, of a file that isn't a text of a formula: the header is judged as
-- a whole, and the tokens after it one by one. If one token, or the header, has several faults, the
-- one that counts is the one that DimacsFault lists first. (The faults and their order are this
-- project's own.)
use Rattle.std.specs.Prelude.{◌≡◌, ◌⊎◌, ◌≤◌, ◌<◌, ℕ, ℤ, nat_abs, Some, None, List, [], ◌∷◌, ◌++◌, codes, length}
use Rattle.lrup_model.specs.Literal.{IsLiteral, max_variable}
use Rattle.lrup_model.specs.Formula.{max_clauses, max_clause_literals}
use Rattle.dimacs.specs.declared.fault.DimacsFault.{DimacsFault}
use Rattle.dimacs.specs.declared.fault.DimacsFault.TheVariants.{NoHeader, BadHeader, BadNumber, VariableRange, OpenClause, TooFew, TooMany, Limit, Memory}
use Rattle.dimacs.specs.Lines.{Line, Token, lines_of}
use Rattle.dimacs.specs.Numerals.{number_of}
use Rattle.dimacs.specs.FormulaTokens.{IsHeader, TokensSpell, InBody}

-- the line begins with the token `p`
abbrev pub BeginsHeader : List (List ℕ) → Type 0
BeginsHeader [] = ⊥
BeginsHeader (p ∷ tokens) = p ≡ codes "p"

abbrev pub HasNoHeader : List Line → Type 0
HasNoHeader [] = Unit {0}
HasNoHeader (header ∷ lines) = ¬ BeginsHeader header.tokens

abbrev pub HasBadHeader : List Line → Type 0
HasBadHeader [] = ⊥
HasBadHeader (header ∷ lines) =
    BeginsHeader header.tokens × ((vars count : ℕ) → ¬ IsHeader header.tokens vars count)

-- a header that is spelled right, but has a number above its limit
pub record SaysTooMuch (header : List (List ℕ)) : Type 0 where
  pub vars : ℕ
  pub count : ℕ
  pub spelled : IsHeader header vars count
  pub above : (max_variable < vars) ⊎ (max_clauses < count)

abbrev pub HasLargeHeader : List Line → Type 0
HasLargeHeader [] = ⊥
HasLargeHeader (header ∷ lines) = SaysTooMuch header.tokens

-- The tokens before `token` have no fault; they spell the clauses of `closed`, and then `begun`
-- without its 0.
pub record OccursAt (token : Token) (vars count : ℕ) (tokens : List Token) (closed : List (List ℤ))
    (begun : List ℤ) : Type 0 where
  pub before : List Token
  pub after : List Token
  pub whole : tokens ≡ before ++ token ∷ after
  pub read : TokensSpell vars count before closed begun

pub record HasBadNumber (line vars count : ℕ) (tokens : List Token) : Type 0 where
  pub text : List ℕ
  pub closed : List (List ℤ)
  pub begun : List ℤ
  pub place : OccursAt (record { line = line; text = text }) vars count tokens closed begun
  pub fault : number_of text ≡ None

pub record HasLargeVariable (line vars count : ℕ) (tokens : List Token) : Type 0 where
  pub text : List ℕ
  pub number : ℤ
  pub closed : List (List ℤ)
  pub begun : List ℤ
  pub place : OccursAt (record { line = line; text = text }) vars count tokens closed begun
  pub spelled : number_of text ≡ Some number
  pub fault : vars < nat_abs number

-- a token after the last clause that the header announces
pub record HasMoreClauses (line vars count : ℕ) (tokens : List Token) : Type 0 where
  pub text : List ℕ
  pub number : ℤ
  pub closed : List (List ℤ)
  pub place : OccursAt (record { line = line; text = text }) vars count tokens closed []
  pub spelled : number_of text ≡ Some number
  pub within : nat_abs number ≤ vars
  pub fault : length closed ≡ count

-- one more literal than a clause may have
pub record HasLongClause (vars count : ℕ) (tokens : List Token) : Type 0 where
  pub token : Token
  pub number : ℤ
  pub closed : List (List ℤ)
  pub begun : List ℤ
  pub place : OccursAt token vars count tokens closed begun
  pub spelled : number_of token.text ≡ Some number
  pub within : IsLiteral vars number
  pub fault : length begun ≡ max_clause_literals

-- the tokens end inside a clause
pub record EndsOpen (vars count : ℕ) (tokens : List Token) : Type 0 where
  pub closed : List (List ℤ)
  pub begun : List ℤ
  pub read : TokensSpell vars count tokens closed begun
  pub fault : 0 < length begun

pub record EndsEarly (vars count : ℕ) (tokens : List Token) : Type 0 where
  pub closed : List (List ℤ)
  pub read : TokensSpell vars count tokens closed []
  pub fault : length closed < count

-- the first fault of the tokens after a header that has no fault
abbrev pub IsBodyFault : DimacsFault → ℕ → ℕ → List Token → Type 0
IsBodyFault (BadNumber line) vars count tokens = HasBadNumber line vars count tokens
IsBodyFault (VariableRange line) vars count tokens = HasLargeVariable line vars count tokens
IsBodyFault OpenClause vars count tokens = EndsOpen vars count tokens
IsBodyFault TooFew vars count tokens = EndsEarly vars count tokens
IsBodyFault (TooMany line) vars count tokens = HasMoreClauses line vars count tokens
IsBodyFault Limit vars count tokens = HasLongClause vars count tokens
IsBodyFault NoHeader vars count tokens = ⊥
IsBodyFault BadHeader vars count tokens = ⊥
IsBodyFault Memory vars count tokens = ⊥

-- the fault of the header
abbrev pub IsHeaderFault : DimacsFault → List Line → Type 0
IsHeaderFault NoHeader lines = HasNoHeader lines
IsHeaderFault BadHeader lines = HasBadHeader lines
IsHeaderFault Limit lines = HasLargeHeader lines
IsHeaderFault _ lines = ⊥

-- the first fault of the file; running out of memory isn't a fault of a file
abbrev pub IsFormulaFault : List ℕ → DimacsFault → Type 0
IsFormulaFault bytes fault = IsHeaderFault fault (lines_of bytes) ⊎ InBody bytes (IsBodyFault fault)
