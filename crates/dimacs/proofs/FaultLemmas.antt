-- The fault that a step of the reader gives is the fault of the tokens.
use Rattle.std.proofs.Common.{◌≡◌, ◌≢◌, ◌⊎◌, ◌<◌, ◌≤◌, ℕ, ℤ, pos, List, [], ◌∷◌, Some, ⊎_elim, arith}
use Rattle.lrup_model.specs.Literal.{IsLiteral}
use Rattle.lrup_model.specs.Formula.{max_clause_literals}
use Rattle.dimacs.specs.declared.fault.DimacsFault.{DimacsFault}
use Rattle.dimacs.specs.declared.fault.DimacsFault.TheVariants.{TooMany, Limit, Memory, OpenClause, TooFew}
use Rattle.dimacs.specs.Lines.{Token, lines_of}
use Rattle.dimacs.specs.Numerals.{number_of}
use Rattle.dimacs.specs.FormulaTokens.{InBodyOf}
use Rattle.dimacs.specs.FormulaFault.{IsBodyFault}
use Rattle.dimacs.specs.internal.Places.{IsSmallHeader, lines_at, tokens_at}
use Rattle.dimacs.specs.declared.body.Builder.{Builder}
use Rattle.dimacs.specs.declared.header.Header.{Header}
use Rattle.dimacs.proofs.BuildLemmas.{Reads, more_clauses, long_clause, ends_open, ends_early}

pub zero_fault : {header : Header} {all left later : List Token} {b : Builder} {t : Token} {line : ℕ} {fault : DimacsFault}
    → Reads header all left b → left ≡ t ∷ later → line ≡ t.line → number_of t.text ≡ Some (pos 0)
    → (fault ≡ Memory) ⊎ ((fault ≡ TooMany line) × (b.left ≡ 0)) → fault ≢ Memory → IsBodyFault fault header.vars header.clauses all
zero_fault h next here is which other =
    ⊎_elim (λ memory. absurd (other memory)) (λ many. rw (many.0, here) (more_clauses h next is (omega arith) many.1)) which

pub literal_fault : {header : Header} {all left later : List Token} {b : Builder} {t : Token} {line : ℕ} {l : ℤ} {fault : DimacsFault}
    → Reads header all left b → left ≡ t ∷ later → line ≡ t.line → number_of t.text ≡ Some l → IsLiteral header.vars l
    → (fault ≡ Memory) ⊎ ((fault ≡ TooMany line) × (b.left ≡ 0)) ⊎ ((fault ≡ Limit) × (0 < b.left) × (max_clause_literals ≤ b.written))
    → fault ≢ Memory → IsBodyFault fault header.vars header.clauses all
literal_fault h next here is literal which other =
    ⊎_elim (λ memory. absurd (other memory))
    (λ faulty. ⊎_elim
    (λ many. rw (many.0, here) (more_clauses h next is literal.1 many.1))
    (λ limit. rw limit.0 (long_clause h next is literal limit.2))
    faulty)
    which

pub end_fault : {header : Header} {all left : List Token} {b : Builder} {fault : DimacsFault} → Reads header all left b → left ≡ []
    → ((fault ≡ OpenClause) × (0 < b.written)) ⊎ ((fault ≡ TooFew) × (b.written ≡ 0) × (0 < b.left))
    → IsBodyFault fault header.vars header.clauses all
end_fault h none which =
    ⊎_elim (λ unended. rw unended.0 (ends_open h none unended.1)) (λ few. rw few.0 (ends_early h none few.1 few.2)) which

-- ## the whole file

pub in_body : (P : ℕ → ℕ → List Token → Type 0) (bytes : List ℕ) (tokens : List (List ℕ)) (rest : List ℕ) (n m vars count : ℕ)
    → lines_of bytes ≡ record { number = n; tokens = tokens } ∷ lines_at m rest → IsSmallHeader tokens vars count
    → P vars count (tokens_at m rest) → InBodyOf (lines_of bytes) P
unfolding tokens_at
in_body P bytes tokens rest n m vars count lines header later =
    rw lines (record {
      vars = vars;
      count = count;
      spelled = header.spelled;
      few_variables = header.few_variables;
      few_clauses = header.few_clauses;
      later = later;
    })
