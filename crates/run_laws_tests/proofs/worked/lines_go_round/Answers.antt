use Rattle.std.proofs.Common.{◌≡◌, ◌≤◌, ◌+◌, ◌++◌, ℕ, List, [], ◌∷◌, inl, inr, subst, arith}
use Rattle.std.proofs.lemmas.Bool.{cases_eq}
use Rattle.stream_check.specs.lemmas.TurnLemmas.{lines_beside, lines_pushed}
use Rattle.stream_check.specs.Turns.{line_count}
use Rattle.run_laws_tests.proofs.worked.lines_go_round.Goals as goal

-- one more line increases each stream's count of lines by at most 1
one_more : (order : List ℕ) (s t : ℕ) → line_count t (order ++ s ∷ []) ≤ line_count t order + 1
one_more order s t = elim (cases_eq s t) [
  | inl same ↦ subst (λ u. line_count u (order ++ s ∷ []) ≤ line_count u order + 1) same (omega (arith, lines_pushed order s))
  | inr other ↦ omega (arith, lines_beside order s t other)
]

after_both : (t : ℕ) → line_count t (1 ∷ 2 ∷ []) ≤ 1
after_both t = elim (cases_eq 2 t) [
  | inl same ↦ subst (λ u. line_count u (1 ∷ 2 ∷ []) ≤ 1) same (omega arith)
  | inr other ↦ omega (arith, lines_beside (1 ∷ []) 2 t other, one_more [] 1 t)
]

pub returns-clause-round : goal.returns-clause-round
returns-clause-round c = (
  (λ t. ((λ following. omega arith), (λ ahead. omega arith))),
  (
    (λ t. (
      (λ following. omega (arith, lines_beside [] 1 t (λ is. omega (arith, is, following)))),
      (λ ahead. omega (arith, one_more [] 1 t)),
    )),
    ((λ t. ((λ following. omega (arith, after_both t)), (λ ahead. omega (arith, after_both t)))), tt),
  ),
)

pub returns-clause-late : goal.returns-clause-late
returns-clause-late c turns = omega (arith, (turns.1.0 2).0 (omega arith))

pub returns-clause-twice : goal.returns-clause-twice
returns-clause-twice c turns = omega (arith, (turns.1.1.0 1).1 (omega arith))

pub returns-clause-left_out : goal.returns-clause-left_out
returns-clause-left_out c turns = omega (arith, (turns.1.1.1.0 2).0 (omega arith))
