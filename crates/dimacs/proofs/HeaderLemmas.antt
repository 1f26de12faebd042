-- The header's tokens, read run by run.
use Rattle.std.proofs.Common.{◌≡◌, ◌⊎◌, ◌+◌, ◌<◌, ◌≤◌, ℕ, true, false, not, bytes_eq, List, [], ◌∷◌, ◌++◌, length, take, drop, get_or}
use Rattle.std.proofs.Common.{codes, refl, sym, ap, ◌∙◌, inl, inr, ⊎_elim, arith}
use Rattle.std.proofs.lemmas.List.{drop_more, take_more, drop_all, append_assoc}
use Rattle.std.proofs.lemmas.Bool.{not-false}
use Rattle.std.proofs.lemmas.Slice.Eq.{bytes_eq-Decides}
use Rattle.lrup_model.specs.Literal.{max_variable}
use Rattle.lrup_model.specs.Formula.{max_clauses}
use Rattle.dimacs.specs.Lines.{is_separator, runs}
use Rattle.dimacs.specs.Numerals.{is_count, value}
use Rattle.dimacs.specs.FormulaTokens.{IsHeader}
use Rattle.dimacs.specs.FormulaFault.{SaysTooMuch}
use Rattle.dimacs.specs.internal.Places.{first_run, after_run, with_run, IsAtToken, ReadsCount}
use Rattle.dimacs.proofs.LineLemmas.{first_run-begun, first_run-ended, first_run-nil, after_run-begun, after_run-ended, after_run-nil}
use Rattle.dimacs.proofs.LineLemmas.{runs_begun, IsRun, IsRun-run}

pub run_more : (text : List ℕ) (k : ℕ) → k < length text → is_separator (get_or text k 0) ≡ false
    → first_run text ≡ take k text ++ first_run (drop k text) → first_run text ≡ take (k + 1) text ++ first_run (drop (k + 1) text)
run_more text k lt begins e =
    e
    ∙ ap (λ (x : List ℕ). take k text ++ first_run x) (drop_more text k 0 lt)
    ∙ ap (λ (x : List ℕ). take k text ++ x) (first_run-begun (get_or text k 0) (drop (k + 1) text) begins)
    ∙ sym (append_assoc (take k text) (get_or text k 0 ∷ []) (first_run (drop (k + 1) text)))
    ∙ ap (λ (x : List ℕ). x ++ first_run (drop (k + 1) text)) (sym (take_more text k 0 lt))

pub left_more : (text : List ℕ) (k : ℕ) → k < length text → is_separator (get_or text k 0) ≡ false
    → after_run text ≡ after_run (drop k text) → after_run text ≡ after_run (drop (k + 1) text)
left_more text k lt begins e =
    e ∙ ap after_run (drop_more text k 0 lt) ∙ after_run-begun (get_or text k 0) (drop (k + 1) text) begins

-- at the index of a separator, the run has ended
pub ended_within : (text : List ℕ) (k : ℕ) → k < length text → is_separator (get_or text k 0) ≡ true
    → (first_run (drop k text) ≡ []) × (after_run (drop k text) ≡ drop k text)
ended_within text k lt separates =
    let e = drop_more text k 0 lt in (
      ap first_run e ∙ first_run-ended (get_or text k 0) (drop (k + 1) text) separates,
      ap after_run e ∙ after_run-ended (get_or text k 0) (drop (k + 1) text) separates ∙ sym e,
    )

pub ended_past : (text : List ℕ) (k : ℕ) → length text ≤ k → (first_run (drop k text) ≡ []) × (after_run (drop k text) ≡ drop k text)
ended_past text k past =
    let e = drop_all k text past in
    (ap first_run e ∙ first_run-nil, ap after_run e ∙ after_run-nil ∙ sym e)

run_is : (bs : List ℕ) → IsRun bs → first_run bs ≡ bs
run_is [] h = first_run-nil
run_is (b ∷ bs) h = first_run-begun b bs h.0 ∙ ap (λ (x : List ℕ). b ∷ x) (run_is bs h.1)

pub first_run-run : (bs : List ℕ) → first_run (first_run bs) ≡ first_run bs
first_run-run bs = run_is (first_run bs) (IsRun-run bs)

pub runs-at_token : (bs : List ℕ) → IsAtToken bs → runs bs ≡ with_run (first_run bs) (runs (after_run bs))
runs-at_token [] place = ap (λ (x : List ℕ). with_run x (runs (after_run []))) (sym first_run-nil)
runs-at_token (b ∷ bs) place =
    runs_begun b bs place
    ∙ ap (λ (x : List ℕ). (b ∷ first_run bs) ∷ runs x) (sym (after_run-begun b bs place))
    ∙ ap (λ (x : List ℕ). with_run x (runs (after_run (b ∷ bs)))) (sym (first_run-begun b bs place))

header_of : (v c : List ℕ) (later : List (List ℕ)) → is_count v ≡ true → is_count c ≡ true
    → IsHeader (codes "p" ∷ codes "cnf" ∷ with_run v (with_run c [])) (value v) (value c)
header_of [] c later no_vars counts = cc
header_of (x ∷ v) [] later vars no_counts = cc
header_of (x ∷ v) (y ∷ c) later vars counts = (refl, refl, (vars, refl), (counts, refl))

pub too_much : (tokens : List (List ℕ)) (v c : List ℕ) (n m : ℕ) → tokens ≡ codes "p" ∷ codes "cnf" ∷ with_run v (with_run c [])
    → ReadsCount v n → ReadsCount c m → (max_variable < n) ⊎ (max_clauses < m) → SaysTooMuch tokens
too_much tokens v c n m whole vars counts above =
    rw whole (record {
      vars = value v;
      count = value c;
      spelled = header_of v c [] vars.count counts.count;
      above = ⊎_elim (λ large. inl (⊎_elim (λ e. omega (arith, e)) (λ both. both.1) vars.number))
          (λ large. inr (⊎_elim (λ e. omega (arith, e)) (λ both. omega (arith, both.1)) counts.number)) above;
    })

pub text_is : (xs ys : List ℕ) → false ≡ not (bytes_eq xs ys) → xs ≡ ys
text_is xs ys h = (bytes_eq-Decides xs ys).0 (not-false (bytes_eq xs ys) (sym h))

pub header_whole : (all first second third fourth fifth : List (List ℕ)) (p cnf v c more : List ℕ) → all ≡ with_run p first → p ≡ codes "p"
    → first ≡ with_run cnf second → cnf ≡ codes "cnf" → second ≡ with_run v third → third ≡ with_run c fourth → fourth ≡ with_run more fifth
    → more ≡ [] → all ≡ codes "p" ∷ codes "cnf" ∷ with_run v (with_run c [])
header_whole all first second third fourth fifth p cnf v c more in_all is_p in_first is_cnf in_second in_third in_fourth none =
    in_all
    ∙ ap (λ (x : List ℕ). with_run x first) is_p
    ∙ ap (λ (x : List (List ℕ)). codes "p" ∷ x) (in_first ∙ ap (λ (x : List ℕ). with_run x second) is_cnf
    ∙ ap (λ (x : List (List ℕ)). codes "cnf" ∷ x) (in_second
    ∙ ap (with_run v) (in_third ∙ ap (with_run c) (in_fourth ∙ ap (λ (x : List ℕ). with_run x fifth) none))))
