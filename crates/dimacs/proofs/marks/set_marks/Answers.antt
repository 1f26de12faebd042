use Rattle.std.proofs.Common.{◌≡◌, ◌⊎◌, ◌<◌, ◌≤◌, ℕ, length, get_or, inl, inr, refl, ⊎_elim, arith}
use Rattle.std.proofs.lemmas.Bool.{cases_lt}
use Rattle.std.proofs.lemmas.List.{get_or_past}
use Rattle.dimacs.proofs.SetLemmas.{MarksAre-fewer}
use Rattle.dimacs.proofs.marks.set_marks.Goals as goal

pub mark_all-requires-clause-marks : goal.mark_all-requires-clause-marks
mark_all-requires-clause-marks c =
    let old = c.args.words.now in
    let new = c.resize.new.self in
    let ensures = c.in_ok-resize.ensures in
    let same : (k : ℕ) → (get_or new.items k 0 ≡ get_or old.items k 0) ⊎ (get_or new.items k 0 ≡ 0) = λ k.
    ⊎_elim
    (λ (within : k < 524288). ⊎_elim (λ (before : k < length old.items). inl (ensures.by_index.0 k 0 within (omega (arith, old.ok.0))))
    (λ (after_run : length old.items ≤ k). inr (ensures.by_index.1 k 0 refl (omega (arith, old.ok.0)) within))
    (cases_lt k (length old.items)))
    (λ (past : 524288 ≤ k). inr (get_or_past new.items k 0 (omega (arith, ensures.len, new.ok.0))))
    (cases_lt k 524288)
    in
    rw c.deref_mut.ensures.value (MarksAre-fewer old.items new.items same c.requires)
