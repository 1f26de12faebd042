use Rattle.std.proofs.Common.{◌+◌, ◌-◌, ◌++◌, ℕ, List, [], ◌∷◌, take, replicate, ap, ◌∙◌}
use Rattle.idwords.proofs.OpeningLemmas.{opened_words}
use Rattle.idwords.proofs.opening.all_words.Goals as goal

pub returns-clause-words : goal.returns-clause-words
returns-clause-words c =
    let f = c.args.formula.now in
    let p = c.args.layout.now in
    let filled : List ℕ → ℕ → ℕ → List ℕ = λ ws n k. take n ws ++ replicate (n - k) 0 in
    opened_words f p (c.last_identity.result + 1) (c.last_identity-2.result + 1) c.row_words-2.result
    c.push.new.self.items c.add_clauses.new.words.items c.resize.new.self.items c.add_literals.new.words.items c.resize-2.new.self.items
    c.requires (ap (λ (n : ℕ). n + 1) c.last_identity.ensures.last)
    (ap (λ (n : ℕ). n + 1) c.last_identity-2.ensures.last) c.row_words-2.ensures.words
    (c.in_ok-push.ensures.items ∙ ap (λ (ws : List ℕ). ws ++ 0 ∷ []) c.in_ok-words.ensures.items)
    c.in_ok-add_clauses.ensures.words
    (c.in_ok-resize.ensures.items ∙ ap (filled c.add_clauses.new.words.items (c.last_identity-2.result + 1)) c.add_clauses.new.words.ok.0)
    c.in_ok-add_literals.ensures
    (c.in_ok-resize-2.ensures.items ∙ ap (filled c.add_literals.new.words.items c.row_words-2.result) c.add_literals.new.words.ok.0)
