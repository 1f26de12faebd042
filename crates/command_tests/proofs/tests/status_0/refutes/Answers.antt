use Rattle.std.proofs.Common.{◌≡◌, ◌∙◌, ℕ, List, [], ◌∷◌, Some, ap, codes, refl, sym, subst, arith}
use Rattle.std.proofs.lemmas.Bool.{eqb-true}
use Rattle.lrup_model.specs.Formula.{Cnf}
use Rattle.lrup_text.specs.Reads.{ReadsOf}
use Rattle.dimacs.specs.FormulaText.{IsFormulaText}
use Rattle.run_files.specs.Files.{WasRead}
use Rattle.command_tests.specs.ExactFiles.{ExactValue, text_at, text_or_none}
use Rattle.command_tests.proofs.tests.status_0.refutes.Goals as goal

-- the known bytes of the file at `f` are those that were read from it
known_is_read : {F R : Type 0} (opens : F → List ℕ → R → F → Type 0) (reads : ReadsOf R) (files : ExactValue) (path bytes : List ℕ)
    (before after : F) → path ≡ codes "f"
    → WasRead opens reads (λ p. Some (text_or_none (text_at files p))) before path bytes after → files.formula ≡ bytes
known_is_read opens reads files path bytes before after is read =
    read.known files.formula (ap (λ (p : List ℕ). Some (text_or_none (text_at files p))) is)

text_is : (formula known bytes : List ℕ) (f : Cnf) → known ≡ formula → known ≡ bytes → IsFormulaText bytes f → IsFormulaText formula f
text_is formula known bytes f is same text = subst (λ (x : List ℕ). IsFormulaText x f) (sym same ∙ is) text

pub returns-clause-sound : goal.returns-clause-sound
returns-clause-sound g c zero =
    let named = c.command.ensures.sound (eqb-true c.command.result 0 zero) in
    let plain = c.plain_words.ensures (codes "f") (codes "s1" ∷ []) refl refl (omega arith) (omega arith) in
    let asked = plain.2 named.0 named.1 named.5 in
    let same = known_is_read _ _ c.new-files.result _ _ _ _ asked.0 named.6 in
    (named.3, text_is c.args.formula.now _ named.2 named.3 c.new-files.ensures.formula same named.7, named.8)

pub returns-clause-ends : goal.returns-clause-ends
returns-clause-ends g c zero =
    let ends = rw (eqb-true c.command.result 0 zero) at c.command.ensures.ends in
    let plain = c.plain_words.ensures (codes "f") (codes "s1" ∷ []) refl refl (omega arith) (omega arith) in
    let named = c.status_0_has_a_command_line.ensures _ _ _ _ ends in
    let said = plain.1 named.0 named.4 in
    let same = known_is_read _ _ c.new-files.result _ _ _ _ said.formula named.5 in
    (named.0, named.2, named.4, text_is c.args.formula.now _ named.1 named.2 c.new-files.ensures.formula same named.6, named.7)
