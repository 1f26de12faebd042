-- A text of assumed literals spells one list of literals.
use Rattle.std.proofs.Common.{◌≡◌, ◌<◌, ◌^◌, ℕ, ℤ, List, [], ◌∷◌, ◌++◌, codes, map, refl, sym, ap, ◌∙◌, arith}
use Rattle.std.specs.Fmt.{decimal, signed_decimal}
use Rattle.lrup_text.specs.Grammar.{clause_text, list_text}
use Rattle.lrup_text.specs.Lines.{Import, line_text}
use Rattle.lrup_text.specs.Laws.{OneLine}
use Rattle.lrup_text.specs.Cubes.{IsLiteralsText}

spaced : (words : List (List ℕ)) → codes " " ++ clause_text words (codes "\n") ≡ list_text words
spaced [] = refl
spaced (word ∷ words) = ap (λ (x : List ℕ). codes " " ++ (word ++ x)) (spaced words)

same_import : (one other : List ℤ) → Import 1 one ≡ Import 1 other → one ≡ other
same_import one other h = cc

-- literals whose texts are one line of assumed literals make one line of a stream
pub one_list : OneLine → (one other : List ℤ) (bytes : List ℕ) → IsLiteralsText one bytes → IsLiteralsText other bytes → one ≡ other
one_list law one other bytes first second =
    let lists : list_text (map signed_decimal one) ≡ list_text (map signed_decimal other) =
    sym (spaced (map signed_decimal one)) ∙ ap (λ (x : List ℕ). codes " " ++ x) (sym first.is ∙ second.is)
    ∙ spaced (map signed_decimal other) in
    let same : line_text (Import 1 one) ≡ line_text (Import 1 other) = ap (λ (x : List ℕ). decimal 1 ++ (codes " i" ++ x)) lists in
    let small : 1 < 10 ^ 18 = omega arith in
    same_import one other
    (law (Import 1 one) (Import 1 other) (line_text (Import 1 one)) (((omega arith, small), first.few), refl)
    (((omega arith, small), second.few), same))
