use Rattle.std.proofs.Common.{◌≡◌, ◌∙◌, ◌<◌, ◌≤◌, ℕ, Global, List, String, [], ◌∷◌, ap, arith, codes, get_or, length, map, rules}
use Rattle.std.proofs.Common.{string_bytes}
use Rattle.lrup_model_check.proofs.words.paths_of.Goals as goal

-- a list of four words
four : (xs : List (String Global)) (a b c d : String Global) → 4 ≤ length xs → length xs < 5 → a ≡ get_or xs 0 a → b ≡ get_or xs 1 b
    → c ≡ get_or xs 2 c → d ≡ get_or xs 3 d → xs ≡ a ∷ b ∷ c ∷ d ∷ []
four [] a b c d some few ea eb ec ed = absurd (omega (arith, some))
four (w ∷ []) a b c d some few ea eb ec ed = absurd (omega (arith, some))
four (w ∷ x ∷ []) a b c d some few ea eb ec ed = absurd (omega (arith, some))
four (w ∷ x ∷ y ∷ []) a b c d some few ea eb ec ed = absurd (omega (arith, some))
four (w ∷ x ∷ y ∷ z ∷ []) a b c d some few ea eb ec ed = cc
four (w ∷ x ∷ y ∷ z ∷ v ∷ xs) a b c d some few ea eb ec ed = absurd (omega (arith, few))

spelled : (a b c d : String Global) (option file formula model : List ℕ) → string_bytes a ≡ option → string_bytes b ≡ file
    → string_bytes c ≡ formula → string_bytes d ≡ model → map string_bytes (a ∷ b ∷ c ∷ d ∷ []) ≡ option ∷ file ∷ formula ∷ model ∷ []
spelled a b c d option file formula model ea eb ec ed = cc

pub returns-in-len4 : goal.returns-in-len4
returns-in-len4 c =
    let all = four c.args.words.now c.option-item.result c.file-item.result c.formula-item-then-words-lt5.result
    c.model-item-then-words-lt5.result c.in-len4.len_at_least c.in-len4.len_below c.option-item.is c.file-item.is
    c.formula-item-then-words-lt5.is c.model-item-then-words-lt5.is in
    let option : string_bytes c.option-item.result ≡ codes "--assume" = search rules in
    let file : string_bytes c.file-item.result ≡ c.deref-in-len4.result.now = search rules in
    let formula : string_bytes c.formula-item-then-words-lt5.result ≡ c.deref-in-len4-2.result.now = search rules in
    let model : string_bytes c.model-item-then-words-lt5.result ≡ c.deref-in-len4-3.result.now = search rules in
    record {
      words_are = ap (map string_bytes) all ∙ spelled c.option-item.result c.file-item.result c.formula-item-then-words-lt5.result
          c.model-item-then-words-lt5.result _ _ _ _ option file formula model;
      formula_is = search rules;
      model_is = search rules;
    }
