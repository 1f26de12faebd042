use Rattle.std.proofs.Common.{◌≡◌, ℕ, ◌+◌, ◌-◌, ◌≤◌, List, ◌∷◌, [], ◌++◌, length, length-append, take, drop, replicate, ◌∙◌, ap, arith}
use Rattle.std.proofs.lemmas.List.{length-take-le, take-take}
use Rattle.std.proofs.Math.Seq.{take-append-add}
use Rattle.lrup_text.specs.Writing.{space}
use Rattle.lrup_text.specs.internal.Reading.{literal_front}
use Rattle.lrup_text.proofs.writer.WriteBuffer.push_word.Goals as goal

-- of the appended bytes, only a word and the space after it are kept
pushed : (held appended left word text rest : List ℕ) (start : ℕ) → left ≡ take (length appended - start) appended
    → appended ≡ held ++ take ((start + 22) - start) (drop start word) → start + length text ≡ 21 → drop start word ≡ text ++ space ∷ rest
    → 22 ≤ length rest → left ≡ held ++ (text ++ space ∷ [])
pushed held appended left word text rest start left_is appended_is size is room =
    let whole = text ++ space ∷ rest in
    let same : (start + 22) - start ≡ 22 = omega arith in
    let ends : appended ≡ held ++ take 22 whole = appended_is ∙ ap (λ n. held ++ take n (drop start word)) same
    ∙ ap (λ t. held ++ take 22 t) is in
    let long : 22 ≤ length whole = omega (arith, length-append text (space ∷ rest), room) in
    let count : length appended - start ≡ length held + (length text + 1) =
    omega (arith, ap length ends, length-append held (take 22 whole), length-take-le 22 whole long, size) in
    left_is ∙ ap (λ n. take n appended) count ∙ ap (take (length held + (length text + 1))) ends
    ∙ take-append-add held (take 22 whole) (length text + 1)
    ∙ ap (λ t. held ++ t) (take-take (length text + 1) 22 whole (omega (arith, size)) ∙ take-append-add text (space ∷ rest) 1)

pub returns : goal.returns
returns c =
    pushed c.args.self.now c.append.new.self c.cut.new.self c.spell-start.new.bytes (literal_front c.args.negative c.args.magnitude)
    (replicate 22 space) c.spell-start.result c.cut.ensures c.append.ensures c.spell-start.ensures.start c.spell-start.ensures.text
    (omega arith)
