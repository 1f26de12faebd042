-- The paths of a round's streams, and the streams that are opened at these paths.
use Rattle.std.proofs.Common.{◌++◌, ◌+◌, ◌-◌, ◌<◌, ◌∙◌, ◌∷◌, ◌≡◌, List, [], add-one, ap, arith, drop, get_or, length}
use Rattle.std.proofs.Common.{length-append, map, refl, suc, sym, take, zero, ℕ}
use Rattle.std.proofs.lemmas.List.{take_all}
use Rattle.std.specs.Borrow.{Bor}
use Rattle.clap.specs.Walk.{texts}
use Rattle.run_files.specs.Asked.{Text}
use Rattle.run_files.specs.Files.{AreOpened}
use Rattle.run_files.specs.Paths.{stream_path, stream_paths}

-- the paths with one more stream
pub paths_next : (folder : Text) (number k : ℕ)
    → stream_paths folder number (k + 1) ≡ stream_paths folder number k ++ stream_path folder number (k + 1) ∷ []
paths_next folder number k =
    ap (stream_paths folder number) (add-one k)
    ∙ ap (λ n. stream_paths folder number k ++ stream_path folder number n ∷ []) (sym (add-one k))

-- the number of paths
pub paths_count : (folder : Text) (number count : ℕ) → length (stream_paths folder number count) ≡ count
paths_count folder number zero = refl
paths_count folder number (suc count) =
    let before = paths_count folder number count in
    omega (arith, length-append (stream_paths folder number count) (stream_path folder number (suc count) ∷ []), before)

-- stream 1's path is the first one
paths_begin : (folder : Text) (number count : ℕ)
    → (rest : List Text) × (stream_paths folder number (suc count) ≡ stream_path folder number 1 ∷ rest)
paths_begin folder number zero = ([], refl)
paths_begin folder number (suc count) =
    let before = paths_begin folder number count in
    let last = stream_path folder number (suc (suc count)) ∷ [] in
    (before.0 ++ last, ap (λ ps. ps ++ last) before.1)

pub path_and_rest : (folder : Text) (number count : ℕ) → 0 < count
    → stream_paths folder number count ≡ stream_path folder number 1 ∷ drop 1 (stream_paths folder number count)
path_and_rest folder number zero some = absurd (omega (arith, some))
path_and_rest folder number (suc count) some =
    let begins = paths_begin folder number count in
    let rest : drop 1 (stream_paths folder number (suc count)) ≡ begins.0 = ap (drop 1) begins.1 in
    begins.1 ∙ ap (λ ps. stream_path folder number 1 ∷ ps) (sym rest)

-- stream 1, and the streams that were opened after it, were opened in order
pub opened_from : {F R : Type 0} (opens : F → Text → R → F → Type 0) (before next after : F) (first : R) (readers others : List R)
    (paths rest : List Text) (path : Text) → paths ≡ path ∷ rest → readers ≡ first ∷ others → opens before path first next
    → AreOpened opens next rest others after → AreOpened opens before paths readers after
opened_from opens before next after first readers others paths rest path paths_are readers_are one more =
    rw (paths_are, readers_are) (next, one, more)

pub left_from : {R L : Type 0} (left : R → L) (contents later : Text → L) (first : R) (readers others : List R) (paths rest : List Text)
    (path : Text) → paths ≡ path ∷ rest → readers ≡ first ∷ others → later ≡ contents → left first ≡ contents path
    → map left others ≡ map later rest → map left readers ≡ map contents paths
left_from left contents later first readers others paths rest path paths_are readers_are same one more =
    let others_are = more ∙ ap (λ t. map t rest) same in
    rw (paths_are, readers_are) (cc)

-- the first word, and those after it
pub first_word : (words : List (Bor Text)) (word : Bor Text) (path : Text) (rest : List Text) → texts words ≡ path ∷ rest
    → word ≡ get_or words 0 word → word.now ≡ path
first_word [] word path rest is at = absurd (let no : [] ≡ path ∷ rest = is in cc)
first_word (w ∷ ws) word path rest is at = let one : w.now ∷ texts ws ≡ path ∷ rest = is in ap (λ b. b.now) at ∙ (cc)

pub other_words : (words : List (Bor Text)) → texts (take (length words - 1) (drop 1 words)) ≡ drop 1 (texts words)
other_words [] = refl
other_words (w ∷ ws) =
    let count : length (w ∷ ws) - 1 ≡ length ws = omega arith in
    ap texts (take_all (length (w ∷ ws) - 1) ws (omega (arith, count)))
