-- Files that are opened one after the other.
use Rattle.std.proofs.Common.{Some, slice_get, option_map, subst, ◌≡◌, ◌∙◌, ◌<◌, ◌+◌, ◌++◌, ℕ, List, [], ◌∷◌, map, take}
use Rattle.std.proofs.Common.{length, get_or, refl, sym, ap}
use Rattle.std.proofs.lemmas.List.{map-append, take-map}
use Rattle.std.proofs.lemmas.List.{take_more}
use Rattle.std.proofs.lemmas.Option.{slice_get-get_or, slice_get-map}
use Rattle.run_files.specs.Files.{AreOpened, Effects}
use Rattle.run_files.specs.Asked.{Text}
use Rattle.run_files.specs.Causes.{WasRefused}
use Rattle.run_files.specs.declared.files.OpenFault.{OpenFault}

-- if each reader so far has what the file at its path holds, this is still true with one more
-- reader
pub opened_more : {R B T : Type 0} {L : Type 0} (left : R → L) (contents later : T → L) (text : B → T) (before after : List R) (reader : R)
    (paths : List B) (k : ℕ) (d : B)
    → k < length paths → after ≡ before ++ reader ∷ [] → map left before ≡ map contents (take k (map text paths))
    → later ≡ contents → left reader ≡ later (text (get_or paths k d)) → map left after ≡ map contents (take (k + 1) (map text paths))
opened_more left contents later text before after reader paths k d inside is known stays one =
    let path = get_or paths k d in
    let readers : map left after ≡ map left before ++ left reader ∷ [] = ap (map left) is ∙ map-append left before (reader ∷ []) in
    let taken : take (k + 1) (map text paths) ≡ map text (take k paths) ++ text path ∷ [] =
    take-map text (k + 1) paths ∙ ap (map text) (take_more paths k d inside) ∙ map-append text (take k paths) (path ∷ []) in
    let mapped : map contents (take (k + 1) (map text paths)) ≡ map contents (map text (take k paths)) ++ contents (text path) ∷ [] =
    ap (map contents) taken ∙ map-append contents (map text (take k paths)) (text path ∷ []) in
    let same : map left before ≡ map contents (map text (take k paths)) = known ∙ ap (map contents) (take-map text k paths) in
    let reads : left reader ≡ contents (text path) = one ∙ ap (λ t. t (text path)) stays in
    readers ∙ ap (λ ls. ls ++ left reader ∷ []) same ∙ ap (λ l. map contents (map text (take k paths)) ++ l ∷ []) reads ∙ sym mapped

-- the first k + 1 paths are the first k, followed by the path at index k
one_path_more : {B T : Type 0} (text : B → T) (paths : List B) (k : ℕ) (d : B) → k < length paths
    → take (k + 1) (map text paths) ≡ take k (map text paths) ++ text (get_or paths k d) ∷ []
one_path_more text paths k d inside =
    take-map text (k + 1) paths ∙ ap (map text) (take_more paths k d inside) ∙ map-append text (take k paths) (get_or paths k d ∷ [])
    ∙ ap (λ ts. ts ++ text (get_or paths k d) ∷ []) (sym (take-map text k paths))

-- if the next file is opened after those so far, all of them were opened in order
push_opened : {F R : Type 0} (opens : F → Text → R → F → Type 0) (first : F) (paths : List Text) (readers : List R) (before : F)
    (path : Text) (reader : R) (after : F)
    → AreOpened opens first paths readers before → opens before path reader after
    → AreOpened opens first (paths ++ path ∷ []) (readers ++ reader ∷ []) after
push_opened opens first [] [] before path reader after all one = (after, subst (λ f. opens f path reader after) all one, refl)
push_opened opens first (p ∷ ps) (r ∷ rs) before path reader after all one =
    (all.0, all.1, push_opened opens all.0 ps rs before path reader after all.2 one)
push_opened opens first [] (r ∷ rs) before path reader after all one = absurd all
push_opened opens first (p ∷ ps) [] before path reader after all one = absurd all

pub all_opened_more : {F R B : Type 0} (opens : F → Text → R → F → Type 0) (text : B → Text) (first : F) (so_far all_now : List R)
    (reader : R) (paths : List B) (k : ℕ) (d : B)
    (before after : F) → k < length paths → all_now ≡ so_far ++ reader ∷ [] → AreOpened opens first (take k (map text paths)) so_far before
    → opens before (text (get_or paths k d)) reader after → AreOpened opens first (take (k + 1) (map text paths)) all_now after
all_opened_more opens text first so_far all_now reader paths k d before after inside is all one =
    subst (λ ps. AreOpened opens first ps all_now after) (sym (one_path_more text paths k d inside))
    (subst (λ rs. AreOpened opens first (take k (map text paths) ++ text (get_or paths k d) ∷ []) rs after) (sym is)
    (push_opened opens first (take k (map text paths)) so_far before (text (get_or paths k d)) reader after all one))

-- the text of an element of a list is an element of the list of texts
pub read_at : {B T : Type 0} (text : B → T) (paths : List B) (k : ℕ) (d : B) → k < length paths
    → slice_get (map text paths) k ≡ Some (text (get_or paths k d))
read_at text paths k d inside = slice_get-map text paths k ∙ ap (option_map text) (slice_get-get_or paths k d inside)

-- the earlier paths were opened, and this one was refused
pub refused_at : (its : Effects) {B : Type 0} (text : B → Text) (first : its.State)
    (paths : List B) (readers : List its.Reader) (next : its.State) (k : ℕ) (d : B) (fault : OpenFault) (after : its.State)
    → k < length paths → AreOpened its.opens first (take k (map text paths)) readers next
    → its.refuses next (text (get_or paths k d)) fault after → WasRefused its first (map text paths) k fault after
refused_at its text first paths readers next k d fault after inside opened refused = record {
  path = text (get_or paths k d);
  is_path = read_at text paths k d inside;
  readers = readers;
  next = next;
  opened = opened;
  refused = refused;
}
