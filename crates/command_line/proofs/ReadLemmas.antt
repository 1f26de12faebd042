-- What clap's getters read in the rows.
use Rattle.std.proofs.Common.{◌≡◌, ◌∙◌, ◌⊎◌, ◌≤◌, ◌<◌, refl, sym, ap, subst, inl, inr, codes, ℕ, Bool, true, false, List, [], length}
use Rattle.std.proofs.Common.{Option, Some, None, Result, Ok, Err}
use Rattle.std.specs.Str.{bytes_eq}
use Rattle.std.specs.Prelude.{IfErr, unwrap_or}
use Rattle.std.specs.Option.{ForSome, option_map_or}
use Rattle.std.specs.Str.Parse.{ParsesUnsigned, digits_value, without_leading_plus}
use Rattle.clap.specs.Words.{IsUnsignedIn, ReadsOne, Row, Text, first_of, one_of}
use Rattle.command_line.specs.CommandLine.{IsWordsFault, option_number}
use Rattle.command_line.specs.declared.words.WordsFault.{WordsFault}
use Rattle.command_line.specs.declared.words.WordsFault.TheVariants.{Memory, TwoCheckpoints, Usage}
use Rattle.command_line.specs.internal.Matches.{AreRowsOf, HasNumber, HasUpTo, IsRowsFault, IsNumber}

-- a text that is a number of 64 bits is read as this number, and a missing one as the default
pub number_read : (E : Type 0) (G : Text → Result ℕ E → Type 0) → ((t : Text) (r : Result ℕ E) → G t r → ParsesUnsigned 64 10 t r)
    → (found : Option Text) (read : Option ℕ) (default : ℕ) → (found ≡ None → read ≡ None)
    → ((t : Text) → found ≡ Some t → ReadsOne G t read) → ForSome found IsNumber
    → unwrap_or read default ≡ option_map_or (λ t. digits_value 10 (without_leading_plus t)) found default
number_read E G only None read default none some number = rw (none refl) refl
number_read E G only (Some t) None default none some number =
    let failed = some t refl in
    absurd (only t (Err failed.0) failed.1 (number t refl))
number_read E G only (Some t) (Some n) default none some number = (only t (Ok n) (some t refl)).1

-- a number from 0 to `most` is a number of 64 bits
pub up_to_is_number : (most : ℕ) (name : Text) (rows : List Row) → HasUpTo most name rows → HasNumber name rows
up_to_is_number most name rows up_to text is = ((up_to text is).0, (up_to text is).1)

-- the number of an option is at most `most` if its default is
pub number_within : (most : ℕ) (name : Text) (default : ℕ) (rows : List Row) → HasUpTo most name rows → default ≤ most
    → option_number name default rows ≤ most
number_within most name default rows up_to small = go (one_of name rows) up_to
  where
    go : (found : Option Text) → ForSome found (IsUnsignedIn 0 most)
        → option_map_or (λ t. digits_value 10 (without_leading_plus t)) found default ≤ most
    go None h = small
    go (Some t) h = (h t refl).3

-- a flag whose text is `true` or `false` is read as that value, and a missing flag as false
pub flag_read : (found : Option Text) (read : Bool) → (found ≡ None → read ≡ false) → (found ≡ Some (codes "true") → read ≡ true)
    → (found ≡ Some (codes "false") → read ≡ false) → ForSome found (λ t. (t ≡ codes "true") ⊎ (t ≡ codes "false"))
    → read ≡ option_map_or (λ t. bytes_eq t (codes "true")) found false
flag_read None read none on off truth = none refl
flag_read (Some t) read none on off truth = elim (truth t refl) [
  | inl is ↦ on (ap Some is) ∙ sym (ap (λ (u : Text). bytes_eq u (codes "true")) is)
  | inr is ↦ off (ap Some is) ∙ sym (ap (λ (u : Text). bytes_eq u (codes "true")) is)
]

-- if one of two equal lists isn't empty, the other isn't either
pub same_length : {A : Type 0} {o : Option (List A)} {a b : List A} → o ≡ Some a → o ≡ Some b → 0 < length a → 0 < length b
same_length {A} {o} {a} {b} one two some = subst (λ (r : Option (List A)). 0 < length (unwrap_or r [])) (sym one ∙ two) some

-- if the words' rows give no command line, the words give none, for the same reason
pub fault_of_rows : {A : Type 0} (words : List Text) (rows : List Row) → AreRowsOf words rows → (result : Result A WordsFault)
    → IfErr result (IsRowsFault rows) → IfErr result (IsWordsFault words)
fault_of_rows words rows are (Ok line) is = is
fault_of_rows words rows are (Err (Usage text)) is = absurd is
fault_of_rows words rows are (Err TwoCheckpoints) is =
    let checkpoint = sym (ap (first_of (codes "checkpoint")) are.found) ∙ is.2 in
    let folder = sym (ap (first_of (codes "rounds")) are.found) ∙ is.3 in
    (is.0, is.1, record { good = are.good; path_is = checkpoint }, record { good = are.good; folder_is = folder })
fault_of_rows words rows are (Err Memory) is = is
