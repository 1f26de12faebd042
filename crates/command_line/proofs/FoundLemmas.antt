-- What is found in words without a fault, from the contracts of `clap` for each entry.
use Rattle.std.proofs.Common.{◌≡◌, ◌∙◌, ◌⊎◌, ◌<◌, ◌||◌, ap, sym, subst, refl, inl, inr, arith, ℕ, Bool, true, false, List, [], ◌∷◌, length}
use Rattle.std.proofs.Common.{Option, Some, None, is_some, codes, Result, Ok, Err, IfOk}
use Rattle.std.specs.Prelude.{IsErrAnd, find, option_map, slice_get, unwrap_or}
use Rattle.std.specs.List.{All, slice_index_or}
use Rattle.std.specs.Option.{option_map_or}
use Rattle.std.proofs.lemmas.List.{length-map}
use Rattle.std.specs.Borrow.{Bor}
use Rattle.std.specs.Str.{bytes_eq}
use Rattle.std.proofs.lemmas.Slice.Eq.{bytes_eq-Decides}
use Rattle.clap.specs.Words.{App, Accepts, BuildsOrBreaks, BuildsTo, FailsBy, HasMatchesOf, IsParsed, has_subcommand, kind_of, Row, Rule}
use Rattle.clap.specs.Words.{Text, app_of, args_of, fault_of, first_value, found_of, groups_of, is_broken, is_simple_and_free, matched_of}
use Rattle.clap.specs.Words.{matches_of, one_of, one_text, raw_values, read_as, reading_of, rows_of}
use Rattle.clap.specs.Walk.{row_of}
use Rattle.clap.specs.Facts.{explicit_source, least_values, Entry, EntryPasses, HasReading, IsCountArg, AllowsNone, PassesArg, ValuesPass}
use Rattle.clap.specs.Facts.{parser_of, parser_of_value, unwrap_or_range}
use Rattle.clap.specs.Takes.{is_given}
use Rattle.clap.specs.declared.builder.action.ArgAction.TheVariants.{Append, Count, Set}
use Rattle.clap.specs.declared.builder.arg.Arg.{Arg}
use Rattle.clap.specs.declared.builder.command.Command.{Command}
use Rattle.clap.specs.declared.builder.command.Command.TheViews.{out-Command}
use Rattle.clap.specs.declared.builder.value_parser.ValueParser.{ValueParser}
use Rattle.clap.specs.declared.builder.value_parser.ValueParser.TheVariants as parser
use Rattle.clap.specs.declared.builder.value_parser.Reading.{Reading}
use Rattle.clap.specs.declared.builder.value_parser.Reading.TheVariants.{AsWritten}
use Rattle.clap.specs.declared.parser.matches.MatchedArg.{MatchedArg}
use Rattle.clap.specs.declared.error.Error.{Error}
use Rattle.clap.specs.declared.error.kind.ErrorKind.TheVariants.{OutOfMemory}
use Rattle.clap.specs.declared.parser.matches.ArgMatches.{ArgMatches}
use Rattle.clap.specs.declared.parser.matches.Found.{Found}
use Rattle.clap.proofs.CallerLemmas.{entry_by_id}
use Rattle.clap.proofs.WalkLemmas.{find_row, first_value-rows, one_text-rows, raw_values-rows, simple_arg}
use Rattle.command_line.specs.CommandLine.{lrupd}
use Rattle.command_line.specs.internal.Matches.{AreRowsOf, HasTruth, HasUpTo}
use Rattle.command_line.proofs.FaultLemmas.{given, simple, simple_and_free}
use Rattle.command_line.proofs.ProgramLemmas.{EachArgument, IsProgram, argument_has, is_program, program_simple}

-- what holds for the entry of an argument
record Holds (d : Command) (id : Text) (x : MatchedArg) : Type 0 where
  values : All (λ v. PassesArg d id v.now) x.vals.items
  reading : HasReading d id x.reading
  filled : (0 < length x.vals.items) ⊎ (IsCountArg d id ⊎ AllowsNone d id)

entry_holds : (d : Command) (f : Found) (id : Text) (x : MatchedArg) → ValuesPass d f → groups_of d ≡ [] → (id ≡ [] → ⊥)
    → matched_of f id ≡ Some x → Holds d id x
entry_holds d f id x pass no_groups named found =
    let got = entry_by_id (EntryPasses d) f.entries.items id x pass found in
    let key : got.0.0.now ≡ id = (bytes_eq-Decides _ _).0 got.2 in
    let none : got.0.1.is_group ≡ true → ⊥ = λ g. elim (got.3.3 g) [
      | inl empty ↦ named (sym key ∙ empty)
      | inr lots ↦
          let bad : 0 < 0 = rw no_groups at lots in
          absurd (omega arith)
    ] in
    let values : All (λ v. PassesArg d got.0.0.now v.now) got.0.1.vals.items = elim got.3.0 [ inl g ↦ absurd (none g) | inr all ↦ all ] in
    let reading : HasReading d got.0.0.now got.0.1.reading = elim got.3.4 [ inl g ↦ absurd (none g) | inr r ↦ r ] in
    let filled : (0 < length got.0.1.vals.items) ⊎ (IsCountArg d got.0.0.now ⊎ AllowsNone d got.0.0.now) = elim got.3.1 [
      | inl g ↦ absurd (none g.0)
      | inr (inl some) ↦ inl some
      | inr (inr (inl counts)) ↦ inr (inl counts.1)
      | inr (inr (inr allows)) ↦ inr (inr allows)
    ] in
    let held : Holds d got.0.0.now got.0.1 = record { values = values; reading = reading; filled = filled } in
    subst (λ (t : Text). Holds d t x) key (subst (λ (y : MatchedArg). Holds d got.0.0.now y) got.1 held)

-- an argument with this id has this parser
abbrev HasParser : Text → ValueParser → Rule → Type 0
HasParser id q r = bytes_eq r.id id ≡ true → parser_of_value r.parser ≡ q

abbrev Parses : Text → ValueParser → Type 0
Parses id q = EachArgument (HasParser id q)

-- the text read for an argument passed its parser, if the parser reads texts as written
text_passed : (d : Command) (f : Found) (id : Text) (q : ValueParser) → IsProgram d → ValuesPass d f → (id ≡ [] → ⊥) → Parses id q
    → reading_of q ≡ AsWritten → (text : Text) → one_of id (rows_of f) ≡ Some text → (ignore_case : Bool) × Accepts ignore_case q text
text_passed d f id q is pass named parses plain text found = go (matched_of f id) refl (one_text-rows f id ∙ found)
  where
    parser_is : (k : ℕ) (a : Arg) → k < length (args_of d) → slice_index_or (args_of d) k a ≡ a → bytes_eq a.id.now id ≡ true
        → parser_of a ≡ q
    parser_is k a lt at same = argument_has (HasParser id q) d is parses k a lt at same

    passed : (v : Bor Text) → PassesArg d id v.now → (ignore_case : Bool) × Accepts ignore_case q v.now
    passed v p = (p.1.ignore_case, subst (λ (w : ValueParser). Accepts p.1.ignore_case w v.now) (parser_is p.0 p.1 p.2 p.3 p.4.0) p.4.1)

    first : (how : Reading) (vs : List (Bor Text)) → how ≡ AsWritten → All (λ v. PassesArg d id v.now) vs
        → option_map (λ s. read_as how s.now) (slice_get vs 0) ≡ Some text → (ignore_case : Bool) × Accepts ignore_case q text
    first how [] written all e = cc
    first how (v ∷ vs) written all e =
        let is_text : v.now ≡ text = ap (λ (o : Option Text). unwrap_or o v.now) (rw written at e) in
        subst (λ (t : Text). (ignore_case : Bool) × Accepts ignore_case q t) is_text (passed v (all 0 v (omega arith)))

    go : (o : Option MatchedArg) → matched_of f id ≡ o → one_text f id ≡ Some text → (ignore_case : Bool) × Accepts ignore_case q text
    go None none e =
        let bad : None ≡ Some text = rw none at e in
        cc
    go (Some x) some e =
        let held = entry_holds d f id x pass (program_simple d is).groups named some in
        let r = held.reading in
        let written : x.reading ≡ AsWritten = sym r.4.1 ∙ ap reading_of (parser_is r.0 r.1 r.2 r.3 r.4.0) ∙ plain in
        first x.reading x.vals.items written held.values (rw some at e)

-- a name that is written out is not empty
named : (x : ℕ) (xs : Text) → x ∷ xs ≡ [] → ⊥
named x xs e = cc

-- nothing has to be shown for an argument other than the one asked for
other : {A : Type 0} → false ≡ true → A
other e = cc

tries_parses : Parses (codes "tries") (parser.Unsigned 0 1000000)
tries_parses = (
  (λ _. refl, (other, (other, (other, (other, (other, (other, (other, (other, (other, tt)))))))))),
  (λ _. refl, (other, (other, (other, (other, (other, (other, (other, (other, (other, (other, (other, tt)))))))))))),
)

lines_parses : Parses (codes "lines") (parser.Unsigned 0 268435456)
lines_parses = (
  (other, (λ _. refl, (other, (other, (other, (other, (other, (other, (other, (other, tt)))))))))),
  (other, (λ _. refl, (other, (other, (other, (other, (other, (other, (other, (other, (other, (other, tt)))))))))))),
)

room_parses : Parses (codes "room") (parser.Unsigned 0 268435456)
room_parses = (
  (other, (other, (λ _. refl, (other, (other, (other, (other, (other, (other, (other, tt)))))))))),
  (other, (other, (λ _. refl, (other, (other, (other, (other, (other, (other, (other, (other, (other, tt)))))))))))),
)

serial_parses : Parses (codes "serial") parser.Bool
serial_parses = (
  (other, (other, (other, (other, (other, (other, (λ _. refl, (other, (other, (other, tt)))))))))),
  (other, (other, (other, (other, (other, (other, (λ _. refl, (other, (other, (other, (other, (other, tt)))))))))))),
)

watch_parses : Parses (codes "watch") parser.Bool
watch_parses = (
  (other, (other, (other, (other, (other, (other, (other, (λ _. refl, (other, (other, tt)))))))))),
  (other, (other, (other, (other, (other, (other, (other, (λ _. refl, (other, (other, (other, (other, tt)))))))))))),
)

up_to : (d : Command) (f : Found) (name : Text) (most : ℕ) → IsProgram d → ValuesPass d f → (name ≡ [] → ⊥)
    → Parses name (parser.Unsigned 0 most) → HasUpTo most name (rows_of f)
up_to d f name most is pass named parses text found = (text_passed d f name (parser.Unsigned 0 most) is pass named parses refl text found).1

is_truth : (text : Text) → (bytes_eq text (codes "true") || bytes_eq text (codes "false")) ≡ true
    → (text ≡ codes "true") ⊎ (text ≡ codes "false")
is_truth text e = go (bytes_eq text (codes "true")) refl e
  where
    go : (b : Bool) → bytes_eq text (codes "true") ≡ b → (b || bytes_eq text (codes "false")) ≡ true
        → (text ≡ codes "true") ⊎ (text ≡ codes "false")
    go true same e = inl ((bytes_eq-Decides text (codes "true")).0 same)
    go false same e = inr ((bytes_eq-Decides text (codes "false")).0 e)

truth : (d : Command) (f : Found) (name : Text) → IsProgram d → ValuesPass d f → (name ≡ [] → ⊥) → Parses name parser.Bool
    → HasTruth name (rows_of f)
truth d f name is pass named parses text found = is_truth text (text_passed d f name parser.Bool is pass named parses refl text found).1

-- ---- the arguments that are required

-- an argument with this id takes a value at each use
abbrev TakesOne : Text → Rule → Type 0
TakesOne id r = bytes_eq r.id id ≡ true
    → (unwrap_or r.action Set ≡ Count → ⊥) × ((unwrap_or_range r.range).start_inclusive ≡ 0 → ⊥)

-- an argument that is given has a value
filled : (d : Command) (f : Found) (id : Text) → IsProgram d → ValuesPass d f → (id ≡ [] → ⊥) → EachArgument (TakesOne id)
    → is_given id (rows_of f) ≡ true → (x : MatchedArg) × (matched_of f id ≡ Some x) × (0 < length x.vals.items)
filled d f id is pass named takes_one used =
    go (find (λ e. bytes_eq e.0.now id) f.entries.items) refl (rw (find_row f.entries.items id) at used)
  where
    takes : (k : ℕ) (a : Arg) → k < length (args_of d) → slice_index_or (args_of d) k a ≡ a → bytes_eq a.id.now id ≡ true
        → (unwrap_or a.action Set ≡ Count → ⊥) × (least_values a ≡ 0 → ⊥)
    takes k a lt at same = argument_has (TakesOne id) d is takes_one k a lt at same

    none : IsCountArg d id ⊎ AllowsNone d id → ⊥
    none (inl c) = (takes c.0 c.1 c.2 c.3 c.4.0).0 c.4.1
    none (inr a) = elim a.4.1 [
      | inl least ↦ (takes a.0 a.1 a.2 a.3 a.4.0).1 least
      | inr cut ↦
          let simple = simple_arg d a.1 (a.0, a.1, a.2, a.3, refl) (program_simple d is) in
          let bad : false ≡ true = rw simple.delimiter at cut in
          other bad
    ]

    go : (o : Option Entry) → find (λ e. bytes_eq e.0.now id) f.entries.items ≡ o
        → option_map_or (λ r. explicit_source r.source) (option_map row_of (find (λ e. bytes_eq e.0.now id) f.entries.items)) false ≡ true
        → (x : MatchedArg) × (matched_of f id ≡ Some x) × (0 < length x.vals.items)
    go None e g =
        let bad : false ≡ true = rw e at g in
        other bad
    go (Some entry) e g =
        let found : matched_of f id ≡ Some entry.1 = ap (option_map (λ (y : Entry). y.1)) e in
        let held = entry_holds d f id entry.1 pass (program_simple d is).groups named found in
        (entry.1, found, elim held.filled [ inl lt ↦ lt | inr or ↦ absurd (none or) ])

-- an argument that sets or appends takes at least one value
sets : (Set ≡ Count → ⊥) × (◌≡◌ {A = ℕ} 1 0 → ⊥)
sets = (λ e. cc, λ e. absurd (omega arith))

appends : (Append ≡ Count → ⊥) × (◌≡◌ {A = ℕ} 1 0 → ⊥)
appends = (λ e. cc, λ e. absurd (omega arith))

formula_takes : EachArgument (TakesOne (codes "FORMULA"))
formula_takes = (
  (other, (other, (other, (other, (other, (other, (other, (other, (λ _. sets, (other, tt)))))))))),
  (other, (other, (other, (other, (other, (other, (other, (other, (λ _. sets, (other, (other, (other, tt)))))))))))),
)

stream_takes : EachArgument (TakesOne (codes "STREAM"))
stream_takes = (
  (other, (other, (other, (other, (other, (other, (other, (other, (other, (λ _. appends, tt)))))))))),
  (other, (other, (other, (other, (other, (other, (other, (other, (other, (λ _. appends, (other, (other, tt)))))))))))),
)

-- ---- everything together

are_found : (words : List Text) (c d : Command) (f : Found) → app_of c ≡ lrupd → BuildsOrBreaks c d → (is_broken d ≡ true → ⊥)
    → ValuesPass d f → fault_of lrupd words ≡ [] → rows_of f ≡ matches_of lrupd words → AreRowsOf words (rows_of f)
are_found words c d f is after whole pass good found =
    let program = is_program c d is after whole in
    let both = given words good in
    let formula = filled d f (codes "FORMULA") program pass (named _ _) formula_takes
    (subst (λ (rows : List Row). is_given (codes "FORMULA") rows ≡ true) (sym found) both.0) in
    let stream = filled d f (codes "STREAM") program pass (named _ _) stream_takes
    (subst (λ (rows : List Row). is_given (codes "STREAM") rows ≡ true) (sym found) both.1) in
    record {
      good = good;
      found = found;
      whole = record {
        tries = up_to d f (codes "tries") 1000000 program pass (named _ _) tries_parses;
        lines = up_to d f (codes "lines") 268435456 program pass (named _ _) lines_parses;
        room = up_to d f (codes "room") 268435456 program pass (named _ _) room_parses;
        serial = truth d f (codes "serial") program pass (named _ _) serial_parses;
        watch = truth d f (codes "watch") program pass (named _ _) watch_parses;
        formula = ap is_some (sym (first_value-rows f (codes "FORMULA"))) ∙ has_first f (codes "FORMULA") formula.0 formula.1 formula.2;
        streams = (
          raw_values stream.0,
          sym (raw_values-rows f (codes "STREAM")) ∙ ap (option_map raw_values) stream.1,
          rw (length-map stream.0.vals.items (λ (s : Bor Text). s.now)) stream.2,
        );
      };
    }
  where
    first_some : (vs : List (Bor Text)) → 0 < length vs → is_some (option_map (λ s. s.now) (slice_get vs 0)) ≡ true
    first_some [] lt = absurd (omega arith)
    first_some (v ∷ vs) lt = refl

    has_first : (f : Found) (id : Text) (x : MatchedArg) → matched_of f id ≡ Some x → 0 < length x.vals.items
        → is_some (first_value f id) ≡ true
    has_first f id x e lt = rw e (first_some x.vals.items lt)

-- a parse of `lrupd` fails with the words' fault
pub fails_by : (words : List Text) (c : Command) (r : Result ArgMatches Error) → app_of c ≡ lrupd
    → (is_simple_and_free (app_of c) ≡ true → FailsBy (fault_of (app_of c) words) r) → FailsBy (fault_of lrupd words) r
fails_by words c r is kinds =
    subst (λ (a : App). is_simple_and_free a ≡ true → FailsBy (fault_of a words) r) is kinds simple_and_free

-- a parse of `lrupd` finds what the words contain if they have no fault
pub finds : (words : List Text) (c d : Command) (r : Result ArgMatches Error) → app_of c ≡ lrupd → BuildsOrBreaks c d
    → (is_broken d ≡ true → IsErrAnd r (λ e. kind_of e ≡ OutOfMemory))
    → IfOk r (λ m. BuildsTo c d × ((out-Command d).has_globals ≡ false → IsParsed d (found_of m) (has_subcommand m))
    × HasMatchesOf (app_of c) words m)
    → FailsBy (fault_of lrupd words) r → IfOk r (λ m. AreRowsOf words (rows_of (found_of m)))
finds words c d (Err e) is after fails ok kinds = tt
finds words c d (Ok m) is after fails ok kinds =
    let program = is_program c d is after fails in
    let rows = subst (λ (a : App). HasMatchesOf a words m) is ok.2 simple in
    are_found words c d (found_of m) is after fails (ok.1 (program_simple d program).globals).values kinds rows.0
