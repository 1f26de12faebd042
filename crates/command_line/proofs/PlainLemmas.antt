-- The walk over words that don't begin with a hyphen.
use Rattle.std.proofs.Common.{◌≡◌, ◌∙◌, ◌<◌, ◌^◌, ap, sym, refl, arith, ℕ, Bool, true, false, not, cond, List, [], ◌∷◌, ◌++◌, length}
use Rattle.std.proofs.Common.{Option, Some, None, codes, is_some}
use Rattle.std.specs.Option.{option_map_or}
use Rattle.std.specs.Prelude.{◌==◌, option_map, unwrap_or}
use Rattle.std.specs.List.{fold, list_all}
use Rattle.std.proofs.Common.{append-nil, append_assoc, le-ltb, nat_lt}
use Rattle.std.proofs.lemmas.Bool.{ne_eqb}
use Rattle.std.specs.Str.{bytes_eq}
use Rattle.clap.specs.Words.{Row, Rule, Text, all_of, built, fault_of, first_of, matches_of}
use Rattle.clap.specs.Lexer.{long_of, short_of}
use Rattle.clap.specs.Walk.{Held, settled, Step, Waiting, Walk, after_step, arg_by_index, finished, idle, long_or_other, nothing_held}
use Rattle.clap.specs.Walk.{option, plain_word, positional, short_or_plain, to_positional, trailing, value, walk, walk_from, walked}
use Rattle.clap.specs.Walk.{word_met}
use Rattle.clap.specs.Lexer.{usize_max}
use Rattle.clap.specs.Kinds.{Kinds, or_else, range_kinds}
use Rattle.clap.specs.Simple.{Shape, entered, filled, with_index}
use Rattle.clap.specs.Faults.{check_fault, defaults_fault, entered_fault, settle_fault, use_fault, values_fault, bundle_fault}
use Rattle.clap.specs.Faults.{flag_word_fault, step_fault, turn_fault, walk_fault, word_fault}
use Rattle.clap.proofs.WalkLemmas.{both}
use Rattle.clap.specs.declared.builder.value_parser.Reading.TheVariants.{AsWritten}
use Rattle.clap.specs.declared.parser.matches.ValueSource.TheVariants as source
use Rattle.clap.proofs.OnLiterals.{clap_on_literals}
use Rattle.command_line.specs.CommandLine.{IsSaidBy, checkpoint_of, is_set, lrupd, option_number, rounds_of, stream_rule}
use Rattle.command_line.specs.Laws.{HasDefaults, PlainWords, is_plain}
use Rattle.command_line.specs.declared.words.CommandLine.{CommandLine}
use Rattle.command_line.specs.declared.words.Next.{Next}
use Rattle.command_line.specs.declared.words.Next.TheVariants.{Checkpoint, Nothing, Rounds}

abbrev rules : List Rule
rules = (built lrupd).top.rules

-- the walk after the formula
abbrev after_formula : Text → Walk
after_formula formula = record {
  held = record { rows = []; pending = Some (codes "FORMULA", formula ∷ []); skip = 0 };
  waiting = idle;
  position = 2;
  is_trailing = false;
  stopped = None;
}

abbrev formula_row : Text → Row
formula_row formula = record {
  id = codes "FORMULA";
  values = formula ∷ [];
  count = None;
  source = Some source.CommandLine;
  reading = AsWritten;
}

-- the walk after the formula and some streams
abbrev after_streams : Text → List Text → Walk
after_streams formula streams = record {
  held = record { rows = formula_row formula ∷ []; pending = Some (codes "STREAM", streams); skip = 0 };
  waiting = positional;
  position = 2;
  is_trailing = false;
  stopped = None;
}

is_false : (b : Bool) → not b ≡ true → b ≡ false
is_false true e = cc
is_false false e = refl

not_two_hyphens : (word : Text) → is_plain word ≡ true → bytes_eq word (45 ∷ 45 ∷ []) ≡ false
not_two_hyphens [] plain = refl
not_two_hyphens (b ∷ rest) plain =
    let no : (b == 45) ≡ false = is_false (b == 45) plain in
    rw no refl

not_long : (word : Text) → is_plain word ≡ true → long_of word ≡ None
not_long [] plain = refl
not_long (b ∷ rest) plain =
    let no : (b == 45) ≡ false = is_false (b == 45) plain in
    rw no refl

not_short : (word : Text) → is_plain word ≡ true → short_of word ≡ None
not_short [] plain = refl
not_short (b ∷ rest) plain =
    let no : (b == 45) ≡ false = is_false (b == 45) plain in
    rw no refl

-- a word that doesn't begin with a hyphen isn't read as a flag
met : (waiting : Waiting) (position : ℕ) (word : Text) (h : Held) → is_plain word ≡ true
    → word_met rules [] false waiting position word h ≡ plain_word rules waiting word h
met idle position word h plain =
    ap (λ b. cond b (h, trailing position) (long_or_other rules idle word (long_of word) h)) (not_two_hyphens word plain)
    ∙ ap (λ o. long_or_other rules idle word o h) (not_long word plain)
    ∙ ap (λ o. short_or_plain rules idle word o h) (not_short word plain)
met positional position word h plain =
    ap (λ b. cond b (h, trailing position) (long_or_other rules positional word (long_of word) h)) (not_two_hyphens word plain)
    ∙ ap (λ o. long_or_other rules positional word o h) (not_long word plain)
    ∙ ap (λ o. short_or_plain rules positional word o h) (not_short word plain)
met (option id) position word h plain =
    ap (λ b. cond b (h, trailing position) (long_or_other rules (option id) word (long_of word) h)) (not_two_hyphens word plain)
    ∙ ap (λ o. long_or_other rules (option id) word o h) (not_long word plain)
    ∙ ap (λ o. short_or_plain rules (option id) word o h) (not_short word plain)

-- a step of the walk at a positional argument
step : (w : Walk) (word : Text) (p : Held × Step) → p ≡ (w.held, value)
    → after_step rules word w p.0 p.1 ≡ to_positional rules (arg_by_index rules w.position) word w w.held
step w word p e = ap (λ (q : Held × Step). after_step rules word w q.0 q.1) e

pub step_formula : (word : Text) → is_plain word ≡ true → walked rules [] (walk_from nothing_held) word ≡ after_formula word
unfolding walked
step_formula word plain =
    step (walk_from nothing_held) word (word_met rules [] false idle 1 word nothing_held) (met idle 1 word nothing_held plain)

pub step_first : (formula word : Text) → is_plain word ≡ true
    → walked rules [] (after_formula formula) word ≡ after_streams formula (word ∷ [])
unfolding walked
step_first formula word plain =
    let w = after_formula formula in
    step w word (word_met rules [] false idle 2 word w.held) (met idle 2 word w.held plain)

pub step_next : (formula : Text) (streams : List Text) (word : Text) → is_plain word ≡ true
    → walked rules [] (after_streams formula streams) word ≡ after_streams formula (streams ++ word ∷ [])
unfolding walked
step_next formula streams word plain =
    let w = after_streams formula streams in
    step w word (word_met rules [] false positional 2 word w.held) (met positional 2 word w.held plain)

-- the walk over more streams
walk_streams : (formula : Text) (before rest : List Text) → list_all is_plain rest ≡ true
    → fold (walked rules []) (after_streams formula before) rest ≡ after_streams formula (before ++ rest)
walk_streams formula before [] plain = ap (after_streams formula) (sym (append-nil before))
walk_streams formula before (word ∷ rest) plain =
    let p = both (is_plain word) (list_all is_plain rest) plain in
    ap (λ (w : Walk). fold (walked rules []) w rest) (step_next formula before word p.0)
    ∙ walk_streams formula (before ++ word ∷ []) rest p.1 ∙ ap (after_streams formula) (append_assoc before (word ∷ []) rest)

-- the walk over all words
walk_all : (formula first : Text) (rest : List Text) → is_plain formula ≡ true → list_all is_plain (first ∷ rest) ≡ true
    → walk rules [] nothing_held (formula ∷ first ∷ rest) ≡ after_streams formula (first ∷ rest)
walk_all formula first rest plain all =
    let p = both (is_plain first) (list_all is_plain rest) all in
    ap (λ (w : Walk). fold (walked rules []) w (first ∷ rest)) (step_formula formula plain)
    ∙ ap (λ (w : Walk). fold (walked rules []) w rest) (step_first formula first p.0) ∙ walk_streams formula (first ∷ []) rest p.1

abbrev stream_row : List Text → Row
stream_row streams = record {
  id = codes "STREAM";
  values = streams;
  count = None;
  source = Some source.CommandLine;
  reading = AsWritten;
}

-- a flag that isn't given
abbrev flag_row : Text → Row
flag_row name = record {
  id = name;
  values = codes "false" ∷ [];
  count = None;
  source = Some source.DefaultValue;
  reading = AsWritten;
}

-- what is found in the words
pub plain_rows : (formula first : Text) (rest : List Text) → is_plain formula ≡ true → list_all is_plain (first ∷ rest) ≡ true
    → matches_of lrupd (formula ∷ first ∷ rest) ≡ formula_row formula ∷ stream_row (first ∷ rest) ∷ flag_row (codes "serial")
    ∷ flag_row (codes "watch") ∷ []
plain_rows formula first rest plain all = ap (λ (w : Walk). finished rules w.held) (walk_all formula first rest plain all)

-- ---- the words have no fault

abbrev top : Shape
top = (built lrupd).top

-- a word that doesn't begin with a hyphen isn't refused as a flag
word_good : (waiting : Waiting) (word : Text) (h : Held) → is_plain word ≡ true → word_fault top [] false waiting word h ≡ []
word_good idle word h plain =
    ap (λ b. cond b [] (flag_word_fault rules false (long_of word) word h)) (not_two_hyphens word plain)
    ∙ ap (λ o. flag_word_fault rules false o word h) (not_long word plain)
    ∙ ap (λ o. option_map_or (λ flags. bundle_fault rules false flags h) o []) (not_short word plain)
word_good positional word h plain =
    ap (λ b. cond b [] (flag_word_fault rules false (long_of word) word h)) (not_two_hyphens word plain)
    ∙ ap (λ o. flag_word_fault rules false o word h) (not_long word plain)
    ∙ ap (λ o. option_map_or (λ flags. bundle_fault rules false flags h) o []) (not_short word plain)
word_good (option id) word h plain =
    ap (λ b. cond b [] (flag_word_fault rules false (long_of word) word h)) (not_two_hyphens word plain)
    ∙ ap (λ o. flag_word_fault rules false o word h) (not_long word plain)
    ∙ ap (λ o. option_map_or (λ flags. bundle_fault rules false flags h) o []) (not_short word plain)

turn_good : (w : Walk) (word : Text) → w.stopped ≡ None
    → word_met rules [] w.is_trailing w.waiting w.position word w.held ≡ (w.held, value)
    → word_fault top [] w.is_trailing w.waiting word w.held ≡ [] → step_fault top w.position w.held value ≡ []
    → turn_fault top [] w word ≡ []
turn_good w word running is_value no_flag at =
    let seen = word_met rules [] w.is_trailing w.waiting w.position word w.held in
    let flag = word_fault top [] w.is_trailing w.waiting word w.held in
    ap (λ o. cond (is_some o) [] (or_else flag (step_fault top w.position seen.0 seen.1))) running
    ∙ ap (λ f. or_else f (step_fault top w.position seen.0 seen.1)) no_flag
    ∙ ap (λ (p : Held × Step). step_fault top w.position p.0 p.1) is_value ∙ at

-- a walk has no fault if neither its first step nor the rest has one
next_good : (w after : Walk) (word : Text) (rest : List Text) → turn_fault top [] w word ≡ [] → walked rules [] w word ≡ after
    → walk_fault top [] after rest ≡ [] → walk_fault top [] w (word ∷ rest) ≡ []
unfolding walk_fault
next_good w after word rest turn is good =
    ap (λ f. or_else f (walk_fault top [] (walked rules [] w word) rest)) turn ∙ ap (λ (v : Walk). walk_fault top [] v rest) is ∙ good

streams_good : (formula : Text) (before rest : List Text) → list_all is_plain rest ≡ true
    → walk_fault top [] (after_streams formula before) rest ≡ []
unfolding walk_fault
streams_good formula before [] plain = refl
streams_good formula before (word ∷ rest) plain =
    let p = both (is_plain word) (list_all is_plain rest) plain in
    let w = after_streams formula before in
    next_good w (after_streams formula (before ++ word ∷ [])) word rest
    (turn_good w word refl (met positional 2 word w.held p.0) (word_good positional word w.held p.0) refl)
    (step_next formula before word p.0) (streams_good formula (before ++ word ∷ []) rest p.1)

walk_good : (formula first : Text) (rest : List Text) → is_plain formula ≡ true → list_all is_plain (first ∷ rest) ≡ true
    → walk_fault top [] (walk_from nothing_held) (formula ∷ first ∷ rest) ≡ []
walk_good formula first rest plain all =
    let p = both (is_plain first) (list_all is_plain rest) all in
    let one = walk_from nothing_held in
    let two = after_formula formula in
    next_good one two formula (first ∷ rest)
    (turn_good one formula refl (met idle 1 formula one.held plain) (word_good idle formula one.held plain) refl)
    (step_formula formula plain)
    (next_good two (after_streams formula (first ∷ [])) first rest
    (turn_good two first refl (met idle 2 first two.held p.0) (word_good idle first two.held p.0) refl)
    (step_first formula first p.0) (streams_good formula (first ∷ []) rest p.1))

-- STREAM in the built command
abbrev streams_rule : Rule
streams_rule = with_index 2 (filled stream_rule)

values_good : (streams : List Text) → values_fault streams_rule streams ≡ []
values_good [] = refl
values_good (s ∷ rest) = values_good rest

range_good : (n : ℕ) → 0 < n → n < 2 ^ 64 → range_kinds 1 usize_max n ≡ []
range_good n some few =
    let not_none : (n == 0) ≡ false = ne_eqb n 0 (λ e. omega arith) in
    let enough : nat_lt n 1 ≡ false = le-ltb n 1 (omega arith) in
    let within : nat_lt usize_max n ≡ false = le-ltb usize_max n (omega arith) in
    rw (not_none, enough, within) refl

use_good : (again : Bool) (first : Text) (rest : List Text) (rows : List Row) → length (first ∷ rest) < 2 ^ 64
    → use_fault again streams_rule (first ∷ rest) rows ≡ []
use_good again first rest rows few =
    ap (λ f. or_else f (values_fault streams_rule (first ∷ rest))) (range_good (length (first ∷ rest)) (omega arith) few)
    ∙ values_good (first ∷ rest)

-- the faults of the steps after the walk
abbrev tail : Walk → Kinds
tail w = or_else (entered_fault (built lrupd) w.stopped) (or_else (settle_fault rules false w.held)
    (or_else (defaults_fault (settled rules w.held).rows rules)
    (check_fault top (finished rules w.held) (is_some (entered (built lrupd) w.stopped)))))

tail_good : (formula first : Text) (rest : List Text) → length (first ∷ rest) < 2 ^ 64 → tail (after_streams formula (first ∷ rest)) ≡ []
unfolding clap_on_literals
tail_good formula first rest few =
    let w = after_streams formula (first ∷ rest) in
    ap (λ f. or_else f (or_else (defaults_fault (settled rules w.held).rows rules) (check_fault top (finished rules w.held) false)))
    (use_good false first rest (formula_row formula ∷ []) few)

pub plain_good : (formula first : Text) (rest : List Text) → is_plain formula ≡ true → list_all is_plain (first ∷ rest) ≡ true
    → length (first ∷ rest) < 2 ^ 64 → fault_of lrupd (formula ∷ first ∷ rest) ≡ []
plain_good formula first rest plain all few =
    ap (λ f. or_else f (tail (walk rules [] nothing_held (formula ∷ first ∷ rest)))) (walk_good formula first rest plain all)
    ∙ ap tail (walk_all formula first rest plain all) ∙ tail_good formula first rest few

-- ---- the law

value_of : {A : Type 0} (a b : A) → Some a ≡ Some b → a ≡ b
value_of a b e = ap (λ o. unwrap_or o a) e

no_path : {A B : Type 0} (f : A → B) (o : Option A) → option_map f o ≡ None → o ≡ None
no_path f None none = refl
no_path f (Some x) none = absurd (let no : Some (f x) ≡ None = none in cc)

nothing : (next : Next) → checkpoint_of next ≡ None → rounds_of next ≡ None → next ≡ Nothing
nothing Nothing checkpoint rounds = refl
nothing (Checkpoint path) checkpoint rounds = absurd (let no : Some path.now ≡ None = checkpoint in cc)
nothing (Rounds folder) checkpoint rounds = absurd (let no : Some folder.now ≡ None = rounds in cc)

defaults : (formula first : Text) (rest : List Text) (rows : List Row)
    → rows ≡ formula_row formula ∷ stream_row (first ∷ rest) ∷ flag_row (codes "serial") ∷ flag_row (codes "watch") ∷ []
    → (given : CommandLine) → IsSaidBy rows given → HasDefaults formula (first ∷ rest) given
defaults formula first rest rows are given said = record {
  formula = sym (value_of formula given.formula.now (sym (ap (first_of (codes "FORMULA")) are) ∙ said.formula));
  streams = sym (value_of (first ∷ rest) given.streams (sym (ap (all_of (codes "STREAM")) are) ∙ said.streams));
  tries = said.tries ∙ ap (option_number (codes "tries") 1000) are;
  lines = said.lines ∙ ap (option_number (codes "lines") 65536) are;
  room = said.room ∙ ap (option_number (codes "room") 1048576) are;
  assume = no_path (λ path. path.now) given.assume (said.assume ∙ ap (first_of (codes "assume")) are);
  next = nothing given.next (said.checkpoint ∙ ap (first_of (codes "checkpoint")) are) (said.rounds ∙ ap (first_of (codes "rounds")) are);
  serial = said.serial ∙ ap (is_set (codes "serial")) are;
  watch = said.watch ∙ ap (is_set (codes "watch")) are;
}

pub plain_words : PlainWords
plain_words formula [] plain all some few = absurd (omega arith)
plain_words formula (first ∷ rest) plain all some few = (
  plain_good formula first rest plain all few,
  λ given is. defaults formula first rest (matches_of lrupd (formula ∷ first ∷ rest))
      (plain_rows formula first rest plain all) given is.said,
  λ path assume ask. (
    sym (value_of formula path (sym (ap (first_of (codes "FORMULA")) (plain_rows formula first rest plain all)) ∙ ask.formula_is)),
    sym ask.assume_is ∙ ap (first_of (codes "assume")) (plain_rows formula first rest plain all),
  ),
  λ path ask.
      let no : Some path ≡ None = sym ask.path_is ∙ ap (first_of (codes "checkpoint")) (plain_rows formula first rest plain all) in
      cc,
  λ folder ask.
      let no : Some folder ≡ None = sym ask.folder_is ∙ ap (first_of (codes "rounds")) (plain_rows formula first rest plain all) in
      cc,
)
