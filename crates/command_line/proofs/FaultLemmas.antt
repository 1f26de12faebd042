-- Words without a fault have FORMULA and STREAM.
use Rattle.std.proofs.Common.{◌≡◌, ◌&&◌, ◌||◌, refl, Bool, true, false, not, List, [], ◌∷◌, is_some, codes}
use Rattle.clap.specs.Words.{is_simple, Row, Text, built, fault_of, is_simple_and_free, matches_of}
use Rattle.clap.specs.Walk.{Held, Names, finished, nothing_held, settled, walk, walk_from}
use Rattle.clap.specs.Takes.{is_given}
use Rattle.clap.specs.Kinds.{Kinds, check_kinds, or_else}
use Rattle.clap.specs.Faults.{check_fault, defaults_fault, entered_fault, level_fault, settle_fault, walk_fault}
use Rattle.clap.specs.Simple.{Shape, entered, names_of}
use Rattle.clap.proofs.OnLiterals.{clap_on_literals}
use Rattle.command_line.specs.CommandLine.{lrupd}

-- the command is simple, so the result of `clap` is exactly that of a parse
pub simple : is_simple lrupd ≡ true
simple = refl

pub simple_and_free : is_simple_and_free lrupd ≡ true
unfolding clap_on_literals
simple_and_free = refl

-- if there is no fault, the later steps have none
rest_empty : (a b : Kinds) → or_else a b ≡ [] → b ≡ []
rest_empty [] b e = e
rest_empty (k ∷ ks) b e = cc

-- if no required argument is missing, FORMULA and STREAM are given
both_given : (formula stream has : Bool)
    → check_kinds (not has && (false && true)) (not has && false) (not (false && has) && (not formula || (not stream || false))) ≡ []
    → (formula ≡ true) × (stream ≡ true)
both_given true true has e = (refl, refl)
both_given true false true e = cc
both_given true false false e = cc
both_given false stream true e = cc
both_given false stream false e = cc

checked : (rows : List Row) (has : Bool) → check_fault (built lrupd).top rows has ≡ []
    → (is_given (codes "FORMULA") rows ≡ true) × (is_given (codes "STREAM") rows ≡ true)
checked rows has e = both_given (is_given (codes "FORMULA") rows) (is_given (codes "STREAM") rows) has e

-- a level without a fault passes its last checks
last_checks : (s : Shape) (names : Names) (h : Held) (words : List Text) (has : Bool) (below : Kinds)
    → level_fault s names h words has below ≡ [] → check_fault s (finished s.rules (walk s.rules names h words).held) has ≡ []
last_checks s names h words has below e =
    let end = (walk s.rules names h words).held in
    let checks = check_fault s (finished s.rules end) has in
    let defaults = defaults_fault (settled s.rules end).rows s.rules in
    let settling = settle_fault s.rules s.args_override_self end in
    rest_empty defaults checks
    (rest_empty settling (or_else defaults checks)
    (rest_empty below (or_else settling (or_else defaults checks))
    (rest_empty (walk_fault s names (walk_from h) words) (or_else below (or_else settling (or_else defaults checks))) e)))

-- if the words have no fault, FORMULA and STREAM are given
pub given : (words : List Text) → fault_of lrupd words ≡ []
    → (is_given (codes "FORMULA") (matches_of lrupd words) ≡ true) × (is_given (codes "STREAM") (matches_of lrupd words) ≡ true)
given words e =
    let app = built lrupd in
    let stop = (walk app.top.rules (names_of app) nothing_held words).stopped in
    checked (matches_of lrupd words) (is_some (entered app stop))
    (last_checks app.top (names_of app) nothing_held words (is_some (entered app stop)) (entered_fault app stop) e)
