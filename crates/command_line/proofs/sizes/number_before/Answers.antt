use Rattle.std.proofs.Common.{◌≡◌, ◌∙◌, ◌∷◌, ◌++◌, List, ℕ, None, Some, ap, false, sym, subst, true}
use Rattle.command_line.specs.internal.Numbers.{BeginsAsNumber}
use Rattle.command_line.proofs.SizesLemmas.{decimal_begins, decimal_read, number_read, number_splits, splits}
use Rattle.command_line.proofs.sizes.number_before.Goals as goal

pub returns-in_err-number-clause-all : goal.returns-in_err-number-clause-all
returns-in_err-number-clause-all c number rest is =
    let split = number_splits c.args.text.now c.args.end number rest c.split_once.result c.split_once.ensures.cases c.requires is in
    absurd (rw c.in_err-number.was at split)

pub returns-then-not-begins_as_number-clause-all : goal.returns-then-not-begins_as_number-clause-all
returns-then-not-begins_as_number-clause-all c number rest is =
    let split = number_splits c.args.text.now c.args.end number rest c.split_once.result c.split_once.ensures.cases c.requires is in
    let parts = rw c.in_ok-number.was at split in
    let no : false ≡ true = c.if-not-begins_as_number.ensures.1 (subst BeginsAsNumber (sym parts.0) (decimal_begins number is.small)) in
    cc

pub returns-in_err-ok-clause-all : goal.returns-in_err-ok-clause-all
returns-in_err-ok-clause-all c number rest is =
    let split = number_splits c.args.text.now c.args.end number rest c.split_once.result c.split_once.ensures.cases c.requires is in
    let parts = rw c.in_ok-number.was at split in
    let read = number_read _ c.in_ok-number.number.now number c.parse.result is.small parts.0 c.parse.ensures.value.0 in
    absurd (let no : None ≡ Some number = c.in_err-ok.ensures.value ∙ read in cc)

pub returns-clause-some : goal.returns-clause-some
returns-clause-some c =
    let split = splits c.args.text.now c.args.end c.split_once.result c.split_once.ensures.cases c.requires in
    let parts = rw c.in_ok-number.was at split in
    let begins = c.begins_as_number.ensures.0 c.if-not-begins_as_number.false in
    let read = decimal_read _ c.in_ok-number.number.now c.in_ok-ok.field-0 c.parse.result begins
    c.parse.ensures.value.0 c.in_ok-ok.ensures.value in
    record { parts = parts ∙ ap (λ (digits : List ℕ). digits ++ c.args.end ∷ c.in_ok-number.rest.now) read.0; small = read.1 }

pub returns-clause-all : goal.returns-clause-all
returns-clause-all c number rest is =
    let split = number_splits c.args.text.now c.args.end number rest c.split_once.result c.split_once.ensures.cases c.requires is in
    let parts = rw c.in_ok-number.was at split in
    let read = number_read _ c.in_ok-number.number.now number c.parse.result is.small parts.0 c.parse.ensures.value.0 in
    let same : Some c.in_ok-ok.field-0 ≡ Some number = c.in_ok-ok.ensures.value ∙ read in
    (cc, parts.1)
