use Rattle.std.proofs.Common.{◌<◌, ◌∙◌, ap, arith, get_or, length, sym}
use Rattle.std.specs.Prelude.{slice_set}
use Rattle.std.proofs.lemmas.List.Edits.{map_over_more}
use Rattle.std.proofs.lemmas.Grind.{get_or_default_zero}
use Rattle.solve.specs.Printing.{shown}
use Rattle.solve.proofs.printing.clean.Goals as goal

pub loop-byte-preserved : goal.loop-byte-preserved
loop-byte-preserved c =
    let words = c.loop-byte.words in
    let i = c.loop-byte.byte-index in
    let below : i < length words = omega arith in
    let lt : i < length c.args.words.now = omega arith in
    ap (λ v. slice_set words i v) c.shown.ensures
    ∙ map_over_more shown c.args.words.now words i (get_or words i 0) lt c.loop-byte.invariant
    (sym (get_or_default_zero words i (get_or words i 0) below))
