use Rattle.std.proofs.Common.{◌∙◌, ap, sym, codes}
use Rattle.std.specs.Prelude.{option_map}
use Rattle.clap.specs.Words.{first_of, found_of, rows_of}
use Rattle.clap.proofs.CallerLemmas.{some_of_text}
use Rattle.clap.proofs.WalkLemmas.{first_value-rows}
use Rattle.command_line.proofs.words.formula_of.Goals as goal

pub unwrap-requires : goal.unwrap-requires
unwrap-requires c =
    let same = c.get_str.ensures ∙ first_value-rows (found_of c.args.matches.now) (codes "FORMULA") in
    some_of_text (λ s. s.now) c.get_str.result (first_of (codes "FORMULA") (rows_of (found_of c.args.matches.now))) same c.requires

pub returns : goal.returns
returns c =
    let same = c.get_str.ensures ∙ first_value-rows (found_of c.args.matches.now) (codes "FORMULA") in
    sym same ∙ ap (option_map (λ s. s.now)) c.unwrap.ensures
