use Rattle.std.proofs.Common.{◌≡◌, ◌∙◌, ◌++◌, Some, ap, sym, codes}
use Rattle.std.specs.Prelude.{option_map}
use Rattle.clap.specs.Walk.{texts}
use Rattle.clap.specs.Words.{all_of, found_of, rows_of}
use Rattle.clap.proofs.CallerLemmas.{some_of_text}
use Rattle.clap.proofs.WalkLemmas.{raw_values-rows}
use Rattle.command_line.proofs.words.streams_of.Goals as goal

pub unwrap-requires : goal.unwrap-requires
unwrap-requires c =
    let same = c.get_strs.ensures ∙ raw_values-rows (found_of c.args.matches.now) (codes "STREAM") in
    some_of_text (λ s. texts s.now) c.get_strs.result (all_of (codes "STREAM") (rows_of (found_of c.args.matches.now))) same c.requires

pub returns : goal.returns
returns c =
    let same = c.get_strs.ensures ∙ raw_values-rows (found_of c.args.matches.now) (codes "STREAM") in
    let items : c.extend_from_slice.new.self.items ≡ c.unwrap.result.now = c.in_ok-extend_from_slice.ensures.items
    ∙ ap (λ l. l ++ c.unwrap.result.now) c.new-paths.ensures.items in
    sym same ∙ ap (option_map (λ s. texts s.now)) c.unwrap.ensures ∙ sym (ap (λ l. Some (texts l)) items)
