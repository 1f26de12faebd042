use Rattle.std.proofs.Common.{◌∙◌}
use Rattle.clap.specs.Words.{found_of}
use Rattle.clap.proofs.WalkLemmas.{one_text-rows}
use Rattle.command_line.proofs.ReadLemmas.{flag_read}
use Rattle.command_line.proofs.words.is_set.Goals as goal

pub returns : goal.returns
returns c =
    let same = one_text-rows (found_of c.args.matches.now) c.args.name.now in
    flag_read _ c.get_flag.result (λ e. c.get_flag.ensures.none (same ∙ e)) (λ e. c.get_flag.ensures.value (same ∙ e))
    (λ e. c.get_flag.ensures.other (same ∙ e)) c.requires
