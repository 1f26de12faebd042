use Rattle.clap.specs.Walk.{texts}
use Rattle.command_line.proofs.FoundLemmas.{fails_by, finds}
use Rattle.command_line.proofs.words.matches_in.Goals as goal

pub returns-clause-ok : goal.returns-clause-ok
returns-clause-ok c =
    let parse = c.try_get_matches_from_mut in
    finds (texts c.args.words.now) c.in_ok-program.program parse.new.self parse.result c.in_ok-program.ensures parse.ensures.after
    parse.ensures.fails parse.ensures.ok
    (fails_by (texts c.args.words.now) c.in_ok-program.program parse.result c.in_ok-program.ensures parse.ensures.kinds)

pub returns-clause-faults : goal.returns-clause-faults
returns-clause-faults c =
    fails_by (texts c.args.words.now) c.in_ok-program.program c.try_get_matches_from_mut.result c.in_ok-program.ensures
    c.try_get_matches_from_mut.ensures.kinds
