use Rattle.clap.specs.Walk.{texts}
use Rattle.clap.specs.Words.{found_of, rows_of}
use Rattle.command_line.proofs.ReadLemmas.{fault_of_rows}
use Rattle.command_line.proofs.words.read_words.Goals as goal

pub returns-in-Ok-clause-fault : goal.returns-in-Ok-clause-fault
returns-in-Ok-clause-fault c =
    fault_of_rows (texts c.args.words.now) (rows_of (found_of c.in-Ok.matches)) c.in-Ok.ensures.ok c.command_line.result
    c.command_line.ensures.fault
