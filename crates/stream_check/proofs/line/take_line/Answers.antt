use Rattle.stream_check.proofs.line.take_line.Goals as goal

pub returns-in-Delete-clause-taken : goal.returns-in-Delete-clause-taken
returns-in-Delete-clause-taken g c =
    let taken = c.take_deletion.ensures.taken in
    rw c.in-Delete.is (taken.0, taken.1, taken.2 c.in-Delete.lead)
