use Rattle.std.proofs.Common.{arith, ◌≤◌, ◌*◌}
use Rattle.lrup_model.proofs.NumberLemmas.{le_multiple}
use Rattle.lrup_model.proofs.layout.row_fits.Goals as goal
use Rattle.lrup_model.proofs.layout.row_fits.Goals.{then-literals-gt-MOST-via-then-literals-gt-MOST}
use Rattle.lrup_model.proofs.layout.row_fits.Goals.{then-literals-gt-MOST-via-else-literals-gt-MOST+then-lines-gt-MOST}
use Rattle.lrup_model.proofs.layout.row_fits.Goals.{then-literals-gt-MOST-via-else-literals-gt-MOST+else-lines-gt-MOST+then-room-gt-MOST}

pub returns-then-literals-gt-MOST : goal.returns-then-literals-gt-MOST
returns-then-literals-gt-MOST c =
    let lines : c.args.lines ≤ c.args.streams * c.args.lines = le_multiple c.args.streams c.args.lines c.requires.some_stream in
    let room : c.args.room ≤ c.args.streams * c.args.room = le_multiple c.args.streams c.args.room c.requires.some_stream in (
      λ no. cc,
      λ fits. absurd (elim c.then-literals-gt-MOST.branch [
        | then-literals-gt-MOST-via-then-literals-gt-MOST w ↦ omega arith
        | then-literals-gt-MOST-via-else-literals-gt-MOST+then-lines-gt-MOST w ↦ omega arith
        | then-literals-gt-MOST-via-else-literals-gt-MOST+else-lines-gt-MOST+then-room-gt-MOST w ↦ omega arith
      ]),
    )
