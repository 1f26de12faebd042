use Rattle.std.proofs.Common.{◌≡◌, ◌∙◌, ◌==◌, List, [], ℕ, ap, false, length, true}
use Rattle.command_line.proofs.SizesLemmas.{after_lines, after_streams, along, same_sizes, sizes_utf8, three_numbers}
use Rattle.command_line.proofs.sizes.read_sizes.Goals as goal
use Rattle.command_line.proofs.sizes.read_sizes.Goals.{else-is_empty-via-then-is_empty+else-are_within, else-is_empty-via-else-is_empty}

pub returns-in_default-clause-none : goal.returns-in_default-clause-none
returns-in_default-clause-none c sizes is = c.in_default.ensures.cases.0 (sizes_utf8 c.args.bytes.now sizes is)

pub returns-else-is_empty-clause-none : goal.returns-else-is_empty-clause-none
returns-else-is_empty-clause-none c sizes is =
    let numbers = three_numbers c.args.bytes.now sizes is in
    let one = c.in_ok-streams.ensures.all sizes.streams (after_streams sizes) (along 32 _ _ c.in-Ok.ensures.cases.0 numbers.streams) in
    let two = c.in_ok-lines.ensures.all sizes.lines (after_lines sizes) (along 32 _ _ one.1 numbers.lines) in
    let three = c.in_ok-room.ensures.all sizes.room [] (along 10 _ _ two.1 numbers.room) in
    elim c.else-is_empty.branch [
      | else-is_empty-via-then-is_empty+else-are_within w ↦
          let no : false ≡ true = w.if-are_within.ensures.1 (same_sizes c.args.bytes.now sizes _ _ _ is one.0 two.0 three.0) in
          cc
      | else-is_empty-via-else-is_empty w ↦
          let no : false ≡ true = w.if-is_empty.ensures ∙ ap (λ (text : List ℕ). length text == 0) three.1 in
          cc
    ]
