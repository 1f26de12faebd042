use Rattle.std.proofs.Common.{◌++◌, ◌+◌, ◌*◌, ◌≤◌, drop, length, sym, ◌∙◌, arith}
use Rattle.std.specs.Prelude.{codes}
use Rattle.lrup_model.specs.CallerView.{clip_clause}
use Rattle.lrup_text.specs.lemmas.WritingLemmas.{at_err, breaks_next, puts_next, puts_all_next, puts_then}
use Rattle.checkpoint.proofs.PrintLemmas.{puts_as, literals_text, literals_split, literals_all, pair_alone, pair_both, pair_split}
use Rattle.checkpoint.proofs.text.put_clause.Goals as goal
use Rattle.checkpoint.proofs.text.put_clause.Goals.{in-Some+in_ok-put_literal-2, in_default}

pub returns-in_err-put_literal-clause-puts : goal.returns-in_err-put_literal-clause-puts
returns-in_err-put_literal-clause-puts g c =
    let clause = clip_clause (g.M.ClauseMap.caller_view c.args.map.now) c.args.clip.now in
    let i = c.loop-i.i in
    let first = rw c.loop-i.invariant.stays at c.pair-first.ensures.first in
    at_err c.from_residual.result _ _ c.from_residual.ensures.0
    (breaks_next c.loop-i.invariant.puts c.in_err-put_literal.ensures.puts (literals_text (drop (2 * i + 1) clause) ++ codes "0\n")
    (literals_split clause (2 * i) c.pair-first.result.0 first))

pub returns-in_err-put_literal-clause-event : goal.returns-in_err-put_literal-clause-event
returns-in_err-put_literal-clause-event g c = g.met.M.ClauseMap.moves_append _ _ _ _ _ c.loop-i.invariant.event c.pair-first.ensures.event

pub returns-in_err-put_literal-2-clause-puts : goal.returns-in_err-put_literal-2-clause-puts
returns-in_err-put_literal-2-clause-puts g c =
    let clause = clip_clause (g.M.ClauseMap.caller_view c.args.map.now) c.args.clip.now in
    let i = c.loop-i.i in
    let first = rw c.loop-i.invariant.stays at c.pair-first.ensures.first in
    let second = rw c.loop-i.invariant.stays at c.pair-first.ensures.second in
    let puts = puts_then c.loop-i.invariant.puts c.in_ok-put_literal.ensures.puts in
    at_err c.from_residual-in_err-put_literal-2.result _ _ c.from_residual-in_err-put_literal-2.ensures.0
    (breaks_next puts c.in_err-put_literal-2.ensures.puts (literals_text (drop (2 * i + 1 + 1) clause) ++ codes "0\n")
    (pair_split clause i c.pair-first.result.0 first c.in-Some.second (second ∙ c.in-Some.is)))

pub returns-in_err-put_literal-2-clause-event : goal.returns-in_err-put_literal-2-clause-event
returns-in_err-put_literal-2-clause-event g c = g.met.M.ClauseMap.moves_append _ _ _ _ _ c.loop-i.invariant.event c.pair-first.ensures.event

pub loop-i-preserved : goal.loop-i-preserved
loop-i-preserved g c =
    let clause = clip_clause (g.M.ClauseMap.caller_view c.args.map.now) c.args.clip.now in
    let i = c.loop-i.i in
    let first = rw c.loop-i.invariant.stays at c.pair-first.ensures.first in
    let second = rw c.loop-i.invariant.stays at c.pair-first.ensures.second in
    let event = g.met.M.ClauseMap.moves_append _ _ _ _ _ c.loop-i.invariant.event c.pair-first.ensures.event in
    let stays = c.pair-first.ensures.stays ∙ c.loop-i.invariant.stays in
    let puts = puts_then c.loop-i.invariant.puts c.in_ok-put_literal.ensures.puts in
    elim c.match-second.branch [
      | in-Some+in_ok-put_literal-2 w ↦ rw (w.buffer-is, w.sink-is) (record {
        running = w.in_ok-put_literal-2.ensures.failed;
        puts = puts_next puts w.in_ok-put_literal-2.ensures.puts
            (pair_both clause i c.pair-first.result.0 first w.in-Some.second (second ∙ w.in-Some.is));
        event = event;
        stays = stays;
      })
      | in_default w ↦ rw (w.buffer-is, w.sink-is) (record {
        running = c.in_ok-put_literal.ensures.failed;
        puts = puts_as puts (pair_alone clause i c.pair-first.result.0 first (λ l some. w.in_default.not-Some l (sym second ∙ some)));
        event = event;
        stays = stays;
      })
    ]

pub returns-clause-puts : goal.returns-clause-puts
returns-clause-puts g c =
    let clause = clip_clause (g.M.ClauseMap.caller_view c.args.map.now) c.args.clip.now in
    let i = c.loop-i.i in
    let all : length clause ≤ 2 * i = omega (arith, c.loop-i-test.false, c.requires.known.len, c.pairs-i-end.ensures) in
    puts_all_next c.put.result _ _ _ c.loop-i.invariant.puts c.put.ensures.puts (literals_all clause (2 * i) all)
