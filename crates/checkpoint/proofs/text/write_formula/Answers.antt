use Rattle.std.proofs.Common.{◌++◌, ◌+◌, sym, ap, ◌∙◌}
use Rattle.lrup_text.specs.lemmas.WritingLemmas.{at_err, breaks_first, breaks_from_empty, breaks_next, puts_next, writes_all_next}
use Rattle.checkpoint.specs.Live.{entry_of}
use Rattle.checkpoint.specs.Printing.{entry_text}
use Rattle.checkpoint.proofs.PrintLemmas.{header_first, header_entries, entries_next, entries_split, entries_all, later_entries, puts_as}
use Rattle.checkpoint.proofs.text.write_formula.Goals as goal

pub returns-in_err-put_header-clause-text : goal.returns-in_err-put_header-clause-text
returns-in_err-put_header-clause-text g c =
    let entry = entry_of (g.M.ClauseMap.caller_view c.args.map.now) in
    breaks_from_empty c.from_residual.result c.new-buffer.ensures c.from_residual.ensures.0
    (breaks_first c.in_err-put_header.ensures.puts (later_entries entry c.args.clips.now 0)
    (header_first c.args.vars entry c.args.clips.now))

pub returns-in_err-put_entry-clause-text : goal.returns-in_err-put_entry-clause-text
returns-in_err-put_entry-clause-text g c =
    let entry = entry_of (g.M.ClauseMap.caller_view c.args.map.now) in
    let clips = c.args.clips.now in
    let k = c.loop-before.before in
    let text = rw c.loop-before.invariant.stays at c.in_err-put_entry.ensures.puts in
    let is = entries_split c.args.vars entry clips k c.index-clips-before.result c.loop-before-test.true in
    let broken = breaks_next c.loop-before.invariant.puts text (later_entries entry clips (k + 1))
    (is ∙ ap (λ clip. (header_entries c.args.vars entry clips k ++ entry_text (k + 1) (entry clip)) ++ later_entries entry clips (k + 1))
    (sym c.index-clips-before.is)) in
    at_err c.from_residual-in_err-put_entry.result _ _ c.from_residual-in_err-put_entry.ensures.0
    (broken.went, broken.rest, broken.is, broken.appends)

pub returns-in_err-put_entry-clause-event : goal.returns-in_err-put_entry-clause-event
returns-in_err-put_entry-clause-event g c =
    g.met.M.ClauseMap.moves_append _ _ _ _ _ c.loop-before.invariant.event c.in_err-put_entry.ensures.event

pub loop-before-preserved : goal.loop-before-preserved
loop-before-preserved g c =
    let entry = entry_of (g.M.ClauseMap.caller_view c.args.map.now) in
    let clips = c.args.clips.now in
    let k = c.loop-before.before in
    let text = rw c.loop-before.invariant.stays at c.in_ok-put_entry.ensures.puts in
    record {
      running = c.in_ok-put_entry.ensures.failed;
      puts = puts_next c.loop-before.invariant.puts text
          (entries_next c.args.vars entry clips k c.index-clips-before.result c.loop-before-test.true
          ∙ ap (λ clip. header_entries c.args.vars entry clips k ++ entry_text (k + 1) (entry clip)) (sym c.index-clips-before.is));
      event = g.met.M.ClauseMap.moves_append _ _ _ _ _ c.loop-before.invariant.event c.in_ok-put_entry.ensures.event;
      stays = c.in_ok-put_entry.ensures.stays ∙ c.loop-before.invariant.stays;
    }

pub returns-clause-text : goal.returns-clause-text
returns-clause-text g c =
    let entry = entry_of (g.M.ClauseMap.caller_view c.args.map.now) in
    let text = entries_all c.args.vars entry c.args.clips.now c.loop-before.before c.loop-before-test.false in
    writes_all_next c.flush.result _ (puts_as c.loop-before.invariant.puts text) c.flush.ensures.text
