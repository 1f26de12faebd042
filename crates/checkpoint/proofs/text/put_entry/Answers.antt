use Rattle.lrup_text.specs.lemmas.WritingLemmas.{at_err, breaks_as, breaks_more, puts_all_next}
use Rattle.std.proofs.Common.{◌++◌, ap, sym}
use Rattle.lrup_model.specs.CallerView.{clip_clause}
use Rattle.checkpoint.specs.Printing.{clause_line, note}
use Rattle.checkpoint.proofs.text.put_entry.Goals as goal

pub returns-in_err-put_note-clause-puts : goal.returns-in_err-put_note-clause-puts
returns-in_err-put_note-clause-puts g c =
    let line = clause_line (clip_clause (g.M.ClauseMap.caller_view c.args.map.now) c.args.clip.now) in
    at_err c.from_residual.result _ _ c.from_residual.ensures.0
    (breaks_as (breaks_more c.in_err-put_note.ensures.puts line) (ap (λ id. note id c.args.place ++ line) (sym c.id.ensures)))

pub returns-clause-puts : goal.returns-clause-puts
returns-clause-puts g c =
    let line = clause_line (clip_clause (g.M.ClauseMap.caller_view c.args.map.now) c.args.clip.now) in
    puts_all_next c.put_clause.result _ _ _ c.in_ok-put_note.ensures.puts c.put_clause.ensures.puts
    (ap (λ id. note id c.args.place ++ line) (sym c.id.ensures))
