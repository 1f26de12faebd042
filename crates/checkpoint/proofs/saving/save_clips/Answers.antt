use Rattle.std.proofs.Common.{inl}
use Rattle.std.proofs.lemmas.Bool.{iff_false}
use Rattle.lrup_text.specs.lemmas.WritingLemmas.{appends_nothing}
use Rattle.checkpoint.specs.Live.{clauses_of, entries_of}
use Rattle.checkpoint.proofs.NextLemmas.{derived_clauses}
use Rattle.checkpoint.proofs.SaveLemmas.{few_clauses, writes_checkpoint}
use Rattle.checkpoint.proofs.saving.save_clips.Goals as goal

pub returns-then-not-are_few-clause-saves : goal.returns-then-not-are_few-clause-saves
returns-then-not-are_few-clause-saves g c =
    let few = few_clauses (g.M.ClauseMap.caller_view c.args.map.now) c.args.clips.now c.requires.known in
    let not_few = iff_false c.are_few.ensures c.if-not-are_few.true in
    inl ((λ within. not_few (few.1 within)), appends_nothing (g.W.Sink.written c.args.sink.now))

pub next_formula-requires-clause-clauses : goal.next_formula-requires-clause-clauses
next_formula-requires-clause-clauses g c =
    let view = g.M.ClauseMap.caller_view c.args.map.now in
    let few = few_clauses view c.args.clips.now c.requires.known in
    derived_clauses view.caller.formula c.args.vars (clauses_of (entries_of view c.args.clips.now)) c.requires.vars c.requires.follow
    (few.0 (c.are_few.ensures.0 c.if-not-are_few.false)).1

pub returns-in_err-next-clause-memory : goal.returns-in_err-next-clause-memory
returns-in_err-next-clause-memory g c same = c.in_err-next.ensures.memory

pub returns-in-Ok-clause-checkpoint : goal.returns-in-Ok-clause-checkpoint
returns-in-Ok-clause-checkpoint g c =
    let view = g.M.ClauseMap.caller_view c.args.map.now in
    let few = few_clauses view c.args.clips.now c.requires.known in
    let text = rw c.next_formula.ensures.stays at c.in-Ok.ensures.text in
    writes_checkpoint view.caller.formula c.args.vars (entries_of view c.args.clips.now) (g.W.Sink.written c.args.sink.now)
    (g.W.Sink.written c.write_formula.new.sink) c.in_ok-next.next c.requires.vars c.requires.few
    (few.0 (c.are_few.ensures.0 c.if-not-are_few.false)) c.requires.follow text c.in_ok-next.ensures.formula

pub returns-in-Err-clause-event : goal.returns-in-Err-clause-event
returns-in-Err-clause-event g c =
    g.met.M.ClauseMap.moves_append _ _ _ _ _ c.in_ok-next.ensures.event c.in-Err.ensures.event
