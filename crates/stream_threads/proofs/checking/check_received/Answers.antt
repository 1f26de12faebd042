use Rattle.std.proofs.Common.{◌++◌, ◌∙◌, ℕ, List, [], refl, sym, subst, take, map, rules}
use Rattle.std.proofs.lemmas.List.{length-take-le}
use Rattle.rtrb.specs.Ring.{received}
use Rattle.stream_check.specs.Checker.{Extends, checker_state}
use Rattle.stream_check.specs.lemmas.ReportLemmas.{joined-append, reaches_still}
use Rattle.stream_threads.specs.Items.{EndsBeforeMark, byte_of}
use Rattle.stream_threads.proofs.JudgingLemmas.{reaches_more, at_mark, none_before}
use Rattle.stream_threads.proofs.checking.check_received.Goals as goal

pub loop-init : goal.loop-init
loop-init g c =
    let state = checker_state c.args.checker.now (g.M.ClauseMap.caller_view c.args.map.now).room in
    record {
      next = (tt, tt);
      ring = search rules;
      some = c.requires.some;
      room = c.requires.room;
      ready = c.requires.ready;
      no_mark = subst EndsBeforeMark (sym c.requires.nothing) none_before;
      params = refl;
      took = (
        [],
        g.met.M.ClauseMap.moves_none c.args.map.now,
        subst (λ (items : List ℕ). Extends c.args.checker.now.params state (map byte_of items) [] state) (sym c.requires.nothing)
            (reaches_still c.args.checker.now.params state),
      );
    }

pub slice_bounds-take_all-end : goal.slice_bounds-take_all-end
slice_bounds-take_all-end g c = (c.receive.ensures.bytes c.in-Bytes.count c.in-Bytes.is).0

pub loop-preserved : goal.loop-preserved
loop-preserved g c =
    let start = c.args.map.now in
    let mid = c.loop.map in
    let end = c.take_all.new.map in
    let old = c.loop.invariant.took in
    let fed = c.take_all.ensures.took in
    let came = c.receive.ensures.bytes c.in-Bytes.count c.in-Bytes.is in
    record {
      next = (tt, tt);
      ring = search rules;
      some = search rules;
      room = search rules;
      ready = c.take_all.ensures.ready;
      no_mark = c.receive.ensures.no_mark c.in-Bytes.count c.in-Bytes.is;
      params = c.take_all.ensures.params ∙ c.loop.invariant.params;
      took = (
        old.0 ++ fed.0,
        subst (g.M.ClauseMap.moves start end) (sym (joined-append old.0 fed.0))
            (g.met.M.ClauseMap.moves_append start mid end _ _ old.1 fed.1),
        reaches_more c.args.checker.now.params c.loop.checker.params _ _
            (checker_state c.take_all.new.checker (g.M.ClauseMap.caller_view end).room)
            (map byte_of (received c.loop.receiver.consumer)) _ (map byte_of (received c.receive.new.self.consumer)) old.0 fed.0
            c.loop.invariant.params came.1 old.2 fed.2,
      );
    }

pub slice_bounds-take_all-end-in-Mark : goal.slice_bounds-take_all-end-in-Mark
slice_bounds-take_all-end-in-Mark g c = (c.receive.ensures.mark c.in-Mark.count c.in-Mark.end c.in-Mark.is).0

pub slice_bounds-take_all-end-in-Mark-2 : goal.slice_bounds-take_all-end-in-Mark-2
slice_bounds-take_all-end-in-Mark-2 g c =
    sym (length-take-le c.in-Mark.count c.receive.new.bytes (c.receive.ensures.mark c.in-Mark.count c.in-Mark.end c.in-Mark.is).0)

pub returns-in-Mark-clause-judged : goal.returns-in-Mark-clause-judged
returns-in-Mark-clause-judged g c =
    let start = c.args.map.now in
    let mid = c.loop.map in
    let end = c.take_all-in-Mark.new.map in
    let old = c.loop.invariant.took in
    let fed = c.take_all-in-Mark.ensures.took in
    let came = c.receive.ensures.mark c.in-Mark.count c.in-Mark.end c.in-Mark.is in
    let bytes = map byte_of (received c.loop.receiver.consumer) ++ take c.in-Mark.count c.receive.new.bytes in
    let checker = c.take_all-in-Mark.new.checker in
    let reaches = reaches_more c.args.checker.now.params c.loop.checker.params _ _
    (checker_state checker (g.M.ClauseMap.caller_view end).room)
    (map byte_of (received c.loop.receiver.consumer)) (take c.in-Mark.count c.receive.new.bytes) bytes old.0 fed.0
    c.loop.invariant.params refl old.2 fed.2 in (
      old.0 ++ fed.0,
      subst (g.M.ClauseMap.moves start end) (sym (joined-append old.0 fed.0))
          (g.met.M.ClauseMap.moves_append start mid end _ _ old.1 fed.1),
      at_mark c.args.checker.now checker c.finish.new.self _ _ bytes _ (old.0 ++ fed.0) c.in-Mark.end c.report.result came.1
          (c.take_all-in-Mark.ensures.params ∙ c.loop.invariant.params) reaches c.finish.ensures.ends c.finish.ensures.reports
          c.report.ensures.says c.report.ensures.memory,
    )

pub returns-in-Abandoned-clause-no_mark : goal.returns-in-Abandoned-clause-no_mark
returns-in-Abandoned-clause-no_mark g c = subst EndsBeforeMark
    (sym (c.receive.ensures.abandoned c.in-Abandoned.is)) c.loop.invariant.no_mark
