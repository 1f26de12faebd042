use Rattle.std.proofs.Common.{◌≡◌, ◌++◌, ◌∙◌, ℕ, List, [], refl, sym, ap, subst, arith, take, drop, length, append_assoc, append-nil}
use Rattle.std.proofs.lemmas.List.{take-append-drop, length-drop, nil_from_length}
use Rattle.stream_check.specs.Checker.{Extends, checker_state}
use Rattle.stream_check.specs.lemmas.ReportLemmas.{joined-append, reaches_still}
use Rattle.stream_threads.proofs.JudgingLemmas.{reaches_more, no_line, stopped_takes}
use Rattle.stream_threads.proofs.checking.take_all.Goals as goal

pub loop-init : goal.loop-init
loop-init g c =
    let room = (g.M.ClauseMap.caller_view c.args.map.now).room in
    record {
      within = omega arith;
      ready = c.requires;
      params = refl;
      took = (
        [],
        [],
        refl,
        g.met.M.ClauseMap.moves_none c.args.map.now,
        reaches_still c.args.checker.now.params (checker_state c.args.checker.now room),
      );
    }

pub returns-in-More : goal.returns-in-More
returns-in-More g c =
    let start = c.args.map.now in
    let mid = c.loop.map in
    let end = c.feed-progress.new.map in
    let old = c.loop.invariant.took in
    let fed = c.feed-progress.ensures.left in
    let v = c.feed-progress.new.self in
    let free = (g.M.ClauseMap.caller_view end).room in
    let used = c.feed-progress.result.used in
    let rest = c.loop.rest.now in
    let whole = stopped_takes c.finished_stays.ensures c.feed-progress.result.status c.loop.checker v rest (take used rest) (drop used rest)
    c.loop.checker.params (checker_state c.loop.checker (g.M.ClauseMap.caller_view mid).room) fed.0 free
    (no_line c.feed-progress.result.status c.in-More.is) c.feed-progress.ensures.status (sym (take-append-drop used rest)) fed.3 in
    record {
      took = (
        old.1 ++ fed.0,
        subst (g.M.ClauseMap.moves start end) (sym (joined-append old.1 fed.0))
            (g.met.M.ClauseMap.moves_append start mid end _ _ old.3 fed.1),
        reaches_more c.args.checker.now.params c.loop.checker.params _ _
            (checker_state v free) old.0 rest c.args.piece.now old.1 fed.0 c.loop.invariant.params old.2 old.4 whole,
      );
      ready = c.feed-progress.ensures.ready;
      params = c.feed-progress.ensures.params ∙ c.loop.invariant.params;
    }

pub loop-preserved : goal.loop-preserved
loop-preserved g c =
    let start = c.args.map.now in
    let mid = c.loop.map in
    let end = c.feed-progress.new.map in
    let old = c.loop.invariant.took in
    let fed = c.feed-progress.ensures.left in
    let v = c.feed-progress.new.self in
    let free = (g.M.ClauseMap.caller_view end).room in
    let used = c.feed-progress.result.used in
    let rest = c.loop.rest.now in
    record {
      within = omega (
        arith,
        c.loop.invariant.within,
        c.feed-progress.ensures.moves_on c.in-Line.is,
        c.feed-progress.ensures.used,
        ap (λ (t : List ℕ). length t) c.split_at.ensures.back,
        length-drop used rest,
      );
      ready = c.feed-progress.ensures.ready;
      params = c.feed-progress.ensures.params ∙ c.loop.invariant.params;
      took = (
        old.0 ++ take used rest,
        old.1 ++ fed.0,
        old.2 ∙ ap (λ (t : List ℕ). old.0 ++ t) (sym (take-append-drop used rest))
            ∙ sym (append_assoc old.0 (take used rest) (drop used rest))
            ∙ ap (λ (t : List ℕ). (old.0 ++ take used rest) ++ t) (sym c.split_at.ensures.back),
        subst (g.M.ClauseMap.moves start end) (sym (joined-append old.1 fed.0))
            (g.met.M.ClauseMap.moves_append start mid end _ _ old.3 fed.1),
        reaches_more c.args.checker.now.params c.loop.checker.params _ _ (checker_state v free) old.0 (take used rest)
            (old.0 ++ take used rest) old.1 fed.0
            c.loop.invariant.params refl old.4 fed.3,
      );
    }

pub returns-clause-took : goal.returns-clause-took
returns-clause-took g c =
    let old = c.loop.invariant.took in
    let none : length c.loop.rest.now ≡ 0 = omega (arith, c.loop.invariant.within, c.loop-test.false) in (
      old.1,
      old.3,
      subst (λ (t : List ℕ). Extends c.args.checker.now.params
          (checker_state c.args.checker.now (g.M.ClauseMap.caller_view c.args.map.now).room) t old.1
          (checker_state c.loop.checker (g.M.ClauseMap.caller_view c.loop.map).room))
          (sym (old.2 ∙ ap (λ (t : List ℕ). old.0 ++ t) (nil_from_length c.loop.rest.now none) ∙ append-nil old.0)) old.4,
    )
