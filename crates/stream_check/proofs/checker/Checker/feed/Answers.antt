use Rattle.std.proofs.Common.{◌≡◌, ◌∙◌, ℕ, List, [], ◌∷◌, ◌++◌, None, Some, Ok, inl, inr, refl, sym, ap, subst, take, arith, append-nil}
use Rattle.std.proofs.lemmas.List.{take_all}
use Rattle.lrup_text.specs.Feeding.{Feeds, ReaderReaches}
use Rattle.lrup_text.specs.Lines.{IsPending, LineText, line_of}
use Rattle.lrup_text.specs.declared.reader.ReaderStatus.TheVariants as statuses
use Rattle.stream_check.specs.declared.fault.Fault.TheVariants as faults
use Rattle.stream_check.specs.declared.report.Ending.{Ending}
use Rattle.stream_check.specs.declared.report.Ending.TheVariants as endings
use Rattle.stream_check.specs.Reaching.{Going, Over}
use Rattle.stream_check.specs.StreamContext.{is_among}
use Rattle.stream_check.specs.CheckerValue.{report_of_tally, CheckerValue}
use Rattle.stream_check.specs.internal.CheckerInside.{read_of, value_of, tally_at}
use Rattle.stream_check.specs.Checker.{checker_state, Extends}
use Rattle.stream_check.specs.internal.Taking.{hold, ending_of}
use Rattle.stream_check.specs.lemmas.ReportLemmas.{reaches_still}
use Rattle.stream_check.proofs.TakeLemmas.{reaches_good, reaches_stopped, reaches_refused}
use Rattle.stream_check.proofs.FeedLemmas.{some_of, none_of, feeds_line, feeds_more, front_cut, line_cut, feeds_finished}
use Rattle.stream_check.proofs.checker.Checker.feed.Goals as goal

pub returns-then-is_some-clause-left : goal.returns-then-is_some-clause-left
returns-then-is_some-clause-left g c = (
  [],
  g.met.M.ClauseMap.moves_none c.args.map.now,
  omega arith,
  reaches_still c.args.self.now.params (checker_state c.args.self.now (g.M.ClauseMap.caller_view c.args.map.now).room),
)

pub returns-then-is_some-clause-status : goal.returns-then-is_some-clause-status
returns-then-is_some-clause-status g c =
    let finished = some_of c.self.inside.ending (sym c.is_some.ensures ∙ c.if-is_some.true) in
    let now : c.args.self.now.ending ≡ Some finished.0 = sym (ap (λ (v : CheckerValue). v.ending) c.self.view_is) ∙ finished.1 in
    (finished.0, now, λ none. absurd (let e : None ≡ Some finished.0 = sym none ∙ now in cc))

pub returns-in-NeedMore-clause-left : goal.returns-in-NeedMore-clause-left
returns-in-NeedMore-clause-left g c =
    let p = g.M.ClauseMap.caller_view c.args.map.now in
    let r = c.self.inside.reader in
    let new = c.feed-fed.follows.lender-at-none in
    let read = read_of r in
    let used = c.feed-fed.result.used in
    let none = none_of c.self.inside.ending (sym c.is_some.ensures ∙ c.if-is_some.false) in
    let reads : r ≡ Ok read = c.self.invariant.reads none in
    let gives = rw (c.in-NeedMore.is, reads) at c.feed-fed.ensures.gives in
    let reaches = rw (c.in-NeedMore.is, reads) at c.feed-fed.follows.holds-at-none in
    let left = feeds_more c.self.inside.state read new c.args.piece.now used p.room c.self.inside.ending none reaches.0 gives reaches.1 in (
      [],
      g.met.M.ClauseMap.moves_none c.args.map.now,
      refl,
      subst (λ (v : CheckerValue). Extends v.params (checker_state v p.room) (take c.feed-fed.result.used c.args.piece.now) []
          (checker_state (value_of c.self.inside.state (read_of new) c.self.inside.ending) p.room)) c.self.view_is left,
    )

pub returns-in-NeedMore-clause-status : goal.returns-in-NeedMore-clause-status
returns-in-NeedMore-clause-status g c =
    let r = c.self.inside.reader in
    let new = c.feed-fed.follows.lender-at-none in
    let read = read_of r in
    let piece = c.args.piece.now in
    let used = c.feed-fed.result.used in
    let none = none_of c.self.inside.ending (sym c.is_some.ensures ∙ c.if-is_some.false) in
    let reads : r ≡ Ok read = c.self.invariant.reads none in
    let gives : Feeds (Ok read) piece used statuses.NeedMore = rw (c.in-NeedMore.is, reads) at c.feed-fed.ensures.gives in
    let reaches : ReaderReaches (Ok read) piece statuses.NeedMore new = rw (c.in-NeedMore.is, reads) at c.feed-fed.follows.holds-at-none in
    let all : take used piece ≡ piece = take_all used piece (omega (arith, gives)) in
    let here : read ≡ c.args.self.now.pending = ap (λ (v : CheckerValue). v.pending) c.self.view_is in
    let after : read_of new ≡ c.args.self.now.pending ++ piece = ap read_of reaches.0 ∙ ap (λ (b : List ℕ). b ++ piece) here in
    let front : IsPending (c.args.self.now.pending ++ piece) = rw here at reaches.1 in (
      none,
      all,
      after,
      λ bytes lines cut. rw (all, after) (front_cut bytes c.args.self.now.pending piece lines front cut),
    )

pub returns-in-Ok-clause-left : goal.returns-in-Ok-clause-left
returns-in-Ok-clause-left g c =
    let p = g.M.ClauseMap.caller_view c.args.map.now in
    let q = g.M.ClauseMap.caller_view c.take_line.new.map in
    let h = c.self.inside.state in
    let n = c.take_line.new.state in
    let new = c.feed-fed.follows.lender-at-none in
    let read = read_of c.self.inside.reader in
    let piece = c.args.piece.now in
    let used = c.feed-fed.result.used in
    let none = none_of c.self.inside.ending (sym c.is_some.ensures ∙ c.if-is_some.false) in
    let gives = rw (c.in-Line.is, c.self.invariant.reads none) at c.feed-fed.ensures.gives in
    let reaches = rw c.in-Line.is at c.feed-fed.follows.holds-at-none in
    let taken = c.in-Ok.ensures.taken in
    let left = feeds_line h n read new (take used piece) (taken.0 ∷ []) p.room q.room c.self.inside.ending none reaches.0
    (reaches_good c.good_line_taken.ensures h n p.room q.room read (take used piece) (line_of c.in-Line.line) taken.0 gives.2 taken.2) in (
      taken.0 ∷ [],
      rw (append-nil taken.0) taken.1,
      refl,
      subst (λ (v : CheckerValue). Extends v.params (checker_state v p.room) (take used piece) (taken.0 ∷ [])
          (checker_state (value_of n (read_of new) c.self.inside.ending) q.room)) c.self.view_is left,
    )

pub returns-in-Ok-clause-status : goal.returns-in-Ok-clause-status
returns-in-Ok-clause-status g c =
    let piece = c.args.piece.now in
    let used = c.feed-fed.result.used in
    let line = c.in-Line.line in
    let none = none_of c.self.inside.ending (sym c.is_some.ensures ∙ c.if-is_some.false) in
    let gives = rw (c.in-Line.is, c.self.invariant.reads none) at c.feed-fed.ensures.gives in
    let reaches = rw c.in-Line.is at c.feed-fed.follows.holds-at-none in
    let text : LineText (line_of line) (c.args.self.now.pending ++ take used piece) =
    rw (ap (λ (v : CheckerValue). v.pending) c.self.view_is) at gives.2 in (
      none,
      ap read_of reaches.0,
      λ bytes lines cut. (line_of line, line_cut bytes c.args.self.now.pending (take used piece) lines (line_of line) text cut),
    )

pub returns-in-Err-clause-left : goal.returns-in-Err-clause-left
returns-in-Err-clause-left g c =
    let p = g.M.ClauseMap.caller_view c.args.map.now in
    let q = g.M.ClauseMap.caller_view c.take_line.new.map in
    let h = c.self.inside.state in
    let n = c.take_line.new.state in
    let read = read_of c.self.inside.reader in
    let piece = c.args.piece.now in
    let used = c.feed-fed.result.used in
    let none = none_of c.self.inside.ending (sym c.is_some.ensures ∙ c.if-is_some.false) in
    let gives = rw (c.in-Line.is, c.self.invariant.reads none) at c.feed-fed.ensures.gives in
    let taken = c.in-Err.ensures.taken in
    let stopped : Extends h.params (Going (hold h read p.room)) (take used piece) (taken.0 ∷ [])
    (Over (report_of_tally (tally_at n) c.ending.result) (is_among n.dropped.ids)) =
    subst (λ (e : Ending). Extends h.params (Going (hold h read p.room)) (take used piece) (taken.0 ∷ [])
    (Over (report_of_tally (tally_at n) e) (is_among n.dropped.ids)))
    (sym (c.ending.ensures ∙ ap (λ (k : ℕ). ending_of k c.in-Err.stop) c.line.ensures))
    (reaches_stopped h n p.room q.room read (take used piece) (line_of c.in-Line.line) taken.0 c.in-Err.stop gives.2 taken.2) in
    let left = feeds_finished h read (take used piece) (taken.0 ∷ []) p.room c.self.inside.ending
    (report_of_tally (tally_at n) c.ending.result) (is_among n.dropped.ids) none stopped in
    rw c.notify_gate.ensures (
      taken.0 ∷ [],
      rw (append-nil taken.0) taken.1,
      omega arith,
      subst (λ (v : CheckerValue). Extends v.params (checker_state v p.room) (take used piece) (taken.0 ∷ [])
          (Over (report_of_tally (tally_at n) c.ending.result) (is_among n.dropped.ids))) c.self.view_is left,
    )

pub returns-in-Err-clause-status : goal.returns-in-Err-clause-status
returns-in-Err-clause-status g c =
    let none = none_of c.self.inside.ending (sym c.is_some.ensures ∙ c.if-is_some.false) in
    let gives = rw (c.in-Line.is, c.self.invariant.reads none) at c.feed-fed.ensures.gives in
    let text = rw (ap (λ (v : CheckerValue). v.pending) c.self.view_is) at gives.2 in
    rw c.notify_gate.ensures (c.ending.result, refl, λ going. inl (line_of c.in-Line.line, text))

pub returns-in-Fault-clause-left : goal.returns-in-Fault-clause-left
returns-in-Fault-clause-left g c =
    let p = g.M.ClauseMap.caller_view c.args.map.now in
    let h = c.self.inside.state in
    let read = read_of c.self.inside.reader in
    let piece = c.args.piece.now in
    let used = c.feed-fed.result.used in
    let fault = c.in-Fault.fault in
    let report = report_of_tally (tally_at h) (endings.Bad c.line-in-Fault.result (faults.Text fault)) in
    let none = none_of c.self.inside.ending (sym c.is_some.ensures ∙ c.if-is_some.false) in
    let gives = rw (c.in-Fault.is, c.self.invariant.reads none) at c.feed-fed.ensures.gives in
    let left = feeds_finished h read (take used piece) [] p.room c.self.inside.ending report (is_among h.dropped.ids) none
    (subst (λ (n : ℕ). Extends h.params (Going (hold h read p.room)) (take used piece) []
    (Over (report_of_tally (tally_at h) (endings.Bad n (faults.Text fault))) (is_among h.dropped.ids))) (sym c.line-in-Fault.ensures)
    (reaches_refused h p.room read (take used piece) fault gives.2)) in
    rw c.notify_gate-in-Fault.ensures (
      [],
      g.met.M.ClauseMap.moves_none c.args.map.now,
      omega arith,
      subst (λ (v : CheckerValue). Extends v.params (checker_state v p.room) (take used piece) []
          (Over report (is_among h.dropped.ids))) c.self.view_is left,
    )

pub returns-in-Fault-clause-status : goal.returns-in-Fault-clause-status
returns-in-Fault-clause-status g c =
    let fault = c.in-Fault.fault in
    let none = none_of c.self.inside.ending (sym c.is_some.ensures ∙ c.if-is_some.false) in
    let gives = rw (c.in-Fault.is, c.self.invariant.reads none) at c.feed-fed.ensures.gives in
    let text = rw (ap (λ (v : CheckerValue). v.pending) c.self.view_is) at gives.2 in
    rw c.notify_gate-in-Fault.ensures
    (endings.Bad c.line-in-Fault.result (faults.Text fault), refl, λ going. inr (c.line-in-Fault.result, fault, refl, text))
