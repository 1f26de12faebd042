-- A line is taken, after any bytes and events.
use Rattle.std.proofs.Common.{◌≡◌, ◌+◌, ℕ, List, [], ◌∷◌, ◌++◌, length, Ok, Err, sym, ap, ◌∙◌, append-nil}
use Rattle.lrup_model.specs.Event.{History}
use Rattle.lrup_text.specs.Lines.{StreamLine, LineText, IsPending}
use Rattle.lrup_text.specs.declared.LineFault.{LineFault}
use Rattle.lrup_text.specs.Faults.{IsRefused}
use Rattle.stream_check.specs.declared.fault.Fault.TheVariants as faults
use Rattle.stream_check.specs.declared.report.Ending.{Ending}
use Rattle.stream_check.specs.declared.report.Ending.TheVariants as endings
use Rattle.stream_check.specs.declared.report.Report.{Report}
use Rattle.stream_check.specs.declared.line_stop.LineStop.{LineStop}
use Rattle.stream_check.specs.declared.line_stop.LineStop.TheVariants as stops
use Rattle.stream_check.specs.StreamContext.{capped, is_among}
use Rattle.stream_check.specs.CheckerValue.{report_of_tally}
use Rattle.stream_check.specs.Reaching.{Going, Over}
use Rattle.stream_check.specs.internal.CheckerInside.{StreamStateValue, tally_at, deleted_at}
use Rattle.stream_check.specs.Checker.{Extends}
use Rattle.stream_check.specs.internal.Taking.{hold, DeletesMore, TakesBy, ending_of}
use Rattle.stream_check.specs.Laws.{GoodLineTaken}
use Rattle.stream_check.proofs.ReachingLemmas.{pending_grows, bad_line_taken, bad_text_read, memory_wanted}

-- the report after a line that stopped the stream: what the line deleted is already counted
report_is : (old new : StreamStateValue) (ids : List ℕ) (ending : ℕ → Ending) → DeletesMore old new ids
    → report_of_tally (record (tally_at old) { deleted = capped ((tally_at old).deleted + length ids) }) (ending old.line)
    ≡ report_of_tally (tally_at new) (ending new.line)
report_is old new ids ending more =
    let of : ℕ → StreamStateValue → Report = λ d v. report_of_tally (record (tally_at v) { deleted = d }) (ending v.line) in
    ap (λ d. of d old) (sym more.deleted) ∙ ap (of (deleted_at new)) (sym more.kept)

-- a good line leads to the state after it
pub reaches_good : GoodLineTaken → (old new : StreamStateValue) (free left : ℕ) (read used : List ℕ) (line : StreamLine) (es : History)
    → LineText line (read ++ used) → TakesBy old free new left line es (Ok tt)
    → Extends old.params (Going (hold old read free)) used (es ∷ []) (Going (hold new [] left))
reaches_good law old new free left read used line es text takes bytes before reaches =
    law old.params bytes used before es (hold old read free) (hold new [] left) line reaches text takes.0 (takes.1 read)

-- a line that stopped the stream leads to a finished state
pub reaches_stopped : (old new : StreamStateValue) (free left : ℕ) (read used : List ℕ) (line : StreamLine) (es : History) (stop : LineStop)
    → LineText line (read ++ used) → TakesBy old free new left line es (Err stop)
    → Extends old.params (Going (hold old read free)) used (es ∷ [])
    (Over (report_of_tally (tally_at new) (ending_of new.line stop)) (is_among new.dropped.ids))
reaches_stopped old new free left read used line es (stops.Bad fault) text takes bytes before reaches =
    rw (report_is old new takes.0 (λ n. endings.Bad n fault) takes.4)
    at (bad_line_taken old.params bytes used before es (hold old read free) line takes.0 takes.1 fault (is_among new.dropped.ids) reaches
    text takes.2 takes.3 takes.4.dropped)
reaches_stopped old new free left read used line es stops.Memory text takes bytes before reaches =
    rw (report_is old new takes.2 (λ n. endings.Memory n) takes.5)
    at (memory_wanted old.params bytes used before es (hold old read free) takes.0 takes.1 takes.2 (is_among new.dropped.ids) reaches
    (rw takes.3 at text) takes.4 takes.5.dropped)

-- the start of a line leads to a state in which it is pending
pub reaches_front : (old : StreamStateValue) (free : ℕ) (read piece : List ℕ) → IsPending (read ++ piece)
    → Extends old.params (Going (hold old read free)) piece [] (Going (hold old (read ++ piece) free))
reaches_front old free read piece pending bytes before reaches =
    rw (append-nil before) (pending_grows old.params bytes piece before (hold old read free) reaches pending)

-- a text that no line begins with leads to a finished state
pub reaches_refused : (old : StreamStateValue) (free : ℕ) (read used : List ℕ) (fault : LineFault) → IsRefused (read ++ used) fault
    → Extends old.params (Going (hold old read free)) used []
    (Over (report_of_tally (tally_at old) (endings.Bad old.line (faults.Text fault))) (is_among old.dropped.ids))
reaches_refused old free read used fault refused bytes before reaches =
    rw (append-nil before) (bad_text_read old.params bytes used before (hold old read free) fault reaches refused)
