-- How a stream is judged: over whole lists of lines, with one block of events for each line, and
-- without a checker's state (this project's own).
use Rattle.std.specs.Prelude.{◌≡◌, ◌==◌, ◌+◌, ◌++◌, ℕ, List, [], ◌∷◌, length}
use Rattle.std.specs.List.{AllByRecursion, flat_map, list_any, sum_by}
use Rattle.lrup_model.specs.Event.{History}
use Rattle.lrup_text.specs.declared.LineFault.TheVariants as texts
use Rattle.lrup_text.specs.declared.LineFault.{LineFault}
use Rattle.lrup_text.specs.Lines.{StreamLine, Addition, Deletion, Import, IsWithinLimits, line_text, IsPending}
use Rattle.lrup_text.specs.Faults.{HasTextFault}
use Rattle.lrup_text.specs.declared.device.StreamEnd.{StreamEnd}
use Rattle.lrup_text.specs.declared.device.StreamEnd.TheVariants as stream_ends
use Rattle.stream_check.specs.declared.fault.Fault.{Fault}
use Rattle.stream_check.specs.declared.fault.Fault.TheVariants as faults
use Rattle.stream_check.specs.declared.report.Ending.{Ending}
use Rattle.stream_check.specs.declared.report.Ending.TheVariants as endings
use Rattle.stream_check.specs.declared.report.Report.{Report}
use Rattle.stream_check.specs.StreamParams.{StreamParams}
use Rattle.stream_check.specs.StreamContext.{StreamContext, additions_of, deleted_by, context_of, capped, is_within}
use Rattle.stream_check.specs.Verdicts.{LineVerdict, Good, Bad}
use Rattle.stream_check.specs.Additions.{JudgesAddition}
use Rattle.stream_check.specs.Deletions.{JudgesDeletion, StopsDeletion}
use Rattle.stream_check.specs.Imports.{JudgesImport}

-- The judgement of a line: it has these events and this verdict, after lines that left this
-- context.
abbrev pub JudgesLine : StreamParams → StreamContext → StreamLine → History → LineVerdict → Type 0
JudgesLine params context (Addition id lits hints) history verdict =
    JudgesAddition params context id lits hints history verdict
JudgesLine params context (Deletion lead ids) history verdict =
    JudgesDeletion params context.is_dropped [] ids history verdict
JudgesLine params context (Import id lits) history verdict =
    JudgesImport params context id lits history verdict

-- each line is good after those before it, and has one block of events
abbrev pub AreGood : StreamParams → List StreamLine → List StreamLine → List History → Type 0
AreGood params before [] [] = Unit {0}
AreGood params before [] (block ∷ blocks) = ⊥
AreGood params before (line ∷ lines) [] = ⊥
AreGood params before (line ∷ lines) (block ∷ blocks) =
    JudgesLine params (context_of params before) line block Good
    × AreGood params (before ++ line ∷ []) lines blocks

-- the events of the blocks, in order
abbrev pub joined : List History → History
joined blocks = flat_map (λ block. block) blocks

-- the report of a stream with these good lines, this many further deleted identities, and this
-- ending
abbrev pub report_of : StreamParams → List StreamLine → ℕ → Ending → Report
report_of params lines deleted ending =
    record {
      added = length (additions_of lines);
      deleted = capped (sum_by (λ line. length (deleted_by line)) lines + deleted);
      empty = list_any (λ addition. length addition.1 == 0) (additions_of lines);
      within = list_any (λ addition. is_within params.cube addition.1) (additions_of lines);
      ending = ending;
    }

-- the ending of a stream whose lines are all good, and whose rest may still become the line with
-- this number
abbrev pub ending_at : StreamEnd → List ℕ → ℕ → Ending
ending_at stream_ends.Ended [] number = endings.Ended
ending_at stream_ends.Ended (byte ∷ bytes) number = endings.Bad number (faults.Text texts.Truncated)
ending_at stream_ends.Failed rest number = endings.ReadFailed number

-- After the good lines, one of four things ends the stream. If the report has a line number, it is
-- the number of the next line. If the rest begins with a deletion, good or bad, memory may run out
-- in that deletion.
pub data EndsAfter (params : StreamParams) (lines : List StreamLine) (rest : List ℕ)
    (end : StreamEnd)
    (blocks : List History) (report : Report) : Type 0 where
  -- a bad line, with anything after it
  at_bad_line :
      (line : StreamLine) (more : List ℕ) (text : rest ≡ line_text line ++ more)
      (fits : IsWithinLimits line) (block : History) (one_block : blocks ≡ block ∷ [])
      (deleted : ℕ) (fault : Fault)
      (bad : JudgesLine params (context_of params lines) line block (Bad deleted fault))
      (says : report
      ≡ report_of params lines deleted (endings.Bad (capped (length lines + 1)) fault))
      → EndsAfter params lines rest end blocks report
  -- a text with which no line begins, and anything after it
  at_bad_text :
      (fault : LineFault) (text : HasTextFault rest fault) (no_block : blocks ≡ [])
      (says : report
      ≡ report_of params lines 0 (endings.Bad (capped (length lines + 1)) (faults.Text fault)))
      → EndsAfter params lines rest end blocks report
  -- a deletion that ran out of memory, with anything after it
  at_memory :
      (lead : ℕ) (ids more : List ℕ) (text : rest ≡ line_text (Deletion lead ids) ++ more)
      (fits : IsWithinLimits (Deletion lead ids)) (block : History)
      (one_block : blocks ≡ block ∷ []) (earlier : List ℕ)
      (stops : StopsDeletion params (context_of params lines).is_dropped ids block earlier)
      (says : report
      ≡ report_of params lines (length earlier) (endings.Memory (capped (length lines + 1))))
      → EndsAfter params lines rest end blocks report
  -- the end of the stream, with a rest that may still become a line
  at_end :
      (pending : IsPending rest) (no_block : blocks ≡ [])
      (says : report ≡ report_of params lines 0 (ending_at end rest (capped (length lines + 1))))
      → EndsAfter params lines rest end blocks report

-- The judgement of a stream with these bytes and this end, whose lines have these blocks of events:
-- first come the good lines, and then what ended the stream.
pub record JudgesBlocks (params : StreamParams) (bytes : List ℕ) (end : StreamEnd)
    (blocks : List History) (report : Report) : Type 0 where
  pub lines : List StreamLine
  pub rest : List ℕ
  pub front : List History
  pub back : List History
  pub split : blocks ≡ front ++ back
  pub text : bytes ≡ flat_map line_text lines ++ rest
  pub fits : AllByRecursion IsWithinLimits lines
  pub good : AreGood params [] lines front
  pub ends : EndsAfter params lines rest end back report

-- the judgement of a stream with these bytes, this end and these events
pub record Judges (params : StreamParams) (bytes : List ℕ) (end : StreamEnd) (history : History)
    (report : Report) : Type 0 where
  pub blocks : List History
  pub events : history ≡ joined blocks
  pub judges : JudgesBlocks params bytes end blocks report
