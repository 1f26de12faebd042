-- Words and files for which the premises of the laws of outcomes hold.
use Rattle.std.specs.Prelude.{◌≡◌, ℕ, true, List, [], ◌∷◌, Some, codes}
use Rattle.lrup_model.specs.Cube.{CubeValue, IsUnsatisfiableUnder}
use Rattle.lrup_model.specs.Formula.{Cnf}
use Rattle.dimacs.specs.FormulaText.{IsFormulaText}
use Rattle.lrup_text.specs.Cubes.{IsCubeText}
use Rattle.lrup_text.specs.Lines.{StreamLine, Addition}
use Rattle.stream_check.specs.declared.report.Report.{Report}
use Rattle.stream_check.specs.Closed.{IsOfStream}
use Rattle.stream_check.specs.Excuses.{CutOff, IsExcused}
use Rattle.run_laws.specs.Groups.{NoneExcused}
use Rattle.run_outcome.specs.ReportText.{stream_line}
use Rattle.run_files.specs.Asked.{Text}
use Rattle.run_files.specs.Files.{FilesView}
use Rattle.command.specs.Commands.{SinkChange}
use Rattle.command.specs.Rounds.{EndsWithReport}
use Rattle.test_support.specs.Worked.{first, second, third, fourth, unit}
use Rattle.command_tests.specs.ExactFiles.{ExactValue}

-- Two rounds, in each of which the stream has room for one line

abbrev pub two_rounds : List Text
two_rounds = codes "--rounds" ∷ codes "dir" ∷ codes "--lines=1" ∷ codes "--room=1" ∷ codes "f"
    ∷ codes "s1" ∷ []

-- 1 2 0 / -1 2 0 / 1 -2 0 / -1 -2 0
abbrev pub four_text : List ℕ
four_text = codes "p cnf 2 4\n1 2 0\n-1 2 0\n1 -2 0\n-1 -2 0\n"

-- what round 1 saves: the four clauses and the unit clause
abbrev pub five : Cnf
five = record { vars = 2; clauses = first ∷ second ∷ third ∷ fourth ∷ unit ∷ [] }

-- the line of round 1, which adds the unit clause, and that of round 2, which adds the empty clause
abbrev pub line_of_round_1 : StreamLine
line_of_round_1 = Addition 5 unit (1 ∷ 2 ∷ [])

abbrev pub line_of_round_2 : StreamLine
line_of_round_2 = Addition 6 [] (5 ∷ 3 ∷ 4 ∷ [])

-- These are the files: the formula has the four clauses, and each round's stream has its line. The
-- line of round 2 cites the clause that was added in round 1.
pub record RefuteInRound2 (files : ExactValue) : Type 0 where
  pub formula : files.formula ≡ four_text
  pub stream : files.stream ≡ codes "5 2 0 1 2 0\n"
  pub next : files.next ≡ Some (codes "6 0 5 3 4 0\n")

-- Two runs on one thread

abbrev pub turns : List Text
turns = codes "--serial" ∷ codes "f" ∷ codes "s1" ∷ []

abbrev pub other_turns : List Text
other_turns = codes "g" ∷ codes "s2" ∷ codes "--serial" ∷ []

-- the files have the same formula and the same stream
abbrev pub HaveSameTexts : ExactValue → ExactValue → Type 0
HaveSameTexts files others = (others.formula ≡ files.formula) × (others.stream ≡ files.stream)

-- Two runs end with reports, the first with these words, and the second with the others. Then the
-- reports are the same, and so are the verdicts, unless a report says that memory ran out or a read
-- failed.
abbrev pub TurnsAgree : FilesView → FilesView → Type 0
TurnsAgree files others = (after : files.its.State) (other_after : others.its.State)
    (out err other_out other_err : SinkChange) (status other_status : ℕ)
    (ends : EndsWithReport files turns after out err status)
    (other_ends : EndsWithReport others other_turns other_after other_out other_err other_status)
    → NoneExcused (λ s. true) CutOff ends.last.reports
    → NoneExcused (λ s. true) CutOff other_ends.last.reports
    → (ends.last.reports ≡ other_ends.last.reports) × (ends.last.verdict ≡ other_ends.last.verdict)

-- Two runs with the same stream 1

abbrev pub beside : List Text
beside = codes "f" ∷ codes "s1" ∷ codes "dir/round-2.stream-1" ∷ []

abbrev pub other_beside : List Text
other_beside = codes "--serial" ∷ codes "g" ∷ codes "s2" ∷ codes "dir/round-2.stream-1" ∷ []

-- the formula has the four clauses, and stream 1 has a line that cites two of them; nothing is
-- required of stream 2
abbrev pub AddsUnit : ExactValue → Type 0
AddsUnit files = (files.formula ≡ four_text) × (files.stream ≡ codes "5 2 0 1 2 0\n")

-- Two runs end with reports, the first with these words, on threads, and the second with the
-- others, on one thread. Then stream 1 has the same line in both reports, unless one of these says
-- that in this stream memory ran out or a read failed.
abbrev pub FirstLinesAgree : FilesView → FilesView → Type 0
FirstLinesAgree files others = (after : files.its.State) (other_after : others.its.State)
    (out err other_out other_err : SinkChange) (status other_status : ℕ)
    (ends : EndsWithReport files beside after out err status)
    (other_ends : EndsWithReport others other_beside other_after other_out other_err other_status)
    (report other_report : Report)
    → IsOfStream ends.last.reports 1 report → IsOfStream other_ends.last.reports 1 other_report
    → ¬ IsExcused CutOff report → ¬ IsExcused CutOff other_report
    → stream_line 1 report ≡ stream_line 1 other_report

-- Two runs, the second of which starts from what the first saved

abbrev pub saving : List Text
saving = codes "--checkpoint" ∷ codes "new" ∷ codes "f" ∷ codes "s1" ∷ []

abbrev pub plain : List Text
plain = codes "f" ∷ codes "s1" ∷ []

abbrev pub assuming_literals : List Text
assuming_literals = codes "--assume" ∷ codes "dir/assumed-literals" ∷ codes "f" ∷ codes "s1" ∷ []

-- the bytes are texts of literals and of a formula, over the same variables, and no assignment
-- satisfies the formula and makes all these literals true
abbrev pub AreUnsatisfiableTexts : List ℕ → List ℕ → Type 0
AreUnsatisfiableTexts assumed bytes = (formula : Cnf) × (cube : CubeValue)
    × IsFormulaText bytes formula × IsCubeText formula.vars assumed cube
    × IsUnsatisfiableUnder formula cube
