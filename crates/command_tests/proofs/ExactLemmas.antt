-- What the clauses of `command` say about files that contracts describe completely.
use Rattle.std.proofs.Common.{◌≡◌, ◌∙◌, ◌++◌, ◌+◌, ◌⊎◌, ℕ, ℤ, Bool, true, false, List, [], ◌∷◌, Option, None, Some, Result, Ok, Err}
use Rattle.std.proofs.Common.{inl, inr, ap, refl, sym, subst}
use Rattle.std.proofs.lemmas.List.{append-nil}
use Rattle.lrup_model.specs.Cube.{CubeValue}
use Rattle.lrup_model.specs.Formula.{Cnf}
use Rattle.lrup_model.specs.declared.layout.LayoutFault.TheVariants as layouts
use Rattle.lrup_text.specs.ReadOut.{SourceView}
use Rattle.dimacs.specs.FormulaText.{IsFormulaText}
use Rattle.run_outcome.specs.declared.outcome.Verdict.{Verdict}
use Rattle.run_outcome.specs.declared.outcome.Verdict.TheVariants.{Unsatisfiable, UnsatisfiableUnder, Unknown}
use Rattle.checkpoint.specs.Checkpoints.{IsCheckpoint, Saves}
use Rattle.checkpoint.specs.Live.{Entry}
use Rattle.checkpoint.specs.Printing.{formula_text}
use Rattle.checkpoint.specs.declared.saving.SaveFault.{SaveFault}
use Rattle.checkpoint.specs.declared.saving.SaveFault.TheVariants as saves
use Rattle.command_line.specs.CommandLine.{AskToSave, IsCommandLineOf}
use Rattle.command_line.specs.lemmas.NextLemmas.{never_both}
use Rattle.command_line.specs.declared.sizes.Sizes.{Sizes}
use Rattle.command_line.specs.declared.words.CommandLine.{CommandLine}
use Rattle.run_files.specs.Files.{AreAssumed, AreOpened, AreSized, Effects, FilesView, WasReadIn, WasSaved}
use Rattle.command.specs.Commands.{CheckpointEntailed, CheckpointLeftEmpty, ComesLast, SinkChange, report_status}
use Rattle.run_files.specs.Causes.{IsAssumeCause}
use Rattle.run_files.specs.Asked.{Text, assumed_at, run_params_by}
use Rattle.run_files.specs.Faults.{status_of}
use Rattle.run_files.specs.Paths.{formula_path}
use Rattle.command.specs.Rounds.{AreRounds, IsCauseIn, LeavesAtPath, LeavesFile, ProgramEnds, Round, RoundsEnd}
use Rattle.run_files.specs.Saving.{ClosesSink, SavesCheckpoint}
use Rattle.command.specs.Rounds.{RoundsEntailed, WereRounds}
use Rattle.command.specs.lemmas.OneRound.{creates_checkpoint, is_over, were_one}
use Rattle.command.specs.lemmas.SavedLemmas.{carried}
use Rattle.run_files.specs.declared.fault.CommandFault.{CommandFault}
use Rattle.run_files.specs.declared.fault.CommandFault.TheVariants as faults
use Rattle.command_tests.specs.ExactFiles.{ExactValue, HasNoFile, FindsText, ClosesFile, IsCreated, IsEmptied, IsKept, IsKeptInRounds}
use Rattle.command_tests.specs.ExactFiles.{RefusesNew, RefusesOpening, IsUnsure, BeginsCheckpoint, FileLies, text_at, text_or_none}
use Rattle.command_tests.specs.declared.exact_files.Closing.{Closing}
use Rattle.command_tests.specs.declared.exact_files.Closing.TheVariants as closings

-- Runs with status 9.

nine_is : (fault : CommandFault) → status_of fault ≡ 9 → (why : SaveFault) × (fault ≡ faults.NotSaved why)
nine_is (faults.Usage text) is = absurd (let no : Path ℕ 2 9 = is in cc)
nine_is faults.Unread is = absurd (let no : Path ℕ 5 9 = is in cc)
nine_is (faults.Refused fault) is = absurd (let no : Path ℕ 4 9 = is in cc)
nine_is faults.CubeUnread is = absurd (let no : Path ℕ 5 9 = is in cc)
nine_is (faults.CubeRefused fault) is = absurd (let no : Path ℕ 4 9 = is in cc)
nine_is (faults.NotOpened stream) is = absurd (let no : Path ℕ 5 9 = is in cc)
nine_is (faults.Layout layouts.TooManyVariables) is = absurd (let no : Path ℕ 4 9 = is in cc)
nine_is (faults.Layout layouts.TooManyClauses) is = absurd (let no : Path ℕ 4 9 = is in cc)
nine_is (faults.Layout layouts.BadStreamCount) is = absurd (let no : Path ℕ 2 9 = is in cc)
nine_is (faults.Layout layouts.RowTooLong) is = absurd (let no : Path ℕ 2 9 = is in cc)
nine_is (faults.Spawn stream) is = absurd (let no : Path ℕ 6 9 = is in cc)
nine_is (faults.Ring stream) is = absurd (let no : Path ℕ 6 9 = is in cc)
nine_is faults.Memory is = absurd (let no : Path ℕ 6 9 = is in cc)
nine_is faults.Unwritten is = absurd (let no : Path ℕ 7 9 = is in cc)
nine_is faults.NotCreated is = absurd (let no : Path ℕ 5 9 = is in cc)
nine_is (faults.NotSaved why) is = (why, refl)
nine_is faults.TwoCheckpoints is = absurd (let no : Path ℕ 2 9 = is in cc)
nine_is faults.SizesUnread is = absurd (let no : Path ℕ 5 9 = is in cc)
nine_is faults.Sizes is = absurd (let no : Path ℕ 2 9 = is in cc)

-- what is left at the path if the report has status 9
left_unsaved : (its : Effects) (Saves : Result (Option Cnf) SaveFault → its.Output → its.Output → Type 0)
    (failed : Bool) (unsaved : Option SaveFault) (verdict : Verdict) (path : Text) (before : its.State) (next : Option Cnf)
    (after : its.State)
    → report_status failed unsaved verdict ≡ 9 → LeavesAtPath its Saves verdict before (Some path) unsaved next after
    → (why : SaveFault) × LeavesFile its Saves before path (Some why) next after
left_unsaved its Saves true unsaved verdict path before next after is leaves = absurd (let no : Path ℕ 7 9 = is in cc)
left_unsaved its Saves false None Unsatisfiable path before next after is leaves = absurd (let no : Path ℕ 0 9 = is in cc)
left_unsaved its Saves false None UnsatisfiableUnder path before next after is leaves = absurd (let no : Path ℕ 8 9 = is in cc)
left_unsaved its Saves false None Unknown path before next after is leaves = absurd (let no : Path ℕ 3 9 = is in cc)
left_unsaved its Saves false (Some why) Unsatisfiable path before next after is leaves =
    absurd (let no : Some why ≡ None = leaves.0 in cc)
left_unsaved its Saves false (Some why) UnsatisfiableUnder path before next after is leaves = (why, leaves)
left_unsaved its Saves false (Some why) Unknown path before next after is leaves = (why, leaves)

-- what a round saves
abbrev SavesOf : {its : Effects} {given : CommandLine} {cube : CubeValue} → Round its given cube → Result (Option Cnf) SaveFault
    → its.Output → its.Output → Type 0
SavesOf {its} {given} {cube} round =
    SavesCheckpoint its round.formula (run_params_by given cube round.formula round.sizes).layout round.checked.ran.run.history
    round.checked.dropped

-- With status 9, if the words ask for a checkpoint at the path, there was only one round, it has a
-- report, and saving to the file at the path failed.
pub record NinthEnd (files : FilesView) (words : List Text) (path : Text) (after : files.its.State) : Type 0 where
  pub given : CommandLine
  pub command_line : IsCommandLineOf words given
  pub cube : CubeValue
  pub round : Round files.its given cube
  pub were : WereRounds files given cube round []
  pub why : SaveFault
  pub file : LeavesFile files.its (SavesOf round) round.opened path (Some why) round.next after

module _ (files : FilesView) (words : List Text) where
  never_assumed : (vars : ℕ) (before : files.its.State) (path : Option Text) (why : SaveFault) (after : files.its.State)
      → IsAssumeCause files vars before path (faults.NotSaved why) after → ⊥
  never_assumed vars before None why after cause = cause
  never_assumed vars before (Some path) why after cause = cause

  -- if a round has no report, the cause isn't a failed save
  never_unsaved : (number : ℕ) (why : SaveFault) (after : files.its.State) → IsCauseIn files words number (faults.NotSaved why) after
      → ⊥
  never_unsaved number why after (inl (one, cause)) = elim cause.2 [
    | inl read ↦ read
    | inr later ↦ elim later.3 [
      | inl assume ↦ never_assumed later.0.vars later.1 (assumed_at cause.0) why after assume
      | inr last ↦ elim last.3 [ inl opens ↦ opens | inr start ↦ start.4 ]
    ]
  ]
  never_unsaved number why after (inr fails) = elim fails.cause.2 [
    | inl sizes ↦ sizes
    | inr sized ↦ elim sized.3 [
      | inl opens ↦ elim opens [ inl first ↦ first | inr others ↦ others.3 ]
      | inr start ↦ start.3
    ]
  ]

  pub ninth_end : (after : files.its.State) (out err : SinkChange) (status : ℕ) (path : Text)
      → AskToSave words path → status ≡ 9 → ProgramEnds files words after out err status → NinthEnd files words path after
  ninth_end after out err status path ask nine (inl report) =
      let round = report.last in
      let asked = report.command_line.said.checkpoint ∙ ask.path_is in
      let once = never_both report.given.next path asked in
      let leaves = subst (λ (o : Option Text). LeavesAtPath files.its (SavesOf round) round.verdict round.opened o round.unsaved round.next
      round.after) (creates_checkpoint report.given.next path round.number asked) round.leaves in
      let left = left_unsaved files.its (SavesOf round) out.failed round.unsaved round.verdict path round.opened round.next round.after
      (sym report.status_is ∙ nine) leaves in
      record {
        given = report.given;
        command_line = report.command_line;
        cube = report.cube;
        round = round;
        were = were_one once files report.cube round report.before report.were;
        why = left.0;
        file = subst (λ (s : files.its.State). LeavesFile files.its (SavesOf round) round.opened path (Some left.0) round.next s)
            (sym (is_over once round after report.finished)) left.1;
      }
  ninth_end after out err status path ask nine (inr fault) =
      let is = nine_is fault.fault (sym fault.status_is ∙ nine) in
      absurd (never_unsaved fault.number is.0 after
      (subst (λ (f : CommandFault). IsCauseIn files words fault.number f after) is.1 fault.cause))

-- Files that contracts describe completely: `left` is what their readers have left, and `content`
-- the bytes of their new files.
module _ {R W : Type 0} (left : R → List ℕ) (content : W → List ℕ) (reading : SourceView R) (has_failed : W → Bool) where
  abbrev pub exact_effects : Effects
  exact_effects = record {
    State = ExactValue;
    Reader = R;
    Output = W;
    contents = λ files path. Some (text_or_none (text_at files path));
    opens = λ before path reader after. FindsText before path (left reader) after;
    refuses = λ before path fault after. RefusesOpening before path fault after;
    lacks = λ before path after. HasNoFile before path after;
    fails = λ _ _ _ _. ⊥;
    creates = λ before path output after. IsCreated before path (content output) after;
    refuses_new = λ before path fault after. RefusesNew before path fault after;
    keeps = λ before output after. ClosesFile closings.Kept before (content output) after × (before.is_lossy ≡ false);
    loses = λ before output after. ClosesFile closings.Lost before (content output) after × (before.is_lossy ≡ true);
    discards = λ before output after. ClosesFile closings.Discarded before (content output) after;
    reading = reading;
    written = λ output. Some (content output);
    has_failed = has_failed;
  }

  abbrev pub exact_view : ExactValue → FilesView
  exact_view first = record { its = exact_effects; first = first; contents = λ path. Some (text_or_none (text_at first path)) }

  -- the bytes that were read from a path are the text of the file there
  was_read : (first : ExactValue) (path bytes : List ℕ) (after : ExactValue)
      → WasReadIn (exact_view first) first path bytes after → FindsText first path bytes after
  was_read first path bytes after read =
      let found = read.opened in
      let same : left read.reader ≡ bytes = sym (ap text_or_none found.1) ∙ read.known (text_or_none (text_at first path)) refl in
      (found.0, found.1 ∙ ap (λ (text : List ℕ). Some text) same)

  -- opening files changes nothing

  pub assumed_stays : (first : ExactValue) (vars : ℕ) (before : ExactValue) (path : Option Text) (cube : List ℤ) (after : ExactValue)
      → AreAssumed (WasReadIn (exact_view first)) vars before path cube after → after ≡ before
  assumed_stays first vars before None cube after assumed = assumed.1
  assumed_stays first vars before (Some path) cube after assumed = assumed.1.opened.0

  pub opened_stays : (before : ExactValue) (paths : List Text) (readers : List R) (after : ExactValue)
      → AreOpened exact_effects.opens before paths readers after → after ≡ before
  opened_stays before [] [] after opened = opened
  opened_stays before (path ∷ paths) (reader ∷ readers) after opened =
      opened_stays opened.0 paths readers after opened.2 ∙ opened.1.0
  opened_stays before [] (reader ∷ readers) after opened = absurd opened
  opened_stays before (path ∷ paths) [] after opened = absurd opened

  -- what closing leaves of a file that was created, and to which these bytes were written
  closed_at : (closing : Closing) (before next : ExactValue) (path : List ℕ) (first last : W) (bytes : List ℕ) (after : ExactValue)
      → IsCreated before path (content first) next → content last ≡ content first ++ bytes
      → ClosesFile closing next (content last) after
      → after ≡ record before { path = path; bytes = bytes; closing = closing }
  closed_at closing before next path first last bytes after created wrote closed =
      closed
      ∙ ap (λ (files : ExactValue). record files { bytes = content last; closing = closing }) created.2
      ∙ ap (λ (all : List ℕ). record before { path = path; bytes = all; closing = closing })
      (wrote ∙ ap (λ (l : List ℕ). l ++ bytes) created.1)

  pub saved_at : (before : ExactValue) (path bytes : List ℕ) (after : ExactValue)
      → WasSaved exact_effects.creates exact_effects.written exact_effects.keeps before path bytes after
      → after ≡ record before { path = path; bytes = bytes; closing = closings.Kept }
  saved_at before path bytes after saved =
      closed_at closings.Kept before saved.next path saved.first saved.last bytes after saved.created saved.wrote saved.kept.0

  lies_at : (Holds : Cnf → List ℕ → Type 0) (words : List Text) (first before : ExactValue) (path bytes : List ℕ) (closing : Closing)
      (after : ExactValue) (given : CommandLine) (formula : Cnf) (text : List ℕ) (next : ExactValue)
      → IsCommandLineOf words given → WasReadIn (exact_view first) first given.formula.now text next → IsFormulaText text formula
      → Holds formula bytes → before ≡ first
      → after ≡ record before { path = path; bytes = bytes; closing = closing }
      → FileLies Holds words first path closing after
  lies_at Holds words first before path bytes closing after given formula text next line read is holds stays closed = record {
    given = given;
    command_line = line;
    text = text;
    formula = formula;
    is_there = (was_read first given.formula.now text next read).1;
    is_text = is;
    bytes = bytes;
    holds = holds;
    closed = closed ∙ ap (λ (files : ExactValue). record files { path = path; bytes = bytes; closing = closing }) stays;
  }

  -- what lies at the path in the end, if the file was created after the streams were opened
  last_lies : (Holds : Cnf → List ℕ → Type 0) (words : List Text) (first : ExactValue) (Came : Cnf → ExactValue → ExactValue → Type 0)
      (after : ExactValue) (last : ComesLast exact_effects.opens (WasReadIn (exact_view first)) Came first words after)
      (path bytes : List ℕ) (closing : Closing) → Holds last.formula bytes
      → after ≡ record last.before { path = path; bytes = bytes; closing = closing } → FileLies Holds words first path closing after
  last_lies Holds words first Came after last path bytes closing holds closed =
      let stays : last.before ≡ first = opened_stays last.later last.given.streams last.readers last.before last.opened
      ∙ assumed_stays first last.formula.vars last.next (assumed_at last.given) last.cube last.later last.assumed ∙ last.read.opened.0 in
      lies_at Holds words first last.before path bytes closing after last.given last.formula last.bytes last.next last.command_line
      last.read last.is_text holds stays closed

  pub exactly_kept : (words : List Text) (first after : ExactValue) (status : ℕ)
      → CheckpointEntailed exact_effects.opens (WasReadIn (exact_view first))
      (WasSaved exact_effects.creates exact_effects.written exact_effects.keeps) first words after status
      → IsKept words first after status
  exactly_kept words first after status entailed path ask is =
      let last = entailed path ask is in
      let saved = last.came in
      last_lies IsCheckpoint words first _ after last path saved.0 closings.Kept saved.2 (saved_at last.before path saved.0 after saved.1)

  pub exactly_emptied : (words : List Text) (first after : ExactValue) (status : ℕ)
      → CheckpointLeftEmpty (exact_view first) words after status → IsEmptied words first after status
  exactly_emptied words first after status empty path ask zero =
      let last = empty path ask zero in
      let left_empty = last.came in
      let created = left_empty.created in
      last_lies (λ formula bytes. bytes ≡ []) words first _ after last path [] closings.Discarded refl
      (closed_at closings.Discarded last.before left_empty.next path left_empty.output left_empty.output [] after created
      (sym (append-nil (content left_empty.output))) left_empty.discarded)

  -- what was written by a failed save is a prefix of the text
  begun_by : (fault : SaveFault) (vars : ℕ) (entries : List Entry) (before after : List ℕ)
      → Saves (Err fault) vars entries (Some before) (Some after)
      → (bytes : List ℕ) × (after ≡ before ++ bytes) × ((more : List Entry) × (rest : List ℕ) × (formula_text vars more ≡ bytes ++ rest))
  begun_by saves.Memory vars entries before after so = absurd so
  begun_by saves.TooLarge vars entries before after so = ([], so.1, (entries, formula_text vars entries, refl))
  begun_by saves.Unwritten vars entries before after so = (so.0, so.3, (entries, so.1, so.2))

  -- how the file is closed after a failed save
  module _ (words : List Text) (first : ExactValue) (path : List ℕ) (after : ExactValue)
      (ninth : NinthEnd (exact_view first) words path after) where
    abbrev round : Round exact_effects ninth.given ninth.cube
    round = ninth.round

    stays : round.opened ≡ first
    stays =
        let were = ninth.were in
        opened_stays were.later ninth.given.streams round.readers round.opened were.rounds.opened.opened
        ∙ assumed_stays first were.formula.vars were.next (assumed_at ninth.given) ninth.cube were.later were.assumed
        ∙ were.is_formula.1.opened.0

    round_lies : (Holds : Cnf → List ℕ → Type 0) (bytes : List ℕ) (closing : Closing) → Holds round.formula bytes
        → after ≡ record round.opened { path = path; bytes = bytes; closing = closing } → FileLies Holds words first path closing after
    round_lies Holds bytes closing holds closed =
        let were = ninth.were in
        let read = were.is_formula in
        lies_at Holds words first round.opened path bytes closing after ninth.given were.formula read.0 were.next
        ninth.command_line read.1 read.2 (subst (λ (f : Cnf). Holds f bytes) were.rounds.formula_is holds) stays closed

    begins : (fault : SaveFault) (from to : W) → SavesOf round (Err fault) from to
        → (bytes : List ℕ) × (content to ≡ content from ++ bytes) × BeginsCheckpoint round.formula bytes
    begins fault from to saving = elim saving.exactly.saves.1 [
      | inl all ↦ begun_by fault round.formula.vars _ (content from) (content to) all.1
      | inr none ↦
          ([], ap content none.1 ∙ sym (append-nil (content from)), ([], formula_text round.formula.vars [], refl))
    ]

    unsure_by : (from to : W) (opened : ExactValue) (result : Result (Option Cnf) SaveFault)
        → IsCreated round.opened path (content from) opened → SavesOf round result from to
        → ClosesSink exact_effects result opened to (Some ninth.why) round.next after
        → (FileLies IsCheckpoint words first path closings.Lost after × (first.is_lossy ≡ true))
        ⊎ FileLies BeginsCheckpoint words first path closings.Discarded after
    unsure_by from to opened (Ok done) created saving closed =
        let wrote = saving.checkpoint in
        inl (
          round_lies IsCheckpoint wrote.bytes closings.Lost wrote.checkpoint
              (closed_at closings.Lost round.opened opened path from to wrote.bytes after created wrote.written closed.2.0),
          ap (λ (files : ExactValue). files.is_lossy) (sym stays)
              ∙ ap (λ (files : ExactValue). files.is_lossy) (sym created.2)
              ∙ closed.2.1,
        )
    unsure_by from to opened (Err fault) created saving closed =
        let begun = begins fault from to saving in
        inr (round_lies BeginsCheckpoint begun.0 closings.Discarded begun.2
        (closed_at closings.Discarded round.opened opened path from to begun.0 after created begun.1 closed.2))

  pub exactly_unsure : (words : List Text) (first after : ExactValue) (out err : SinkChange) (status : ℕ)
      → ProgramEnds (exact_view first) words after out err status → IsUnsure words first after status
  exactly_unsure words first after out err status ends path ask nine =
      let ninth = ninth_end (exact_view first) words after out err status path ask nine ends in
      let file = ninth.file in
      unsure_by words first path after ninth file.first file.last file.opened file.result file.created file.saving file.closed

  -- Rounds.

  -- the files with another new file
  abbrev pub with_new : List ℕ → List ℕ → ExactValue → ExactValue
  with_new path bytes files = record files { path = path; bytes = bytes; closing = closings.Kept }

  sized_stays : (path : Text) (old new : Sizes) (before after : ExactValue) → AreSized exact_effects path old before new after
      → after ≡ before
  sized_stays path old new before after (inl (lacks, same)) = lacks.0
  sized_stays path old new before after (inr (bytes, read, is)) = read.opened.0

  module _ (given : CommandLine) (cube : CubeValue) where
    -- the initial files stay the same in all rounds
    rounds_stay : (formula : Cnf) (first : ExactValue) (round : Round exact_effects given cube)
        (before : List (Round exact_effects given cube)) (path bytes : List ℕ) → AreRounds formula first (round ∷ before)
        → with_new path bytes round.opened ≡ with_new path bytes first
    rounds_stay formula first round [] path bytes rounds =
        ap (with_new path bytes) (opened_stays first given.streams round.readers round.opened rounds.opened.opened)
    rounds_stay formula first round (last ∷ before) path bytes rounds =
        let next = rounds.0 in
        let saved = carried last round.formula next.goes_on in
        ap (with_new path bytes)
        (opened_stays next.sized _ round.readers round.opened next.opened.opened
        ∙ sized_stays _ last.sizes round.sizes last.after next.sized next.sizes
        ∙ saved_at last.opened _ saved.bytes last.after saved.saved)
        ∙ rounds_stay formula first last before path bytes rounds.1

    finished_stays : (last : Round exact_effects given cube) (after : ExactValue) → RoundsEnd last after → after ≡ last.after
    finished_stays last after (inl (barred, same)) = same
    finished_stays last after (inr (next, on, inl alone)) = alone.3.0 ∙ sized_stays _ last.sizes alone.0 last.after alone.1 alone.2
    finished_stays last after (inr (next, on, inr (high, same))) = same

  pub exactly_in_rounds : (words : List Text) (first after : ExactValue) (out err : SinkChange) (status : ℕ)
      → RoundsEntailed (exact_view first) words after out err status → IsKeptInRounds words first after status
  exactly_in_rounds words first after out err status entailed folder ask is =
      let report = entailed folder ask (elim is [ inl three ↦ inr (inl three) | inr eight ↦ inr (inr (inl eight)) ]) in
      let ending = report.ending in
      let were = ending.were in
      let last = ending.last in
      let saved = report.last_saved is in
      let read = were.is_formula in
      let path = formula_path folder (last.number + 1) in
      let stays : were.later ≡ first =
      assumed_stays first were.formula.vars were.next (assumed_at ending.given) ending.cube were.later were.assumed ∙ read.1.opened.0 in
      let closed : after ≡ with_new path saved.0 were.later =
      finished_stays ending.given ending.cube last after ending.finished
      ∙ saved_at last.opened path saved.0 last.after saved.1
      ∙ rounds_stay ending.given ending.cube were.formula were.later last ending.before path saved.0 were.rounds in (
        last.number + 1,
        lies_at IsCheckpoint words first were.later path saved.0 closings.Kept after ending.given were.formula read.0 were.next
            ending.command_line read.1 read.2 saved.2 stays closed,
      )
