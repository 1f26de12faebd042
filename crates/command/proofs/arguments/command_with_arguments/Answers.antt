use Rattle.std.proofs.Common.{◌≡◌, ◌∙◌, ◌⊎◌, ℕ, IfOk, List, map, refl, rules, string_bytes, sym}
use Rattle.std.specs.Process.{exit_status}
use Rattle.clap.specs.Walk.{texts}
use Rattle.command_line.specs.CommandLine.{HaveFault}
use Rattle.command.specs.Arguments.{words_after_name}
use Rattle.command.specs.Commands.{CheckpointEntailed, CheckpointLeftEmpty, NameUnsatisfiable, NameUnsatisfiableUnder, change}
use Rattle.run_files.specs.Asked.{Text}
use Rattle.run_files.specs.Files.{WasRead, WasSaved, files_view}
use Rattle.command.specs.Rounds.{ProgramEnds, RoundsEntailed}
use Rattle.command.proofs.ArgumentLemmas.{and_arguments, of_arguments, out_of_memory}
use Rattle.command.proofs.WordLemmas.{read_all}
use Rattle.command.proofs.arguments.command_with_arguments.Given
use Rattle.command.proofs.arguments.command_with_arguments.Goals as goal

pub returns-in_default-clause-ends : goal.returns-in_default-clause-ends
returns-in_default-clause-ends g c =
    let files = files_view g.F.Files g.F.Machine g.F.Input.Source g.F.Output.Sink c.args.files.now in
    let output = change g.O.Sink c.args.out.now c.args.out.now in
    let errors = change g.E.Sink c.args.err.now c.say.new.err in
    of_arguments c.args.arguments c.in-Ok.arguments _ c.in-Ok.is refl
    (λ words status. ProgramEnds files words c.args.files.now output errors status) c.say.result _ c.from-in_default.ensures
    (out_of_memory files _ output errors c.say.result (record { written = search rules; failed = c.requires.out })
    (c.say.ensures.said c.requires.err) c.say.ensures.status)

pub returns-in_default-words_of-clause-ends : goal.returns-in_default-words_of-clause-ends
returns-in_default-words_of-clause-ends g c =
    let files = files_view g.F.Files g.F.Machine g.F.Input.Source g.F.Output.Sink c.args.files.now in
    let output = change g.O.Sink c.args.out.now c.args.out.now in
    let say = c.say-in_default-words_of in
    let errors = change g.E.Sink c.args.err.now say.new.err in
    of_arguments c.args.arguments c.in-Ok.arguments _ c.in-Ok.is refl
    (λ words status. ProgramEnds files words c.args.files.now output errors status) say.result _ c.from-in_default-words_of.ensures
    (out_of_memory files _ output errors say.result (record { written = search rules; failed = c.requires.out })
    (say.ensures.said c.requires.err) say.ensures.status)

-- the words are those of the arguments
same_words : (g : Given.Over) (c : goal.After-drop-arguments-2 g) → texts c.deref-2.result.now ≡ words_after_name c.in-Ok.arguments
same_words g c =
    read_all texts (map string_bytes) c.deref-2.result.now c.in-Ok-words_of.words.items c.deref.result.now
    c.in-Ok-after_name.arguments.items _ c.deref-2.ensures.value c.in-Ok-words_of.ensures c.deref.ensures.value c.in-Ok-after_name.ensures

-- if P holds of the words and the status of `command`, it holds of the arguments and the exit
-- status
carried : (g : Given.Over) (c : goal.After-drop-arguments-2 g) (P : List Text → ℕ → Type 0)
    → P (texts c.deref-2.result.now) c.command-status.result
    → IfOk c.args.arguments (λ given. P (words_after_name given) (exit_status c.from-2.result))
carried g c P = of_arguments c.args.arguments c.in-Ok.arguments _ c.in-Ok.is (same_words g c) P _ _ c.from-2.ensures

pub returns-clause-sound : goal.returns-clause-sound
returns-clause-sound g c zero =
    let Read = WasRead g.F.Files.opens g.F.Input.Source.reads (g.F.Files.contents c.args.files.now) in
    and_arguments c.args.arguments c.in-Ok.arguments _ c.in-Ok.is (same_words g c) (NameUnsatisfiable _ Read c.args.files.now)
    (c.command-status.ensures.sound (sym c.from-2.ensures ∙ zero))

pub returns-clause-sound_under : goal.returns-clause-sound_under
returns-clause-sound_under g c eight =
    let Read = WasRead g.F.Files.opens g.F.Input.Source.reads (g.F.Files.contents c.args.files.now) in
    and_arguments c.args.arguments c.in-Ok.arguments _ c.in-Ok.is (same_words g c) (NameUnsatisfiableUnder _ Read c.args.files.now)
    (c.command-status.ensures.sound_under (sym c.from-2.ensures ∙ eight))

pub returns-clause-ends : goal.returns-clause-ends
returns-clause-ends g c =
    let files = files_view g.F.Files g.F.Machine g.F.Input.Source g.F.Output.Sink c.args.files.now in
    let new = c.command-status.new in
    let output = change g.O.Sink c.args.out.now new.out in
    let errors = change g.E.Sink c.args.err.now new.err in
    carried g c (λ words status. ProgramEnds files words new.files output errors status) c.command-status.ensures.ends

pub returns-clause-saved : goal.returns-clause-saved
returns-clause-saved g c =
    let first = c.args.files.now in
    let Read = WasRead g.F.Files.opens g.F.Input.Source.reads (g.F.Files.contents first) in
    let Save = WasSaved g.F.Machine.creates g.F.Output.Sink.written g.F.Machine.keeps in
    carried g c (λ words status. CheckpointEntailed g.F.Files.opens Read Save first words c.command-status.new.files status)
    c.command-status.ensures.saved

pub returns-clause-saved_rounds : goal.returns-clause-saved_rounds
returns-clause-saved_rounds g c =
    let files = files_view g.F.Files g.F.Machine g.F.Input.Source g.F.Output.Sink c.args.files.now in
    let new = c.command-status.new in
    let output = change g.O.Sink c.args.out.now new.out in
    let errors = change g.E.Sink c.args.err.now new.err in
    carried g c (λ words status. RoundsEntailed files words new.files output errors status) c.command-status.ensures.saved_rounds

pub returns-clause-none_saved : goal.returns-clause-none_saved
returns-clause-none_saved g c =
    let files = files_view g.F.Files g.F.Machine g.F.Input.Source g.F.Output.Sink c.args.files.now in
    carried g c (λ words status. CheckpointLeftEmpty files words c.command-status.new.files status) c.command-status.ensures.none_saved

pub returns-clause-usage : goal.returns-clause-usage
returns-clause-usage g c = carried g c (λ words status. HaveFault words → (status ≡ 2) ⊎ (status ≡ 6)) c.command-status.ensures.usage
