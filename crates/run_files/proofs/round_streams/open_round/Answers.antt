use Rattle.std.proofs.Common.{◌≡◌, ◌∙◌, ◌-◌, List, Ok, ap, drop, inl, inr, length, map, refl, string_bytes, subst, take}
use Rattle.clap.specs.Walk.{texts}
use Rattle.run_files.specs.Files.{AreOpened, effects_of}
use Rattle.run_files.specs.Causes.{IsOpenCause}
use Rattle.run_files.specs.Asked.{Text}
use Rattle.run_files.specs.Paths.{stream_paths}
use Rattle.run_files.specs.declared.files.OpenFault.TheVariants as open_faults
use Rattle.run_files.proofs.StreamLemmas.{first_word, left_from, opened_from, other_words, path_and_rest, paths_count}
use Rattle.run_files.specs.lemmas.OpeningLemmas.{opened_count}
use Rattle.run_files.proofs.round_streams.open_round.Goals as goal

pub returns-in-Ok-None-clause-lacks : goal.returns-in-Ok-None-clause-lacks
returns-in-Ok-None-clause-lacks g c = λ is.
    let folder = c.args.folder.now in
    let words = c.in_ok-words.words.items in
    let same = c.in_ok-words.ensures ∙ ap (map string_bytes) c.deref.ensures.value ∙ c.in_ok-paths.ensures in
    let split = path_and_rest folder c.args.number c.args.streams c.requires.some in
    let path_is = first_word words c.index.result.now _ _ (same ∙ split) c.index.ensures in
    subst (λ (p : Text). g.F.Machine.lacks c.args.files.now p c.open_watched_if_there.new.files) path_is
    (c.open_watched_if_there.ensures.lacks (c.in-Ok-None.is ∙ ap Ok c.in-Ok-None.field-0-is))

pub returns-in-Ok-clause-opened : goal.returns-in-Ok-clause-opened
returns-in-Ok-clause-opened g c =
    let folder = c.args.folder.now in
    let words = c.in_ok-words.words.items in
    let same = c.in_ok-words.ensures ∙ ap (map string_bytes) c.deref.ensures.value ∙ c.in_ok-paths.ensures in
    let split = path_and_rest folder c.args.number c.args.streams c.requires.some in
    let path_is = first_word words c.index.result.now _ _ (same ∙ split) c.index.ensures in
    let before = c.args.files.now in
    let next = c.open_watched_if_there.new.files in
    let first = c.in-Ok-Some.first in
    let readers = c.in-Ok.readers.items in
    let others = c.in-Ok.ensures.readers in
    let rest_is = ap (λ ws. texts (take (length ws - 1) (drop 1 ws))) c.deref-in-Ok-Some.ensures.value ∙ other_words words
    ∙ ap (drop 1) same in
    let opens : g.F.Files.opens before c.index.result.now.now first next = rw c.in-Ok-Some.field-0-is at c.in-Ok-Some.ensures.opens in
    let left : g.F.Input.Source.left first ≡ g.F.Files.contents before c.index.result.now.now =
    rw c.in-Ok-Some.field-0-is at c.in-Ok-Some.ensures.left in
    record {
      opened = opened_from g.F.Files.opens before next c.open_others.new.files first readers others.0 _ _ _ split others.1
          (subst (λ (p : Text). g.F.Files.opens before p first next) path_is opens)
          (subst (λ (ps : List Text). AreOpened g.F.Files.opens next ps others.0 c.open_others.new.files) rest_is others.2);
      left = left_from g.F.Input.Source.left (g.F.Files.contents before)
          (g.F.Files.contents next) first readers others.0 _ _ _ split others.1
          c.in-Ok-Some.ensures.stays (left ∙ ap (g.F.Files.contents before) path_is)
          (others.3 ∙ ap (map (g.F.Files.contents next)) rest_is);
    }

pub returns-in-Ok-clause-count : goal.returns-in-Ok-clause-count
returns-in-Ok-clause-count g c =
    opened_count g.F.Files.opens c.args.files.now (stream_paths c.args.folder.now c.args.number c.args.streams) c.in-Ok.readers.items
    c.open_others.new.files (returns-in-Ok-clause-opened g c).opened
    ∙ paths_count c.args.folder.now c.args.number c.args.streams

pub returns-in-Ok-Some-clause-cause : goal.returns-in-Ok-Some-clause-cause
returns-in-Ok-Some-clause-cause g c =
    let folder = c.args.folder.now in
    let words = c.in_ok-words.words.items in
    let same = c.in_ok-words.ensures ∙ ap (map string_bytes) c.deref.ensures.value ∙ c.in_ok-paths.ensures in
    let split = path_and_rest folder c.args.number c.args.streams c.requires.some in
    let path_is = first_word words c.index.result.now _ _ (same ∙ split) c.index.ensures in
    let before = c.args.files.now in
    let next = c.open_watched_if_there.new.files in
    let after = c.open_others.new.files in
    let first = c.in-Ok-Some.first in
    let rest_is = ap (λ ws. texts (take (length ws - 1) (drop 1 ws))) c.deref-in-Ok-Some.ensures.value ∙ other_words words
    ∙ ap (drop 1) same in
    let opens : g.F.Files.opens before c.index.result.now.now first next = rw c.in-Ok-Some.field-0-is at c.in-Ok-Some.ensures.opens in
    let its = effects_of g.F.Files g.F.Machine g.F.Input.Source g.F.Output.Sink in
    inr (
      first,
      next,
      subst (λ (p : Text). g.F.Files.opens before p first next) path_is opens,
      subst (λ (ps : List Text). IsOpenCause its 1 next ps c.in-Err.fault after) rest_is c.in-Err.ensures.cause,
    )

pub returns-in-Err-NotOpened-clause-cause : goal.returns-in-Err-NotOpened-clause-cause
returns-in-Err-NotOpened-clause-cause g c =
    let folder = c.args.folder.now in
    let words = c.in_ok-words.words.items in
    let same = c.in_ok-words.ensures ∙ ap (map string_bytes) c.deref.ensures.value ∙ c.in_ok-paths.ensures in
    let split = path_and_rest folder c.args.number c.args.streams c.requires.some in
    let path_is = first_word words c.index.result.now _ _ (same ∙ split) c.index.ensures in
    let fails = rw c.in-Err-NotOpened.field-0-is at c.in-Err-NotOpened.ensures.fails in
    let after = c.open_watched_if_there.new.files in
    inl (refl, subst (λ (p : Text). g.F.Machine.fails c.args.files.now p open_faults.NotOpened after) path_is fails)

pub returns-clause-cause : goal.returns-clause-cause
returns-clause-cause g c =
    let folder = c.args.folder.now in
    let words = c.in_ok-words.words.items in
    let same = c.in_ok-words.ensures ∙ ap (map string_bytes) c.deref.ensures.value ∙ c.in_ok-paths.ensures in
    let split = path_and_rest folder c.args.number c.args.streams c.requires.some in
    let path_is = first_word words c.index.result.now _ _ (same ∙ split) c.index.ensures in
    let fails = rw c.in-Err-Memory.field-0-is at c.in-Err-Memory.ensures.fails in
    let after = c.open_watched_if_there.new.files in
    inl (inr (subst (λ (p : Text). g.F.Machine.fails c.args.files.now p open_faults.Memory after) path_is fails))
