use Rattle.std.proofs.Common.{◌∙◌, inl, inr, subst, sym, ℕ}
use Rattle.command_line.specs.declared.sizes.Sizes.{Sizes}
use Rattle.run_files.specs.Paths.{sizes_path, stream_paths}
use Rattle.run_files.specs.Files.{AreSized, StreamsOpened, effects_of}
use Rattle.command.specs.internal.RoundProgress.{RoundsSoFar}
use Rattle.command.proofs.RoundLemmas.{for_some, agrees_next}
use Rattle.command.proofs.rounds.next_round.Goals as goal

pub returns-in-Ok-clause-so_far : goal.returns-in-Ok-clause-so_far
returns-in-Ok-clause-so_far g c formula first so_far =
    let its = effects_of g.F.Files g.F.Machine g.F.Input.Source g.F.Output.Sink in
    let line = c.args.course.now.line.now in
    let cube = c.args.course.now.cube.now in
    let folder = c.args.folder.now in
    let before = c.args.files.now in
    let sized = c.sizes_of_round.new.files in
    let opened = c.open_round.new.files in
    let found = c.in-Ok.found in
    let of = c.in-Ok.ensures in
    let readers = c.in-Ok-Some.readers.items in
    let Sized : ℕ → Sizes → Type 0 = λ n s. AreSized its (sizes_path folder n) c.args.last.now.sizes before s sized in
    let Opened : ℕ → Sizes → Type 0 = λ n s. StreamsOpened its sized (stream_paths folder n s.streams) readers opened in
    let are : Opened c.args.number c.in_ok-sizes.sizes = rw c.in-Ok-Some.field-0-is at c.in-Ok-Some.ensures.opened in
    for_some (λ x. RoundsSoFar its line cube formula first x.last x.next c.check_round.new.files) found
    (agrees_next its line cube formula first c.args.last.now found.last c.args.formula found.next before sized opened
    c.check_round.new.files readers folder c.requires.folder (of.number ∙ c.requires.after) so_far
    (subst (λ (n : ℕ). Sized n found.last.sizes) (sym of.number) (subst (Sized c.args.number) (sym of.sizes) c.in_ok-sizes.ensures.sized))
    (subst (λ (n : ℕ). Opened n found.last.sizes) (sym of.number) (subst (Opened c.args.number) (sym of.sizes) are))
    of.found)

-- the fault came after the streams of the round were opened
pub returns-in-Err-check_round-clause-cause : goal.returns-in-Err-check_round-clause-cause
returns-in-Err-check_round-clause-cause g c =
    let its = effects_of g.F.Files g.F.Machine g.F.Input.Source g.F.Output.Sink in
    let sized = c.sizes_of_round.new.files in
    let sizes = c.in_ok-sizes.sizes in
    let opened = c.open_round.new.files in
    let readers = c.in-Ok-Some.readers.items in
    let are : StreamsOpened its sized (stream_paths c.args.folder.now c.args.number sizes.streams) readers opened =
    rw c.in-Ok-Some.field-0-is at c.in-Ok-Some.ensures.opened in
    inr (sizes, sized, c.in_ok-sizes.ensures.sized, inr (readers, opened, are, c.in-Err-check_round.ensures.cause))

-- not all streams of the round were opened
pub returns-in-Err-clause-cause : goal.returns-in-Err-clause-cause
returns-in-Err-clause-cause g c =
    inr (c.in_ok-sizes.sizes, c.sizes_of_round.new.files, c.in_ok-sizes.ensures.sized, inl c.in-Err.ensures.cause)
