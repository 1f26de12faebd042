-- What the words ask for.
use Rattle.std.proofs.Common.{◌≡◌, ◌∙◌, ℕ, Some, length, sym, ap}
use Rattle.command_line.specs.declared.sizes.Sizes.{Sizes}
use Rattle.run_files.specs.Asked.{sizes_of}
use Rattle.outcome_laws.specs.Laws.{OneCommandLine}

same_sizes : (a b : Sizes) → a.streams ≡ b.streams → a.lines ≡ b.lines → a.room ≡ b.room → a ≡ b
same_sizes a b streams lines room =
    ap (λ (n : ℕ). record { streams = n; lines = a.lines; room = a.room }) streams
    ∙ ap (λ (n : ℕ). record { streams = b.streams; lines = n; room = a.room }) lines
    ∙ ap (λ (n : ℕ). record { streams = b.streams; lines = b.lines; room = n }) room

pub one_command_line : OneCommandLine
one_command_line words given other mine theirs =
    let a = mine.said in
    let b = theirs.said in
    let streams : Some other.streams ≡ Some given.streams = sym b.streams ∙ a.streams in
    let formula : Some other.formula.now ≡ Some given.formula.now = sym b.formula ∙ a.formula in
    let same : other.streams ≡ given.streams = cc in (
      b.tries ∙ sym a.tries,
      same_sizes (sizes_of other) (sizes_of given) (ap length same) (b.lines ∙ sym a.lines) (b.room ∙ sym a.room),
      same,
      cc,
    )
