-- The text that is written for the live clauses is a checkpoint.
use Rattle.std.proofs.Common.{◌≡◌, ◌≤◌, ◌↔◌, ℕ, List, [], ◌∷◌, Option, length, ◌∙◌, arith}
use Rattle.std.specs.Io.KnownBytes.{Appends}
use Rattle.std.specs.List.{AllByRecursion}
use Rattle.std.specs.Option.{ForSome}
use Rattle.std.proofs.lemmas.List.{length-map}
use Rattle.lrup_model.specs.Entailment.{Follows, IsDerived}
use Rattle.lrup_model.specs.Formula.{Cnf, max_clause_literals, max_clauses}
use Rattle.lrup_model.specs.lemmas.ListLemmas.{All-map}
use Rattle.lrup_model.specs.Literal.{max_variable}
use Rattle.lrup_model.specs.CallerView.{CallerView, ClipValue, IsKnown}
use Rattle.checkpoint.specs.Checkpoints.{AreWithinLimits, WritesCheckpoint}
use Rattle.checkpoint.specs.Live.{Entry, clauses_of, entries_of, entry_of}
use Rattle.checkpoint.specs.Printing.{formula_text, printed}
use Rattle.checkpoint.proofs.NextLemmas.{derived_clauses}
use Rattle.checkpoint.proofs.ReadBack.{printed_is_read}

-- the clips are within the limits
abbrev AreFewClips : List ClipValue → Type 0
AreFewClips clips = (length clips ≤ max_clauses) × AllByRecursion (λ clip. clip.len ≤ max_clause_literals) clips

few_lengths : (p : CallerView) (clips : List ClipValue) → AllByRecursion (IsKnown p) clips
    → AllByRecursion (λ clip. clip.len ≤ max_clause_literals) clips
    ↔ AllByRecursion (λ c. length c ≤ max_clause_literals) (clauses_of (entries_of p clips))
few_lengths p [] known = ((λ all. tt), (λ all. tt))
few_lengths p (clip ∷ clips) known =
    let rest = few_lengths p clips known.1 in (
      λ all. (omega (arith, known.0.len, all.0), rest.0 all.1),
      λ all. (omega (arith, known.0.len, all.0), rest.1 all.1),
    )

pub few_clauses : (p : CallerView) (clips : List ClipValue) → AllByRecursion (IsKnown p) clips
    → AreFewClips clips ↔ AreWithinLimits (clauses_of (entries_of p clips))
few_clauses p clips known =
    let lengths = few_lengths p clips known in
    let count : length (clauses_of (entries_of p clips)) ≡ length clips = length-map (entries_of p clips) (λ e. e.clause)
    ∙ length-map clips (entry_of p) in (
      λ few. (omega (arith, count, few.0), lengths.0 few.1),
      λ few. (omega (arith, count, few.0), lengths.1 few.1),
    )

-- if the clauses follow from the formula, the text that was written for them is a checkpoint
pub writes_checkpoint : (f : Cnf) (vars : ℕ) (entries : List Entry) (before after : Option (List ℕ)) (next : Option Cnf)
    → vars ≡ f.vars → vars ≤ max_variable → AreWithinLimits (clauses_of entries)
    → AllByRecursion (IsDerived f) (clauses_of entries) → Appends before after (formula_text vars entries)
    → ForSome next (λ formula. formula ≡ printed vars entries) → WritesCheckpoint f before after next
writes_checkpoint f vars entries before after next same few within derived text given = record {
  bytes = formula_text vars entries;
  written = text;
  checkpoint = record {
    formula = printed vars entries;
    text = printed_is_read vars entries (record {
      vars = few;
      count = within.0;
      clauses = derived_clauses f vars (clauses_of entries) same derived within.1;
    });
    entails = record { vars = same; each = All-map (IsDerived f) (Follows f) (λ c is. is.1) (clauses_of entries) derived };
  };
  next_is = given;
}
