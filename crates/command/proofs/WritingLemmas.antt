-- What goes to a sink.
use Rattle.std.proofs.Common.{◌++◌, ◌∙◌, ◌≡◌, ◌≢◌, Bool, List, None, Option, Some, ap, false, refl, subst, sym, true, ℕ}
use Rattle.std.proofs.KnownBytes.{Appends-trans}
use Rattle.std.proofs.lemmas.Bool.{eq-eqb, ne_eqb}
use Rattle.std.proofs.lemmas.List.{append_assoc}
use Rattle.std.specs.Io.KnownBytes.{Appends, Keeps}
use Rattle.std.specs.Prelude.{Err, Ok, Result}
use Rattle.lrup_text.specs.Writing.{WritesText}
use Rattle.stream_check.specs.declared.report.Report.{Report}
use Rattle.checkpoint.specs.declared.saving.SaveFault.{SaveFault}
use Rattle.run_outcome.specs.ReportText.{report_text}
use Rattle.run_outcome.specs.declared.outcome.Verdict.{Verdict}
use Rattle.run_files.specs.Faults.{error_text, round_error_text}
use Rattle.run_files.specs.declared.fault.CommandFault.TheVariants as faults
use Rattle.command.specs.Commands.{SaysOfRound, SinkChange, SinkTook, TakesUnlessFailed}
use Rattle.command.specs.Rounds.{last_text, round_text}
use Rattle.command.specs.lemmas.TakingLemmas.{took_after_text}

-- if nothing was written before a text, the text is all that was written
after_nothing : (a b c : Option (List ℕ)) (text : List ℕ) → Keeps a b → Appends b c text → Appends a c text
after_nothing None b c text keeps appends = tt
after_nothing (Some xs) None c text keeps appends = absurd keeps
after_nothing (Some xs) (Some ys) None text keeps appends = absurd appends
after_nothing (Some xs) (Some ys) (Some zs) text keeps appends = appends ∙ ap (λ l. l ++ text) keeps

took_after_nothing : (failed : Bool) (a b c : Option (List ℕ)) (text : List ℕ) → Keeps a b → TakesUnlessFailed failed b c text
    → TakesUnlessFailed failed a c text
took_after_nothing false a b c text keeps took = after_nothing a b c text keeps took
took_after_nothing true a b c text keeps took = (took.0, took.1, took.2, after_nothing a b c took.0 keeps took.3)

-- the change of a sink, from its parts
abbrev changed : Option (List ℕ) → Option (List ℕ) → Bool → SinkChange
changed before after failed = record { before = before; after = after; failed = failed }

-- The message about the round's checkpoint comes first; if it was written in full, the message
-- about the report follows.
pub says_both : (round : ℕ) (a b c : Option (List ℕ)) (broken failed : Bool) (unsaved : Option SaveFault)
    → SaysOfRound round false unsaved (changed a b broken)
    → (broken ≡ true → (c ≡ b) × (failed ≡ true)) → (broken ≡ false → SinkTook (changed b c failed) (error_text faults.Unwritten))
    → SaysOfRound round true unsaved (changed a c failed)
says_both round a b c broken failed None said stays goes =
    took_after_nothing failed a b c (error_text faults.Unwritten) said.written (goes said.failed)
says_both round a b c false failed (Some fault) said stays goes =
    took_after_text failed a b c (round_error_text round (faults.NotSaved fault)) (error_text faults.Unwritten) said (goes refl)
says_both round a b c true failed (Some fault) said stays goes =
    let same = stays refl in
    let text = round_error_text round (faults.NotSaved fault) ++ error_text faults.Unwritten in
    let rest = said.1 ++ error_text faults.Unwritten in
    let is : text ≡ said.0 ++ rest = ap (λ t. t ++ error_text faults.Unwritten) said.2
    ∙ append_assoc said.0 said.1 (error_text faults.Unwritten) in
    subst (λ (f : Bool). TakesUnlessFailed f a c text) (sym same.1)
    (said.0, rest, is, subst (λ (o : Option (List ℕ)). Appends a o said.0) (sym same.0) said.3)

-- if a text is written after another one, both are written, or a prefix of the two together
pub writes_after : {E : Type 0} (r : Result (Unit {0}) E) (a b c : Option (List ℕ)) (one two : List ℕ) → Appends a b one
    → WritesText r b c two → WritesText r a c (one ++ two)
writes_after (Ok u) a b c one two first next = Appends-trans a b c one two first next
writes_after (Err e) a b c one two first next = (
  one ++ next.0,
  next.1,
  ap (λ t. one ++ t) next.2 ∙ sym (append_assoc one next.0 next.1),
  Appends-trans a b c one next.0 first next.3,
)

-- if a write broke off in the first text, a prefix of the two texts together was written
pub breaks_before : (a b : Option (List ℕ)) (one two : List ℕ) → (went rest : List ℕ) × (one ≡ went ++ rest) × Appends a b went
    → (went rest : List ℕ) × (one ++ two ≡ went ++ rest) × Appends a b went
breaks_before a b one two broken =
    (broken.0, broken.1 ++ two, ap (λ t. t ++ two) broken.2 ∙ append_assoc broken.0 broken.1 two, broken.3)

-- the text of the last round: round 1, or a later one
pub last_of_one : (number : ℕ) (reports : List Report) (verdict : Verdict) → number ≡ 1
    → last_text number reports verdict ≡ report_text reports verdict
last_of_one number reports verdict is = rw (eq-eqb number 1 is) refl

pub last_of_more : (number : ℕ) (reports : List Report) (verdict : Verdict) → number ≢ 1
    → last_text number reports verdict ≡ round_text number ++ report_text reports verdict
last_of_more number reports verdict other = rw (ne_eqb number 1 other) refl
