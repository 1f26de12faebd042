-- Lemmas about what the system gives: arguments or an error.
use Rattle.std.proofs.Common.{◌≡◌, ◌≢◌, ℕ, IfOk, List, Ok, Result, inl, inr, refl, subst, sym}
use Rattle.std.specs.Prelude.{IsOkAnd}
use Rattle.std.specs.declared.alloc.Global.{Global}
use Rattle.std.specs.declared.io.ErrorKind.{ErrorKind}
use Rattle.std.specs.declared.io.ErrorKind.TheVariants as kinds
use Rattle.std.specs.declared.string.String.{String}
use Rattle.std.specs.declared.vec.IntoIter.{IntoIter}
use Rattle.command.specs.Arguments.{not_utf8, refusal_status, refusal_text, words_after_name}
use Rattle.run_files.specs.Files.{FilesView}
use Rattle.command.specs.Commands.{IsUntouched, SinkChange, SinkTook}
use Rattle.run_files.specs.Asked.{Text}
use Rattle.run_files.specs.Faults.{error_text, status_of}
use Rattle.command.specs.Rounds.{ProgramEnds}
use Rattle.run_files.specs.declared.fault.CommandFault.TheVariants as faults

-- If P holds of the words and a status, it holds of the arguments' words and the exit status.
module _ {E : Type 0} (arguments : Result (IntoIter (String Global) Global) E) (given : IntoIter (String Global) Global) (words : List Text)
    (is : arguments ≡ Ok given) (same : words ≡ words_after_name given) where
  pub of_arguments : (P : List Text → ℕ → Type 0) (status shown : ℕ) → shown ≡ status → P words status
      → IfOk arguments (λ one. P (words_after_name one) shown)
  of_arguments P status shown known holds =
      subst (λ (r : Result (IntoIter (String Global) Global) E). IfOk r (λ one. P (words_after_name one) shown)) (sym is)
      (subst (P (words_after_name given)) (sym known) (subst (λ (w : List Text). P w status) same holds))

  pub and_arguments : (P : List Text → Type 0) → P words → IsOkAnd arguments (λ one. P (words_after_name one))
  and_arguments P holds =
      subst (λ (r : Result (IntoIter (String Global) Global) E). IsOkAnd r (λ one. P (words_after_name one))) (sym is) (subst P same holds)

-- The program may end because memory runs out before it has read the words.
pub out_of_memory : (files : FilesView) (words : List Text) (out err : SinkChange) (status : ℕ) → IsUntouched out
    → SinkTook err (error_text faults.Memory) → status ≡ status_of faults.Memory → ProgramEnds files words files.first out err status
out_of_memory files words out err status untouched said is =
    inr (record {
      number = 1;
      fault = faults.Memory;
      cause = inl (refl, inl refl);
      untouched = untouched;
      said = said;
      status_is = is;
    })

-- ---- all errors of the system except out of memory

pub other_text : (kind : ErrorKind) → kind ≢ kinds.OutOfMemory → refusal_text kind ≡ not_utf8
other_text kinds.OutOfMemory other = absurd (other refl)
other_text kind other = refl

pub other_status : (kind : ErrorKind) → kind ≢ kinds.OutOfMemory → refusal_status kind ≡ 2
other_status kinds.OutOfMemory other = absurd (other refl)
other_status kind other = refl
