-- The status that a piece gives, from what its bytes did to the line.
use Rattle.std.proofs.Common.{◌≡◌, ℕ, ◌≤◌, List, ◌++◌, length, take, Option, None, Ok, Err, refl, sym, ◌∙◌, ap, subst, arith}
use Rattle.lrup_text.specs.declared.LineFault.{LineFault}
use Rattle.lrup_text.specs.declared.Line.{Line}
use Rattle.lrup_text.specs.declared.partial_line.ByteStep.TheVariants.{More, Done, Refused}
use Rattle.lrup_text.specs.declared.partial_line.PartialLine.{PartialLine}
use Rattle.lrup_text.specs.declared.reader.ReaderStatus.{ReaderStatus}
use Rattle.lrup_text.specs.declared.reader.ReaderStatus.TheVariants as statuses
use Rattle.lrup_text.specs.Lines.{IsPending, LineText, line_of}
use Rattle.lrup_text.specs.internal.Reading.{StepsThrough, pending, line_so_far, reader_state}
use Rattle.lrup_text.specs.Feeding.{ReaderState, Feeds, ReaderReaches}
use Rattle.lrup_text.proofs.TextLaws.{empty_pending}
use Rattle.lrup_text.proofs.Readers.{reads_pending}

-- the status after a piece, and the state that it leaves
pub record Fed (old : ReaderState) (piece : List ℕ) (used : ℕ) (status : ReaderStatus) (new : ReaderState) : Type 0 where
  pub reaches : ReaderReaches old piece status new
  pub gives : Feeds old piece used status

module _ (m next : PartialLine) (piece : List ℕ) (used : ℕ) where
  pub fed_more : StepsThrough m piece used More next → Fed (Ok (pending m)) piece used statuses.NeedMore (Ok (pending next))
  fed_more h = record { reaches = (ap Ok h.2, subst IsPending h.2 (reads_pending next h.1)); gives = h.0 }

  pub fed_line : (line : Line) → line_of line ≡ line_so_far next → StepsThrough m piece used Done next
      → Fed (Ok (pending m)) piece used (statuses.Line line) (Ok (pending next))
  fed_line line is h = record {
    reaches = (ap Ok h.3, empty_pending);
    gives = (h.0, h.1, subst (λ l. LineText l (pending m ++ take used piece)) (sym is) h.4);
  }

  pub fed_fault : (fault : LineFault) → StepsThrough m piece used (Refused fault) next
      → Fed (Ok (pending m)) piece used (statuses.Fault fault) (Err fault)
  fed_fault fault h = record { reaches = refl; gives = h }

-- `Fed` holds for equal states and an equal status, too
pub fed_at : {old old' new new' : ReaderState} {status status' : ReaderStatus} (piece : List ℕ) (used : ℕ)
    → Fed old' piece used status' new'
    → old' ≡ old → status ≡ status' → new ≡ new' → Fed old piece used status new
fed_at {old} {old'} {new} {new'} {status} {status'} piece used h o t n = rw (← n, ← t, o) at h

-- the state of a reader without a fault is the text that it has read
pub no_fault : {state : ReaderState} {fault : Option LineFault} (m : PartialLine) → reader_state fault (pending m) ≡ state → fault ≡ None
    → Ok (pending m) ≡ state
no_fault m view none = sym (ap (λ f. reader_state f (pending m)) none) ∙ view

-- a piece has at least as many bytes as are used
pub fed_bound : (old : ReaderState) (piece : List ℕ) (used : ℕ) (status : ReaderStatus) → Feeds old piece used status → used ≤ length piece
fed_bound (Err fault) piece used status h = omega (arith, h.0)
fed_bound (Ok read) piece used (statuses.Line line) h = h.1
fed_bound (Ok read) piece used statuses.NeedMore h = omega (arith, h)
fed_bound (Ok read) piece used (statuses.Fault fault) h = h.1
