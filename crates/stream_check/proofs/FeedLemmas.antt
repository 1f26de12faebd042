-- A checker after a piece of its stream.
use Rattle.std.specs.Fmt.{decimal, signed_decimal}
use Rattle.std.proofs.Common.{◌≡◌, ℕ, Bool, true, false, List, [], ◌∷◌, ◌++◌, length, take, Option, None, Some, Ok, refl, sym, ap}
use Rattle.std.proofs.Common.{subst, ◌∙◌, append_assoc, arith}
use Rattle.std.specs.Prelude.{◌&&◌, is_some, map}
use Rattle.std.specs.List.{flat_map}
use Rattle.std.proofs.lemmas.List.{take_all}
use Rattle.lrup_model.specs.Event.{History}
use Rattle.lrup_text.specs.Writing.{space}
use Rattle.lrup_text.specs.internal.ByteNames.{letter_d, letter_i}
use Rattle.lrup_text.specs.Grammar.{clause_text, list_text}
use Rattle.lrup_text.specs.Lines.{StreamLine, Addition, Deletion, Import, Cut, IsPending, HasNoLine, LineText, line_text}
use Rattle.lrup_text.specs.Feeding as feeding
use Rattle.lrup_text.specs.Feeding.{ReaderState}
use Rattle.lrup_text.specs.declared.reader.End.TheVariants as ends
use Rattle.lrup_text.specs.declared.LineFault.TheVariants as texts
use Rattle.lrup_text.specs.declared.LineFault.{LineFault}
use Rattle.lrup_text.specs.declared.device.StreamEnd.{StreamEnd}
use Rattle.lrup_text.specs.declared.device.StreamEnd.TheVariants as stream_ends
use Rattle.stream_check.specs.Laws.{FreshLeft}
use Rattle.stream_check.specs.declared.fault.Fault.TheVariants as faults
use Rattle.stream_check.specs.declared.report.Ending.TheVariants as endings
use Rattle.stream_check.specs.declared.report.Ending.{Ending}
use Rattle.stream_check.specs.declared.report.Report.{Report}
use Rattle.stream_check.specs.DroppedIdsValue.{DroppedIdsValue}
use Rattle.stream_check.specs.StreamParams.{StreamParams, ownership_of, is_shared}
use Rattle.stream_check.specs.StreamContext.{is_among}
use Rattle.stream_check.specs.Judging.{ending_at, JudgesBlocks}
use Rattle.stream_check.specs.Reaching.{Going, Over, JudgesBothEnds, IsFresh}
use Rattle.stream_check.specs.CheckerValue.{report_of_tally, CheckerValue}
use Rattle.stream_check.specs.internal.CheckerInside.{StreamStateValue, fresh_state, read_of, value_of}
use Rattle.stream_check.specs.Checker.{checker_state, going_of, Extends, IsNew, Ends, ReportsEnd}
use Rattle.stream_check.specs.internal.Taking.{hold}
use Rattle.stream_check.proofs.ReachingLemmas.{end_judged, line_grows, all_snoc}
use Rattle.stream_check.specs.lemmas.ContextLemmas.{same_tally}
use Rattle.stream_check.proofs.TakeLemmas.{reaches_front}

pub some_of : (o : Option Ending) → is_some o ≡ true → (ending : Ending) × (o ≡ Some ending)
some_of None some = absurd (cc)
some_of (Some ending) some = (ending, refl)

pub none_of : (o : Option Ending) → is_some o ≡ false → o ≡ None
none_of None none = refl
none_of (Some ending) none = absurd (cc)

-- a checker isn't both unfinished and finished
pub not_finished : {A : Type 0} (old : Option Ending) (ending : Ending) → old ≡ None → old ≡ Some ending → A
not_finished old ending none some = absurd (let e : None ≡ Some ending = sym none ∙ some in cc)

-- if a line extends the `Going` state of an unfinished checker, it extends its `checker_state`, too
pub feeds_line : (h n : StreamStateValue) (read : List ℕ) (r : ReaderState) (used : List ℕ) (blocks : List History) (free left : ℕ)
    (ending : Option Ending) → ending ≡ None → r ≡ Ok []
    → Extends h.params (Going (hold h read free)) used blocks (Going (hold n [] left))
    → Extends h.params (checker_state (value_of h read ending) free) used blocks (checker_state (value_of n (read_of r) ending) left)
feeds_line h n read r used blocks free left ending none reads reaches = rw (none, ap read_of reads) reaches

-- only the start of a line is taken
pub feeds_more : (h : StreamStateValue) (read : List ℕ) (r : ReaderState) (piece : List ℕ) (used free : ℕ) (ending : Option Ending)
    → ending ≡ None → r ≡ Ok (read ++ piece) → used ≡ length piece → IsPending (read ++ piece)
    → Extends h.params (checker_state (value_of h read ending) free) (take used piece) []
    (checker_state (value_of h (read_of r) ending) free)
feeds_more h read r piece used free ending none reads all pending =
    rw (none, ap read_of reads, take_all used piece (omega (arith, all))) (reaches_front h free read piece pending)

-- with more bytes of an unfinished line, the lines are cut as before
pub front_cut : (bytes pending piece : List ℕ) (lines : List StreamLine) → IsPending (pending ++ piece) → Cut bytes lines pending
    → Cut (bytes ++ piece) lines (pending ++ piece)
front_cut bytes pending piece lines front cut = record {
  bytes = ap (λ (b : List ℕ). b ++ piece) cut.bytes ∙ append_assoc (flat_map line_text lines) pending piece;
  each = cut.each;
  last = front.whole;
}

ends_later : (front back more : List ℕ) (byte : ℕ) → [] ≡ (front ++ byte ∷ back) ++ more → ⊥
ends_later [] back more byte e = absurd (cc)
ends_later (b ∷ front) back more byte e = absurd (cc)

-- the empty text contains no line
no_line : HasNoLine []
no_line (Addition id lits hints) more fits e =
    ends_later (decimal id) (clause_text (map signed_decimal lits) (list_text (map decimal hints))) more space e
no_line (Import id lits) more fits e = ends_later (decimal id) (letter_i ∷ list_text (map signed_decimal lits)) more space e
no_line (Deletion lead ids) more fits e = ends_later (decimal lead) (letter_d ∷ list_text (map decimal ids)) more space e

-- bytes that complete a line add it to the lines
pub line_cut : (bytes pending used : List ℕ) (lines : List StreamLine) (line : StreamLine) → LineText line (pending ++ used)
    → Cut bytes lines pending → Cut (bytes ++ used) (lines ++ line ∷ []) []
line_cut bytes pending used lines line text cut = record {
  bytes = line_grows lines line bytes pending used cut.bytes text.1;
  each = all_snoc lines line cut.each text.0;
  last = no_line;
}

-- if bytes lead from the `Going` state of an unfinished checker to a report, they lead from its
-- `checker_state` to that report
pub feeds_finished : (h : StreamStateValue) (read used : List ℕ) (blocks : List History) (free : ℕ) (ending : Option Ending)
    (report : Report)
    (is_dropped : ℕ → Bool) → ending ≡ None
    → Extends h.params (Going (hold h read free)) used blocks (Over report is_dropped)
    → Extends h.params (checker_state (value_of h read ending) free) used blocks (Over report is_dropped)
feeds_finished h read used blocks free ending report is_dropped none reaches = rw none reaches

-- The end of the stream, or a failed read

either_report : (c : StreamParams) (bytes : List ℕ) (blocks : List History) (end : StreamEnd) (report : Report)
    → JudgesBothEnds c bytes blocks report → JudgesBlocks c bytes end blocks report
either_report c bytes blocks stream_ends.Ended report finished = finished.0
either_report c bytes blocks stream_ends.Failed report finished = finished.1

-- a finished checker stays unchanged
pub ends_finished : (end : StreamEnd) (h : StreamStateValue) (read : List ℕ) (o : Option Ending) (v : CheckerValue) → value_of h read o ≡ v
    → is_some o ≡ true → Ends end v v × ReportsEnd end v v
ends_finished end h read None v is some = absurd (cc)
ends_finished end h read (Some ending) v is some =
    let finished : v.ending ≡ Some ending = sym (ap (λ (w : CheckerValue). w.ending) is) in (
      rw finished refl,
      λ bytes blocks free reaches. (
        ending,
        finished,
        either_report v.params bytes blocks end (report_of_tally v.tally ending) (rw finished at reaches).0,
      ),
    )

-- an unfinished checker gets this ending
pub ends_now : (end : StreamEnd) (h : StreamStateValue) (read left : List ℕ) (o : Option Ending) (v : CheckerValue) (said : Ending)
    → value_of h read o ≡ v → o ≡ None → said ≡ ending_at end read h.line
    → Ends end v (value_of h left (Some said)) × ReportsEnd end v (value_of h left (Some said))
ends_now end h read left o v said is none says =
    let old : CheckerValue = value_of h read None in
    let new : CheckerValue = value_of h left (Some said) in
    let ending : new.ending ≡ Some (ending_at end read h.line) = ap (λ (e : Ending). Some e) says in
    subst (λ (w : CheckerValue). Ends end w new × ReportsEnd end w new) (ap (value_of h read) (sym none) ∙ is) (
      (refl, refl, ending, refl, refl),
      λ bytes blocks free reaches.
          (ending_at end read h.line, ending, end_judged h.params bytes blocks (going_of old free) end reaches),
    )

-- the end of the stream, in the middle of a line or between lines

pub ended_clean : (r : ReaderState) (line : ℕ) → r ≡ Ok [] → ending_at stream_ends.Ended (read_of r) line ≡ endings.Ended
ended_clean r line reads = ap (λ (s : ReaderState). ending_at stream_ends.Ended (read_of s) line) reads

ended_open : (read : List ℕ) (line : ℕ) (fault : LineFault) → (read ≡ [] → ⊥) → fault ≡ texts.Truncated
    → ending_at stream_ends.Ended read line ≡ endings.Bad line (faults.Text fault)
ended_open [] line fault unread is = absurd (unread refl)
ended_open (byte ∷ bytes) line fault unread is = ap (λ (f : LineFault). endings.Bad line (faults.Text f)) (sym is)

pub ended_fault : (r new : ReaderState) (line : ℕ) (fault : LineFault) → r ≡ Ok (read_of r) → feeding.ReaderEnds r (ends.Fault fault) new
    → ending_at stream_ends.Ended (read_of r) line ≡ endings.Bad line (faults.Text fault)
ended_fault r new line fault reads at_end =
    let left = subst (λ (s : ReaderState). feeding.ReaderEnds s (ends.Fault fault) new) reads at_end in
    ended_open (read_of r) line fault left.0 left.1

-- Before the first byte

none_gone : (s : Bool) → false ≡ (s && false)
none_gone true = refl
none_gone false = refl

pub new_left : FreshLeft → (c : StreamParams) (dropped : DroppedIdsValue) (r : ReaderState) → dropped.ids ≡ [] → r ≡ Ok []
    → IsNew c.layout c.cube c.stream c.tries (value_of (fresh_state c dropped) (read_of r) None)
new_left law c dropped r none reads =
    let fresh : IsFresh c (hold (fresh_state c dropped) (read_of r) c.layout.room) = record {
      tally = same_tally _ _ refl (omega (arith, ap (λ (ids : List ℕ). length ids) none)) refl refl;
      context = record {
        last = refl;
        free = omega arith;
        is_dropped = λ id. ap (λ (ids : List ℕ). is_among ids id) none ∙ none_gone (is_shared (ownership_of c id));
      };
      pending = ap read_of reads;
      line = refl;
    } in
    record { params = refl; last = refl; retired = refl; ending = refl; left = law c _ fresh }
