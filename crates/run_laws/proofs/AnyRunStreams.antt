-- One stream in two histories.
use Rattle.std.proofs.Common.{◌≡◌, ◌⊎◌, ◌<◌, ◌≤◌, ◌++◌, ◌+◌, ℕ, Bool, length, arith, eqb, List, [], ◌∷◌, inl, inr, refl, sym, ap, subst}
use Rattle.std.proofs.Common.{◌∙◌, append_assoc, append-nil, ne_eqb}
use Rattle.std.specs.Prelude.{◌==◌}
use Rattle.std.specs.List.{AllByRecursion, flat_map, list_any}
use Rattle.std.proofs.lemmas.Bool.{cases_eq, cond-false, or_left}
use Rattle.std.proofs.lemmas.Grind.{flat_map-append}
use Rattle.std.proofs.lemmas.List.{append_cancel_left, length-append}
use Rattle.std.proofs.lemmas.List.Folds.{list_any-append}
use Rattle.std.proofs.lemmas.List.Sums.{sum_by-append}
use Rattle.lrup_model.specs.Clause.{Clause}
use Rattle.lrup_model.specs.lemmas.EntryLemmas.{run-advances, has_stays}
use Rattle.lrup_model.specs.Event as events
use Rattle.lrup_model.specs.Event.{Event, History, own, published, stream_of}
use Rattle.lrup_model.specs.Formula.{Cnf}
use Rattle.lrup_model.specs.History.{LegalFrom}
use Rattle.lrup_model.specs.lemmas.HistoryLemmas.{after-agrees, after-foreign, own-mine, own-other, published-append, put, put-same}
use Rattle.lrup_model.specs.lemmas.HistoryLemmas.{put-other}
use Rattle.lrup_model.specs.Layout.{LayoutValue, Owns}
use Rattle.lrup_model.specs.State.{State, Slot, absent, live, retired, retire_slot, after, run, HasClause}
use Rattle.lrup_model.specs.declared.clause_map.Published.TheVariants as publishing
use Rattle.lrup_model.specs.declared.clause_map.Retired.TheVariants as retiring
use Rattle.lrup_text.specs.Grammar.{Begins}
use Rattle.lrup_text.specs.Laws.{EmptyPending, OneFault, OneFirstLine, RefusedStays}
use Rattle.lrup_text.specs.Lines.{StreamLine, IsPending, IsWithinLimits, line_text}
use Rattle.lrup_text.specs.declared.device.StreamEnd.{StreamEnd}
use Rattle.lrup_text.specs.declared.device.StreamEnd.TheVariants as stream_ends
use Rattle.stream_check.specs.declared.fault.Fault.{Fault}
use Rattle.stream_check.specs.declared.fault.Fault.TheVariants as faults
use Rattle.stream_check.specs.declared.report.Ending.{Ending}
use Rattle.stream_check.specs.declared.report.Ending.TheVariants as endings
use Rattle.stream_check.specs.declared.report.Report.{Report}
use Rattle.stream_check.specs.declared.params.Ownership.TheVariants as ownerships
use Rattle.stream_check.specs.Judging.{JudgesLine, AreGood, EndsAfter, at_bad_line, at_bad_text, at_memory, at_end, ending_at, joined}
use Rattle.stream_check.specs.Judging.{report_of, JudgesBlocks}
use Rattle.stream_check.specs.Excuses.{CutOff, OutOfMemory, ReadFailed, IsExcused, IsExcusedAt}
use Rattle.stream_check.specs.lemmas.ReportLemmas.{additions-append, joined-append, split_first}
use Rattle.stream_check.specs.StreamParams.{StreamParams, ownership_of}
use Rattle.stream_check.specs.StreamContext.{context_of, additions_of, capped, deleted_by, is_within}
use Rattle.stream_check.specs.Verdicts.{Good, Bad}
use Rattle.run_laws.specs.Valid.{SaysAtLeast}
use Rattle.run_laws.proofs.AnyRunLines.{IsNear, IsFoundIn, AreFair, FindAlike, Lacks, line_agrees, line_reaches, good_publishes}
use Rattle.run_laws.proofs.AnyRunLines.{bad_publishes, deletes_publish}
use Rattle.run_laws.proofs.JudgedLemmas.{parts}
use Rattle.run_laws.proofs.ValidLines.{ownership_by}
use Rattle.run_laws.proofs.SwapLemmas.{identity_of, answers-agree}

-- Legal histories have fair events

near_owner : (c : StreamParams) (id t : ℕ) → IsNear (ownership_of c id) → Owns c.layout t id → t ≡ c.stream
near_owner c id t near owns = elim (cases_eq t c.stream) [
  | inl same ↦ same
  | inr other ↦
      absurd (subst IsNear
      (ap (ownership_by c) owns ∙ cond-false (eqb t c.stream) ownerships.Own ownerships.Foreign (ne_eqb t c.stream other)) near)
]

-- a stream's calls in a legal history are fair if `Found` holds for what they find from other
-- streams
pub near_fair : (f : Cnf) (c : StreamParams) (Found : ℕ → Clause → Type 0) (m n : State) (h : History) → LegalFrom f c.layout m h
    → ((id : ℕ) → IsNear (ownership_of c id) → n id ≡ m id) → AllByRecursion (IsFoundIn c Found) (own h c.stream)
    → AreFair c Found n (own h c.stream)
near_fair f c Found m n [] legal agree found = tt
near_fair f c Found m n (e ∷ h) legal agree found = elim (cases_eq (stream_of e) c.stream) [
  | inl mine ↦
      let is = own-mine e h c.stream mine in
      let finds = rw is at found in
      rw is (
        λ near. answers-agree m n e (sym (agree (identity_of e) near)) legal.0,
        finds.0,
        near_fair f c Found (after m e) (after n e) h legal.2 (λ id near. after-agrees n m e id (agree id near)) finds.1,
      )
  | inr other ↦
      let is = own-other e h c.stream other in
      rw is
      (near_fair f c Found (after m e) n h legal.2
      (λ id near. agree id near ∙ sym
      (after-foreign f c.layout m e id legal.1 (λ theirs. other (near_owner c id (stream_of e) near theirs)))) (rw is at found))
]

-- a clause that was found is still at its identity in this state, live or retired
abbrev pub IsStillThere : State → Event → Type 0
IsStillThere k (events.fetch s id events.vacant) = Unit {0}
IsStillThere k (events.fetch s id (events.live d)) = HasClause (k id) d
IsStillThere k (events.fetch s id events.retired) = Unit {0}
IsStillThere k (events.publish s id d r) = Unit {0}
IsStillThere k (events.retire s id r) = Unit {0}

still_there : (f : Cnf) (p : LayoutValue) (m : State) (e : Event) (h : History) → LegalFrom f p m (e ∷ h) → IsStillThere (run m (e ∷ h)) e
still_there f p m (events.fetch s id (events.live d)) h legal =
    has_stays (m id) (run m h id) d (run-advances f p m h id legal.2) (subst (λ (x : Slot). HasClause x d) (sym legal.0) refl)
still_there f p m _ h legal = tt

pub all_still_there : (f : Cnf) (p : LayoutValue) (m : State) (h : History) → LegalFrom f p m h → AllByRecursion (IsStillThere (run m h)) h
all_still_there f p m [] legal = tt
all_still_there f p m (e ∷ h) legal = (still_there f p m e h legal, all_still_there f p (after m e) h legal.2)

-- no condition on what is found
abbrev pub Anything : ℕ → Clause → Type 0
Anything id d = Unit {0}

pub all_anything : (c : StreamParams) (es : History) → AllByRecursion (IsFoundIn c Anything) es
all_anything c [] = tt
all_anything c (events.fetch s id (events.live d) ∷ es) = ((λ foreign. tt), all_anything c es)
all_anything c (_ ∷ es) = (tt, all_anything c es)

-- What is published

abbrev pub IsIn : ℕ × Clause → List (ℕ × Clause) → Type 0
IsIn x [] = ⊥
IsIn x (y ∷ ys) = (y ≡ x) ⊎ IsIn x ys

pub in_left : (x : ℕ × Clause) (xs ys : List (ℕ × Clause)) → IsIn x xs → IsIn x (xs ++ ys)
in_left x [] ys is = absurd is
in_left x (y ∷ xs) ys (inl here) = inl here
in_left x (y ∷ xs) ys (inr later) = inr (in_left x xs ys later)

in_right : (x : ℕ × Clause) (xs ys : List (ℕ × Clause)) → IsIn x ys → IsIn x (xs ++ ys)
in_right x [] ys is = is
in_right x (y ∷ xs) ys is = inr (in_right x xs ys is)

in_either : (x : ℕ × Clause) (xs ys : List (ℕ × Clause)) → IsIn x (xs ++ ys) → IsIn x xs ⊎ IsIn x ys
in_either x [] ys is = inr is
in_either x (y ∷ xs) ys (inl here) = inl (inl here)
in_either x (y ∷ xs) ys (inr later) = elim (in_either x xs ys later) [ inl first ↦ inl (inr first) | inr last ↦ inr last ]

pub in_all : (P : ℕ × Clause → Type 0) (x : ℕ × Clause) (xs : List (ℕ × Clause)) → AllByRecursion P xs → IsIn x xs → P x
in_all P x [] all is = absurd is
in_all P x (y ∷ xs) all (inl here) = subst P here all.0
in_all P x (y ∷ xs) all (inr later) = in_all P x xs all.1 later

-- a history publishes everything that one of its streams publishes
pub own_published : (h : History) (s : ℕ) (x : ℕ × Clause) → IsIn x (published (own h s)) → IsIn x (published h)
own_published [] s x is = is
own_published (e ∷ h) s x is =
    let whole : published (e ∷ h) ≡ published (e ∷ []) ++ published h = published-append (e ∷ []) h in
    elim (cases_eq (stream_of e) s) [
      | inl mine ↦
          let part = ap published (own-mine e h s mine) ∙ published-append (e ∷ []) (own h s) in
          elim (in_either x (published (e ∷ [])) (published (own h s)) (rw part at is)) [
            | inl here ↦ rw whole (in_left x (published (e ∷ [])) (published h) here)
            | inr later ↦ rw whole (in_right x (published (e ∷ [])) (published h) (own_published h s x later))
          ]
      | inr other ↦ rw whole (in_right x (published (e ∷ [])) (published h) (own_published h s x (rw (own-other e h s other) at is)))
    ]

had : (slot : Slot) (d : Clause) → HasClause (retire_slot slot) d → HasClause slot d
had absent d has = has
had (live c) d has = has
had (retired c) d has = has

-- a clause that events leave at an identity was there before, or the events publish it
pub left_published : (m : State) (es : History) (id : ℕ) (d : Clause) → HasClause (run m es id) d
    → HasClause (m id) d ⊎ IsIn (id, d) (published es)
left_published m [] id d has = inl has
left_published m (events.publish s j c publishing.Done ∷ es) id d has = elim (left_published (put m j (live c)) es id d has) [
  | inr later ↦ inr (inr later)
  | inl here ↦ elim (cases_eq id j) [
    | inl same ↦
        let it : c ≡ d = subst (λ (x : Slot). HasClause x d) (put-same m j (live c) id same) here in
        inr (inl (ap (λ (i : ℕ). let x : ℕ × Clause = (i, c) in x) (sym same) ∙ ap (λ (y : Clause). let x : ℕ × Clause = (id, y) in x) it))
    | inr other ↦ inl (subst (λ (x : Slot). HasClause x d) (put-other m j (live c) id other) here)
  ]
]
left_published m (events.retire s j retiring.Done ∷ es) id d has = elim (left_published (put m j (retire_slot (m j))) es id d has) [
  | inr later ↦ inr later
  | inl here ↦ elim (cases_eq id j) [
    | inl same ↦ inl (rw same (had (m j) d (rw (put-same m j (retire_slot (m j)) id same) at here)))
    | inr other ↦ inl (rw (put-other m j (retire_slot (m j)) id other) at here)
  ]
]
left_published m (_ ∷ es) id d has = left_published m es id d has

module _ (c : StreamParams) where
  good_lines_publish : (before lines : List StreamLine) (blocks : List History) → AreGood c before lines blocks
      → published (joined blocks) ≡ additions_of lines
  good_lines_publish before [] [] good = refl
  good_lines_publish before [] (block ∷ blocks) good = absurd good
  good_lines_publish before (line ∷ lines) [] good = absurd good
  good_lines_publish before (line ∷ lines) (block ∷ blocks) good =
      published-append block (joined blocks)
      ∙ ap (λ (x : List (ℕ × Clause)). x ++ published (joined blocks)) (good_publishes c (context_of c before) line block good.0)
      ∙ ap (λ (x : List (ℕ × Clause)). additions_of (line ∷ []) ++ x) (good_lines_publish (before ++ line ∷ []) lines blocks good.1)
      ∙ sym (additions-append (line ∷ []) lines)

  one_publishes : (block : History) (back : List History) → back ≡ block ∷ [] → published block ≡ [] → published (joined back) ≡ []
  one_publishes block back is none = ap (λ (x : List History). published (joined x)) is ∙ ap published (append-nil block) ∙ none

  ends_publish : (lines : List StreamLine) (rest : List ℕ) (end : StreamEnd) (back : List History) (report : Report)
      → EndsAfter c lines rest end back report → published (joined back) ≡ []
  ends_publish lines rest end back report (at_bad_line line more text fits block is_one deleted fault bad says) =
      one_publishes block back is_one (bad_publishes c (context_of c lines) line block deleted fault bad)
  ends_publish lines rest end back report (at_bad_text fault text no_block says) = ap (λ (x : List History). published (joined x)) no_block
  ends_publish lines rest end back report (at_memory lead ids more text fits block is_one earlier stops says) =
      one_publishes block back is_one (deletes_publish c (context_of c lines).is_dropped earlier block stops.before)
  ends_publish lines rest end back report (at_end pending no_block says) = ap (λ (x : List History). published (joined x)) no_block

  -- a judged stream publishes the additions of its good lines
  pub stream_publishes : (bytes : List ℕ) (end : StreamEnd) (blocks : List History) (report : Report)
      → (j : JudgesBlocks c bytes end blocks report) → published (joined blocks) ≡ additions_of j.lines
  stream_publishes bytes end blocks report j =
      ap (λ (x : List History). published (joined x)) j.split ∙ ap published (joined-append j.front j.back)
      ∙ published-append (joined j.front) (joined j.back)
      ∙ ap (λ (x : List (ℕ × Clause)). published (joined j.front) ++ x) (ends_publish j.lines j.rest end j.back report j.ends)
      ∙ append-nil (published (joined j.front)) ∙ good_lines_publish [] j.lines j.front j.good

-- A stream that ended

-- the stream has no bytes left, and its report says that it ended
pub record HasEnded (c : StreamParams) (lines : List StreamLine) (rest : List ℕ) (report : Report) : Type 0 where
  pub none : rest ≡ []
  pub says : report ≡ report_of c lines 0 endings.Ended

ended_at : (c : StreamParams) (lines : List StreamLine) (end : StreamEnd) (rest : List ℕ) (n : ℕ) (report : Report)
    → report ≡ report_of c lines 0 (ending_at end rest n) → report.ending ≡ endings.Ended → HasEnded c lines rest report
ended_at c lines stream_ends.Ended [] n report says is = record { none = refl; says = says }
ended_at c lines stream_ends.Ended (byte ∷ bytes) n report says is = absurd (let no = sym is ∙ ap (λ (r : Report). r.ending) says in cc)
ended_at c lines stream_ends.Failed rest n report says is = absurd (let no = sym is ∙ ap (λ (r : Report). r.ending) says in cc)

pub has_ended : (c : StreamParams) (lines : List StreamLine) (rest : List ℕ) (end : StreamEnd) (back : List History) (report : Report)
    → EndsAfter c lines rest end back report → report.ending ≡ endings.Ended → HasEnded c lines rest report
has_ended c lines rest end back report (at_bad_line _ _ _ _ _ _ _ _ _ says) is =
    absurd (let no = sym is ∙ ap (λ (r : Report). r.ending) says in cc)
has_ended c lines rest end back report (at_bad_text _ _ _ says) is = absurd (let no = sym is ∙ ap (λ (r : Report). r.ending) says in cc)
has_ended c lines rest end back report (at_memory _ _ _ _ _ _ _ _ _ says) is =
    absurd (let no = sym is ∙ ap (λ (r : Report). r.ending) says in cc)
has_ended c lines rest end back report (at_end _ _ says) is = ended_at c lines end rest (capped (length lines + 1)) report says is

-- Line by line

pub fair_front : (c : StreamParams) (Found : ℕ → Clause → Type 0) (m : State) (a b : History) → AreFair c Found m (a ++ b)
    → AreFair c Found m a
fair_front c Found m [] b fair = tt
fair_front c Found m (e ∷ a) b fair = (fair.0, fair.1, fair_front c Found (after m e) a b fair.2)

pub fair_back : (c : StreamParams) (Found : ℕ → Clause → Type 0) (m : State) (a b : History) → AreFair c Found m (a ++ b)
    → AreFair c Found (run m a) b
fair_back c Found m [] b fair = fair
fair_back c Found m (e ∷ a) b fair = fair_back c Found (after m e) a b fair.2

-- one of the first `count` lines lacks another stream's clause, which the first history found
abbrev pub LacksFound : StreamParams → (ℕ → Clause → Type 0) → ℕ → Report → Type 0
LacksFound c Mine count report = (d : Clause) × (line h : ℕ) × Mine h d × (line ≤ count) × (ownership_of c h ≡ ownerships.Foreign)
    × ((report.ending ≡ endings.Bad line (faults.Missing h)) ⊎ (report.ending ≡ endings.Bad line (faults.Retired h)))

-- memory ran out, or a read failed, in one of the first `count` lines
abbrev pub IsCutIn : ℕ → Report → Type 0
IsCutIn count report = (line : ℕ) × (line ≤ count) × IsExcusedAt CutOff report line

-- the stream isn't to blame: in one of the first `count` lines, it was cut off or lacks another
-- stream's clause
abbrev pub IsBlameless : StreamParams → (ℕ → Clause → Type 0) → ℕ → Report → Type 0
IsBlameless c Mine count report = IsCutIn count report ⊎ LacksFound c Mine count report

-- the list begins with these lines
abbrev pub GoesOn : List StreamLine → List StreamLine → Type 0
GoesOn lines all = (later : List StreamLine) × (all ≡ lines ++ later)

module _ (first : OneFirstLine) (refused : RefusedStays) (c : StreamParams) (Mine Theirs : ℕ → Clause → Type 0)
    (alike : FindAlike c Mine Theirs) where
  lacks : (n count : ℕ) (fault : Fault) (report : Report) → n ≤ count → report.ending ≡ endings.Bad n fault → Lacks c Mine fault
      → LacksFound c Mine count report
  lacks n count fault report below says (h, d, foreign, was, inl missing) =
      (d, n, h, was, below, foreign, inl (says ∙ ap (λ (x : Fault). endings.Bad n x) missing))
  lacks n count fault report below says (h, d, foreign, was, inr is_dropped) =
      (d, n, h, was, below, foreign, inr (says ∙ ap (λ (x : Fault). endings.Bad n x) is_dropped))

  -- if a whole line is left, a read failed before the stream came to its end
  at_its_end : (line : StreamLine) (later rest left : List ℕ) (end : StreamEnd) (before : List StreamLine) (n count : ℕ) (report : Report)
      → n ≤ count → IsWithinLimits line → rest ++ left ≡ line_text line ++ later → (end ≡ stream_ends.Ended → left ≡ []) → IsPending rest
      → report ≡ report_of c before 0 (ending_at end rest n) → IsCutIn count report
  at_its_end line later rest left stream_ends.Ended before n count report below limits is none pending says =
      absurd (pending.whole line later limits (sym (append-nil rest) ∙ ap (λ (b : List ℕ). rest ++ b) (sym (none refl)) ∙ is))
  at_its_end line later rest left stream_ends.Failed before n count report below limits is none pending says =
      (n, below, inr (ap (λ (r : Report). r.ending) says))

  at_line : (before : List StreamLine) (line : StreamLine) (later rest left : List ℕ) (end : StreamEnd) (fs : History)
      (back : List History) (m : State)
      (count : ℕ) (report : Report) → length before < count
      → IsWithinLimits line → rest ++ left ≡ line_text line ++ later → (end ≡ stream_ends.Ended → left ≡ [])
      → JudgesLine c (context_of c before) line fs Good → AreFair c Mine m fs → AreFair c Theirs m (joined back)
      → EndsAfter c before rest end back report → IsBlameless c Mine count report
  at_line before line later rest left end fs back m count report below limits is none good mine theirs
      (at_bad_line other more text fits block is_one deleted fault bad says) =
      let same = first line other later (more ++ left) limits fits
      (sym is ∙ ap (λ (b : List ℕ). b ++ left) text ∙ append_assoc (line_text other) more left) in
      let here : AreFair c Theirs m block =
      fair_front c Theirs m block [] (subst (λ (x : List History). AreFair c Theirs m (joined x)) is_one theirs) in
      inr (lacks (capped (length before + 1)) count fault report (omega (arith, below)) (ap (λ (r : Report). r.ending) says)
      (line_agrees c Mine Theirs m (context_of c before) line fs block deleted fault alike mine here good
      (subst (λ (l : StreamLine). JudgesLine c (context_of c before) l block (Bad deleted fault)) (sym same.0) bad)))
  at_line before line later rest left end fs back m count report below limits is none good mine theirs
      (at_bad_text fault text no_block says) =
      absurd (refused text.0 (text.1 ++ left) fault text.3 line later limits
      (sym (append_assoc text.0 text.1 left) ∙ sym (ap (λ (b : List ℕ). b ++ left) text.2) ∙ is))
  at_line before line later rest left end fs back m count report below limits is none good mine theirs
      (at_memory lead ids more text fits block is_one earlier stops says) =
      inl (capped (length before + 1), omega (arith, below), inl (ap (λ (r : Report). r.ending) says))
  at_line before line later rest left end fs back m count report below limits is none good mine theirs (at_end pending no_block says) =
      inl (at_its_end line later rest left end before (capped (length before + 1)) count report
      (omega (arith, below)) limits is none pending says)

  -- if a stream's bytes begin with lines that are good in the first history, its good lines in the
  -- second begin with these lines, or it is stopped in these lines and isn't to blame
  pub lines_go_on : (before lines others : List StreamLine) (fs front back : List History) (m : State) (rest left more : List ℕ)
      (end : StreamEnd)
      (count : ℕ) (report : Report) → length before + length lines ≤ count
      → AreGood c before lines fs → AreGood c before others front → EndsAfter c (before ++ others) rest end back report
      → AllByRecursion IsWithinLimits lines → AllByRecursion IsWithinLimits others
      → flat_map line_text others ++ (rest ++ left) ≡ flat_map line_text lines ++ more → (end ≡ stream_ends.Ended → left ≡ [])
      → AreFair c Mine m (joined fs) → AreFair c Theirs m (joined (front ++ back)) → GoesOn lines others ⊎ IsBlameless c Mine count report
  lines_go_on before [] others fs front back m rest left more end count report below good also ends limits within is none mine theirs =
      inl (others, refl)
  lines_go_on before (line ∷ lines) [] [] front back m rest left more end count report below good also ends limits within is none mine
      theirs = absurd good
  lines_go_on before (line ∷ lines) [] (f ∷ fs)
      (g ∷ front) back m rest left more end count report below good also ends limits within is none mine theirs =
      absurd also
  lines_go_on before (line ∷ lines) []
      (f ∷ fs) [] back m rest left more end count report below good also ends limits within is none mine theirs =
      inr (at_line before line (flat_map line_text lines ++ more) rest left end f back m count report (omega (arith, below)) limits.0
      (is ∙ split_first line lines more) none good.0 (fair_front c Mine m f (joined fs) mine) theirs
      (subst (λ (b : List StreamLine). EndsAfter c b rest end back report) (append-nil before) ends))
  lines_go_on before (line ∷ lines)
      (other ∷ others) [] front back m rest left more end count report below good also ends limits within is none mine theirs =
      absurd good
  lines_go_on before (line ∷ lines) (other ∷ others)
      (f ∷ fs) [] back m rest left more end count report below good also ends limits within is none mine theirs =
      absurd also
  lines_go_on before (line ∷ lines) (other ∷ others) (f ∷ fs)
      (g ∷ front) back m rest left more end count report below good also ends limits within is none mine theirs =
      let same = first line other (flat_map line_text lines ++ more) (flat_map line_text others ++ (rest ++ left)) limits.0 within.0
      (sym (split_first line lines more) ∙ sym is ∙ split_first other others (rest ++ left)) in
      let judged : JudgesLine c (context_of c before) line g Good =
      subst (λ (l : StreamLine). JudgesLine c (context_of c before) l g Good) (sym same.0) also.0 in
      let reaches : run m f ≡ run m g =
      line_reaches c Mine Theirs m (context_of c before) line f g (fair_front c Mine m f (joined fs) mine)
      (fair_front c Theirs m g (joined (front ++ back)) theirs) good.0 judged in
      elim (lines_go_on (before ++ line ∷ []) lines others fs front back (run m f) rest left more end count report
      (omega (arith, below, length-append before (line ∷ []))) good.1
      (subst (λ (l : StreamLine). AreGood c (before ++ l ∷ []) others front) (sym same.0) also.1)
      (subst (λ (l : StreamLine). EndsAfter c ((before ++ l ∷ []) ++ others) rest end back report) (sym same.0)
      (subst (λ (b : List StreamLine). EndsAfter c b rest end back report) (sym (append_assoc before (other ∷ []) others)) ends))
      limits.1 within.1 (sym same.1) none (fair_back c Mine m f (joined fs) mine)
      (subst (λ (n : State). AreFair c Theirs n (joined (front ++ back))) (sym reaches)
      (fair_back c Theirs m g (joined (front ++ back)) theirs))) [
        | inl on ↦ inl (on.0, ap (λ (l : StreamLine). l ∷ others) (sym same.0) ∙ ap (λ (ls : List StreamLine). line ∷ ls) on.1)
        | inr worse ↦ inr worse
      ]

-- The report of a stream that continues after some lines

more_observed : (c : StreamParams) (lines later : List StreamLine) (deleted : ℕ) (ending : Ending) (report : Report)
    → report ≡ report_of c (lines ++ later) deleted ending → SaysAtLeast report (report_of c lines 0 endings.Ended)
more_observed c lines later deleted ending report says =
    let both = additions-append lines later in
    let is_empty : ℕ × Clause → Bool = λ addition. length addition.1 == 0 in
    let is_cubes : ℕ × Clause → Bool = λ addition. is_within c.cube addition.1 in
    subst (λ (r : Report). SaysAtLeast r (report_of c lines 0 endings.Ended)) (sym says) (record {
      added = omega (arith, ap (λ (x : List (ℕ × Clause)). length x) both, length-append (additions_of lines) (additions_of later));
      deleted = omega (arith, sum_by-append (λ line. length (deleted_by line)) lines later);
      empty = λ test. ap (list_any is_empty) both ∙ list_any-append is_empty (additions_of lines) (additions_of later)
          ∙ or_left (list_any is_empty (additions_of lines)) (list_any is_empty (additions_of later)) test;
      within = λ test. ap (list_any is_cubes) both ∙ list_any-append is_cubes (additions_of lines) (additions_of later)
          ∙ or_left (list_any is_cubes (additions_of lines)) (list_any is_cubes (additions_of later)) test;
    })

-- if more lines follow these, the report says at least what the report of these lines says
pub goes_on_says : (c : StreamParams) (lines later : List StreamLine) (rest : List ℕ) (end : StreamEnd) (back : List History)
    (report : Report)
    → EndsAfter c (lines ++ later) rest end back report → SaysAtLeast report (report_of c lines 0 endings.Ended)
goes_on_says c lines later rest end back report (at_bad_line line more text fits block is_one deleted fault bad says) =
    more_observed c lines later deleted (endings.Bad (capped (length (lines ++ later) + 1)) fault) report says
goes_on_says c lines later rest end back report (at_bad_text fault text no_block says) =
    more_observed c lines later 0 (endings.Bad (capped (length (lines ++ later) + 1)) (faults.Text fault)) report says
goes_on_says c lines later rest end back report (at_memory lead ids more text fits block is_one earlier stops says) =
    more_observed c lines later (length earlier) (endings.Memory (capped (length (lines ++ later) + 1))) report says
goes_on_says c lines later rest end back report (at_end pending no_block says) =
    more_observed c lines later 0 (ending_at end rest (capped (length (lines ++ later) + 1))) report says

module _ (one_fault : OneFault) (empty : EmptyPending) (c : StreamParams) where
  by_end : (lines : List StreamLine) (end : StreamEnd) (n : ℕ) (report : Report) → ¬ IsExcused ReadFailed report
      → report ≡ report_of c lines 0 (ending_at end [] n) → report ≡ report_of c lines 0 endings.Ended
  by_end lines stream_ends.Ended n report failure says = says
  by_end lines stream_ends.Failed n report failure says = absurd (failure (n, ap (λ (r : Report). r.ending) says))

  -- if no bytes are left, and memory and reads didn't fail, the stream ended
  at_nothing : (lines : List StreamLine) (rest : List ℕ) (end : StreamEnd) (back : List History) (report : Report) → rest ≡ []
      → ¬ IsExcused OutOfMemory report → ¬ IsExcused ReadFailed report → EndsAfter c lines rest end back report
      → report ≡ report_of c lines 0 endings.Ended
  at_nothing lines rest end back report none memory failure (at_bad_line line more text fits block is_one deleted fault bad says) =
      absurd (empty.whole line more fits (sym none ∙ text))
  at_nothing lines rest end back report none memory failure (at_bad_text fault text no_block says) =
      absurd ((one_fault rest fault fault text).1 (subst Begins (sym none) empty.begins))
  at_nothing lines rest end back report none memory failure (at_memory lead ids more text fits block is_one earlier stops says) =
      absurd (memory (capped (length lines + 1), ap (λ (r : Report). r.ending) says))
  at_nothing lines rest end back report none memory failure (at_end pending no_block says) =
      by_end lines end (capped (length lines + 1)) report failure
      (says ∙ ap (λ (b : List ℕ). report_of c lines 0 (ending_at end b (capped (length lines + 1)))) none)

  none_after : (later : List StreamLine) (rest left : List ℕ) → AllByRecursion IsWithinLimits later
      → flat_map line_text later ++ (rest ++ left) ≡ [] → (later ≡ []) × (rest ≡ [])
  none_after [] [] left limits is = (refl, refl)
  none_after [] (byte ∷ rest) left limits is = absurd (let no : byte ∷ (rest ++ left) ≡ [] = is in cc)
  none_after (line ∷ later) rest left limits is =
      absurd (empty.whole line (flat_map line_text later ++ (rest ++ left)) limits.0 (sym is ∙ split_first line later (rest ++ left)))

  -- if the stream's bytes have only these lines, and memory and reads didn't fail, the stream ended
  pub whole_observed : (lines all : List StreamLine) (rest left : List ℕ) (end : StreamEnd) (back : List History) (report : Report)
      → GoesOn lines all → AllByRecursion IsWithinLimits all → flat_map line_text all ++ (rest ++ left) ≡ flat_map line_text lines
      → ¬ IsExcused OutOfMemory report → ¬ IsExcused ReadFailed report
      → EndsAfter c all rest end back report → report ≡ report_of c lines 0 endings.Ended
  whole_observed lines all rest left end back report on fits is memory failure ends =
      let texts = flat_map line_text lines in
      let tail = flat_map line_text on.0 ++ (rest ++ left) in
      let split : flat_map line_text all ≡ texts ++ flat_map line_text on.0 = ap (flat_map line_text) on.1
      ∙ flat_map-append line_text lines on.0 in
      let none : (on.0 ≡ []) × (rest ≡ []) =
      none_after on.0 rest left (parts IsWithinLimits lines on.0 (subst (AllByRecursion IsWithinLimits) on.1 fits)).1
      (append_cancel_left texts tail [] (sym (append_assoc texts (flat_map line_text on.0) (rest ++ left))
      ∙ ap (λ (b : List ℕ). b ++ (rest ++ left)) (sym split) ∙ is ∙ sym (append-nil texts))) in
      at_nothing lines rest end back report none.1 memory failure
      (subst (λ (ls : List StreamLine). EndsAfter c ls rest end back report)
      (on.1 ∙ ap (λ (ls : List StreamLine). lines ++ ls) none.0 ∙ append-nil lines) ends)
