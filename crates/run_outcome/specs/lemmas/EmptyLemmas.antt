-- If a report says 'empty', its stream published the empty clause, and the formula is
-- unsatisfiable.
use Rattle.std.proofs.Common.{◌≡◌, ℕ, ℤ, Bool, true, false, List, [], ◌∷◌, ◌++◌, length, inl, inr}
use Rattle.std.proofs.Common.{refl, sym, ap, subst, ◌∙◌, arith}
use Rattle.std.specs.Prelude.{◌||◌, ◌==◌, IsTrue, if◌then◌else◌}
use Rattle.std.specs.List.{list_any, filter}
use Rattle.std.proofs.lemmas.Bool.{cases_Bool, eqb-true, or_right, or_left}
use Rattle.std.proofs.lemmas.Grind.{flat_map-append}
use Rattle.std.proofs.lemmas.List.Folds.{list_any-append}
use Rattle.lrup_model.specs.Clause.{Clause}
use Rattle.lrup_model.specs.Distinct.{distinct}
use Rattle.lrup_model.specs.Formula.{Cnf}
use Rattle.lrup_model.specs.Entailment.{Follows, IsUnsatisfiable}
use Rattle.lrup_model.specs.lemmas.EntailmentLemmas.{empty_refutes}
use Rattle.lrup_model.specs.Layout.{LayoutValue}
use Rattle.lrup_model.specs.Event as events
use Rattle.lrup_model.specs.Event.{Event, History, own}
use Rattle.lrup_model.specs.State.{State, opening, after}
use Rattle.lrup_model.specs.History.{LegalFrom, IsLegal}
use Rattle.lrup_model.specs.declared.clause_map.Published.TheVariants as publishing
use Rattle.lrup_text.specs.Lines.{StreamLine, Addition, Deletion, Import}
use Rattle.lrup_text.specs.declared.device.StreamEnd.{StreamEnd}
use Rattle.stream_check.specs.declared.report.Report.{Report}
use Rattle.stream_check.specs.StreamParams.{StreamParams}
use Rattle.stream_check.specs.StreamContext.{StreamContext, additions_of}
use Rattle.stream_check.specs.Verdicts.{Good}
use Rattle.stream_check.specs.Additions.{published_by}
use Rattle.stream_check.specs.Judging.{JudgesLine, AreGood, joined, JudgesBlocks}
use Rattle.stream_check.specs.lemmas.ReportLemmas.{said_empty}
use Rattle.run_laws.specs.lemmas.PublishLemmas.{publishes_empty}
use Rattle.stream_check.specs.lemmas.StreamLemmas.{some_end}
use Rattle.stream_check.specs.Streams.{Stream, JudgesStream}

-- ---- some element of a list

or_more : (a b c : Bool) → (b ≡ true → c ≡ true) → (a || b) ≡ true → (a || c) ≡ true
or_more true b c rest e = refl
or_more false b c rest e = rest e

module _ (p : Event → Bool) where
  pub any_front : (es fs : History) → list_any p es ≡ true → list_any p (es ++ fs) ≡ true
  any_front es fs e = list_any-append p es fs ∙ or_left (list_any p es) (list_any p fs) e

  pub any_back : (es fs : History) → list_any p fs ≡ true → list_any p (es ++ fs) ≡ true
  any_back es fs e = list_any-append p es fs ∙ or_right (list_any p es) (list_any p fs) e

  any_more : (es fs gs : History) → (list_any p fs ≡ true → list_any p gs ≡ true)
      → list_any p (es ++ fs) ≡ true
      → list_any p (es ++ gs) ≡ true
  any_more es fs gs rest e = list_any-append p es gs
      ∙ or_more (list_any p es) (list_any p fs) (list_any p gs) rest (sym
      (list_any-append p es fs) ∙ e)

  -- if an element of the filtered list passes the test, an element of the list does
  filtered_step : (x : Event) (es fs : History) (b : Bool) → (list_any p fs ≡ true
      → list_any p es ≡ true)
      → list_any p (if b then x ∷ fs else fs) ≡ true → list_any p (x ∷ es) ≡ true
  filtered_step x es fs true rest e = or_more (p x) (list_any p fs) (list_any p es) rest e
  filtered_step x es fs false rest e = or_right (p x) (list_any p es) (rest e)

  pub any_filtered : (q : Event → Bool) (es : History) → list_any p (filter q es) ≡ true
      → list_any p es ≡ true
  any_filtered q [] e = e
  any_filtered q (x ∷ es) e = filtered_step x es (filter q es) (q x) (any_filtered q es) e

-- ---- the publish of a good addition

-- if the publish of a good addition passes, one of the line's events passes
addition_publishes : (p : Event → Bool) (c : StreamParams) (st : StreamContext) (id : ℕ)
    (lits : List ℤ) (hints : List ℕ) (es : History)
    → JudgesLine c st (Addition id lits hints) es Good → p (published_by c id lits) ≡ true
    → list_any p es ≡ true
addition_publishes p c st id lits hints es good passes =
    let last = published_by c id lits in
    ap (list_any p) good.2 ∙ any_back p good.0 (last ∷ []) (or_left (p last) false passes)

-- ---- the lines of a stream

-- if one of the good additions passes, one of the events does
pub lines_publish : (p : Event → Bool) (adds : ℕ × Clause → Bool) (c : StreamParams)
    → ((id : ℕ) (lits : List ℤ) → p (published_by c id lits) ≡ adds (id, distinct lits))
    → (before lines : List StreamLine) (blocks : List History) → AreGood c before lines blocks
    → list_any adds (additions_of lines) ≡ true
    → list_any p (joined blocks) ≡ true
lines_publish p adds c same before [] [] good e = absurd (let f : false ≡ true = e in cc)
lines_publish p adds c same before [] (block ∷ blocks) good e = absurd good
lines_publish p adds c same before (line ∷ lines) [] good e = absurd good
lines_publish p adds c same before (Deletion lead ids ∷ lines) (block ∷ blocks) good e =
    any_back p block (joined blocks) (lines_publish p adds c same _ lines blocks good.1 e)
lines_publish p adds c same before (Import id lits ∷ lines) (block ∷ blocks) good e =
    any_back p block (joined blocks) (lines_publish p adds c same _ lines blocks good.1 e)
lines_publish p adds c same before (Addition id lits hints ∷ lines) (block ∷ blocks) good e =
    elim (cases_Bool (adds (id, distinct lits))) [
      | inl is ↦ any_front p block (joined blocks)
          (addition_publishes p c _ id lits hints block good.0 (same id lits ∙ is))
      | inr none ↦ any_back p block (joined blocks)
          (lines_publish p adds c same _ lines blocks good.1 (ap (λ b. b || list_any adds
          (additions_of lines)) (sym none) ∙ e))
    ]

-- If the report says 'empty', one of the events published the empty clause.
pub empty_is_published : (c : StreamParams) (bytes : List ℕ) (end : StreamEnd)
    (blocks : List History) (report : Report)
    → JudgesBlocks c bytes end blocks report → IsTrue report.empty
    → IsTrue (list_any publishes_empty (joined blocks))
empty_is_published c bytes end blocks report judged is =
    let said = said_empty c judged.lines judged.rest end judged.back report judged.ends in
    let front =
    lines_publish publishes_empty (λ a. length a.1 == 0) c
    (λ id lits. refl) [] judged.lines judged.front judged.good (sym said ∙ is) in
    ap (λ bs. list_any publishes_empty (joined bs)) judged.split
    ∙ ap (list_any publishes_empty)
    (flat_map-append (λ (block : History). block) judged.front judged.back)
    ∙ any_front publishes_empty (joined judged.front) (joined judged.back) front

pub stream_publishes : (c : StreamParams) (stream : Stream) (blocks : List History)
    (report : Report)
    → JudgesStream c stream blocks report → IsTrue report.empty
    → IsTrue (list_any publishes_empty (joined blocks))
stream_publishes c stream blocks report judged is =
    let way = some_end c stream blocks report judged in
    empty_is_published c stream.bytes way.0 blocks report way.1 is

-- ---- the formula

from_zero : (c : Clause) → (length c == 0) ≡ true → c ≡ []
from_zero [] h = refl
from_zero (l ∷ c) h = absurd (omega (arith, eqb-true (length (l ∷ c)) 0 h))

-- if a clause that follows from the formula is empty, or a later clause is, the empty clause
-- follows
follows_either : (f : Cnf) (c : Clause) (later b : Bool) → (length c == 0) ≡ b → Follows f c
    → ((length c == 0) || later) ≡ true
    → (later ≡ true → Follows f []) → Follows f []
follows_either f c later true is follows h rest = subst (Follows f) (from_zero c is) follows
follows_either f c later false is follows h rest = rest (ap (λ b. b || later) (sym is) ∙ h)

empty_follows : (f : Cnf) (p : LayoutValue) (m : State) (es : History) → LegalFrom f p m es
    → list_any publishes_empty es ≡ true → Follows f []
empty_follows f p m [] legal h = absurd (let e : false ≡ true = h in cc)
empty_follows f p m (events.fetch s id r ∷ es) legal h = empty_follows f p m es legal.2 h
empty_follows f p m (events.publish s id c publishing.Taken ∷ es) legal h = empty_follows f p m es
    legal.2 h
empty_follows f p m (events.retire s id r ∷ es) legal h = empty_follows f p _ es legal.2 h
empty_follows f p m (events.publish s id c publishing.Done ∷ es) legal h =
    follows_either f c (list_any publishes_empty es) (length c == 0) refl legal.1.1.follows h
    (empty_follows f p (after m (events.publish s id c publishing.Done)) es legal.2)

-- if a legal history publishes the empty clause, its formula is unsatisfiable
pub publish_refutes : (f : Cnf) (p : LayoutValue) (h : History) → IsLegal f p h
    → IsTrue (list_any publishes_empty h) → IsUnsatisfiable f
publish_refutes f p h legal is = empty_refutes f (empty_follows f p (opening f) h legal.events is)

-- If the blocks that judge a stream have its own events in a legal history, and its report says
-- 'empty', the formula is unsatisfiable.
pub sound : (f : Cnf) (p : LayoutValue) (h : History) (c : StreamParams) (stream : Stream)
    (blocks : List History) (report : Report)
    → IsLegal f p h → own h c.stream ≡ joined blocks → JudgesStream c stream blocks report
    → IsTrue report.empty → IsUnsatisfiable f
sound f p h c stream blocks report legal mine judged is =
    let published = stream_publishes c stream blocks report judged is in
    publish_refutes f p h legal (any_filtered publishes_empty _ h (ap
    (list_any publishes_empty) mine ∙ published))
