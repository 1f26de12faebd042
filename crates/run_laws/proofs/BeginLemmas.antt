-- Streams that begin with valid lines, in a run.
use Rattle.std.proofs.Common.{◌≡◌, ◌≢◌, ◌++◌, ℕ, List, [], ◌∷◌, length, inl, inr, refl, sym, ap, subst, ◌∙◌, arith, append_assoc}
use Rattle.std.proofs.Common.{append-nil}
use Rattle.std.specs.List.{AllByRecursion, flat_map}
use Rattle.lrup_model.specs.Clause.{Clause}
use Rattle.lrup_model.specs.Event as events
use Rattle.lrup_model.specs.Event.{History, own, stream_of}
use Rattle.lrup_model.specs.Formula.{Cnf}
use Rattle.lrup_model.specs.History.{IsLegal}
use Rattle.lrup_model.specs.lemmas.HistoryLemmas.{opening-owned, own-all, own-none, run-own}
use Rattle.lrup_model.specs.Layout.{Fits, Owns, owner}
use Rattle.lrup_model.specs.State.{Slot, opening, run, state, HasClause}
use Rattle.lrup_text.specs.Laws.{EmptyCut, OneCut, OneFirstLine, RefusedStays}
use Rattle.lrup_text.specs.Lines.{StreamLine, line_text}
use Rattle.stream_check.specs.declared.params.Ownership.TheVariants as ownerships
use Rattle.stream_check.specs.Judging.{joined}
use Rattle.stream_check.specs.Laws.{EndJudged, FreshLeft, GoodLineTaken}
use Rattle.stream_check.specs.lemmas.ReportLemmas.{joined-append}
use Rattle.stream_check.specs.StreamParams.{StreamParams, ownership_of}
use Rattle.stream_check.specs.Streams.{stream_params}
use Rattle.run_laws.specs.Valid.{valid_report}
use Rattle.run_laws.specs.ValidLaws.{ValidBegins}
use Rattle.run_laws.proofs.AnyRunLemmas.{foreign_by, IsReadIn, read_in}
use Rattle.run_laws.proofs.AnyRunLines.{IsFoundIn, AreFair}
use Rattle.run_laws.specs.lemmas.OwnLemmas.{own_all}
use Rattle.run_laws.proofs.AnyRunStreams.{near_fair, IsStillThere, all_still_there, Anything, all_anything, fair_front, has_ended}
use Rattle.run_laws.proofs.AnyRunStreams.{lines_go_on, goes_on_says}
use Rattle.run_laws.proofs.ValidLemmas.{all_others, valid_judged}
use Rattle.run_laws.proofs.ValidLines.{own_ownership}

-- What a stream on its own finds from others

-- no clause of another stream is found
abbrev Nothing : ℕ → Clause → Type 0
Nothing id d = ⊥

-- in a history of only this stream, an identity of another stream has no clause
none_there : (f : Cnf) (c : StreamParams) (h : History) (id : ℕ) (d : Clause) → Fits c.layout f → IsLegal f c.layout h
    → AllByRecursion (λ e. stream_of e ≡ c.stream) h → ownership_of c id ≡ ownerships.Foreign → HasClause (state f h id) d → ⊥
none_there f c h id d fits legal calls foreign has =
    let its = foreign_by c id (owner c.layout id) refl foreign in
    let other : c.stream ≢ its.0 = λ same.
    let no : ownerships.Own
    ≡ ownerships.Foreign = sym (own_ownership c id (subst (λ (t : ℕ). Owns c.layout t id) (sym same) its.1)) ∙ foreign in cc in
    let none : own h its.0 ≡ [] = own-none h its.0 (all_others c.stream its.0 h other calls) in
    let before : state f h id ≡ opening f id =
    run-own f c.layout (opening f) (opening f) h its.0 id legal.events its.1 refl ∙ ap (λ (es : History). run (opening f) es id) none in
    subst (λ (slot : Slot). HasClause slot d) (before ∙ opening-owned f c.layout its.0 id fits its.1) has

all_nothing : (f : Cnf) (c : StreamParams) (h : History) → Fits c.layout f → IsLegal f c.layout h
    → AllByRecursion (λ e. stream_of e ≡ c.stream) h
    → (es : History) → AllByRecursion (IsStillThere (state f h)) es → AllByRecursion (IsFoundIn c Nothing) es
all_nothing f c h fits legal calls [] there = tt
all_nothing f c h fits legal calls (events.fetch s id (events.live d) ∷ es) there =
    ((λ foreign. none_there f c h id d fits legal calls foreign there.0), all_nothing f c h fits legal calls es there.1)
all_nothing f c h fits legal calls (_ ∷ es) there = (tt, all_nothing f c h fits legal calls es there.1)

-- In a run

pub valid_begins : GoodLineTaken → FreshLeft → EndJudged → EmptyCut → OneCut → OneFirstLine
    → RefusedStays → ValidBegins
valid_begins taken fresh ends empty_cut one_cut first refused
    f run_params s bytes more lines observed observation reports report cnf fits stream valid run here entry says =
    let c = stream_params run_params s in
    let texts = flat_map line_text lines in
    let alone = valid_judged taken fresh ends empty_cut one_cut f run_params s texts lines cnf fits stream
    (record { text = refl; fits = valid.fits; valid = valid.valid }) in
    let g = alone.0.history in
    let w = alone.0.judges.judges in
    let finished = has_ended c w.lines w.rest _ w.back (valid_report run_params s lines) w.ends refl in
    let same : w.lines ≡ lines = (one_cut texts w.lines lines [] []
    (record {
      bytes = w.text ∙ ap (λ (b : List ℕ). flat_map line_text w.lines ++ b) finished.none;
      each = w.fits;
      last = empty_cut.last;
    })
    (record { bytes = sym (append-nil texts); each = valid.fits; last = empty_cut.last })).0 in
    let read : IsReadIn f run_params observed reports run s (bytes ++ more) report =
    read_in f run_params observed reports run s (bytes ++ more) observation
    report here entry says in
    let j = read.reads.judges in
    let begins : flat_map line_text j.lines ++ (j.rest ++ read.reads.left) ≡ flat_map line_text w.lines ++ more =
    sym (append_assoc (flat_map line_text j.lines) j.rest read.reads.left)
    ∙ ap (λ (b : List ℕ). b ++ read.reads.left) (sym j.text) ∙ sym read.reads.text ∙ ap (λ (b : List ℕ). b ++ more) valid.text
    ∙ ap (λ (ls : List StreamLine). flat_map line_text ls ++ more) (sym same) in
    let mine : AreFair c Nothing (opening f) (own g s) =
    near_fair f c Nothing (opening f) (opening f) g alone.0.legal.events (λ id near. refl)
    (own_all (IsFoundIn c Nothing) g s
    (all_nothing f c g fits alone.0.legal alone.1 g (all_still_there f run_params.layout (opening f) g alone.0.legal.events))) in
    let theirs : AreFair c Anything (opening f) (own run.history s) =
    near_fair f c Anything (opening f) (opening f) run.history run.legal.events (λ id near. refl) (all_anything c (own run.history s)) in
    let ours : AreFair c Nothing (opening f) (joined w.front) =
    fair_front c Nothing (opening f) (joined w.front) (joined w.back)
    (rw (own-all s g alone.1 ∙ alone.0.judges.events ∙ ap joined w.split ∙ joined-append w.front w.back) at mine) in
    let also : AreFair c Anything (opening f) (joined (j.front ++ j.back)) = rw (read.events ∙ ap joined j.split) at theirs in
    elim (lines_go_on first refused c Nothing Anything
    (λ id d e foreign mine theirs. absurd mine) [] w.lines j.lines w.front j.front j.back
    (opening f) j.rest read.reads.left more read.reads.end (length lines) report
    (omega (arith, ap (λ (ls : List StreamLine). length ls) same)) w.good j.good j.ends w.fits j.fits begins read.reads.ended ours also) [
      | inl on ↦ inl (goes_on_says c lines on.0 j.rest read.reads.end j.back report
          (rw (on.1 ∙ ap (λ (ls : List StreamLine). ls ++ on.0) same) at j.ends))
      | inr (inl cut) ↦ inr cut
      | inr (inr lacks) ↦ absurd lacks.3
    ]
