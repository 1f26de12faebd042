-- If a report says 'within', its stream published a clause within the cube, and the formula is
-- unsatisfiable under the cube.
use Rattle.std.proofs.Common.{◌≡◌, ℕ, Bool, true, false, List, [], ◌∷◌, ◌+◌, inl, inr, refl, sym}
use Rattle.std.proofs.Common.{ap, ◌∙◌}
use Rattle.std.specs.Prelude.{◌||◌, IsTrue, if◌then◌else◌}
use Rattle.std.specs.List.{list_any}
use Rattle.std.proofs.lemmas.Bool.{cases_Bool}
use Rattle.std.proofs.lemmas.Grind.{flat_map-append}
use Rattle.lrup_model.specs.Clause.{Clause}
use Rattle.lrup_model.specs.Formula.{Cnf}
use Rattle.lrup_model.specs.Cube.{CubeValue, IsUnsatisfiableUnder}
use Rattle.lrup_model.specs.lemmas.CubeLemmas.{within_refutes}
use Rattle.lrup_model.specs.Layout.{LayoutValue}
use Rattle.lrup_model.specs.Event as events
use Rattle.lrup_model.specs.Event.{History, own}
use Rattle.lrup_model.specs.State.{State, opening, after}
use Rattle.lrup_model.specs.History.{LegalFrom, IsLegal, IsPublishable}
use Rattle.lrup_model.specs.declared.clause_map.Published.TheVariants as publishing
use Rattle.lrup_text.specs.declared.device.StreamEnd.{StreamEnd}
use Rattle.stream_check.specs.declared.report.Report.{Report}
use Rattle.stream_check.specs.StreamParams.{StreamParams}
use Rattle.stream_check.specs.StreamContext.{is_within}
use Rattle.stream_check.specs.lemmas.CubeLemmas.{is_within-decides}
use Rattle.stream_check.specs.Judging.{joined, JudgesBlocks}
use Rattle.stream_check.specs.lemmas.ReportLemmas.{said_within}
use Rattle.stream_check.specs.lemmas.StreamLemmas.{some_end}
use Rattle.stream_check.specs.Streams.{Stream, JudgesStream, InputObservation, RunParamsValue}
use Rattle.stream_check.specs.Streams.{stream_params}
use Rattle.run_laws.specs.Groups.{IsRun}
use Rattle.stream_check.specs.SequentialConsistency.{AreJudgedIn}
use Rattle.run_laws.specs.lemmas.PublishLemmas.{publishes_within}
use Rattle.run_outcome.specs.declared.outcome.Verdict.{Verdict}
use Rattle.run_outcome.specs.declared.outcome.Verdict.TheVariants.{Unsatisfiable}
use Rattle.run_outcome.specs.declared.outcome.Verdict.TheVariants.{UnsatisfiableUnder, Unknown}
use Rattle.run_outcome.specs.Outcomes.{verdict_of}
use Rattle.run_outcome.specs.lemmas.EmptyLemmas.{any_front, any_filtered, lines_publish}

-- ---- the lines of a stream

-- if the report says 'within', one of the events published a clause within the cube
within_is_published : (c : StreamParams) (bytes : List ℕ) (end : StreamEnd) (blocks : List History)
    (report : Report)
    → JudgesBlocks c bytes end blocks report → IsTrue report.within
    → IsTrue (list_any (publishes_within c.cube) (joined blocks))
within_is_published c bytes end blocks report judged is =
    let said = said_within c judged.lines judged.rest end judged.back report judged.ends in
    let front = lines_publish (publishes_within c.cube) (λ a. is_within c.cube a.1) c
    (λ id lits. refl) [] judged.lines judged.front judged.good (sym said ∙ is) in
    ap (λ bs. list_any (publishes_within c.cube) (joined bs)) judged.split
    ∙ ap (list_any (publishes_within c.cube))
    (flat_map-append (λ (block : History). block) judged.front judged.back)
    ∙ any_front (publishes_within c.cube) (joined judged.front) (joined judged.back) front

stream_publishes_within : (c : StreamParams) (stream : Stream) (blocks : List History)
    (report : Report)
    → JudgesStream c stream blocks report → IsTrue report.within
    → IsTrue (list_any (publishes_within c.cube) (joined blocks))
stream_publishes_within c stream blocks report judged is =
    let way = some_end c stream blocks report judged in
    within_is_published c stream.bytes way.0 blocks report way.1 is

-- ---- the formula under the cube

-- if a publishable clause is within the cube, or a later clause is, the formula is unsatisfiable
-- under the cube
refutes_either : (f : Cnf) (cube : CubeValue) (c : Clause) (later : Bool) → IsPublishable f c
    → (is_within cube c || later) ≡ true
    → (later ≡ true → IsUnsatisfiableUnder f cube) → IsUnsatisfiableUnder f cube
refutes_either f cube c later publishable h rest =
    elim (cases_Bool (is_within cube c)) [
      | inl yes' ↦ within_refutes f c cube (publishable.clause, publishable.follows)
          ((is_within-decides cube c).0 yes')
      | inr none ↦ rest (ap (λ b. b || later) (sym none) ∙ h)
    ]

refuted_from : (f : Cnf) (p : LayoutValue) (cube : CubeValue) (m : State) (es : History)
    → LegalFrom f p m es
    → list_any (publishes_within cube) es ≡ true → IsUnsatisfiableUnder f cube
refuted_from f p cube m [] legal h = absurd (let e : false ≡ true = h in cc)
refuted_from f p cube m (events.fetch s id r ∷ es) legal h = refuted_from f p cube m es legal.2 h
refuted_from f p cube m (events.publish s id c publishing.Taken ∷ es) legal h = refuted_from f p
    cube m es legal.2 h
refuted_from f p cube m (events.retire s id r ∷ es) legal h = refuted_from f p cube _ es legal.2 h
refuted_from f p cube m (events.publish s id c publishing.Done ∷ es) legal h =
    refutes_either f cube c (list_any (publishes_within cube) es) legal.1.1 h
    (refuted_from f p cube (after m (events.publish s id c publishing.Done)) es legal.2)

-- If the blocks that judge a stream have its own events in a legal history, and its report says
-- 'within', the formula is unsatisfiable under the cube.
sound_under : (f : Cnf) (p : LayoutValue) (h : History) (c : StreamParams) (stream : Stream)
    (blocks : List History) (report : Report)
    → IsLegal f p h → own h c.stream ≡ joined blocks → JudgesStream c stream blocks report
    → IsTrue report.within
    → IsUnsatisfiableUnder f c.cube
sound_under f p h c stream blocks report legal mine judged is =
    let published = stream_publishes_within c stream blocks report judged is in
    refuted_from f p c.cube (opening f) h legal.events
    (any_filtered (publishes_within c.cube) _ h
    (ap (list_any (publishes_within c.cube)) mine ∙ published))

-- ---- a run

sound_under_by : (f : Cnf) (run_params : RunParamsValue) (h : History)
    → IsLegal f run_params.layout h
    → (s : ℕ) (streams : List Stream) (reports : List Report)
    → AreJudgedIn run_params (λ t. true) h s streams reports
    → list_any (λ report. report.within) reports ≡ true
    → IsUnsatisfiableUnder f run_params.cube
sound_under_by f run_params h legal s [] [] judged is = absurd (let no : false ≡ true = is in cc)
sound_under_by f run_params h legal s [] (r ∷ rs) judged is = absurd judged
sound_under_by f run_params h legal s (t ∷ ts) [] judged is = absurd judged
sound_under_by f run_params h legal s (t ∷ ts) (r ∷ rs) judged is =
    let this = judged.0 refl in
    elim (cases_Bool r.within) [
      | inl here ↦ sound_under f run_params.layout h
          (stream_params run_params s) t this.0 r legal this.1 this.2 here
      | inr none ↦
          sound_under_by f run_params h legal (s + 1) ts rs judged.1
          (ap (λ b. b || list_any (λ (report : Report). report.within) rs) (sym none) ∙ is)
    ]

-- ---- the verdict

some_within : (a b : Bool) → (if a then Unsatisfiable else if b then UnsatisfiableUnder else
    Unknown) ≡ UnsatisfiableUnder → b ≡ true
some_within true b is = absurd (let no : Unsatisfiable ≡ UnsatisfiableUnder = is in cc)
some_within false true is = refl
some_within false false is = absurd (let no : Unknown ≡ UnsatisfiableUnder = is in cc)

-- if the verdict is 'unsatisfiable under assumptions', some report says 'within'
is_within_some : (reports : List Report) (verdict : Verdict) → verdict ≡ verdict_of reports
    → verdict ≡ UnsatisfiableUnder
    → list_any (λ report. report.within) reports ≡ true
is_within_some reports verdict of is =
    some_within (list_any (λ (report : Report). report.empty) reports) (list_any (λ
    (report : Report). report.within) reports) (sym of ∙ is)

-- if the verdict of a run is 'unsatisfiable under assumptions', it is true
pub sound_under_run : (f : Cnf) (run_params : RunParamsValue) (observed : List InputObservation)
    (reports : List Report) (verdict : Verdict)
    → IsRun f run_params observed reports → verdict ≡ verdict_of reports
    → verdict ≡ UnsatisfiableUnder
    → IsUnsatisfiableUnder f run_params.cube
sound_under_run f run_params observed reports verdict run of is =
    sound_under_by f run_params run.history run.legal 1 run.streams reports run.judged
    (is_within_some reports verdict of is)
