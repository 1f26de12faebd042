-- What the contract of a run implies for one of its streams.
use Rattle.std.proofs.Common.{◌≡◌, ◌≤◌, ◌<◌, ◌^◌, ℕ, ℤ, zero, suc, ◌+◌, ◌-◌, Bool, true, false, Option, List, [], ◌∷◌, ◌++◌, length, map}
use Rattle.std.proofs.Common.{Some, None, pos, negsuc, refl, sym, ap, subst, ◌∙◌, inl, inr, arith}
use Rattle.std.specs.Fmt.{digits}
use Rattle.std.proofs.lemmas.Bool.Decides.{eqb_tells}
use Rattle.std.specs.Prelude.{IsTrue, slice_get, codes, ◌==◌, ◌↔◌, if◌then◌else◌}
use Rattle.lrup_model.specs.Layout.{LayoutValue, Owns, owner}
use Rattle.lrup_model.specs.declared.layout.Owner.{Owner}
use Rattle.lrup_model.specs.declared.layout.Owner.TheVariants as owners
use Rattle.lrup_text.specs.Writing.{space}
use Rattle.lrup_text.specs.Lines.{StreamLine, Addition, Deletion, Import, Cut, HasNoLine, line_text}
use Rattle.lrup_text.specs.Laws.{OneCut}
use Rattle.stream_check.specs.DroppedIdsValue.{DroppedIdsValue}
use Rattle.stream_check.specs.StreamParams.{StreamParams}
use Rattle.stream_check.specs.declared.report.Ending.{Ending}
use Rattle.stream_check.specs.declared.report.Ending.TheVariants as endings
use Rattle.stream_check.specs.declared.report.Report.{Report}
use Rattle.lrup_text.specs.declared.device.StreamEnd.TheVariants as stream_ends
use Rattle.std.specs.List.{AllByRecursion, list_any}
use Rattle.stream_check.specs.Excuses.{OutOfMemory, IsExcused}
use Rattle.stream_check.specs.Laws.{cited_by}
use Rattle.lrup_model.specs.Cube.{CubeValue}
use Rattle.lrup_model.specs.Formula.{Cnf}
use Rattle.lrup_model.specs.Event.{History, published}
use Rattle.run_outcome.specs.declared.outcome.Verdict.{Verdict}
use Rattle.run_outcome.specs.declared.outcome.Verdict.TheVariants.{Unsatisfiable, UnsatisfiableUnder, Unknown}
use Rattle.stream_check.specs.Dropping.{HasDropped, HasDroppedBy, HaveDropped}
use Rattle.run_outcome.specs.Outcomes.{OptionsValue, run_params_of, verdict_of}
use Rattle.run_laws.specs.Serializable.{ComeToVerdict, IsSerializable}
use Rattle.run_laws.specs.Premises.{FoundStays}
use Rattle.stream_check.specs.lemmas.StreamLemmas.{same_at}
use Rattle.lrup_text.specs.ReadOut.{SourceView}
use Rattle.stream_check.specs.Readings.{AreRead}
use Rattle.stream_check.specs.Streams.{Stream, InputObservation, RunParamsValue, observation_of, observations, IsOrdered, events_in}
use Rattle.stream_check.specs.Streams.{stream_params}
use Rattle.stream_check.specs.Closed.{IsOfStream, IsOwnedWithin, CiteWithin}
use Rattle.run_laws.specs.Groups.{one, AreIsolated, IsRun}
use Rattle.run_laws.specs.lemmas.ReportLemmas.{only}
use Rattle.run_laws.specs.GroupLaws.{ReadersClosed, MatchIsReading}
use Rattle.test_support.specs.Worked.{four}
use Rattle.test_support.specs.lemmas.WorkedLemmas.{unit_fits, empty_fits}
use Rattle.portfolio_tests.specs.Alone.{first_bytes, usual, layout_of_two, two_terms, HasOrder, IsOnlyReport}

-- The first stream

-- the first stream, and what is known of its reader, which hasn't failed
record IsFirst (known : List InputObservation) (streams : List Stream) (bytes : List ℕ) : Type 0 where
  stream : Stream
  at : IsOfStream streams 1 stream
  observation : InputObservation
  observation_at : IsOfStream known 1 observation
  entry : observation.entry ≡ Some bytes
  running : observation.has_failed ≡ false

first_known : {S : Type 0} (view : SourceView S) (firsts lasts : List S) (streams : List Stream) (bytes : List ℕ)
    → AreRead S view.reads firsts lasts streams → IsOfStream (map view.left firsts) 1 (Some bytes)
    → IsOfStream (map view.has_failed lasts) 1 false → IsFirst (observations view firsts lasts) streams bytes
first_known view [] [] [] bytes read entry fine = absurd (let none : None ≡ Some (Some bytes) = entry.1 in cc)
first_known view (first ∷ firsts) (last ∷ lasts) (stream ∷ streams) bytes read entry fine = record {
  stream = stream;
  at = (omega arith, refl);
  observation = observation_of view first last;
  observation_at = (omega arith, refl);
  entry = let same : Some (view.left first) ≡ Some (Some bytes) = entry.1 in cc;
  running = let same : Some (view.has_failed last) ≡ Some false = fine.1 in cc;
}
first_known view _ _ _ bytes read entry fine = absurd read

-- a run of two streams over the four clauses, with default options, has these parameters
of_two : (Holds : Cnf → RunParamsValue → Type 0) (options : OptionsValue) (cube : CubeValue) (f : Cnf) (count : ℕ)
    → options ≡ usual → cube ≡ [] → f ≡ four → count ≡ 2 → Holds f (run_params_of options cube f count) → Holds four two_terms
of_two Holds options cube f count same none formula two holds =
    subst (λ n. Holds four (run_params_of usual [] four n)) two
    (subst (λ g. Holds g (run_params_of usual [] g count)) formula
    (subst (λ k. Holds f (run_params_of usual k f count)) none
    (subst (λ o. Holds f (run_params_of o cube f count)) same holds)))

-- what a run promises about its reports, whatever its history
abbrev pub IsIsolated : {S : Type 0} → SourceView S → List S → List S → List Report → Cnf → RunParamsValue → Type 0
IsIsolated {S} view firsts lasts reports f run_params =
    (run : IsRun f run_params (observations view firsts lasts) reports) × AreIsolated run × AreRead S view.reads firsts lasts run.streams

-- a run with this history, whose lines are serializable
abbrev pub HasOrdered : List InputObservation → List Report → History → Cnf → RunParamsValue → Type 0
HasOrdered known reports h f run_params = (run : IsRun f run_params known reports) × (run.history ≡ h) × IsSerializable run

pub two_isolated : {S : Type 0} (view : SourceView S) (firsts lasts : List S) (reports : List Report) (options : OptionsValue)
    (cube : CubeValue) (f : Cnf) (count : ℕ) → options ≡ usual → cube ≡ [] → f ≡ four → count ≡ 2
    → IsIsolated view firsts lasts reports f (run_params_of options cube f count) → IsIsolated view firsts lasts reports four two_terms
two_isolated view firsts lasts reports options cube f count = of_two (IsIsolated view firsts lasts reports) options cube f count

pub two_ordered : (known : List InputObservation) (reports : List Report) (h : History) (options : OptionsValue) (cube : CubeValue)
    (f : Cnf)
    (count : ℕ) → options ≡ usual → cube ≡ [] → f ≡ four → count ≡ 2
    → HasOrdered known reports h f (run_params_of options cube f count) → HasOrdered known reports h four two_terms
two_ordered known reports h options cube f count = of_two (HasOrdered known reports h) options cube f count

-- What a run promises implies that stream 1's report is the only report that this stream can have
-- on its own.
pub report_alone : ReadersClosed → MatchIsReading → {S : Type 0} (view : SourceView S) (firsts lasts : List S) (bytes : List ℕ)
    (reports : List Report) (report : Report)
    → IsIsolated view firsts lasts reports four two_terms → CiteWithin layout_of_two (one 1) bytes
    → IsOfStream (map view.left firsts) 1 (Some bytes) → IsOfStream (map view.has_failed lasts) 1 false
    → IsOfStream reports 1 report → ¬ IsExcused OutOfMemory report → IsOnlyReport bytes report
report_alone closes reads view firsts lasts bytes reports report (run, isolated, read) cites entry fine says memory =
    let shows = observations view firsts lasts in
    let first = first_known view firsts lasts run.streams bytes read entry fine in
    let closed = closes layout_of_two (one 1) shows run.streams run.match_inputs
    (λ s other member at.
    let same = same_at shows 1 other first.observation (subst (λ n. IsOfStream shows n other) (only 1 s member) at) first.observation_at in
    (bytes, ap (λ (t : InputObservation). t.entry) same ∙ first.entry, cites)) in
    let is_reading = reads shows run.streams 1 first.observation first.stream bytes run.match_inputs first.observation_at
    first.at first.entry
    first.running in
    record {
      alone = record {
        streams = run.streams;
        reports = reports;
        stream = first.stream;
        alone = isolated.groups (one 1) closed
            (λ s other member at. subst (λ r. ¬ IsExcused OutOfMemory r)
            (same_at reports 1 report other says (subst (λ n. IsOfStream reports n other) (only 1 s member) at)) memory);
        at = first.at;
        reads = is_reading;
        says = says;
      };
      only = isolated.alone 1 first.stream report first.at says closed memory bytes stream_ends.Ended is_reading;
    }

-- The verdict of an order of lines

says_so : (verdict : Verdict) (a b c : Bool) → a ≡ c → verdict ≡ (if a then Unsatisfiable else if b then UnsatisfiableUnder else Unknown)
    → (verdict ≡ Unsatisfiable) ↔ IsTrue c
says_so verdict true b true same is = ((λ e. refl), λ t. is)
says_so verdict true b false same is = absurd (let no : true ≡ false = same in cc)
says_so verdict false b true same is = absurd (let no : false ≡ true = same in cc)
says_so verdict false true false same is = (
  (λ e. absurd (let no : UnsatisfiableUnder ≡ Unsatisfiable = sym is ∙ e in cc)),
  λ t. absurd (let no : false ≡ true = t in cc),
)
says_so verdict false false false same is = (
  (λ e. absurd (let no : Unknown ≡ Unsatisfiable = sym is ∙ e in cc)),
  λ t. absurd (let no : false ≡ true = t in cc),
)

order_says : (streams : List Stream) (reports : List Report) (verdict : Verdict)
    → (order : IsOrdered four two_terms (λ s. true) streams reports) × ComeToVerdict two_terms.cube (events_in order.blocks) reports
    → verdict ≡ verdict_of reports → HasOrder verdict
order_says streams reports verdict (order, comes) is = record {
  lines = order.blocks;
  legal = order.legal;
  says = says_so verdict (list_any (λ report. report.empty) reports) (list_any (λ report. report.within) reports)
      (list_any (λ p. length p.1 == 0) (published (events_in order.blocks))) comes.empty is;
}

-- What a run promises implies that its verdict is the verdict of an order of its lines.
pub has_order : (known : List InputObservation) (reports : List Report) (h : History) (verdict : Verdict)
    → HasOrdered known reports h four two_terms
    → verdict ≡ verdict_of reports → FoundStays four layout_of_two (λ s. true) h → HasOrder verdict
has_order known reports h verdict (run, same, serializable) is stays =
    order_says run.streams reports verdict (serializable.all (subst (FoundStays four layout_of_two (λ s. true)) (sym same) stays)) is

-- What a stream that ran out of memory dropped

full_at : (params : StreamParams) (bytes : List ℕ) (blocks : List History) (report : Report) (dropped : DroppedIdsValue) (line : ℕ)
    → report.ending ≡ endings.Memory line → HasDropped params bytes blocks report dropped → dropped.spare ≡ 0
full_at params bytes blocks report dropped line is drops =
    (subst (λ (e : Ending). HasDroppedBy e params bytes blocks report dropped) is drops).1

pub full_from : (run_params : RunParamsValue) (AreOwn : ℕ → List History → Type 0) (s : ℕ) (streams : List Stream) (reports : List Report)
    (all : List DroppedIdsValue)
    → HaveDropped run_params AreOwn s streams reports all → (k : ℕ) (report : Report) (dropped : DroppedIdsValue)
    → slice_get reports k ≡ Some report → slice_get all k ≡ Some dropped → IsExcused OutOfMemory report → dropped.spare ≡ 0
full_from run_params AreOwn s [] [] [] have k report dropped says at memory = absurd (let none : None ≡ Some report = says in cc)
full_from run_params AreOwn s (stream ∷ streams) (one ∷ reports) (d ∷ all) have zero report dropped says at memory =
    let same : one ≡ report = let e : Some one ≡ Some report = says in cc in
    let is : d ≡ dropped = let e : Some d ≡ Some dropped = at in cc in
    subst (λ (x : DroppedIdsValue). x.spare ≡ 0) is
    (full_at (stream_params run_params s) stream.bytes have.0.0 one d memory.0 (ap (λ (r : Report). r.ending) same ∙ memory.1) have.0.2)
full_from run_params AreOwn s (stream ∷ streams) (one ∷ reports) (d ∷ all) have (suc k) report dropped says at memory =
    full_from run_params AreOwn (s + 1) streams reports all have.1 k report dropped says at memory
full_from run_params AreOwn s _ _ _ have k report dropped says at memory = absurd have

-- The lines of the first stream, and of a stream that only imports

-- a line has at least one byte
longer : (xs ys : List ℕ) (y : ℕ) (more : List ℕ) → ([] ≡ (xs ++ y ∷ ys) ++ more) → ⊥
longer [] ys y more e = cc
longer (x ∷ xs) ys y more e = cc

pub none_in_nothing : HasNoLine []
none_in_nothing (Addition id lits hints) more within e = longer _ _ space more e
none_in_nothing (Deletion lead ids) more within e = longer _ _ space more e
none_in_nothing (Import id lits) more within e = longer _ _ space more e

pub first_is_cut : Cut first_bytes (Addition 5 (pos 2 ∷ []) (1 ∷ 2 ∷ []) ∷ Addition 7 [] (5 ∷ 3 ∷ 4 ∷ []) ∷ []) []
unfolding digits
first_is_cut = record {
  bytes = refl;
  each = (unit_fits 5 (omega arith, omega arith), (empty_fits 7 (omega arith, omega arith), tt));
  last = none_in_nothing;
}

-- of the identities that the lines cite, 5 is stream 1's; the others are the formula's
formulas : (id : ℕ) → owner layout_of_two id ≡ owners.Formula → IsOwnedWithin layout_of_two (one 1) id
formulas id is t owns = absurd (let no : owners.Formula ≡ owners.Stream t = sym is ∙ owns in cc)

fifth : IsOwnedWithin layout_of_two (one 1) 5
fifth t owns = let same : 1 ≡ t = let e : owners.Stream 1 ≡ owners.Stream t = owns in cc in subst (λ n. IsTrue (one 1 n)) same refl

pub first_within : CiteWithin layout_of_two (one 1) first_bytes
first_within = record {
  lines = Addition 5 (pos 2 ∷ []) (1 ∷ 2 ∷ []) ∷ Addition 7 [] (5 ∷ 3 ∷ 4 ∷ []) ∷ [];
  rest = [];
  cut = first_is_cut;
  within = ((formulas 1 refl, (formulas 2 refl, tt)), ((fifth, (formulas 3 refl, (formulas 4 refl, tt))), tt));
}

pub import_is_cut : Cut (codes "5 i 2 0\n") (Import 5 (pos 2 ∷ []) ∷ []) []
unfolding digits
import_is_cut = record {
  bytes = refl;
  each = (((omega arith, omega arith), record { count = omega arith; each = ((omega arith, omega arith), tt) }), tt);
  last = none_in_nothing;
}

-- stream 2 doesn't own 5, so the set of only stream 2 isn't closed if this stream imports 5
pub import_is_open : OneCut → ¬ CiteWithin layout_of_two (one 2) (codes "5 i 2 0\n")
import_is_open law cites =
    let same = law (codes "5 i 2 0\n") cites.lines (Import 5 (pos 2 ∷ []) ∷ []) cites.rest [] cites.cut import_is_cut in
    let within = subst (λ lines. AllByRecursion (λ line. AllByRecursion (IsOwnedWithin layout_of_two (one 2)) (cited_by line)) lines)
    same.0 cites.within in
    let no : false ≡ true = within.0.0 1 refl in
    cc
