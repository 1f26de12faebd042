-- Streams that are valid together, in an order that takes them in turn, on one thread.
use Rattle.std.proofs.Common.{◌≡◌, ℕ, ◌-◌, List, [], ◌++◌, length, map, Option, refl, sym, ap, subst, ◌∙◌, arith}
use Rattle.std.specs.List.{flat_map}
use Rattle.std.specs.Io.KnownBytes.{Consumes}
use Rattle.std.proofs.lemmas.Option.{slice_get_within}
use Rattle.lrup_model.specs.Formula.{Cnf}
use Rattle.lrup_text.specs.Laws.{EmptyCut, OneCut}
use Rattle.lrup_text.specs.Lines.{line_text}
use Rattle.lrup_text.specs.declared.device.StreamEnd.TheVariants as stream_ends
use Rattle.stream_check.specs.declared.report.Ending.TheVariants as endings
use Rattle.stream_check.specs.declared.report.Report.{Report}
use Rattle.stream_check.specs.Judging.{JudgesBlocks}
use Rattle.stream_check.specs.Excuses.{OutOfMemory, IsExcused}
use Rattle.stream_check.specs.Laws.{BlocksGoAlike, DecidedBeforeFailure, EndJudged, FreshLeft, GoodLineTaken}
use Rattle.stream_check.specs.Laws.{LegalNeverFork, OneReport}
use Rattle.stream_check.specs.Closed.{IsOfStream}
use Rattle.stream_check.specs.Streams.{Block, blocks_of, RunParamsValue, stream_params}
use Rattle.stream_check.specs.lemmas.StreamLemmas.{judged_out, observed_count}
use Rattle.stream_check.specs.Turns.{IsRoundRobin, IsOrderedRoundRobin}
use Rattle.run_laws.specs.Valid.{valid_report}
use Rattle.run_laws.specs.Valid.{Step}
use Rattle.run_laws.specs.Together.{lines_by}
use Rattle.run_laws.specs.TurnsLaws.{ValidRoundRobin}
use Rattle.run_laws.proofs.Places.{has_place}
use Rattle.run_laws.proofs.RunLemmas.{fine_failure, fine_memory, judged_to, observed_at}
use Rattle.run_laws.proofs.TogetherLemmas.{each_from, each_count, each_own, at_stream, text_stream, IsOrderOf, valid_ordered}
use Rattle.run_laws.proofs.TurnsLemmas.{own_at, reports_same}

-- a valid report doesn't say that memory ran out
not_memory : (run_params : RunParamsValue) (steps : List Step) (t : ℕ) (report : Report)
    → valid_report run_params t (lines_by t steps) ≡ report
    → ¬ IsExcused OutOfMemory report
not_memory run_params steps t report is memory =
    let no : endings.Ended ≡ endings.Memory memory.0 = ap (λ (r : Report). r.ending) is ∙ memory.1 in cc

-- if valid lines take the streams in turn, so does the order of their blocks
valid_order_round_robin : (f : Cnf) (run_params : RunParamsValue) (steps : List Step) (order : List Block)
    → IsOrderOf f run_params steps order
    → IsRoundRobin (map (λ step. step.stream) steps)
    → IsOrderedRoundRobin f run_params (each_from run_params.layout.streams 1 (text_stream steps)) (each_from run_params.layout.streams 1
    (λ t. valid_report run_params t (lines_by t steps)))
valid_order_round_robin f run_params steps order is turns = record {
  order = record {
    count = each_count run_params.layout.streams 1 (text_stream steps);
    blocks = order;
    within = is.within;
    legal = is.legal;
    judged =
        each_own run_params (λ t. blocks_of t order) run_params.layout.streams 1 (text_stream steps)
        (λ t. valid_report run_params t (lines_by t steps))
        (λ t. judged_out (stream_params run_params t) (flat_map line_text (lines_by t steps)) [] stream_ends.Ended (blocks_of t order)
        (valid_report run_params t (lines_by t steps)) (is.judged t));
  };
  turns = subst IsRoundRobin (sym is.streams) turns;
}

pub valid_round_robin : GoodLineTaken → FreshLeft → EndJudged → EmptyCut → OneCut
    → DecidedBeforeFailure → OneReport → LegalNeverFork → BlocksGoAlike → ValidRoundRobin
unfolding valid_order_round_robin
valid_round_robin taken fresh ends empty_cut one_cut decided one forks alike f run_params steps observed reports s report cnf fits
    valid turns texts x a fine says =
    let n = run_params.layout.streams in
    let said : ℕ → Report = λ t. valid_report run_params t (lines_by t steps) in
    let found = valid_ordered taken fresh ends empty_cut one_cut f run_params steps cnf fits valid in
    let b = valid_order_round_robin f run_params steps found.0 found.1 turns in
    let many : length x.streams ≡ n = x.count in
    let count : length observed ≡ n = sym (observed_count observed x.streams x.match_inputs) ∙ many in
    let same : reports ≡ each_from n 1 said =
    reports_same alike forks one f run_params x.streams (each_from n 1 (text_stream steps)) reports (each_from n 1 said) a b
    (λ t stream other its other_report at there shows also.
    let first = at.0 in
    let c = stream_params run_params t in
    let within = slice_get_within x.streams (t - 1) stream at.1 in
    let here = has_place observed t first (omega (arith, within, many, count, first)) in
    let is = observed_at observed x.streams t here.0 stream x.match_inputs here.1 at in
    let whole = flat_map line_text (lines_by t steps) in
    let its_valid : valid_report run_params t (lines_by t steps) ≡ other_report = at_stream n t said other_report also in
    let its_fine = fine t its refl shows in (
      record {
        bytes = whole;
        end = stream_ends.Ended;
        report = its;
        other = other_report;
        first =
            judged_to decided c stream.end stream.bytes stream.unneeded whole here.0.left here.0.has_failed (blocks_of t a.order.blocks) its
            (subst (λ (e : Option (List ℕ)). Consumes e here.0.left (stream.bytes ++ stream.unneeded)) (texts t here.0 here.1) is.consumes)
            is.ends is.needed (fine_failure its its_fine)
            (own_at run_params (λ k. blocks_of k a.order.blocks) t x.streams reports stream its a.order.judged at shows);
        second = subst (λ (r : Report). JudgesBlocks c whole stream_ends.Ended (blocks_of t found.0) r) its_valid (found.1.judged t);
        memory = fine_memory its its_fine;
        none = not_memory run_params steps t other_report its_valid;
      },
      refl,
      refl,
    )) in
    sym (at_stream n s said report (subst (λ (rs : List Report). IsOfStream rs s report) same says))
