-- Two runs on one thread over the same bytes.
use Rattle.std.proofs.Common.{◌≡◌, ◌+◌, ◌-◌, ℕ, suc, true, List, [], ◌∷◌, ◌++◌, length, Option, Some, refl, sym, ap, ap₂, subst, ◌∙◌}
use Rattle.std.proofs.Common.{arith}
use Rattle.std.specs.Prelude.{slice_get}
use Rattle.std.specs.Io.KnownBytes.{Consumes}
use Rattle.std.proofs.lemmas.Option.{slice_get_within}
use Rattle.lrup_model.specs.Event.{History}
use Rattle.lrup_model.specs.Formula.{Cnf}
use Rattle.lrup_text.specs.declared.device.StreamEnd.TheVariants as stream_ends
use Rattle.stream_check.specs.declared.report.Report.{Report}
use Rattle.stream_check.specs.Judging.{joined}
use Rattle.stream_check.specs.Laws.{BlocksGoAlike, DecidedBeforeFailure, LegalNeverFork, OneReport}
use Rattle.stream_check.specs.Closed.{IsOfStream}
use Rattle.stream_check.specs.Streams.{Stream, JudgesStream, blocks_of, AreJudged, RunParamsValue, stream_params}
use Rattle.stream_check.specs.lemmas.EachLemmas.{each_at, each_count}
use Rattle.stream_check.specs.lemmas.StreamLemmas.{observed_count}
use Rattle.stream_check.specs.Turns.{IsOrderedRoundRobin}
use Rattle.run_laws.specs.TurnsLaws.{BytesDecide}
use Rattle.run_laws.proofs.OneOrder.{JudgedTwice, same_order}
use Rattle.run_laws.proofs.Places.{has_place}
use Rattle.run_laws.proofs.RunLemmas.{fine_failure, fine_memory, judged_to, observed_at}

-- Lists

same_at_each : {X : Type 0} (xs ys : List X) → length xs ≡ length ys
    → ((k : ℕ) (x y : X) → slice_get xs k ≡ Some x → slice_get ys k ≡ Some y → x ≡ y) → xs ≡ ys
same_at_each [] [] count same = refl
same_at_each [] (y ∷ ys) count same = absurd (omega (arith, count))
same_at_each (x ∷ xs) [] count same = absurd (omega (arith, count))
same_at_each {X} (x ∷ xs) (y ∷ ys) count same =
    ap₂ (λ (z : X) (zs : List X). z ∷ zs) (same 0 x y refl refl)
    (same_at_each xs ys (omega (arith, count)) (λ k u v at there. same (suc k) u v at there))

-- lists that have the same element for each stream are equal
same_for_each : {X : Type 0} (xs ys : List X) → length xs ≡ length ys
    → ((s : ℕ) (x y : X) → IsOfStream xs s x → IsOfStream ys s y → x ≡ y) → xs ≡ ys
same_for_each {X} xs ys count same = same_at_each xs ys count (λ k x y at there.
    let place : k ≡ k + 1 - 1 = omega arith in
    same (k + 1) x y (omega arith, subst (λ (i : ℕ). slice_get xs i ≡ Some x) place at) (
      omega arith,
      subst (λ (i : ℕ). slice_get ys i ≡ Some y) place there,
    ))

-- Streams judged by their own blocks of an order

pub own_at : (run_params : RunParamsValue) (own : ℕ → List History) (s : ℕ) (streams : List Stream) (reports : List Report)
    (stream : Stream)
    (report : Report) → AreJudged run_params (λ t. true) (λ t blocks. blocks ≡ own t) 1 streams reports
    → IsOfStream streams s stream → IsOfStream reports s report → JudgesStream (stream_params run_params s) stream (own s) report
own_at run_params own s streams reports stream report judged at says =
    let j = each_at _ streams reports judged s stream report at says refl in
    subst (λ (bs : List History). JudgesStream (stream_params run_params s) stream bs report) j.1 j.2

-- Two runs

-- if each stream is judged twice, by its own blocks of the two orders, the orders and the reports
-- are the same
module _ (alike : BlocksGoAlike) (forks : LegalNeverFork) (one : OneReport) (f : Cnf) (run_params : RunParamsValue)
    (streams others : List Stream) (reports other_reports : List Report)
    (a : IsOrderedRoundRobin f run_params streams reports) (b : IsOrderedRoundRobin f run_params others other_reports)
    (both : (s : ℕ) (stream other : Stream) (report other_report : Report)
    → IsOfStream streams s stream → IsOfStream others s other → IsOfStream reports s report → IsOfStream other_reports s other_report
    → (j : JudgedTwice (stream_params run_params s) (blocks_of s a.order.blocks) (blocks_of s b.order.blocks)) × (j.report ≡ report)
    × (j.other ≡ other_report)) where
  count : length streams ≡ run_params.layout.streams
  count = a.order.count

  other_count : length others ≡ run_params.layout.streams
  other_count = b.order.count

  many : length reports ≡ length streams
  many = each_count _ 1 streams reports a.order.judged

  other_many : length other_reports ≡ length others
  other_many = each_count _ 1 others other_reports b.order.judged

  orders_same : a.order.blocks ≡ b.order.blocks
  orders_same = same_order alike forks f run_params a.order.blocks b.order.blocks
      (λ s stream.
      let at = has_place streams s stream.0 (omega (arith, stream.1, count)) in
      let there = has_place others s stream.0 (omega (arith, stream.1, other_count)) in
      let says = has_place reports s stream.0 (omega (arith, stream.1, count, many)) in
      let also = has_place other_reports s stream.0 (omega (arith, stream.1, other_count, other_many)) in
      (both s at.0 there.0 says.0 also.0 at.1 there.1 says.1 also.1).0)
      a.order.within b.order.within a.order.legal.events b.order.legal.events a.turns b.turns

  pub reports_same : reports ≡ other_reports
  reports_same = same_for_each reports other_reports (many ∙ count ∙ sym other_count ∙ sym other_many)
      (λ s report other_report says also.
      let first = says.0 in
      let within = slice_get_within reports (s - 1) report says.1 in
      let at = has_place streams s first (omega (arith, within, many, first)) in
      let there = has_place others s first (omega (arith, within, many, count, other_count, first)) in
      let twice = both s at.0 there.0 report other_report at.1 there.1 says also in
      let j = twice.0 in
      let same = one (stream_params run_params s) j.bytes j.end (blocks_of s a.order.blocks) (blocks_of s b.order.blocks) j.report j.other
      (ap (λ bs. joined (blocks_of s bs)) orders_same) j.first j.second j.memory j.none in
      sym twice.1 ∙ same.1 ∙ twice.2)

pub bytes_decide : DecidedBeforeFailure → OneReport → LegalNeverFork → BlocksGoAlike → BytesDecide
bytes_decide decided one forks alike f run_params observed other_observed reports other_reports same x y a b fine good =
    let streams = x.streams in
    let others = y.streams in
    let many : length streams ≡ run_params.layout.streams = x.count in
    let other_many : length others ≡ run_params.layout.streams = y.count in
    let count : length observed ≡ run_params.layout.streams = sym (observed_count observed streams x.match_inputs) ∙ many in
    let other_count : length other_observed
    ≡ run_params.layout.streams = sym (observed_count other_observed others y.match_inputs) ∙ other_many in
    reports_same alike forks one f run_params streams others reports other_reports a b
    (λ s stream other report other_report at there says also.
    let first = at.0 in
    let c = stream_params run_params s in
    let within = slice_get_within streams (s - 1) stream at.1 in
    let here = has_place observed s first (omega (arith, within, many, count, first)) in
    let near = has_place other_observed s first (omega (arith, within, many, other_count, first)) in
    let bytes = same s here.0 near.0 here.1 near.1 in
    let is = observed_at observed streams s here.0 stream x.match_inputs here.1 at in
    let was = observed_at other_observed others s near.0 other y.match_inputs near.1 there in
    let mine = fine s report refl says in
    let theirs = good s other_report refl also in (
      record {
        bytes = bytes.0;
        end = stream_ends.Ended;
        report = report;
        other = other_report;
        first = judged_to decided c stream.end stream.bytes stream.unneeded bytes.0 here.0.left here.0.has_failed
            (blocks_of s a.order.blocks) report
            (subst (λ (e : Option (List ℕ)). Consumes e here.0.left (stream.bytes ++ stream.unneeded)) bytes.1 is.consumes) is.ends
            is.needed (fine_failure report mine)
            (own_at run_params (λ t. blocks_of t a.order.blocks) s streams reports stream report a.order.judged at says);
        second = judged_to decided c other.end other.bytes other.unneeded bytes.0 near.0.left near.0.has_failed
            (blocks_of s b.order.blocks) other_report
            (subst (λ (e : Option (List ℕ)). Consumes e near.0.left (other.bytes ++ other.unneeded)) bytes.2 was.consumes) was.ends
            was.needed (fine_failure other_report theirs)
            (own_at run_params (λ t. blocks_of t b.order.blocks) s others other_reports other other_report b.order.judged there also);
        memory = fine_memory report mine;
        none = fine_memory other_report theirs;
      },
      refl,
      refl,
    ))
