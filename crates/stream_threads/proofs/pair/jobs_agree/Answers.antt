use Rattle.std.proofs.Common.{List, [], ℕ, Some, refl, sym, subst, append-nil}
use Rattle.std.specs.Io.KnownBytes.{Consumes}
use Rattle.lrup_text.specs.declared.device.StreamEnd.{StreamEnd}
use Rattle.stream_check.specs.Judging.{JudgesBlocks}
use Rattle.stream_check.specs.lemmas.StreamLemmas.{judged_out}
use Rattle.stream_threads.specs.Judged.{DropsBy}
use Rattle.stream_threads.proofs.pair.jobs_agree.Goals as goal

-- what was sent is what the reader delivered and its reads gave
pub returns-clause-read : goal.returns-clause-read
returns-clause-read g c first sent = (
  record { bytes = sent.bytes; unneeded = []; end = Some sent.end },
  refl,
  (
    record {
      consumes = subst (Consumes _ _) (sym (append-nil sent.bytes)) sent.known;
      ends = sent.ends;
      needed = λ out. refl;
    },
    sent.read,
  ),
)

pub returns-clause-judged : goal.returns-clause-judged
returns-clause-judged g c first v room blocks dropped report sent marked fresh =
    let same = c.halves_agree.ensures.same sent.bytes marked.bytes sent.end marked.end sent.sent marked.marked in (
      record { bytes = sent.bytes; unneeded = []; end = Some sent.end },
      refl,
      (
        record {
          consumes = subst (Consumes _ _) (sym (append-nil sent.bytes)) sent.known;
          ends = sent.ends;
          needed = λ out. refl;
        },
        sent.read,
      ),
      judged_out v.params sent.bytes [] sent.end blocks report
          (subst (λ (end : StreamEnd). JudgesBlocks v.params sent.bytes end blocks report) same.1
          (subst (λ (bytes : List ℕ). JudgesBlocks v.params bytes marked.end blocks report) same.0 (marked.judged fresh))),
      subst (λ (bytes : List ℕ). DropsBy v room bytes blocks dropped report) same.0 marked.dropped,
    )
