use Rattle.run_laws.proofs.AnyRunLemmas.{valid_in_any_run as lemma}
use Rattle.run_laws.proofs.valid.valid_in_any_run.Goals as goal

pub returns : goal.returns
returns c = lemma c.bytes_begin_with_one_line.ensures c.a_refused_text_holds_no_line.ensures
    c.a_text_has_one_fault.ensures
    c.no_bytes_may_become_a_line.ensures c.cited_fetched.ensures
