use Rattle.run_laws.proofs.ValidTurns.{valid_round_robin as lemma}
use Rattle.run_laws.proofs.turns.valid_round_robin.Goals as goal

pub returns : goal.returns
returns c = lemma c.good_line_taken.ensures c.fresh_left.ensures c.end_judged.ensures
    c.no_bytes_have_no_lines.ensures c.a_stream_is_cut_in_one_way.ensures c.decided_before_failure.ensures c.one_report.ensures
    c.legal_never_fork.ensures c.blocks_go_alike.ensures
