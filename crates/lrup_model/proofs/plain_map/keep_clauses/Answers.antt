use Rattle.std.proofs.Common.{arith, ◌≡◌, ◌<◌, [], length, get_or, take, ap, ◌∙◌}
use Rattle.lrup_model.specs.internal.PlainInside.{flat}
use Rattle.lrup_model.specs.lemmas.HistoryLemmas.{clause_at-suc}
use Rattle.lrup_model.proofs.OpeningLemmas.{stored_more, stored_fits}
use Rattle.lrup_model.proofs.plain_map.keep_clauses.Goals as goal

pub overflow_cast-start : goal.overflow_cast-start
overflow_cast-start c =
    let within : c.loop-i.i < length c.args.formula.now.clauses = omega arith in
    let size : length c.as_slice.result.now ≡ length (flat (take c.loop-i.i c.args.formula.now.clauses)) =
    ap length (c.as_slice.ensures.value ∙ c.loop-i.invariant.literals) in
    omega (arith, stored_fits c.args.formula.now.clauses c.loop-i.i within, c.requires.small)

pub unreachable-requires : goal.unreachable-requires
unreachable-requires c =
    let within : c.loop-i.i < length c.args.formula.now.clauses = omega arith in
    let size : length c.loop-i.literals.items ≡ length (flat (take c.loop-i.i c.args.formula.now.clauses)) =
    ap length c.loop-i.invariant.literals in
    let clause : length c.clause-clause.result.now ≡ length (get_or c.args.formula.now.clauses c.loop-i.i []) =
    ap length (c.clause-clause.ensures ∙ clause_at-suc c.args.formula.now c.loop-i.i) in
    omega (
      arith,
      stored_fits c.args.formula.now.clauses c.loop-i.i within,
      c.requires.literals,
      c.loop-i.literals.ok.0,
      c.in_default.ensures.full,
      c.loop-i.invariant.capacity,
    )

pub loop-i-preserved : goal.loop-i-preserved
loop-i-preserved c =
    let within : c.loop-i.i < length c.args.formula.now.clauses = omega arith in
    let kept = stored_more c.args.formula.now.clauses c.loop-i.i c.clause-clause.result.now
    (length c.as_slice.result.now) c.loop-i.literals.items c.extend_from_slice.new.self.items
    c.loop-i.entries.items c.push_reserved.new.self.items c.args.entries.now.items within
    (c.clause-clause.ensures ∙ clause_at-suc c.args.formula.now c.loop-i.i) c.loop-i.invariant.literals
    (ap length c.as_slice.ensures.value) c.in-Ok.ensures.items
    c.loop-i.invariant.entries c.push_reserved.ensures.items in
    record {
      entries = kept.0;
      literals = kept.1;
      count = omega (arith, c.push_reserved.ensures.len, c.loop-i.invariant.count);
      room = c.push_reserved.ensures.capacity ∙ c.loop-i.invariant.room;
      capacity = omega (arith, c.extend_from_slice.ensures.capacity, c.loop-i.invariant.capacity);
    }
