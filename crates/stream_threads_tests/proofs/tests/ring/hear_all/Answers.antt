use Rattle.std.proofs.Common.{sym}
use Rattle.std.proofs.lemmas.List.{length-take-le}
use Rattle.stream_threads_tests.proofs.tests.ring.hear_all.Goals as goal

pub slice_bounds-hear-end : goal.slice_bounds-hear-end
slice_bounds-hear-end g c = (c.receive.ensures.bytes c.in-Bytes.count c.in-Bytes.is).0

pub slice_bounds-hear-end-in-Mark : goal.slice_bounds-hear-end-in-Mark
slice_bounds-hear-end-in-Mark g c = (c.receive.ensures.mark c.in-Mark.count c.in-Mark.end c.in-Mark.is).0

pub slice_bounds-hear-end-in-Mark-2 : goal.slice_bounds-hear-end-in-Mark-2
slice_bounds-hear-end-in-Mark-2 g c =
    sym (length-take-le c.in-Mark.count c.receive.new.bytes (c.receive.ensures.mark c.in-Mark.count c.in-Mark.end c.in-Mark.is).0)
