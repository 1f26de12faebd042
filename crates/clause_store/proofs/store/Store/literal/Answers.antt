use Rattle.clause_store.proofs.LiteralsRead.{place_read, code_read, literal_read}
use Rattle.clause_store.proofs.store.Store.literal.Goals as goal

pub word-requires-clause-within : goal.word-requires-clause-within
word-requires-clause-within c =
    place_read c.pass.inside.seat c.pass.inside.stream c.args.pass.now c.args.clip.now c.args.k c.place_of-place.result
    c.pass.invariant c.pass.view_is c.requires.known c.place_of-place.ensures c.requires.within

pub lit-requires-clause-code : goal.lit-requires-clause-code
lit-requires-clause-code c =
    code_read c.pass.inside.seat c.pass.inside.stream c.args.pass.now c.args.clip.now c.args.k c.place_of-place.result
    c.pass.invariant c.pass.view_is c.requires.known c.place_of-place.ensures c.requires.within c.word.result c.word.ensures.text

pub returns-clause-value : goal.returns-clause-value
returns-clause-value c =
    literal_read c.pass.inside.seat c.pass.inside.stream c.args.pass.now c.args.clip.now c.args.k c.place_of-place.result
    c.pass.invariant c.pass.view_is c.requires.known c.place_of-place.ensures c.requires.within c.word.result c.lit.result
    c.word.ensures.text c.lit.ensures
