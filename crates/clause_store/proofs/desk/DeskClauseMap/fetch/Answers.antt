use Rattle.lrup_model.specs.Replies.{reply_of}
use Rattle.lrup_model.specs.Pass.{pass_caller_view}
use Rattle.lrup_model.specs.lemmas.PassLemmas.{pass_fetches, fair_follows}
use Rattle.clause_store.proofs.desk.DeskClauseMap.fetch.Goals as goal

pub returns-clause-own : goal.returns-clause-own
returns-clause-own c =
    let old = c.args.self.now.pass.view in
    let new = c.fetch.new.pass.view in
    (pass_fetches old new c.fetch.ensures.calls.last.0 c.args.id
    (reply_of (pass_caller_view new) c.fetch.result) c.fetch.ensures.calls.moves c.fetch.ensures.calls.last.1).0

pub returns-clause-formula : goal.returns-clause-formula
returns-clause-formula c =
    let old = c.args.self.now.pass.view in
    let new = c.fetch.new.pass.view in
    (pass_fetches old new c.fetch.ensures.calls.last.0 c.args.id
    (reply_of (pass_caller_view new) c.fetch.result) c.fetch.ensures.calls.moves c.fetch.ensures.calls.last.1).1

pub returns-clause-follow : goal.returns-clause-follow
returns-clause-follow c = fair_follows c.fetch.new.pass.view c.fetch.ensures.calls.fair
