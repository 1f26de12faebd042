use Rattle.std.proofs.Common.{◌∙◌, ap}
use Rattle.lrup_model.specs.Cube.{Within}
use Rattle.stream_check.specs.StreamParams.{StreamParams}
use Rattle.stream_check.specs.StreamContext.{is_within}
use Rattle.stream_check.specs.lemmas.CubeLemmas.{is_within-decides, same_test}
use Rattle.stream_check.proofs.params.StreamParams.refutes.Goals as goal

pub returns : goal.returns
returns c =
    let cube = c.self.inside.cube in
    let clause = c.args.clause.now in
    same_test c.refutes.result (is_within cube clause) (Within clause cube) c.refutes.ensures (is_within-decides cube clause)
    ∙ ap (λ (s : StreamParams). is_within s.cube clause) c.self.view_is
