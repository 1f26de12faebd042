-- What a report says about a cube.
use Rattle.std.proofs.Common.{◌∙◌, ℕ, Bool, sym, ap}
use Rattle.std.specs.List.{list_any}
use Rattle.std.proofs.lemmas.List.Folds.{Any-from_list_any, list_any-from_Any}
use Rattle.lrup_model.specs.Clause.{Clause}
use Rattle.lrup_model.specs.Cube.{CubeValue}
use Rattle.stream_check.specs.StreamContext.{additions_of, is_within}
use Rattle.stream_check.specs.lemmas.CubeLemmas.{is_within-decides}
use Rattle.stream_check.specs.Laws.{WithinReported, EmptyCubeReported}
use Rattle.stream_check.specs.lemmas.ReportLemmas.{said_within, said_empty, all_only_empty}

pub within_reported : WithinReported
within_reported c bytes end blocks report j =
    let said = said_within c j.lines j.rest end j.back report j.ends in
    let test : ℕ × Clause → Bool = λ a. is_within c.cube a.1 in (
      (λ is.
          let some = Any-from_list_any test (additions_of j.lines) (sym said ∙ is) in
          (some.0, some.1, some.2, some.3, (is_within-decides c.cube some.1.1).0 some.4)),
      (λ some. said
          ∙ list_any-from_Any test (additions_of j.lines) (some.0, some.1, some.2, some.3, (is_within-decides c.cube some.1.1).1 some.4)),
    )

pub empty_cube_reported : EmptyCubeReported
empty_cube_reported c bytes end blocks report none j =
    said_within c j.lines j.rest end j.back report j.ends
    ∙ ap (λ (cube : CubeValue). list_any (λ (a : ℕ × Clause). is_within cube a.1) (additions_of j.lines)) none
    ∙ all_only_empty (additions_of j.lines)
    ∙ sym (said_empty c j.lines j.rest end j.back report j.ends)
