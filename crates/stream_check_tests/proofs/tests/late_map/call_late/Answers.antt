use Rattle.std.proofs.Common.{[], arith}
use Rattle.lrup_model.specs.Plain.{plain_caller_view}
use Rattle.stream_check_tests.proofs.BesideLemmas.{step_beside, step_then}
use Rattle.stream_check_tests.proofs.tests.late_map.call_late.Goals as goal

pub returns-in-Published : goal.returns-in-Published
returns-in-Published c =
    let called = c.call_second.ensures in
    step_beside c.args.map.now c.call_second.new.map 1 2 called.0 (omega arith) (λ same. omega (arith, same)) called.1

pub returns-in-Retired : goal.returns-in-Retired
returns-in-Retired c =
    let published = c.call_second-in-Retired.new.map in
    let retired = c.call_second-in-Retired-2.new.map in
    let first = c.call_second-in-Retired.ensures in
    let second = c.call_second-in-Retired-2.ensures in
    step_then (plain_caller_view c.args.map.now 1) (plain_caller_view published 1) (plain_caller_view retired 1) []
    (step_beside c.args.map.now published 1 2 first.0 (omega arith) (λ same. omega (arith, same)) first.1)
    (step_beside published retired 1 2 second.0 (omega arith) (λ same. omega (arith, same)) second.1)
