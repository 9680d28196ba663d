use Rattle.std.proofs.Common.{rules, FitsSigned, w64}
use Rattle.std.proofs.lemmas.Int.{to_z-of_z}
use Rattle.path_search.proofs.TimeSteps.{no_delay_as, some_delay_as, value_as, bound_as}
use Rattle.path_search.proofs.shown.time_after.Goals as goal

pub with_delay-requires-clause-delay : goal.with_delay-requires-clause-delay
with_delay-requires-clause-delay c =
    let f : FitsSigned w64 c.in-Some.delay = search rules in
    simp to_z-of_z
    (some_delay_as c.args.cone.now c.args.from c.args.to c.requires.arc c.requires.cone c.requires.to _ c.arcs_at-arcs.ensures c.in-Some.delay c.in-Some.ensures).within

pub unreachable-requires : goal.unreachable-requires
unreachable-requires c = no_delay_as c.args.cone.now c.args.from c.args.to c.requires.arc _ c.arcs_at-arcs.ensures c.in-None.ensures

pub returns-clause-value : goal.returns-clause-value
returns-clause-value c =
    let f : FitsSigned w64 c.in-Some.delay = search rules in
    let t : FitsSigned w64 c.args.time = search rules in
    let r : FitsSigned w64 c.with_delay.result = search rules in
    let sum = simp to_z-of_z at c.with_delay.ensures in
    simp to_z-of_z
    (value_as c.args.kind c.args.cone.now c.args.time c.in-Some.delay c.with_delay.result c.args.from c.args.to
    (some_delay_as c.args.cone.now c.args.from c.args.to c.requires.arc c.requires.cone c.requires.to _ c.arcs_at-arcs.ensures c.in-Some.delay c.in-Some.ensures) sum)

pub returns-clause-bound : goal.returns-clause-bound
returns-clause-bound c =
    let f : FitsSigned w64 c.in-Some.delay = search rules in
    let t : FitsSigned w64 c.args.time = search rules in
    let r : FitsSigned w64 c.with_delay.result = search rules in
    let sum = simp to_z-of_z at c.with_delay.ensures in
    simp to_z-of_z
    (bound_as c.args.kind c.args.cone.now c.args.time c.in-Some.delay c.with_delay.result c.args.from c.args.to c.requires.cone
    (some_delay_as c.args.cone.now c.args.from c.args.to c.requires.arc c.requires.cone c.requires.to _ c.arcs_at-arcs.ensures c.in-Some.delay c.in-Some.ensures) c.requires.time sum)
