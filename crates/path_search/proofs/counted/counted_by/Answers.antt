use Rattle.std.proofs.Common.{Option, FitsSigned, subst}
use Rattle.std.proofs.lemmas.Int.{to_z-of_z}
use Rattle.timing_defs.specs.Kinds.{data_split}
use Rattle.path_search.specs.declared.launches.LaunchNode.{LaunchNode}
use Rattle.path_search.specs.Slacks.{MayLaunch}
use Rattle.path_search.proofs.EndLaws.{rows_fine}
use Rattle.path_search.proofs.CountForms.{launch_there}
use Rattle.path_search.proofs.counted.counted_by.Goals as goal
use mir.Syntax.{w64}

pub launch_node-requires-clause-range : goal.launch_node-requires-clause-range
launch_node-requires-clause-range g c = rows_fine c.args.sources.now.store.now.design c.requires.sources.none

pub count_test-requires-clause-offer : goal.count_test-requires-clause-offer
count_test-requires-clause-offer g c =
    let fits : FitsSigned w64 c.args.offer = c.ranges.offer in
    simp to_z-of_z c.requires.offer

pub unreachable-requires : goal.unreachable-requires
unreachable-requires g c =
    launch_there c.args.sources.now.graph.now c.args.sources.now.store.now c.requires.sources.graph c.laws.ensures.numbered c.laws.ensures.linked c.args.sources.now.kind
    c.args.launch c.args.end c.args.offer c.requires.there c.requires.offer
    (subst (λ (o : Option LaunchNode). MayLaunch c.args.sources.now.graph.now (data_split c.args.sources.now.kind) c.args.launch o) c.in-None.is c.in_ok-told.ensures)

pub returns-clause-counted : goal.returns-clause-counted
returns-clause-counted g c =
    let fits : FitsSigned w64 c.args.offer = c.ranges.offer in
    simp to_z-of_z at c.count_test.ensures.counted
