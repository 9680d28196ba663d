use Rattle.std.proofs.Common.{rules, FitsSigned, w64, to_z}
use Rattle.std.proofs.lemmas.Int.{to_z-of_z}
use Rattle.path_search.proofs.TimeSteps.{added_none, added_as}
use Rattle.path_search.proofs.shown.add_rest.Goals as goal

pub loop-next-init : goal.loop-next-init
loop-next-init c =
    let f : FitsSigned w64 c.args.start = search rules in
    simp to_z-of_z (added_none c.args.store.now c.args.kind c.args.search.now c.args.first c.args.rest.now c.args.start c.args.path.now c.requires.cone c.requires.walk c.requires.start)

pub loop-next-preserved : goal.loop-next-preserved
loop-next-preserved c =
    let f : FitsSigned w64 c.args.start = search rules in
    let r : FitsSigned w64 c.time_after-time.result = search rules in
    let before = simp to_z-of_z at c.loop-next.invariant in
    let times = simp to_z-of_z at c.in_ok-add_node.ensures.times in
    simp to_z-of_z
    (added_as c.args.store.now c.args.kind c.args.search.now c.args.first c.args.rest.now c.args.start c.args.path.now c.loop-next.next-index c.loop-next.at (to_z w64 c.loop-next.time-bits) c.loop-next.path
    before c.requires.count c.requires.walk c.loop-next-test.true c.time_after-time.result c.as_slice.result.now c.as_slice.ensures c.add_node.new.path c.time_after-time.ensures.value c.time_after-time.ensures.bound
    c.in_ok-add_node.ensures.names times)
