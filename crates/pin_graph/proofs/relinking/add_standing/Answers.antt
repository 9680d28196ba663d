use Rattle.std.proofs.Common.{get_or}
use Rattle.std.proofs.lemmas.List.{get_or_default}
use Rattle.timing_defs.specs.declared.kinds.ArcKind.TheVariants.{Comb}
use Rattle.timing_defs.specs.declared.kinds.Tran.TheVariants.{Rise}
use Rattle.pin_graph.specs.declared.pin_arcs.PinArc.{PinArc}
use Rattle.pin_graph.specs.Relinking.{standing_into}
use Rattle.pin_graph.proofs.ArcLaws.{mapped_more}
use Rattle.pin_graph.proofs.relinking.add_standing.Goals as goal

pub loop-arc-preserved : goal.loop-arc-preserved
loop-arc-preserved c =
    let d : PinArc = record { from = 0; from_tran = Rise; to = 0; to_tran = Rise; kind = Comb } in
    mapped_more (standing_into c.args.network.now c.args.node) c.args.arcs.now c.loop-arc.arcs c.add_arc.new.arcs c.args.library.now c.loop-arc.arc-index (get_or c.args.library.now c.loop-arc.arc-index d)
    c.standing_into.result c.loop-arc-test.true (get_or_default c.args.library.now c.loop-arc.arc-index d _ c.loop-arc-test.true) c.standing_into.ensures c.loop-arc.invariant c.in_ok-add_arc.ensures
