use Rattle.std.proofs.Common.{get_or}
use Rattle.std.proofs.lemmas.List.{get_or_default}
use Rattle.timing_defs.specs.declared.kinds.ArcKind.TheVariants.{Comb}
use Rattle.timing_defs.specs.declared.kinds.Tran.TheVariants.{Rise}
use Rattle.pin_graph.specs.declared.pin_arcs.PinArc.{PinArc}
use Rattle.pin_graph.specs.Networks.{edge_from}
use Rattle.pin_graph.proofs.ArcLaws.{first_mapped_more}
use Rattle.pin_graph.proofs.networks.edge_pins.Goals as goal

pub loop-arc-preserved : goal.loop-arc-preserved
loop-arc-preserved c =
    let d : PinArc = record { from = 0; from_tran = Rise; to = 0; to_tran = Rise; kind = Comb } in
    first_mapped_more edge_from c.loop-arc.pins c.add_number.new.numbers c.args.arcs.now c.loop-arc.arc-index (get_or c.args.arcs.now c.loop-arc.arc-index d) c.edge_from.result
    c.loop-arc-test.true (get_or_default c.args.arcs.now c.loop-arc.arc-index d _ c.loop-arc-test.true) c.edge_from.ensures c.loop-arc.invariant c.in_ok-add_number.ensures
