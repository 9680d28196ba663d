use Rattle.std.proofs.Common.{get_or}
use Rattle.std.proofs.lemmas.List.{get_or_default}
use Rattle.timing_defs.specs.declared.kinds.ArcKind.TheVariants.{Comb}
use Rattle.timing_defs.specs.declared.kinds.Tran.TheVariants.{Rise}
use Rattle.pin_graph.specs.declared.pin_arcs.PinArc.{PinArc}
use Rattle.pin_graph.specs.Joins.{net_links}
use Rattle.pin_graph.specs.Networks.{comb_link}
use Rattle.pin_graph.proofs.ArcLaws.{mapped_more}
use Rattle.pin_graph.proofs.networks.network_links.Goals as goal

pub loop-arc-preserved : goal.loop-arc-preserved
loop-arc-preserved c =
    let d : PinArc = record { from = 0; from_tran = Rise; to = 0; to_tran = Rise; kind = Comb } in
    mapped_more comb_link (net_links c.args.store.now) c.loop-arc.links c.add_link.new.links c.args.arcs.now c.loop-arc.arc-index (get_or c.args.arcs.now c.loop-arc.arc-index d) c.comb_link.result
    c.loop-arc-test.true (get_or_default c.args.arcs.now c.loop-arc.arc-index d _ c.loop-arc-test.true) c.comb_link.ensures c.loop-arc.invariant c.in_ok-add_link.ensures
