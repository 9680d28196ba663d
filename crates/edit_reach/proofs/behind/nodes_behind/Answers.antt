use Rattle.std.proofs.Common.{map, sym, ap, ◌∙◌}
use Rattle.std.specs.Prelude.{nat_eq}
use Rattle.indexmap.specs.IndexSet.{insert_all}
use Rattle.pin_graph.specs.Graphs.{to_of}
use Rattle.edit_reach.proofs.Spreading.{spread_none, spread_more, spread_all, spread_low}
use Rattle.edit_reach.proofs.behind.nodes_behind.Goals as goal

pub loop-at-init : goal.loop-at-init
loop-at-init c = spread_none c.args.graph.now c.args.seeds.now c.in_ok-found.found.keys c.requires c.in_ok-found.ensures

pub returns-in_default : goal.returns-in_default
returns-in_default c =
    spread_all c.args.graph.now c.args.seeds.now c.loop-at.found.keys c.loop-at.at c.loop-at.invariant (sym c.get_index.ensures.key ∙ sym c.in_default.ensures)

pub arcs_out-requires : goal.arcs_out-requires
arcs_out-requires c =
    spread_low c.args.graph.now c.args.seeds.now c.loop-at.found.keys c.loop-at.at c.in-Some.node c.loop-at.invariant (c.in-Some.ensures ∙ c.get_index.ensures.key)

pub loop-at-preserved : goal.loop-at-preserved
loop-at-preserved c =
    spread_more c.args.graph.now c.args.seeds.now c.loop-at.found.keys c.put_targets.new.found.keys c.loop-at.at c.in-Some.node c.laws.ensures
    c.loop-at.invariant (c.in-Some.ensures ∙ c.get_index.ensures.key)
    (c.in_ok-put_targets.ensures ∙ ap (λ arcs. insert_all nat_eq c.loop-at.found.keys (map to_of arcs)) c.arcs_out.ensures)
