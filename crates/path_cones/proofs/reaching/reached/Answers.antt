use Rattle.std.proofs.Common.{map, sym, ap, ◌∙◌}
use Rattle.std.specs.Prelude.{nat_eq}
use Rattle.indexmap.specs.IndexSet.{insert_all}
use Rattle.pin_graph.specs.Graphs.{from_of}
use Rattle.path_cones.proofs.Growing.{reaching_none, reaching_more, reaching_all, node_low}
use Rattle.path_cones.proofs.reaching.reached.Goals as goal

pub loop-at-init : goal.loop-at-init
loop-at-init c = reaching_none c.args.graph.now c.args.ends.now c.in_ok-found.found.keys c.requires c.in_ok-found.ensures

pub returns-in_default : goal.returns-in_default
returns-in_default c =
    reaching_all c.args.graph.now c.args.ends.now c.loop-at.found.keys c.loop-at.at c.loop-at.invariant (sym c.get_index.ensures.key ∙ sym c.in_default.ensures)
    c.loop-at-test.true

pub followed-requires : goal.followed-requires
followed-requires c =
    node_low c.args.graph.now c.args.ends.now c.loop-at.found.keys c.loop-at.at c.in-Some.node c.loop-at.invariant (c.in-Some.ensures ∙ c.get_index.ensures.key)

pub loop-at-preserved : goal.loop-at-preserved
loop-at-preserved c =
    reaching_more c.args.graph.now c.args.ends.now c.loop-at.found.keys c.add_sources.new.found.keys c.loop-at.at c.in-Some.node c.laws.ensures
    c.loop-at.invariant (c.in-Some.ensures ∙ c.get_index.ensures.key)
    (c.in_ok-add_sources.ensures ∙ ap (λ arcs. insert_all nat_eq c.loop-at.found.keys (map from_of arcs)) c.followed.ensures.value)
