use Rattle.std.proofs.Common.{ℕ, ◌<◌, List, sym, subst}
use Rattle.std.specs.Prelude.{All}
use Rattle.netlist_store.specs.Numbering.{Stored, IsNumbered}
use Rattle.netlist_store.specs.Applying.{IsEditOf}
use Rattle.pin_graph.specs.Nodes.{node_bound}
use Rattle.edit_reach.proofs.FromSeeds.{has_seeds}
use Rattle.path_search.specs.Trees.{IsClockTree}
use Rattle.required_engine.specs.Updated.{touch_of}
use Rattle.affected_cone.specs.Updated.{IsNetworkLeft}
use Rattle.affected_cone.proofs.TreeKept.{all_below, tree_left, same_ok}
use Rattle.affected_cone.proofs.updating.tree_after.Goals as goal

pub keeps_network-requires : goal.keeps_network-requires
keeps_network-requires c =
    subst (λ (xs : List ℕ). All (λ n. n < node_bound c.args.graph.now.stored) xs) (sym c.as_slice.ensures.keys)
    (all_below (node_bound c.args.graph.now.stored) c.args.reach.now.nodes.keys c.requires.reach.behind.below)

pub returns-then-keeps_network : goal.returns-then-keeps_network
returns-then-keeps_network c =
    let num = subst (λ (s : Stored). IsNumbered s) c.store.ensures c.laws-3.ensures.numbered in
    let num2 = subst (λ (s : Stored). IsNumbered s) c.store-2.ensures c.laws-4.ensures.numbered in
    let made = subst (λ (s : Stored). IsEditOf c.args.base.now.graph.now.stored (touch_of c.args.touched.now) s) (sym c.requires.graph) c.requires.made in
    let left =
    subst (λ (xs : List ℕ). IsNetworkLeft c.args.base.now.graph.now c.args.graph.now xs) c.as_slice.ensures.keys (c.keeps_network.ensures c.if-keeps_network.true) in
    same_ok (IsClockTree c.args.graph.now) c.share.result c.args.base.now.tree.now
    (tree_left c.args.base.now.graph.now c.args.graph.now _ made num num2 c.laws.ensures c.laws-2.ensures c.args.reach.now.seeds c.args.reach.now.nodes.keys
    (has_seeds _ _ _ c.args.reach.now.seeds c.requires.reach.seeds) c.requires.reach.behind left c.args.base.now.tree.now c.requires.base.tree)
    c.share.ensures
