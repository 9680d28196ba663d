use Rattle.std.proofs.Common.{◌∙◌}
use Rattle.pin_graph.proofs.AfterLaws.{some_in}
use Rattle.pin_graph.proofs.NodesAfter.{tables_kept}
use Rattle.pin_graph.proofs.replacing.tables_after.Goals as goal

pub returns : goal.returns
returns c =
    tables_kept c.args.base.now c.args.store.now _ c.args.tables.now c.requires.edited c.args.dirty.now c.requires.dirty c.args.pins c.requires.pins c.requires.off
    c.in_ok-network.network (c.in_ok-network.ensures.count ∙ c.pin_bound.ensures.bound)
    c.in_ok-network.ensures.same
    c.in-Some.nodes
    (some_in c.in_ok-nodes.field-0 c.in-Some.nodes _ c.in-Some.is c.in_ok-nodes.ensures)
    c.tables_of.result c.tables_of.ensures
