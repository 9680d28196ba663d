use Rattle.std.proofs.Common.{◌∙◌}
use Rattle.pin_graph.proofs.NodesAfter.{wrong_low, wrong_settled, its_rule}
use Rattle.pin_graph.proofs.replacing.levels_after.Goals as goal

pub settled_again-requires-clause-rule : goal.settled_again-requires-clause-rule
settled_again-requires-clause-rule c =
    its_rule c.args.base.now c.args.store.now _ c.args.tables.now c.requires.edited c.args.dirty.now c.requires.dirty c.args.network.now c.args.both.now.ins c.args.both.now.outs c.requires.relinked
    c.as_slice.result.now (c.as_slice.ensures ∙ c.in_ok-nodes.ensures) c.args.pin_levels.now c.requires.pin_levels

pub settled_again-requires-clause-wrong : goal.settled_again-requires-clause-wrong
settled_again-requires-clause-wrong c =
    wrong_low c.args.base.now c.args.store.now _ c.args.tables.now c.requires.edited c.args.dirty.now c.requires.dirty c.args.network.now c.args.both.now.ins c.args.both.now.outs c.requires.relinked
    c.as_slice.result.now (c.as_slice.ensures ∙ c.in_ok-nodes.ensures)

pub settled_again-requires-clause-settled : goal.settled_again-requires-clause-settled
settled_again-requires-clause-settled c =
    wrong_settled c.args.base.now c.args.store.now _ c.args.tables.now c.requires.edited c.args.dirty.now c.requires.dirty c.args.network.now c.args.both.now.ins c.args.both.now.outs c.requires.relinked
    c.as_slice.result.now (c.as_slice.ensures ∙ c.in_ok-nodes.ensures)
