use Rattle.pin_graph.proofs.AfterLaws.{feeds_rule2, feeds_few, feeds_wrong, feeds_flagged, ok_some}
use Rattle.pin_graph.proofs.updates.feeds_after.Goals as goal

pub settled_again-requires-clause-rule : goal.settled_again-requires-clause-rule
settled_again-requires-clause-rule c = feeds_rule2 c.args.base.now c.args.store.now _ c.args.tables.now c.requires.edited c.args.dirty.now c.requires.dirty

pub settled_again-requires-clause-few : goal.settled_again-requires-clause-few
settled_again-requires-clause-few c = feeds_few c.args.base.now c.args.store.now _ c.args.tables.now c.requires.edited c.args.dirty.now c.requires.dirty

pub settled_again-requires-clause-settled : goal.settled_again-requires-clause-settled
settled_again-requires-clause-settled c = feeds_wrong c.args.base.now c.args.store.now _ c.args.tables.now c.requires.edited c.args.dirty.now c.requires.dirty

pub returns : goal.returns
returns c = ok_some c.settled_again.result (feeds_flagged c.args.base.now c.args.store.now _ c.args.tables.now c.requires.edited c.args.dirty.now c.requires.dirty) c.settled_again.ensures
