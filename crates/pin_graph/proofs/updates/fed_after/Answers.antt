use Rattle.pin_graph.proofs.AfterLaws.{fed_rule2, fed_few, fed_wrong, fed_flagged, ok_some}
use Rattle.pin_graph.proofs.updates.fed_after.Goals as goal

pub settled_again-requires-clause-rule : goal.settled_again-requires-clause-rule
settled_again-requires-clause-rule c = fed_rule2 c.args.base.now c.args.store.now _ c.args.tables.now c.requires.edited c.args.dirty.now c.requires.dirty

pub settled_again-requires-clause-few : goal.settled_again-requires-clause-few
settled_again-requires-clause-few c = fed_few c.args.base.now c.args.store.now _ c.args.tables.now c.requires.edited c.args.dirty.now c.requires.dirty

pub settled_again-requires-clause-settled : goal.settled_again-requires-clause-settled
settled_again-requires-clause-settled c = fed_wrong c.args.base.now c.args.store.now _ c.args.tables.now c.requires.edited c.args.dirty.now c.requires.dirty

pub returns : goal.returns
returns c = ok_some c.settled_again.result (fed_flagged c.args.base.now c.args.store.now _ c.args.tables.now c.requires.edited c.args.dirty.now c.requires.dirty) c.settled_again.ensures
