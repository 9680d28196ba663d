use Rattle.pin_graph.proofs.AfterLaws.{levels_rule2, levels_few, levels_wrong, levels_found, some_in}
use Rattle.pin_graph.proofs.updates.pin_levels_after.Goals as goal

pub settled_again-requires-clause-rule : goal.settled_again-requires-clause-rule
settled_again-requires-clause-rule c = levels_rule2 c.args.base.now c.args.store.now _ c.args.tables.now c.requires.edited c.args.dirty.now c.requires.dirty

pub settled_again-requires-clause-few : goal.settled_again-requires-clause-few
settled_again-requires-clause-few c = levels_few c.args.base.now c.args.store.now _ c.args.tables.now c.requires.edited c.args.dirty.now c.requires.dirty

pub settled_again-requires-clause-settled : goal.settled_again-requires-clause-settled
settled_again-requires-clause-settled c = levels_wrong c.args.base.now c.args.store.now _ c.args.tables.now c.requires.edited c.args.dirty.now c.requires.dirty

pub returns-in-Some : goal.returns-in-Some
returns-in-Some c =
    levels_found c.args.base.now c.args.store.now _ c.args.tables.now c.requires.edited c.args.dirty.now c.requires.dirty c.in-Some.found
    (some_in c.in_ok-found.field-0 c.in-Some.found _ c.in-Some.is c.in_ok-found.ensures)
