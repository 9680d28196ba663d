use Rattle.path_search.proofs.NumberNames.{name_of_number}
use Rattle.path_search.proofs.shown.path_node.Goals as goal

pub returns-clause-name : goal.returns-clause-name
returns-clause-name c =
    name_of_number c.args.store.now c.laws.ensures.numbered c.laws.ensures.linked c.args.node c.requires c.pin_name.result.now c.pin_name.ensures c.in_ok-pin.pin c.in_ok-pin.ensures
    c.tran_of.result c.tran_of.ensures
