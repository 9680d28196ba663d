use Rattle.rc_tree.specs.Trees.{is_out_of_range}
use Rattle.node_rows.proofs.TreeFaults.{none_out, fault_large}
use Rattle.node_rows.proofs.wire_tables.tree_of.Goals as goal

pub returns-in-Ok-clause-fine : goal.returns-in-Ok-clause-fine
returns-in-Ok-clause-fine c = none_out c.args.net.now c.args.root.now c.args.caps.now c.in-Ok.ensures.fine

pub returns-in-Err-clause-err : goal.returns-in-Err-clause-err
returns-in-Err-clause-err c =
    c.unfit_of.ensures (is_out_of_range c.args.net.now c.args.root.now c.args.caps.now)
    (fault_large c.args.net.now c.args.root.now c.args.caps.now c.requires.acyclic c.requires.reached c.requires.small c.in-Err.fault c.in-Err.ensures.fault)
