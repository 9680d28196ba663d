use Rattle.rc_tree.specs.Trees.{IsFaultOf}
use Rattle.rc_tree.specs.Numbering.{numbered}
use Rattle.rc_tree.proofs.Nets.{passed_up, unreached_fault, large_fault, total_fault}
use Rattle.rc_tree.proofs.trees.load_of.Goals as goal

pub checked_load-requires-clause-resistances : goal.checked_load-requires-clause-resistances
checked_load-requires-clause-resistances c = c.requires.measured.resistances

pub checked_load-requires-clause-lump : goal.checked_load-requires-clause-lump
checked_load-requires-clause-lump c = c.requires.measured.lump

pub checked_load-requires-clause-amounts : goal.checked_load-requires-clause-amounts
checked_load-requires-clause-amounts c = c.requires.measured.caps

pub returns-in_err-check_reached-clause-fault : goal.returns-in_err-check_reached-clause-fault
returns-in_err-check_reached-clause-fault c =
    passed_up c.from_residual.result c.in_err-check_reached.field-0.0 (IsFaultOf c.args.net.now c.args.root.now c.args.pins.now) c.from_residual.ensures.1
    (unreached_fault c.args.net.now c.args.root.now c.args.pins.now (numbered c.args.nodes.now) c.args.forest.now c.requires.joined c.requires.apart c.requires.first c.requires.found c.in_err-check_reached.field-0.0 c.requires.acyclic c.in_err-check_reached.ensures.err)

pub returns-in_err-check_size-clause-fault : goal.returns-in_err-check_size-clause-fault
returns-in_err-check_size-clause-fault c =
    passed_up c.from_residual-in_err-check_size.result c.in_err-check_size.field-0.0 (IsFaultOf c.args.net.now c.args.root.now c.args.pins.now) c.from_residual-in_err-check_size.ensures.1
    (large_fault c.args.net.now c.args.root.now c.args.pins.now (numbered c.args.nodes.now) c.args.forest.now c.requires.joined c.requires.apart c.requires.first c.requires.found c.in_err-check_size.field-0.0 c.requires.acyclic c.in_ok-check_reached.ensures.fine c.in_err-check_size.ensures.err)

pub returns-in_err-load-clause-fault : goal.returns-in_err-load-clause-fault
returns-in_err-load-clause-fault c =
    passed_up c.from_residual-in_err-load.result c.in_err-load.field-0.0 (IsFaultOf c.args.net.now c.args.root.now c.args.pins.now) c.from_residual-in_err-load.ensures.1
    (total_fault c.args.net.now c.args.root.now c.args.pins.now (numbered c.args.nodes.now) c.args.forest.now c.requires.joined c.requires.apart c.requires.first c.requires.found c.in_err-load.field-0.0 c.requires.acyclic c.in_ok-check_reached.ensures.fine c.in_ok-check_size.ensures.fine c.in_err-load.ensures.err)

pub returns-clause-passed : goal.returns-clause-passed
returns-clause-passed c = record {
  reached = c.in_ok-check_reached.ensures.fine;
  few = c.in_ok-check_size.ensures.fine;
  total = c.in_ok-load.ensures.load.0;
  low = c.in_ok-load.ensures.load.1;
  fine = c.in_ok-load.ensures.fine;
}
