use Rattle.std.proofs.Common.{◌<◌, ◌≤◌, ◌^◌, w64, sym, subst, arith}
use Rattle.std.proofs.lemmas.Int.{to_z_pos}
use Rattle.rc_tree.specs.Trees.{IsTreeOf, IsFaultOf}
use Rattle.rc_tree.specs.Numbering.{numbered}
use Rattle.rc_tree.specs.Founded.{told_of}
use Rattle.rc_tree.proofs.Nets.{passed_up, resistors_there, loop_fault}
use Rattle.rc_tree.proofs.trees.wires_and_load.Goals as goal

pub net_forest-requires : goal.net_forest-requires
net_forest-requires c = resistors_there c.args.net.now c.args.root.now c.args.pins.now (numbered c.args.nodes.now) c.requires.joined c.requires.measured

pub load_of-requires : goal.load_of-requires
load_of-requires c = record {
  joined = c.requires.joined;
  apart = c.in_ok-forest.ensures.apart;
  first = c.requires.root;
  found = c.in_ok-forest.ensures.found;
  acyclic = c.in_ok-forest.ensures.acyclic;
  measured = c.requires.measured;
}

pub wires_of-requires-clause-founded : goal.wires_of-requires-clause-founded
wires_of-requires-clause-founded c = record {
  joined = c.requires.joined;
  apart = c.in_ok-forest.ensures.apart;
  first = c.requires.root;
  found = c.in_ok-forest.ensures.found;
  acyclic = c.in_ok-forest.ensures.acyclic;
  measured = c.requires.measured;
}

pub wires_of-requires-clause-passed : goal.wires_of-requires-clause-passed
wires_of-requires-clause-passed c = c.in_ok-load.ensures.passed

pub returns-in_err-forest-clause-fault : goal.returns-in_err-forest-clause-fault
returns-in_err-forest-clause-fault c =
    passed_up c.from_residual.result c.in_err-forest.field-0.0 (IsFaultOf c.args.net.now c.args.root.now c.args.pins.now) c.from_residual.ensures.1
    (loop_fault c.args.net.now c.args.root.now c.args.pins.now c.in_err-forest.field-0.0 c.in_err-forest.ensures.looped)

pub returns-in_err-load-clause-fault : goal.returns-in_err-load-clause-fault
returns-in_err-load-clause-fault c =
    passed_up c.from_residual-in_err-load.result c.in_err-load.field-0.0 (IsFaultOf c.args.net.now c.args.root.now c.args.pins.now) c.from_residual-in_err-load.ensures.1 c.in_err-load.ensures.fault

pub returns-in_err-wires-clause-fault : goal.returns-in_err-wires-clause-fault
returns-in_err-wires-clause-fault c =
    passed_up c.from_residual-in_err-wires.result c.in_err-wires.field-0.0 (IsFaultOf c.args.net.now c.args.root.now c.args.pins.now) c.from_residual-in_err-wires.ensures.1 c.in_err-wires.ensures.fault

pub returns-clause-tree : goal.returns-clause-tree
returns-clause-tree c =
    let low : c.in_ok-load.load < 2 ^ 63 = (let a : c.in_ok-load.load ≤ 10 ^ 12 = c.in_ok-load.ensures.passed.low in omega arith) in
    subst (λ l. IsTreeOf c.args.net.now c.args.root.now c.args.pins.now (told_of (numbered c.args.nodes.now) c.in_ok-wires.wires l)) (sym (to_z_pos w64 c.in_ok-load.load low)) c.in_ok-wires.ensures.tree

pub returns-clause-size : goal.returns-clause-size
returns-clause-size c = c.in_ok-wires.ensures.size

pub returns-clause-few : goal.returns-clause-few
returns-clause-few c =
    let few = c.in_ok-load.ensures.passed.few in
    let size = c.in_ok-wires.ensures.size in
    omega arith
