use Rattle.rc_tree.specs.Trees.{IsFaultOf}
use Rattle.rc_tree.specs.Numbering.{numbered}
use Rattle.rc_tree.proofs.Nets.{passed_up, delay_fault, limited, tree_told, wires_size, no_fault}
use Rattle.rc_tree.proofs.trees.wires_of.Goals as goal

pub weights-requires-clause-amounts : goal.weights-requires-clause-amounts
weights-requires-clause-amounts c = c.requires.founded.measured.caps

pub wires-requires : goal.wires-requires
wires-requires c =
    limited c.args.net.now c.args.root.now c.args.pins.now (numbered c.args.nodes.now) c.args.forest.now c.requires.founded.joined c.requires.founded.apart c.requires.founded.first c.requires.founded.found c.requires.founded.measured c.requires.passed.reached c.requires.passed.few c.args.load c.requires.passed.total c.requires.passed.low c.in_ok-weights.weights.items c.in_ok-weights.ensures.len c.in_ok-weights.ensures.weighed

pub returns-in_err-wires-clause-fault : goal.returns-in_err-wires-clause-fault
returns-in_err-wires-clause-fault c =
    passed_up c.from_residual-in_err-wires.result c.in_err-wires.field-0.0 (IsFaultOf c.args.net.now c.args.root.now c.args.pins.now) c.from_residual-in_err-wires.ensures.1
    (delay_fault c.args.net.now c.args.root.now c.args.pins.now (numbered c.args.nodes.now) c.args.forest.now c.requires.founded.joined c.requires.founded.apart c.requires.founded.first c.requires.founded.found c.requires.founded.measured c.requires.passed.reached c.requires.passed.few c.args.load c.requires.passed.total c.requires.passed.low c.in_ok-weights.weights.items c.in_ok-weights.ensures.len c.in_ok-weights.ensures.weighed c.in_err-wires.field-0.0 c.requires.founded.acyclic c.in_err-wires.ensures.err)

pub returns-clause-fine : goal.returns-clause-fine
returns-clause-fine c =
    no_fault c.args.net.now c.args.root.now c.args.pins.now (numbered c.args.nodes.now) c.args.forest.now c.requires.founded.joined c.requires.founded.apart c.requires.founded.first c.requires.founded.found c.requires.founded.measured c.requires.passed.reached c.requires.passed.few c.args.load c.requires.passed.total c.requires.passed.low c.in_ok-weights.weights.items c.in_ok-weights.ensures.len c.in_ok-weights.ensures.weighed c.in_ok-wires.wires c.in_ok-wires.ensures.wires c.requires.founded.acyclic c.requires.passed.fine

pub returns-clause-tree : goal.returns-clause-tree
returns-clause-tree c =
    tree_told c.args.net.now c.args.root.now c.args.pins.now (numbered c.args.nodes.now) c.args.forest.now c.requires.founded.joined c.requires.founded.apart c.requires.founded.first c.requires.founded.found c.requires.founded.measured c.requires.passed.reached c.requires.passed.few c.args.load c.requires.passed.total c.requires.passed.low c.in_ok-weights.weights.items c.in_ok-weights.ensures.len c.in_ok-weights.ensures.weighed c.in_ok-wires.wires c.in_ok-wires.ensures.wires

pub returns-clause-size : goal.returns-clause-size
returns-clause-size c =
    wires_size c.args.net.now c.args.root.now c.args.pins.now (numbered c.args.nodes.now) c.args.forest.now c.requires.founded.joined c.requires.founded.apart c.requires.founded.first c.requires.founded.found c.requires.founded.measured c.requires.passed.reached c.requires.passed.few c.args.load c.requires.passed.total c.requires.passed.low c.in_ok-weights.weights.items c.in_ok-weights.ensures.len c.in_ok-weights.ensures.weighed c.in_ok-wires.wires c.in_ok-wires.ensures.wires
