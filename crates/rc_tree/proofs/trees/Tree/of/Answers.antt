use Rattle.std.proofs.Common.{◌≡◌, None, sym, subst}
use Rattle.rc_tree.specs.Trees.{IsMeasured, IsTreeOf, IsFaultOf, rc_fault}
use Rattle.rc_tree.specs.Numbering.{numbered}
use Rattle.rc_tree.specs.Founded.{told_of}
use Rattle.rc_tree.proofs.trees.Tree.of.Goals as goal

pub wires_and_load-requires-clause-measured : goal.wires_and_load-requires-clause-measured
wires_and_load-requires-clause-measured c = subst (IsMeasured c.args.net.now c.args.root.now) (sym c.as_slice-pins.ensures) c.requires

pub returns-in-Ok-clause-fine : goal.returns-in-Ok-clause-fine
returns-in-Ok-clause-fine c = subst (λ ps. rc_fault c.args.net.now c.args.root.now ps ≡ None) c.as_slice-pins.ensures c.in-Ok.ensures.fine

pub returns-in-Ok-clause-tree : goal.returns-in-Ok-clause-tree
returns-in-Ok-clause-tree c =
    subst (λ ps. IsTreeOf c.args.net.now c.args.root.now ps (told_of (numbered c.in_ok-nodes.nodes) c.in-Ok.found.wires c.in-Ok.found.load.0)) c.as_slice-pins.ensures c.in-Ok.ensures.tree

pub returns-in-Err-clause-fault : goal.returns-in-Err-clause-fault
returns-in-Err-clause-fault c = subst (λ ps. IsFaultOf c.args.net.now c.args.root.now ps c.in-Err.fault) c.as_slice-pins.ensures c.in-Err.ensures.fault
