use Rattle.std.proofs.Common.{◌++◌, map, subst}
use Rattle.std.proofs.lemmas.List.{take_all}
use Rattle.design_link.specs.Nodes.{nodes_in, HaveSameNodes}
use Rattle.design_link.proofs.NodeLaws.{mapped_more, none_more}
use Rattle.design_link.proofs.node_sets.NodeSet.with_caps.Goals as goal

pub loop-cap-init : goal.loop-cap-init
loop-cap-init c = none_more (nodes_in c.args.self)

pub loop-cap-preserved : goal.loop-cap-preserved
loop-cap-preserved c =
    mapped_more (λ x. x.node) (nodes_in c.args.self) (nodes_in c.loop-cap.all) (nodes_in c.in_ok-all.all) c.args.caps.now c.loop-cap.cap-index
    c.cap-item.result c.loop-cap-test.true c.cap-item.is c.loop-cap.invariant c.in_ok-all.ensures

pub returns : goal.returns
returns c =
    subst (λ xs. HaveSameNodes (nodes_in c.loop-cap.all) (nodes_in c.args.self ++ map (λ x. x.node) xs)) (take_all c.loop-cap.cap-index c.args.caps.now c.loop-cap-test.false)
    c.loop-cap.invariant
