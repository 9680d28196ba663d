use Rattle.std.proofs.Common.{◌∷◌, ◌++◌, [], subst}
use Rattle.std.specs.List.{flat_map}
use Rattle.std.proofs.lemmas.List.{take_all}
use Rattle.design_link.specs.Nodes.{nodes_in, HaveSameNodes}
use Rattle.design_link.proofs.NodeLaws.{flat_more, none_more}
use Rattle.design_link.proofs.node_sets.NodeSet.with_resistors.Goals as goal

pub loop-resistor-init : goal.loop-resistor-init
loop-resistor-init c = none_more (nodes_in c.args.self)

pub loop-resistor-preserved : goal.loop-resistor-preserved
loop-resistor-preserved c =
    flat_more (λ r. r.a ∷ r.b ∷ []) (nodes_in c.args.self) (nodes_in c.loop-resistor.all) (nodes_in c.in_ok-all.all) c.args.resistors.now c.loop-resistor.resistor-index
    c.resistor-item.result c.loop-resistor-test.true c.resistor-item.is c.loop-resistor.invariant c.in_ok-all.ensures

pub returns : goal.returns
returns c =
    subst (λ xs. HaveSameNodes (nodes_in c.loop-resistor.all) (nodes_in c.args.self ++ flat_map (λ r. r.a ∷ r.b ∷ []) xs)) (take_all c.loop-resistor.resistor-index c.args.resistors.now c.loop-resistor-test.false)
    c.loop-resistor.invariant
