use Rattle.std.proofs.Common.{◌∷◌, [], map, subst, if◌then◌else◌}
use Rattle.timing_defs.specs.declared.parasitics.RcNode.TheVariants.{Pin as rc_pin}
use Rattle.timing_defs.specs.Wires.{is_lumped}
use Rattle.std.specs.List.{flat_map}
use Rattle.rc_tree.specs.Numbering.{numbered, IsJoined}
use Rattle.rc_tree.proofs.Listing.{joined_tree, root_first}
use Rattle.rc_tree.proofs.nodes.add_tree_nodes.Goals as goal

pub returns-clause-nodes : goal.returns-clause-nodes
returns-clause-nodes c =
    joined_tree c.args.net.now c.args.root.now c.args.pins.now (numbered c.args.nodes.now) (numbered c.insert_pin.new.self) (numbered c.add_lumped.new.nodes) (numbered c.add_resistors.new.nodes) (numbered c.add_caps.new.nodes)
    c.requires c.in_ok-insert_pin.ensures c.in_ok-add_lumped.ensures
    (subst (λ rs. IsJoined (numbered c.add_lumped.new.nodes) (flat_map (λ r. r.a ∷ r.b ∷ []) rs) (numbered c.add_resistors.new.nodes)) c.as_slice.ensures c.in_ok-add_resistors.ensures)
    (subst (λ cs. IsJoined (numbered c.add_resistors.new.nodes) (map (λ x. x.node) cs) (numbered c.add_caps.new.nodes)) c.as_slice-2.ensures c.in_ok-add_caps.ensures)

pub returns-clause-root : goal.returns-clause-root
returns-clause-root c =
    root_first c.args.root.now (if is_lumped c.args.net.now then map (λ p. rc_pin p.pin) c.args.pins.now else []) (flat_map (λ r. r.a ∷ r.b ∷ []) c.args.net.now.ress)
    (numbered c.args.nodes.now) (numbered c.insert_pin.new.self) (numbered c.add_lumped.new.nodes) (numbered c.add_resistors.new.nodes) (numbered c.add_caps.new.nodes) (map (λ x. x.node) c.args.net.now.caps)
    c.requires c.in_ok-insert_pin.ensures c.in_ok-add_lumped.ensures
    (subst (λ rs. IsJoined (numbered c.add_lumped.new.nodes) (flat_map (λ r. r.a ∷ r.b ∷ []) rs) (numbered c.add_resistors.new.nodes)) c.as_slice.ensures c.in_ok-add_resistors.ensures)
    (subst (λ cs. IsJoined (numbered c.add_resistors.new.nodes) (map (λ x. x.node) cs) (numbered c.add_caps.new.nodes)) c.as_slice-2.ensures c.in_ok-add_caps.ensures)
