use Rattle.std.proofs.Common.{◌≡◌, ℕ, None, Some, refl, sym, subst, ◌∙◌}
use Rattle.timing_defs.specs.declared.kinds.Split.{Split}
use Rattle.timing_defs.specs.Netlist.{Node}
use Rattle.timing_defs.specs.Kinds.{data_split}
use Rattle.netlist_store.specs.Numbering.{is_number}
use Rattle.pin_graph.specs.Nodes.{node_at, pin_under}
use Rattle.path_search.specs.Slacks.{IsLaunchTime, ArePinNames}
use Rattle.path_search.proofs.Forms.{no_launch, one_launch, pin_is, node_of_pin}
use Rattle.path_search.proofs.launches.launch_node.Goals as goal

pub returns-in_default-launch_time : goal.returns-in_default-launch_time
returns-in_default-launch_time g c =
    no_launch c.args.graph.now c.args.store.now c.requires.graph c.laws.ensures.numbered c.laws.ensures.linked c.laws-2.ensures (data_split c.args.kind) c.args.node
    (subst (λ (sp : Split). (n : Node) → node_at c.args.store.now c.args.node ≡ Some n → IsLaunchTime c.args.store.now.design sp n None) c.data_split.ensures
    c.in_default-launch_time.ensures)

pub returns : goal.returns
returns g c =
    let pin = sym c.in-Some.is ∙ c.pin_of.ensures in
    let node = node_of_pin c.args.graph.now c.args.store.now c.requires.graph c.laws.ensures.numbered c.laws.ensures.linked c.laws-2.ensures c.args.node c.in-Some.pin pin in
    one_launch c.args.graph.now c.args.store.now c.requires.graph c.laws.ensures.numbered c.laws.ensures.linked c.laws-2.ensures (data_split c.args.kind) c.args.node
    c.in-Some-launch_time.start c.in_ok-names.names c.place.result c.place.ensures _ refl refl refl refl c.requires.range
    (subst (λ (sp : Split). (n : Node) → node_at c.args.store.now c.args.node ≡ Some n → IsLaunchTime c.args.store.now.design sp n (Some c.in-Some-launch_time.start))
    c.data_split.ensures c.in-Some-launch_time.ensures)
    (subst (λ (p : ℕ). ArePinNames c.args.store.now p c.in_ok-names.names)
    (pin_is (is_number c.args.graph.now.stored.pins (pin_under c.args.node)) c.in-Some.pin (pin_under c.args.node) pin) c.in_ok-names.ensures) node.0 node.1
