use Rattle.std.proofs.Common.{◌≡◌, get_or, true}
use Rattle.std.proofs.lemmas.List.Elements.{All-get_or}
use Rattle.netlist_store.specs.Numbering.{is_number}
use Rattle.node_rows.proofs.LoadForms.{read_twice}
use Rattle.node_rows.proofs.TreePins.{wires_more}
use Rattle.node_rows.proofs.net_trees.wires_to.Goals as goal

pub loop-pin-preserved : goal.loop-pin-preserved
loop-pin-preserved c =
    wires_more c.args.store.now c.args.trees.now c.args.pins.now c.loop-pin.pin-index (get_or c.args.pins.now c.loop-pin.pin-index 0) c.loop-pin.wires c.push.new.self c.wire_to.result
    c.loop-pin-test.true (read_twice c.args.pins.now c.loop-pin.pin-index 0 c.loop-pin-test.true)
    (All-get_or (λ pin. is_number c.args.store.now.pins pin ≡ true) c.args.pins.now c.loop-pin.pin-index 0 c.loop-pin-test.true c.requires.pins)
    c.in_ok-push.ensures.ok c.wire_to.ensures.pin c.wire_to.ensures.early c.wire_to.ensures.late c.loop-pin.invariant
