use Rattle.std.proofs.Common.{◌≡◌, ap, sym, subst, ◌∙◌, ◌+◌, length}
use Rattle.netlist_store.specs.Building.{with_pin, AreNetPins}
use Rattle.netlist_store.proofs.NetPinLaws.{more_pins, written_back}
use Rattle.netlist_store.proofs.building.pins_by_net.Goals as goal

pub loop-pin-preserved : goal.loop-pin-preserved
loop-pin-preserved c =
    let put : c.add_to_net.new.lists ≡ with_pin c.get.result.now.net c.loop-pin.pin c.loop-pin.lists.items =
    c.in_ok-add_to_net.ensures ∙ ap (with_pin c.get.result.now.net c.loop-pin.pin) c.as_mut_slice.ensures.value in
    let more = more_pins c.args.rows.now c.loop-pin.pin c.get.result.now c.get.ensures c.loop-pin.lists.items c.add_to_net.new.lists put c.loop-pin.invariant.1 in
    let back = written_back c.loop-pin.lists.len c.loop-pin.lists.items c.add_to_net.new.lists
    (sym c.as_mut_slice.ensures.len ∙ ap length c.as_mut_slice.ensures.value) more.0 in
    (ap length back ∙ more.0 ∙ c.loop-pin.invariant.0, subst (AreNetPins c.args.rows.now (c.loop-pin.pin + 1)) (sym back) more.1)
