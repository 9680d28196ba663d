use Rattle.std.proofs.Common.{◌≡◌, ap, ◌∙◌}
use Rattle.node_rows.specs.FoundNets.{with_wires}
use Rattle.node_rows.specs.RenewedNets.{IsRenewed}
use Rattle.node_rows.proofs.ResultLaws.{ok_more}
use Rattle.node_rows.proofs.RenewLaws.{pins_inside, wires_inside, renewed}
use Rattle.node_rows.proofs.wire_updates.put_anew.Goals as goal

pub clear_wires-requires : goal.clear_wires-requires
clear_wires-requires c = pins_inside c.args.store.now c.pins_on-pins.result.now c.args.wires.now.pins c.pins_on-pins.ensures.numbers c.requires.sized.pins

pub put_wires-requires : goal.put_wires-requires
put_wires-requires c =
    wires_inside c.args.store.now c.args.found.now.wires c.as_slice.result.now c.args.wires.now.pins c.clear_wires.new.table c.pins_on-pins.result.now
    c.requires.found.within c.as_slice.ensures c.requires.sized.pins c.in_ok-clear_wires.ensures

pub returns : goal.returns
returns c =
    ok_more c.put_wires.result (λ _. c.put_wires.new.table ≡ with_wires c.clear_wires.new.table c.as_slice.result.now)
    (λ _. IsRenewed c.args.store.now c.args.net c.args.wires.now (record { loads = c.set.new.self; pins = c.put_wires.new.table }))
    (λ _ e. renewed c.args.store.now c.args.net c.pins_on-pins.result.now c.pins_on-pins.ensures.counts c.requires.net c.args.found.now c.requires.found
    c.args.wires.now (record { loads = c.set.new.self; pins = c.put_wires.new.table }) c.requires.sized c.clear_wires.new.table c.in_ok-clear_wires.ensures
    c.in_ok-set.ensures.ok (e ∙ ap (with_wires c.clear_wires.new.table) c.as_slice.ensures)) c.put_wires.ensures
