use Rattle.std.proofs.Common.{◌≤◌, ◌*◌, [], arith}
use Rattle.timing_defs.specs.NetChecks.{nodes_of_rc, different}
use Rattle.design_link.proofs.NetPinLaws.{pins_on_net}
use Rattle.design_link.proofs.NetNodeLaws.{few_on_net}
use Rattle.design_link.proofs.net_nodes.has_few.Goals as goal

pub returns : goal.returns
returns c = λ e.
    let ress = c.are_few.ensures.ress e in
    let caps = c.are_few.ensures.caps e in
    let pins = c.are_few.ensures.pins e in
    let few : different [] (nodes_of_rc c.args.store.now.design c.args.rc.now) ≤ 4 * 16383 =
    few_on_net c.args.store.now c.laws.ensures.numbered c.laws.ensures.linked c.args.net 16383 c.args.rc.now c.pins_on-pins.result.now c.requires.rc
    (pins_on_net c.args.store.now c.args.net c.pins_on-pins.result.now c.pins_on-pins.ensures.counts c.pins_on-pins.ensures.numbers
    c.pins_on-pins.ensures.on c.pins_on-pins.ensures.all)
    (omega arith) (omega (arith, c.len.ensures)) (omega (arith, c.len-2.ensures)) in
    omega arith
