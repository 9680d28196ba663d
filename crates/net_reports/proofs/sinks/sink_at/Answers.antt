use Rattle.std.proofs.Common.{rules, FitsSigned, w64}
use Rattle.std.proofs.lemmas.Int.{to_z-of_z}
use Rattle.net_reports.proofs.NetLaws.{sink_is}
use Rattle.net_reports.proofs.sinks.sink_at.Goals as goal

pub returns : goal.returns
returns c =
    let early : FitsSigned w64 c.pin_cap-early_cap.result = search rules in
    let late : FitsSigned w64 c.pin_cap-late_cap.result = search rules in
    simp to_z-of_z
    (sink_is c.args.setting.now.store.now c.laws.ensures.numbered c.laws.ensures.linked c.args.net.now c.args.setting.now.wires.now c.requires.setting.wires c.args.pin.now c.requires.sink
    c.args.number c.requires.number c.args.driven c.requires.driven c.wire-wire.result c.wire-wire.ensures c.in_ok-name.name c.pin_cap-early_cap.result c.pin_cap-late_cap.result
    c.sink_delay-early_delay.result c.sink_delay-late_delay.result c.in_ok-name.ensures c.pin_cap-early_cap.ensures c.pin_cap-late_cap.ensures
    c.sink_delay-early_delay.ensures c.sink_delay-late_delay.ensures)
