use Rattle.std.proofs.Common.{rules, FitsSigned, w64}
use Rattle.std.proofs.lemmas.Int.{to_z-of_z}
use Rattle.node_rows.proofs.PinForms.{cap_owned, cap_port}
use Rattle.net_reports.proofs.caps.pin_cap.Goals as goal

pub returns-in-Some : goal.returns-in-Some
returns-in-Some c =
    let f : FitsSigned w64 c.cell_cap.result = search rules in
    simp to_z-of_z
    (cap_owned c.args.store.now c.laws.ensures.numbered c.laws.ensures.linked c.args.pin c.requires.pin c.args.split c.in-Some.inst c.cell_at.result.now c.own_name.result.now c.cell_cap.result
    c.in-Some.ensures.value c.cell_at.ensures c.own_name.ensures c.cell_cap.ensures)

pub returns-in-None : goal.returns-in-None
returns-in-None c =
    let f : FitsSigned w64 c.load.result = search rules in
    simp to_z-of_z
    (cap_port c.args.store.now c.laws.ensures.numbered c.laws.ensures.linked c.args.pin c.requires.pin c.args.split c.pin_name.result.now c.load.result
    c.in-None.ensures.none c.pin_name.ensures (c.load.ensures c.args.store.now.design.constraints c.requires.ports))
