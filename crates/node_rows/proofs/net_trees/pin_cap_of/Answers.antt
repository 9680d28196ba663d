use Rattle.std.proofs.Common.{Some, sym, ap, ◌∙◌, rules, FitsSigned, w64}
use Rattle.std.proofs.lemmas.Int.{to_z-of_z}
use Rattle.node_rows.proofs.TreePins.{cap_told}
use Rattle.node_rows.proofs.net_trees.pin_cap_of.Goals as goal

pub returns : goal.returns
returns c =
    let f : FitsSigned w64 c.pin_cap-cap.result = search rules in
    simp to_z-of_z
    (cap_told c.args.store.now c.args.split c.args.pin c.in_ok-name.name c.pin_cap-cap.result (c.pin_name.ensures ∙ ap Some (sym c.in_ok-name.ensures)) c.pin_cap-cap.ensures)
