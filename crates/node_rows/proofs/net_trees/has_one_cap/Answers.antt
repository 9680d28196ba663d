use mir.Val.{of_z}
use Rattle.std.proofs.Common.{◌≡◌, ◌∙◌, eqb, rules, FitsSigned, w64}
use Rattle.std.specs.Ordering.{int_eq}
use Rattle.node_rows.proofs.TreePins.{one_cap_told}
use Rattle.node_rows.proofs.net_trees.has_one_cap.Goals as goal

pub returns : goal.returns
returns c =
    let early : FitsSigned w64 c.pin_cap.result = search rules in
    let late : FitsSigned w64 c.pin_cap-2.result = search rules in
    let same : eqb (of_z w64 c.pin_cap.result) (of_z w64 c.pin_cap-2.result) ≡ int_eq c.pin_cap.result c.pin_cap-2.result = search rules in
    same ∙ one_cap_told c.args.store.now c.args.pin c.pin_cap.result c.pin_cap-2.result c.pin_cap.ensures c.pin_cap-2.ensures
