use Rattle.std.proofs.Common.{ap, ◌∙◌, rules, FitsSigned, w64}
use Rattle.std.specs.Prelude.{nat_abs}
use Rattle.std.proofs.lemmas.Int.{to_z-of_z}
use Rattle.netlist_store.specs.Numbering.{pin_numbered}
use Rattle.node_rows.proofs.LoadForms.{counted_yes, counted_no}
use Rattle.node_rows.proofs.loads.counted.Goals as goal

pub returns-then-counts_as : goal.returns-then-counts_as
returns-then-counts_as c =
    let f : FitsSigned w64 c.pin_cap.result = search rules in
    let size = simp to_z-of_z at c.unsigned_abs.ensures.value in
    size
    ∙ ap nat_abs
    (counted_yes c.args.store.now.design c.args.split c.args.drivers (pin_numbered c.args.store.now c.args.pin) c.drives.result c.counts_as.result c.pin_cap.result
    c.drives.ensures c.counts_as.ensures c.if-counts_as.true c.pin_cap.ensures)

pub returns-else-counts_as : goal.returns-else-counts_as
returns-else-counts_as c =
    ap nat_abs
    (counted_no c.args.store.now.design c.args.split c.args.drivers (pin_numbered c.args.store.now c.args.pin) c.drives.result c.counts_as.result
    c.drives.ensures c.counts_as.ensures c.if-counts_as.false)
