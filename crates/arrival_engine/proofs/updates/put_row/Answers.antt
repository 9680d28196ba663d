use Rattle.std.proofs.Common.{◌≡◌, true, sym, ◌∙◌}
use Rattle.timing_rules.specs.Cones.{same_row}
use Rattle.calm_laws.proofs.SameRows.{row_told}
use Rattle.arrival_engine.proofs.TurnLaws.{set_found}
use Rattle.arrival_engine.proofs.updates.put_row.Goals as goal

pub returns-then-is_same : goal.returns-then-is_same
returns-then-is_same c =
    let same : same_row c.get.result.now c.args.row ≡ true = sym c.is_same.ensures ∙ c.if-is_same.true in
    set_found c.args.rows.now c.args.node c.get.result.now c.args.row c.get.ensures ((row_told c.get.result.now c.args.row).0 same)
