use Rattle.std.proofs.Common.{◌≡◌, true, sym, ◌∙◌}
use Rattle.timing_rules.specs.Cones.{same_back}
use Rattle.calm_laws.proofs.SameRows.{back_told}
use Rattle.required_engine.proofs.PutBacks.{set_found}
use Rattle.required_engine.proofs.renewing.put_row.Goals as goal

pub returns-then-same_back : goal.returns-then-same_back
returns-then-same_back c =
    let same : same_back c.get.result.now c.args.row ≡ true = sym c.same_back.ensures ∙ c.if-same_back.true in
    set_found c.args.rows.now c.args.node c.get.result.now c.args.row c.get.ensures ((back_told c.get.result.now c.args.row).0 same)
