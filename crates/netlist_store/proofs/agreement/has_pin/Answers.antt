use Rattle.std.proofs.Common.{sym, ◌∙◌}
use Rattle.timing_defs.specs.Edits.{same_cell_pin}
use Rattle.netlist_store.proofs.SetLaws.{any_at}
use Rattle.netlist_store.proofs.agreement.has_pin.Goals as goal

pub returns-then-is_pin_at : goal.returns-then-is_pin_at
returns-then-is_pin_at c =
    sym (any_at (same_cell_pin c.args.pin.now) c.args.pins.now c.args.at (sym c.is_pin_at.ensures ∙ c.if-is_pin_at.true))
