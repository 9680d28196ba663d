use Rattle.std.proofs.Common.{sym, ◌∙◌}
use Rattle.std.specs.Str.{bytes_eq}
use Rattle.timing_defs.specs.declared.library.CellPin.{CellPin}
use Rattle.design_link.proofs.LinkLaws.{any_at}
use Rattle.design_link.proofs.linking.has_pin.Goals as goal

pub returns-then-is_pin_at : goal.returns-then-is_pin_at
returns-then-is_pin_at c =
    sym (any_at (λ (pin : CellPin). bytes_eq pin.name c.args.name.now) c.args.pins.now c.args.at (sym c.is_pin_at.ensures ∙ c.if-is_pin_at.true))
