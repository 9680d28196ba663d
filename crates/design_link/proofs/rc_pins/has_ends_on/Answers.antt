use Rattle.std.proofs.Common.{◌∙◌, ap, sym}
use Rattle.std.specs.Prelude.{◌&&◌}
use Rattle.timing_defs.specs.NetChecks.{is_pin_of}
use Rattle.design_link.proofs.rc_pins.has_ends_on.Goals as goal

pub returns-then-not-is_pin_of : goal.returns-then-not-is_pin_of
returns-then-not-is_pin_of c = λ word here.
    sym (ap (λ b. b && is_pin_of c.args.store.now.design word c.args.resistor.now.b) (sym (c.is_pin_of.ensures word here) ∙ c.if-not-is_pin_of.true))

pub returns : goal.returns
returns c = λ word here.
    c.is_pin_of-2.ensures word here
    ∙ sym (ap (λ b. b && is_pin_of c.args.store.now.design word c.args.resistor.now.b) (sym (c.is_pin_of.ensures word here) ∙ c.if-not-is_pin_of.false))
