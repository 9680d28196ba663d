use Rattle.std.proofs.Common.{◌∙◌, ap, sym}
use Rattle.timing_defs.specs.NetChecks.{is_pin_of}
use Rattle.design_link.proofs.rc_pins.is_pin_of.Goals as goal

pub returns-in-Pin : goal.returns-in-Pin
returns-in-Pin c = λ word here. c.is_named_on.ensures word here ∙ ap (is_pin_of c.args.store.now.design word) (sym c.in-Pin.is)

pub returns-in-Inner : goal.returns-in-Inner
returns-in-Inner c = λ word here. ap (is_pin_of c.args.store.now.design word) (sym c.in-Inner.is)
