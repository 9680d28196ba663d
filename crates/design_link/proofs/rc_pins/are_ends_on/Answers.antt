use Rattle.std.proofs.Common.{◌∙◌, ap, sym}
use Rattle.std.specs.Prelude.{◌&&◌}
use Rattle.std.specs.List.{list_all}
use Rattle.std.proofs.lemmas.List.{take_all}
use Rattle.timing_defs.specs.declared.parasitics.RcRes.{RcRes}
use Rattle.timing_defs.specs.NetChecks.{is_pin_of}
use Rattle.design_link.proofs.RcPinLaws.{all_more, not_all}
use Rattle.design_link.proofs.rc_pins.are_ends_on.Goals as goal

pub loop-resistor-preserved : goal.loop-resistor-preserved
loop-resistor-preserved c = λ word here.
    all_more (λ (x : RcRes). is_pin_of c.args.store.now.design word x.a && is_pin_of c.args.store.now.design word x.b) c.args.ress.now c.loop-resistor.resistor-index c.resistor-item.result c.loop-resistor-test.true c.resistor-item.is (c.loop-resistor.invariant word here)
    (sym (c.has_ends_on.ensures word here) ∙ c.if-not-has_ends_on.false)

pub returns-then-not-has_ends_on : goal.returns-then-not-has_ends_on
returns-then-not-has_ends_on c = λ word here.
    sym (not_all (λ (x : RcRes). is_pin_of c.args.store.now.design word x.a && is_pin_of c.args.store.now.design word x.b) c.args.ress.now c.loop-resistor.resistor-index c.resistor-item.result c.loop-resistor-test.true c.resistor-item.is
    (sym (c.has_ends_on.ensures word here) ∙ c.if-not-has_ends_on.true))

pub returns : goal.returns
returns c = λ word here.
    sym (ap (list_all (λ (x : RcRes). is_pin_of c.args.store.now.design word x.a && is_pin_of c.args.store.now.design word x.b)) (sym (take_all c.loop-resistor.resistor-index c.args.ress.now c.loop-resistor-test.false)) ∙ c.loop-resistor.invariant word here)
