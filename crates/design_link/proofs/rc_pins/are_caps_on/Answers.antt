use Rattle.std.proofs.Common.{◌∙◌, ap, sym}
use Rattle.std.specs.List.{list_all}
use Rattle.std.proofs.lemmas.List.{take_all}
use Rattle.timing_defs.specs.declared.parasitics.RcCap.{RcCap}
use Rattle.timing_defs.specs.NetChecks.{is_pin_of}
use Rattle.design_link.proofs.RcPinLaws.{all_more, not_all}
use Rattle.design_link.proofs.rc_pins.are_caps_on.Goals as goal

pub loop-cap-preserved : goal.loop-cap-preserved
loop-cap-preserved c = λ word here.
    all_more (λ (x : RcCap). is_pin_of c.args.store.now.design word x.node) c.args.caps.now c.loop-cap.cap-index c.cap-item.result c.loop-cap-test.true c.cap-item.is (c.loop-cap.invariant word here)
    (sym (c.is_pin_of.ensures word here) ∙ c.if-not-is_pin_of.false)

pub returns-then-not-is_pin_of : goal.returns-then-not-is_pin_of
returns-then-not-is_pin_of c = λ word here.
    sym (not_all (λ (x : RcCap). is_pin_of c.args.store.now.design word x.node) c.args.caps.now c.loop-cap.cap-index c.cap-item.result c.loop-cap-test.true c.cap-item.is
    (sym (c.is_pin_of.ensures word here) ∙ c.if-not-is_pin_of.true))

pub returns : goal.returns
returns c = λ word here.
    sym (ap (list_all (λ (x : RcCap). is_pin_of c.args.store.now.design word x.node)) (sym (take_all c.loop-cap.cap-index c.args.caps.now c.loop-cap-test.false)) ∙ c.loop-cap.invariant word here)
