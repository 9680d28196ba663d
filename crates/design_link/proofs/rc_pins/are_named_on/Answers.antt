use Rattle.std.proofs.Common.{◌∙◌, ap, sym}
use Rattle.std.specs.Prelude.{◌&&◌}
use Rattle.std.specs.List.{list_all}
use Rattle.timing_defs.specs.declared.parasitics.RcRes.{RcRes}
use Rattle.timing_defs.specs.declared.parasitics.RcCap.{RcCap}
use Rattle.timing_defs.specs.NetChecks.{is_pin_of}
use Rattle.design_link.proofs.RcPinLaws.{named_all}
use Rattle.design_link.proofs.rc_pins.are_named_on.Goals as goal

pub returns-then-not-are_ends_on : goal.returns-then-not-are_ends_on
returns-then-not-are_ends_on c = λ word here.
    sym (ap (λ b. b && list_all (λ (x : RcCap). is_pin_of c.args.store.now.design word x.node) c.args.rc.now.caps)
    (ap (list_all (λ (x : RcRes). is_pin_of c.args.store.now.design word x.a && is_pin_of c.args.store.now.design word x.b)) (sym c.as_slice.ensures)
    ∙ sym (c.are_ends_on.ensures word here) ∙ c.if-not-are_ends_on.true))
    ∙ named_all (is_pin_of c.args.store.now.design word) c.args.rc.now

pub returns : goal.returns
returns c = λ word here.
    c.are_caps_on.ensures word here ∙ ap (list_all (λ (x : RcCap). is_pin_of c.args.store.now.design word x.node)) c.as_slice-2.ensures
    ∙ sym (ap (λ b. b && list_all (λ (x : RcCap). is_pin_of c.args.store.now.design word x.node) c.args.rc.now.caps)
    (ap (list_all (λ (x : RcRes). is_pin_of c.args.store.now.design word x.a && is_pin_of c.args.store.now.design word x.b)) (sym c.as_slice.ensures)
    ∙ sym (c.are_ends_on.ensures word here) ∙ c.if-not-are_ends_on.false))
    ∙ named_all (is_pin_of c.args.store.now.design word) c.args.rc.now
