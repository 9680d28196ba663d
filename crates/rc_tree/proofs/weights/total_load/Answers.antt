use Rattle.std.proofs.Common.{◌≡◌, ◌∙◌, pos, subst}
use Rattle.timing_defs.specs.Wires.{sum_of}
use Rattle.rc_tree.proofs.Weighing.{pins_amounts, load_is}
use Rattle.rc_tree.proofs.weights.total_load.Goals as goal

pub total_pins-requires : goal.total_pins-requires
total_pins-requires c = pins_amounts c.args.net.now.caps c.args.pins.now c.requires.amounts

pub returns : goal.returns
returns c =
    load_is c.args.net.now c.args.pins.now c.from.result c.total_caps-caps.result c.total_pins.result c.requires.lump (c.from.ensures ∙ c.amount.ensures)
    (subst (λ cs. pos c.total_caps-caps.result ≡ sum_of (λ x. x.cap.0) cs) c.as_slice.ensures c.total_caps-caps.ensures.sum) c.total_pins.ensures.sum
