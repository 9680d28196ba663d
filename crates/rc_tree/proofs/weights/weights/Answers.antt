use Rattle.std.proofs.Common.{rules, ◌≡◌, map, true, replicate, subst}
use Rattle.rc_tree.specs.Trees.{is_amount}
use Rattle.rc_tree.specs.Numbering.{numbered}
use Rattle.rc_tree.specs.Weights.{AreAdded, charge_of}
use Rattle.rc_tree.proofs.Routes.{all_right}
use Rattle.rc_tree.proofs.Weighing.{all_weighed}
use Rattle.rc_tree.proofs.weights.weights.Goals as goal

pub add_pins-requires-clause-amounts : goal.add_pins-requires-clause-amounts
add_pins-requires-clause-amounts c = all_right (λ x. is_amount x.cap.0 ≡ true) c.args.net.now.caps (map charge_of c.args.pins.now) c.requires.amounts

pub returns-clause-weighed : goal.returns-clause-weighed
returns-clause-weighed c =
    let none : c.in_ok-none.none.items ≡ replicate c.len.result 0 = search rules in
    all_weighed (numbered c.args.nodes.now) c.args.forest.now c.args.net.now.caps c.args.pins.now c.in_ok-none.none.items c.add_caps-caps.result.items c.add_pins.result.items c.len.result none
    (subst (λ cs. AreAdded (numbered c.args.nodes.now) c.args.forest.now cs c.in_ok-none.none.items c.add_caps-caps.result.items) c.as_slice.ensures c.add_caps-caps.ensures.added) c.add_pins.ensures
