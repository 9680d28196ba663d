use Rattle.std.proofs.Common.{map, List}
use Rattle.std.specs.List.{filter_map}
use Rattle.timing_defs.specs.declared.parasitics.RcCap.{RcCap}
use Rattle.design_link.specs.Rooted.{bare_pin}
use Rattle.design_link.proofs.DanglingLaws.{grown}
use Rattle.design_link.proofs.RootedLaws.{caps_both}
use Rattle.design_link.proofs.rooted.add_caps.Goals as goal

pub loop-cap-preserved : goal.loop-cap-preserved
loop-cap-preserved c =
    grown (λ (xs : List RcCap). filter_map bare_pin (map (λ x. x.node) xs)) caps_both c.args.pins.now c.loop-cap.pins c.add_node.new.pins c.args.caps.now
    c.loop-cap.cap-index c.cap-item.result c.loop-cap-test.true c.cap-item.is c.loop-cap.invariant c.in_ok-add_node.ensures
