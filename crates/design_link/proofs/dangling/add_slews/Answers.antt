use Rattle.std.proofs.Common.{List, not, map}
use Rattle.timing_defs.specs.declared.kinds.Dir.TheVariants.{Input}
use Rattle.timing_defs.specs.declared.constraints.PortSlew.{PortSlew}
use Rattle.timing_rules.specs.Checks.{is_port, not_ports}
use Rattle.design_link.proofs.DanglingLaws.{grown, mapped_filter}
use Rattle.design_link.proofs.dangling.add_slews.Goals as goal

pub loop-slew-preserved : goal.loop-slew-preserved
loop-slew-preserved c =
    grown (λ (xs : List PortSlew). not_ports c.args.store.now.design Input (map (λ x. x.port) xs)) (mapped_filter (λ name. not (is_port c.args.store.now.design Input name)) (λ (x : PortSlew). x.port)) c.args.names.now c.loop-slew.names c.add_port.new.names c.args.slews.now c.loop-slew.slew-index c.slew-item.result c.loop-slew-test.true c.slew-item.is
    c.loop-slew.invariant c.in_ok-add_port.ensures
