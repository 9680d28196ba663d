use Rattle.std.proofs.Common.{List, not, map}
use Rattle.timing_defs.specs.declared.constraints.PortDelay.{PortDelay}
use Rattle.timing_rules.specs.Checks.{is_port, not_ports}
use Rattle.design_link.proofs.DanglingLaws.{grown, mapped_filter}
use Rattle.design_link.proofs.dangling.add_delays.Goals as goal

pub loop-delay-preserved : goal.loop-delay-preserved
loop-delay-preserved c =
    grown (λ (xs : List PortDelay). not_ports c.args.store.now.design c.args.dir (map (λ x. x.port) xs)) (mapped_filter (λ name. not (is_port c.args.store.now.design c.args.dir name)) (λ (x : PortDelay). x.port)) c.args.names.now c.loop-delay.names c.add_port.new.names c.args.delays.now c.loop-delay.delay-index c.delay-item.result c.loop-delay-test.true c.delay-item.is
    c.loop-delay.invariant c.in_ok-add_port.ensures
