use Rattle.std.proofs.Common.{List, not}
use Rattle.std.specs.List.{filter_map}
use Rattle.timing_defs.specs.declared.kinds.Dir.TheVariants.{Input}
use Rattle.timing_defs.specs.declared.constraints.Clock.{Clock}
use Rattle.timing_rules.specs.Checks.{is_port, not_ports}
use Rattle.design_link.proofs.DanglingLaws.{grown, some_filter}
use Rattle.design_link.proofs.dangling.add_clocks.Goals as goal

pub loop-clock-preserved : goal.loop-clock-preserved
loop-clock-preserved c =
    grown (λ (xs : List Clock). not_ports c.args.store.now.design Input (filter_map (λ x. x.port) xs)) (some_filter (λ name. not (is_port c.args.store.now.design Input name)) (λ (x : Clock). x.port)) c.args.names.now c.loop-clock.names c.add_clock.new.names c.args.clocks.now c.loop-clock.clock-index c.clock-item.result c.loop-clock-test.true c.clock-item.is
    c.loop-clock.invariant c.in_ok-add_clock.ensures
