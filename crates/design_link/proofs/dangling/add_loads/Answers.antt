use Rattle.std.proofs.Common.{List, map, filter}
use Rattle.std.specs.Prelude.{is_none}
use Rattle.timing_defs.specs.declared.constraints.PortLoad.{PortLoad}
use Rattle.timing_rules.specs.Checks.{port_named}
use Rattle.design_link.proofs.DanglingLaws.{grown, mapped_filter}
use Rattle.design_link.proofs.dangling.add_loads.Goals as goal

pub loop-load-preserved : goal.loop-load-preserved
loop-load-preserved c =
    grown (λ (xs : List PortLoad). filter (λ name. is_none (port_named c.args.store.now.design name)) (map (λ x. x.port) xs)) (mapped_filter (λ name. is_none (port_named c.args.store.now.design name)) (λ (x : PortLoad). x.port)) c.args.names.now c.loop-load.names c.add_load.new.names c.args.loads.now c.loop-load.load-index c.load-item.result c.loop-load-test.true c.load-item.is
    c.loop-load.invariant c.in_ok-add_load.ensures
