use Rattle.std.specs.Prelude.{option_map}
use Rattle.std.specs.Option.{option_copied}
use Rattle.timing_defs.specs.declared.faults.Fault.TheVariants.{TooLarge, ManyDrivers}
use Rattle.timing_defs.specs.declared.faults.Large.TheVariants.{Net as large_net}
use Rattle.timing_defs.specs.NetChecks.{first_of_two}
use Rattle.design_link.specs.declared.net_tests.NetTest.TheVariants.{TooManyNodes, TooManyDrivers}
use Rattle.design_link.specs.Counts.{large_count}
use Rattle.design_link.specs.Failing.{least_among}
use Rattle.design_link.specs.After.{net_fault_among}
use Rattle.design_link.proofs.FailLaws.{first_of, second_of, last_of}
use Rattle.design_link.proofs.Results.{handed_on}
use Rattle.design_link.proofs.checks.check_nets_among.Goals as goal

pub returns-in_err-check_counts : goal.returns-in_err-check_counts
returns-in_err-check_counts c =
    handed_on c.from_residual.result c.in_err-check_counts.field-0.0 (net_fault_among (option_copied c.args.among) c.args.store.now.design) c.from_residual.ensures.1
    (first_of c.in_err-check_counts.field-0.0 (option_map TooLarge (large_count c.args.store.now.design))
    (first_of_two (option_map TooLarge (option_map large_net (least_among (option_copied c.args.among) TooManyNodes c.args.store.now.design)))
    (option_map ManyDrivers (least_among (option_copied c.args.among) TooManyDrivers c.args.store.now.design)))
    c.in_err-check_counts.ensures)

pub returns-in_err-check_nodes : goal.returns-in_err-check_nodes
returns-in_err-check_nodes c =
    handed_on c.from_residual-in_err-check_nodes.result c.in_err-check_nodes.field-0.0 (net_fault_among (option_copied c.args.among) c.args.store.now.design)
    c.from_residual-in_err-check_nodes.ensures.1
    (second_of c.in_err-check_nodes.field-0.0 (option_map TooLarge (large_count c.args.store.now.design))
    (option_map TooLarge (option_map large_net (least_among (option_copied c.args.among) TooManyNodes c.args.store.now.design)))
    (option_map ManyDrivers (least_among (option_copied c.args.among) TooManyDrivers c.args.store.now.design)) c.in_ok-check_counts.ensures
    c.in_err-check_nodes.ensures)

pub returns : goal.returns
returns c =
    last_of c.check_drivers.result (option_map TooLarge (large_count c.args.store.now.design))
    (option_map TooLarge (option_map large_net (least_among (option_copied c.args.among) TooManyNodes c.args.store.now.design)))
    (option_map ManyDrivers (least_among (option_copied c.args.among) TooManyDrivers c.args.store.now.design)) c.in_ok-check_counts.ensures
    c.in_ok-check_nodes.ensures c.check_drivers.ensures
