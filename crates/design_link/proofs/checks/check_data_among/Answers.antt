use Rattle.std.specs.Prelude.{option_map}
use Rattle.std.specs.Option.{option_copied}
use Rattle.timing_defs.specs.declared.faults.Fault.TheVariants.{ConstraintDangling, RcNotTree, RcPinsDiffer}
use Rattle.timing_defs.specs.NetChecks.{first_of_two}
use Rattle.design_link.specs.declared.net_tests.NetTest.TheVariants.{NoTree, OtherPins}
use Rattle.design_link.specs.Failing.{least_among}
use Rattle.design_link.specs.After.{dangling_among, data_fault_among}
use Rattle.design_link.proofs.FailLaws.{first_of, second_of, last_of}
use Rattle.design_link.proofs.Results.{handed_on}
use Rattle.design_link.proofs.checks.check_data_among.Goals as goal

pub returns-in_err-check_dangling : goal.returns-in_err-check_dangling
returns-in_err-check_dangling c =
    handed_on c.from_residual.result c.in_err-check_dangling.field-0.0 (data_fault_among (option_copied c.args.among) c.args.store.now.design) c.from_residual.ensures.1
    (first_of c.in_err-check_dangling.field-0.0 (option_map ConstraintDangling (dangling_among (option_copied c.args.among) c.args.store.now.design))
    (first_of_two (option_map RcNotTree (least_among (option_copied c.args.among) NoTree c.args.store.now.design))
    (option_map RcPinsDiffer (least_among (option_copied c.args.among) OtherPins c.args.store.now.design)))
    c.in_err-check_dangling.ensures)

pub returns-in_err-check_trees : goal.returns-in_err-check_trees
returns-in_err-check_trees c =
    handed_on c.from_residual-in_err-check_trees.result c.in_err-check_trees.field-0.0 (data_fault_among (option_copied c.args.among) c.args.store.now.design)
    c.from_residual-in_err-check_trees.ensures.1
    (second_of c.in_err-check_trees.field-0.0 (option_map ConstraintDangling (dangling_among (option_copied c.args.among) c.args.store.now.design))
    (option_map RcNotTree (least_among (option_copied c.args.among) NoTree c.args.store.now.design))
    (option_map RcPinsDiffer (least_among (option_copied c.args.among) OtherPins c.args.store.now.design)) c.in_ok-check_dangling.ensures
    c.in_err-check_trees.ensures)

pub returns : goal.returns
returns c =
    last_of c.check_pins.result (option_map ConstraintDangling (dangling_among (option_copied c.args.among) c.args.store.now.design))
    (option_map RcNotTree (least_among (option_copied c.args.among) NoTree c.args.store.now.design))
    (option_map RcPinsDiffer (least_among (option_copied c.args.among) OtherPins c.args.store.now.design)) c.in_ok-check_dangling.ensures
    c.in_ok-check_trees.ensures c.check_pins.ensures
