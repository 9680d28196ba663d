use Rattle.timing_defs.specs.declared.kinds.Dir.TheVariants.{Input, Output}
use Rattle.timing_rules.specs.Checks.{dangling_objects}
use Rattle.design_link.proofs.DanglingLaws.{two_lists}
use Rattle.design_link.proofs.dangling.add_exception.Goals as goal

pub returns : goal.returns
returns c =
    two_lists c.args.names.now c.add_objects.new.names c.add_objects-2.new.names (dangling_objects c.args.store.now.design Input c.args.exception.now.from)
    (dangling_objects c.args.store.now.design Output c.args.exception.now.to) c.in_ok-add_objects.ensures c.in_ok-add_objects-2.ensures
