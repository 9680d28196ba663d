use Rattle.std.proofs.Common.{not, ap}
use Rattle.timing_rules.specs.Checks.{is_port}
use Rattle.design_link.proofs.DanglingLaws.{name_added}
use Rattle.design_link.proofs.dangling.add_port.Goals as goal

pub returns : goal.returns
returns c =
    name_added (λ name. not (is_port c.args.store.now.design c.args.dir name)) c.args.name.now (not c.is_port.result) c.args.names.now c.add_if.new.names (ap not c.is_port.ensures)
    c.in_ok-add_if.ensures
