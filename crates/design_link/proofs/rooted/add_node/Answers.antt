use Rattle.std.proofs.Common.{ap}
use Rattle.design_link.specs.Rooted.{bare_pin}
use Rattle.design_link.proofs.RootedLaws.{inner_added}
use Rattle.design_link.proofs.rooted.add_node.Goals as goal

pub returns-in-Inner : goal.returns-in-Inner
returns-in-Inner c = inner_added c.args.node.now c.args.pins.now (ap bare_pin c.in-Inner.is)
