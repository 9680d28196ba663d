use Rattle.std.proofs.Common.{◌∙◌, Some, None}
use Rattle.design_link.proofs.DanglingLaws.{port_told}
use Rattle.design_link.proofs.objects.is_port.Goals as goal

pub returns-in-Some : goal.returns-in-Some
returns-in-Some c = c.is.ensures ∙ port_told c.args.store.now.design c.args.dir c.args.name.now (Some c.in-Some.its) c.in-Some.ensures

pub returns-in-None : goal.returns-in-None
returns-in-None c = port_told c.args.store.now.design c.args.dir c.args.name.now None c.in-None.ensures
