use Rattle.std.proofs.Common.{subst}
use Rattle.netlist_store.specs.Applying.{IsChecked}
use Rattle.design_link.proofs.FailLaws.{net_all}
use Rattle.design_link.proofs.checks.check_nets.Goals as goal

pub returns : goal.returns
returns c = subst (IsChecked c.check_nets_among.result) (net_all c.args.store.now.design) c.check_nets_among.ensures
