use Rattle.std.proofs.Common.{subst}
use Rattle.netlist_store.specs.Applying.{IsChecked}
use Rattle.design_link.proofs.AfterLaws.{net_after}
use Rattle.design_link.proofs.checks.check_nets_after.Goals as goal

pub returns : goal.returns
returns c base eco made fault =
    subst (IsChecked c.check_nets_among.result)
    (net_after base eco c.args.touched.now.nets c.args.store.now.design made c.laws.ensures.linked fault) c.check_nets_among.ensures
