use Rattle.std.proofs.Common.{subst}
use Rattle.netlist_store.specs.Applying.{IsChecked}
use Rattle.design_link.proofs.LinkLaws.{same_nets}
use Rattle.design_link.proofs.linking.check_rcs.Goals as goal

pub returns : goal.returns
returns c =
    subst (λ o. IsChecked c.check_rcs_in.result o) (same_nets c.in_ok-set.set.keys c.args.nets.now c.args.rcs.now c.in_ok-set.ensures) c.check_rcs_in.ensures
