use Rattle.std.proofs.Common.{◌≡◌, ◌∙◌, subst, sym, IfOk}
use Rattle.design_link.specs.declared.net_tests.NetTest.{NetTest}
use Rattle.design_link.specs.Failing.{fails, fails_at, IsReadyFor}
use Rattle.design_link.proofs.CountLaws.{gap_passes}
use Rattle.design_link.proofs.net_tests.fails_at.Goals as goal

pub returns-then-not-has_net : goal.returns-then-not-has_net
returns-then-not-has_net c = gap_passes (fails c.args.test c.args.store.now.design) c.args.store.now.nets c.args.net (sym c.has_net.ensures ∙ c.if-not-has_net.true)

pub has_no_tree-requires : goal.has_no_tree-requires
has_no_tree-requires c = record { net = sym c.has_net.ensures ∙ c.if-not-has_net.false; fault = subst (λ (t : NetTest). IsReadyFor t c.args.store.now.design) c.in-NoTree.is c.requires }

pub returns-in-TooManyNodes : goal.returns-in-TooManyNodes
returns-in-TooManyNodes c = subst (λ (t : NetTest). IfOk c.has_many_nodes.result (λ x. x ≡ fails_at t c.args.store.now c.args.net)) (sym c.in-TooManyNodes.is) c.has_many_nodes.ensures

pub returns-in-NoTree : goal.returns-in-NoTree
returns-in-NoTree c = subst (λ (t : NetTest). IfOk c.has_no_tree.result (λ x. x ≡ fails_at t c.args.store.now c.args.net)) (sym c.in-NoTree.is) c.has_no_tree.ensures

pub returns-in-OtherPins : goal.returns-in-OtherPins
returns-in-OtherPins c = subst (λ (t : NetTest). IfOk c.has_other_pins.result (λ x. x ≡ fails_at t c.args.store.now c.args.net)) (sym c.in-OtherPins.is) c.has_other_pins.ensures

pub returns-in-TooManyDrivers : goal.returns-in-TooManyDrivers
returns-in-TooManyDrivers c = subst (λ (t : NetTest). c.has_many_drivers.result ≡ fails_at t c.args.store.now c.args.net) (sym c.in-TooManyDrivers.is) c.has_many_drivers.ensures
