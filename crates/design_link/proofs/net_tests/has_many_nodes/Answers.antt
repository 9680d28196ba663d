use Rattle.std.proofs.Common.{◌≡◌, ◌∙◌, sym}
use Rattle.timing_defs.specs.NetChecks.{is_large_net}
use Rattle.design_link.specs.declared.net_tests.NetTest.TheVariants.{TooManyNodes}
use Rattle.design_link.specs.Failing.{fails_at}
use Rattle.design_link.proofs.NetNodeLaws.{rc_test, no_rc_test}
use Rattle.design_link.proofs.Results.{if_ok}
use Rattle.design_link.proofs.net_tests.has_many_nodes.Goals as goal

pub returns-in-Some : goal.returns-in-Some
returns-in-Some c =
    if_ok c.is_large.result (λ x. x ≡ (is_large_net c.args.store.now.design) c.in-Some.rc.now) (λ x. x ≡ fails_at TooManyNodes c.args.store.now c.args.net)
    (λ x e. e ∙ rc_test c.args.store.now (is_large_net c.args.store.now.design) c.args.net c.in-Some.rc.now (sym c.in-Some.ensures)) c.is_large.ensures

pub returns-in-None : goal.returns-in-None
returns-in-None c = no_rc_test c.args.store.now (is_large_net c.args.store.now.design) c.args.net (sym c.in-None.ensures)
