use Rattle.std.proofs.Common.{◌≡◌, ◌∙◌, not, sym}
use Rattle.timing_defs.specs.declared.parasitics.NetRc.{NetRc}
use Rattle.timing_defs.specs.NetChecks.{is_tree}
use Rattle.design_link.specs.declared.net_tests.NetTest.TheVariants.{NoTree}
use Rattle.design_link.specs.Failing.{fails_at}
use Rattle.design_link.proofs.NetNodeLaws.{rc_test, no_rc_test}
use Rattle.design_link.proofs.Results.{if_ok}
use Rattle.design_link.proofs.net_tests.has_no_tree.Goals as goal

pub returns-in-Some : goal.returns-in-Some
returns-in-Some c =
    if_ok c.is_no_tree.result (λ x. x ≡ (λ (r : NetRc). not (is_tree c.args.store.now.design r)) c.in-Some.rc.now) (λ x. x ≡ fails_at NoTree c.args.store.now c.args.net)
    (λ x e. e ∙ rc_test c.args.store.now (λ (r : NetRc). not (is_tree c.args.store.now.design r)) c.args.net c.in-Some.rc.now (sym c.in-Some.ensures)) c.is_no_tree.ensures

pub returns-in-None : goal.returns-in-None
returns-in-None c = no_rc_test c.args.store.now (λ (r : NetRc). not (is_tree c.args.store.now.design r)) c.args.net (sym c.in-None.ensures)
