use Rattle.std.proofs.Common.{◌≡◌, ◌∙◌}
use Rattle.timing_defs.specs.NetChecks.{is_tree}
use Rattle.design_link.specs.Rooted.{is_rooted}
use Rattle.design_link.proofs.TreeLaws.{is_good_rc, tree_is, no_tree_is}
use Rattle.design_link.proofs.Results.{if_ok}
use Rattle.design_link.proofs.net_tests.is_tree.Goals as goal

pub is_rooted-requires : goal.is_rooted-requires
is_rooted-requires c = is_good_rc c.args.store.now c.laws.ensures.numbered c.laws.ensures.linked c.args.net c.args.rc.now c.requires.rc

pub returns-in-Some : goal.returns-in-Some
returns-in-Some c =
    if_ok c.is_rooted.result (λ x. x ≡ is_rooted c.args.rc.now c.pin_name.result.now) (λ x. x ≡ is_tree c.args.store.now.design c.args.rc.now)
    (λ x e. e ∙ tree_is c.args.store.now c.laws.ensures.numbered c.laws.ensures.linked c.args.net c.in-Some.pin c.args.rc.now c.pin_name.result.now c.requires.rc
    c.in-Some.ensures.driver c.pin_name.ensures) c.is_rooted.ensures

pub returns-in-None : goal.returns-in-None
returns-in-None c = no_tree_is c.args.store.now c.laws.ensures.numbered c.laws.ensures.linked c.args.net c.args.rc.now c.requires.rc c.in-None.ensures.driver
