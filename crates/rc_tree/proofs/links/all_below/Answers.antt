use Rattle.std.proofs.Common.{rules, ◌≡◌, subst}
use Rattle.rc_tree.specs.Listing.{AreAllBelow}
use Rattle.rc_tree.proofs.Linking.{below_more}
use Rattle.rc_tree.proofs.links.all_below.Goals as goal

pub loop-index-preserved : goal.loop-index-preserved
loop-index-preserved c = below_more c.loop-index.index c.loop-index.all c.push.new.self c.loop-index.invariant c.in_ok-push.ensures.ok

pub returns-clause-all : goal.returns-clause-all
returns-clause-all c =
    let whole : c.loop-index.index ≡ c.args.count = search rules in
    subst (λ n. AreAllBelow n c.loop-index.all) whole c.loop-index.invariant
