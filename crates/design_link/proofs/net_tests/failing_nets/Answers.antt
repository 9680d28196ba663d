use Rattle.std.proofs.Common.{◌≡◌, ◌∙◌, filter, length, ap, arith}
use Rattle.design_link.specs.Counts.{names_below}
use Rattle.design_link.specs.Failing.{fails}
use Rattle.design_link.proofs.CountLaws.{failing_more}
use Rattle.design_link.proofs.net_tests.failing_nets.Goals as goal

pub loop-net-preserved : goal.loop-net-preserved
loop-net-preserved c =
    failing_more (fails c.args.test c.args.store.now.design) c.args.store.now.nets c.loop-net.net c.in_ok-failing.failing c.loop-net.names c.add_net.new.names
    c.loop-net.invariant c.in_ok-failing.ensures c.in_ok-add_net.ensures

pub returns : goal.returns
returns c =
    let end : c.loop-net.net ≡ length c.args.store.now.nets = omega (arith, c.loop-net-test.false, c.loop-net.auto.net-end, c.net_bound-net-end.ensures.bound) in
    c.loop-net.invariant ∙ ap (λ n. filter (fails c.args.test c.args.store.now.design) (names_below c.args.store.now.nets n)) end
