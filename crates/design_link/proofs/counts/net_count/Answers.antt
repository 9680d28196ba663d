use Rattle.std.proofs.Common.{◌+◌, ◌∙◌, ap, arith, if◌then◌else◌}
use Rattle.design_link.proofs.CountLaws.{count_more, nets_counted}
use Rattle.design_link.proofs.counts.net_count.Goals as goal

pub loop-net-preserved : goal.loop-net-preserved
loop-net-preserved c = record {
  is =
      count_more c.args.store.now.nets c.loop-net.net c.loop-net.count (c.loop-net.count + c.one_if-count.result) c.loop-net.invariant.is
      (ap (λ n. c.loop-net.count + n) (c.one_if-count.ensures.value ∙ ap (λ b. if b then 1 else 0) c.has_net.ensures));
  low = omega (arith, c.loop-net.invariant.low, c.one_if-count.ensures.small);
}

pub returns : goal.returns
returns c =
    nets_counted c.args.store.now c.laws.ensures.numbered c.laws.ensures.linked c.loop-net.net c.loop-net.count
    (omega (arith, c.loop-net-test.false, c.loop-net.auto.net-end, c.net_bound-net-end.ensures.bound)) c.loop-net.invariant.is
