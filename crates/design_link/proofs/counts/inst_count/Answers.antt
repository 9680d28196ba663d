use Rattle.std.proofs.Common.{◌+◌, ◌∙◌, ap, arith, if◌then◌else◌}
use Rattle.design_link.proofs.CountLaws.{count_more, insts_counted}
use Rattle.design_link.proofs.counts.inst_count.Goals as goal

pub loop-inst-preserved : goal.loop-inst-preserved
loop-inst-preserved c = record {
  is =
      count_more c.args.store.now.insts c.loop-inst.inst c.loop-inst.count (c.loop-inst.count + c.one_if-count.result) c.loop-inst.invariant.is
      (ap (λ n. c.loop-inst.count + n) (c.one_if-count.ensures.value ∙ ap (λ b. if b then 1 else 0) c.has_inst.ensures));
  low = omega (arith, c.loop-inst.invariant.low, c.one_if-count.ensures.small);
}

pub returns : goal.returns
returns c =
    insts_counted c.args.store.now c.laws.ensures.numbered c.laws.ensures.linked c.loop-inst.inst c.loop-inst.count
    (omega (arith, c.loop-inst-test.false, c.loop-inst.auto.inst-end, c.inst_bound-inst-end.ensures.bound)) c.loop-inst.invariant.is
