use Rattle.pin_graph.specs.Alike.{IsSameInst}
use Rattle.pin_graph.proofs.AlikeAfter.{kept_more, kept_all}
use Rattle.pin_graph.proofs.keeping.keeps_insts.Goals as goal

pub loop-name-preserved : goal.loop-name-preserved
loop-name-preserved c =
    kept_more (λ name. IsSameInst c.args.base.now c.args.store.now name) c.args.names.now c.loop-name.name-index c.name-item.result c.loop-name.invariant
    c.loop-name-test.true c.name-item.is (c.keeps_inst.ensures c.if-not-keeps_inst.false)

pub returns : goal.returns
returns c =
    λ yes. kept_all (λ name. IsSameInst c.args.base.now c.args.store.now name) c.args.names.now c.loop-name.name-index c.loop-name.invariant c.loop-name-test.false
