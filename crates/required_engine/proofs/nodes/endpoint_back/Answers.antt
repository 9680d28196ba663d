use Rattle.timing_defs.specs.declared.kinds.Kind.TheVariants.{Setup, Hold}
use Rattle.node_rows.proofs.ResultLaws.{handed_up}
use Rattle.required_engine.specs.Worked.{IsBackFault}
use Rattle.required_engine.proofs.SplitLaws.{test_refused}
use Rattle.required_engine.proofs.nodes.endpoint_back.Goals as goal

pub returns-in_err-setup-clause-err : goal.returns-in_err-setup-clause-err
returns-in_err-setup-clause-err g c =
    handed_up c.from_residual.result c.in_err-setup.field-0.0 (IsBackFault c.args.store.now c.args.node.now.number) c.from_residual.ensures.1
    (test_refused c.args.store.now c.laws.ensures.numbered c.laws.ensures.linked c.args.node.now.number Setup c.in_err-setup.field-0.0 c.in_err-setup.ensures.err)

pub returns-in_err-hold-clause-err : goal.returns-in_err-hold-clause-err
returns-in_err-hold-clause-err g c =
    handed_up c.from_residual-in_err-hold.result c.in_err-hold.field-0.0 (IsBackFault c.args.store.now c.args.node.now.number) c.from_residual-in_err-hold.ensures.1
    (test_refused c.args.store.now c.laws.ensures.numbered c.laws.ensures.linked c.args.node.now.number Hold c.in_err-hold.field-0.0 c.in_err-hold.ensures.err)
