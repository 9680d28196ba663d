use Rattle.std.proofs.Common.{not, map, get_or}
use Rattle.timing_rules.specs.Range.{within_some}
use Rattle.node_rows.specs.Evaluation.{are_wide_times}
use Rattle.node_rows.proofs.ResultLaws.{handed_up}
use Rattle.required_engine.specs.Behinds.{over_behind, edge_of}
use Rattle.required_engine.specs.Worked.{IsUnfit}
use Rattle.required_engine.proofs.TimeLaws.{no_edge, timed, wide_at, unfit_if}
use Rattle.required_engine.proofs.times.required_times.Goals as goal

pub returns-in_err-add_required-clause-err : goal.returns-in_err-add_required-clause-err
returns-in_err-add_required-clause-err c =
    handed_up c.from_residual.result c.in_err-add_required.field-0.0
    (IsUnfit (are_wide_times (over_behind c.args.store.now.design c.args.split c.args.behind.now) (map edge_of c.args.arrived.now)))
    c.from_residual.ensures.1
    (unfit_if
    (not (within_some (over_behind c.args.store.now.design c.args.split c.args.behind.now (edge_of (get_or c.args.arrived.now c.loop-arrival.arrival-index no_edge)))))
    (are_wide_times (over_behind c.args.store.now.design c.args.split c.args.behind.now) (map edge_of c.args.arrived.now)) c.in_err-add_required.field-0.0
    (wide_at (over_behind c.args.store.now.design c.args.split c.args.behind.now) c.args.arrived.now c.loop-arrival.arrival-index no_edge
    c.loop-arrival-test.true) c.in_err-add_required.ensures.err)

pub loop-arrival-preserved : goal.loop-arrival-preserved
loop-arrival-preserved c =
    timed (over_behind c.args.store.now.design c.args.split c.args.behind.now) c.args.arrived.now c.loop-arrival.times c.loop-arrival.arrival-index
    no_edge c.loop-arrival-test.true c.add_required.new.times c.loop-arrival.invariant c.in_ok-add_required.ensures.times
    c.in_ok-add_required.ensures.fine
