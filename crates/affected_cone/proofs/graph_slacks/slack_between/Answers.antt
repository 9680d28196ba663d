use Rattle.affected_cone.proofs.TimeLaws.{time_low, late_row, early_row, late_back, early_back}
use Rattle.affected_cone.proofs.graph_slacks.slack_between.Goals as goal

pub less_some-requires-clause-time : goal.less_some-requires-clause-time
less_some-requires-clause-time c =
    time_low c.args.back.now.late c.as_slice.result.now (late_back c.args.back.now c.requires.back) c.as_slice.ensures (c.args.clock, c.args.tran) c.time_on.result c.time_on.ensures

pub less_some-requires-clause-other : goal.less_some-requires-clause-other
less_some-requires-clause-other c =
    time_low c.args.row.now.late c.as_slice-in-Late.result.now (late_row c.args.row.now c.requires.row) c.as_slice-in-Late.ensures (c.args.clock, c.args.tran) c.time_on-in-Late.result
    c.time_on-in-Late.ensures

pub less_some-requires-in-Early-clause-time : goal.less_some-requires-in-Early-clause-time
less_some-requires-in-Early-clause-time c =
    time_low c.args.row.now.early c.as_slice-in-Early.result.now (early_row c.args.row.now c.requires.row) c.as_slice-in-Early.ensures (c.args.clock, c.args.tran) c.time_on-in-Early.result
    c.time_on-in-Early.ensures

pub less_some-requires-in-Early-clause-other : goal.less_some-requires-in-Early-clause-other
less_some-requires-in-Early-clause-other c =
    time_low c.args.back.now.early c.as_slice-in-Early-2.result.now (early_back c.args.back.now c.requires.back) c.as_slice-in-Early-2.ensures (c.args.clock, c.args.tran)
    c.time_on-in-Early-2.result c.time_on-in-Early-2.ensures
