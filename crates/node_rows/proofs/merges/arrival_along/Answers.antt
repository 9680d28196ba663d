use Rattle.node_rows.proofs.InstForms.{time_low}
use Rattle.node_rows.proofs.merges.arrival_along.Goals as goal

pub plus_some-requires-clause-time : goal.plus_some-requires-clause-time
plus_some-requires-clause-time c =
    time_low c.args.split c.args.node.now.row.now c.requires.row c.times_in.result.now c.times_in.ensures (c.args.clock, c.args.tran) c.time_on.result c.time_on.ensures
