use Rattle.timed_paths.proofs.NumberLaws.{fanout_is}
use Rattle.timed_paths.proofs.driven.fanout_of.Goals as goal

pub returns : goal.returns
returns c =
    fanout_is c.args.store.now c.laws.ensures.numbered c.laws.ensures.linked c.args.net c.requires c.pins_on.result.now c.pins_on.ensures.counts c.count_sinks.result c.count_sinks.ensures
