use Rattle.std.proofs.Common.{List, sym, ap, ◌∙◌}
use Rattle.timing_defs.specs.declared.edge_times.EdgeTime.{EdgeTime}
use Rattle.timing_defs.specs.RowTimes.{time_on, times_in}
use Rattle.timing_defs.proofs.Members.{some_is}
use Rattle.timed_paths.proofs.CaptureLaws.{time_within}
use Rattle.timed_paths.proofs.captures.arrival_at.Goals as goal

pub returns-clause-within : goal.returns-clause-within
returns-clause-within g c =
    time_within c.args.sources.now.graph.now c.args.sources.now.store.now c.requires.sources.graph c.laws.ensures.numbered c.laws.ensures.linked c.laws-2.ensures
    c.requires.sources.none c.args.split (c.args.clock, c.args.tran) c.args.node c.time_on.result
    (c.time_on.ensures ∙ ap (λ (xs : List EdgeTime). time_on xs (c.args.clock, c.args.tran))
    (c.times_in.ensures ∙ ap (times_in c.args.split) (some_is (sym c.row.ensures ∙ c.requires.sources.told.row c.args.node c.requires.node))))
