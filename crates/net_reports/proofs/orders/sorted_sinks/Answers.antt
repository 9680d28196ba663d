use Rattle.net_reports.proofs.SinkLaws.{sinks_sorted}
use Rattle.net_reports.proofs.orders.sorted_sinks.Goals as goal

pub returns : goal.returns
returns c =
    sinks_sorted c.args.store.now c.laws.ensures.numbered c.laws.ensures.linked c.args.number c.args.net.now c.requires c.pins_on.result.now c.pins_on.ensures.counts
    c.in_ok-names.names.items c.sort_unstable.new.self.items c.pins_on.ensures.numbers c.in_ok-names.ensures c.sort_unstable.ensures.permutation c.sort_unstable.ensures.sorted
