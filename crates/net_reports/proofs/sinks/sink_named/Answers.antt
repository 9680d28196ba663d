use Rattle.std.proofs.Common.{sym, ◌∙◌}
use Rattle.store_pins.proofs.PinLaws.{told_at}
use Rattle.net_reports.proofs.NetLaws.{sink_numbered}
use Rattle.net_reports.proofs.sinks.sink_named.Goals as goal

pub sink_at-requires-clause-number : goal.sink_at-requires-clause-number
sink_at-requires-clause-number c = told_at c.args.setting.now.store.now.pins c.args.pin.now c.in-Some.number (sym c.pin.ensures ∙ c.in-Some.is)

pub unreachable-requires : goal.unreachable-requires
unreachable-requires c =
    sink_numbered c.args.setting.now.store.now c.laws.ensures.numbered c.laws.ensures.linked c.args.net.now c.args.pin.now c.requires.sink (sym c.pin.ensures ∙ c.in-None.is)
