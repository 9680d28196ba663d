use Rattle.std.proofs.Common.{◌≡◌, map, take}
use Rattle.net_reports.specs.Sinks.{report_under}
use Rattle.net_reports.proofs.sinks.sinks_named.Given as goal

abbrev pub invariant-loop-pin : goal.invariant-loop-pin
invariant-loop-pin l = l.sinks ≡ map (λ pin. report_under l.setting.store.now.design l.net pin.now) (take l.pin-index l.pins)
