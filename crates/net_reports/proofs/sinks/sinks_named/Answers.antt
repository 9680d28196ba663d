use Rattle.std.proofs.Common.{List, ℕ, sym, subst}
use Rattle.std.proofs.lemmas.List.Elements.{All-get_or}
use denote.Ref.{Bor}
use Rattle.net_reports.specs.Sinks.{IsSinkName}
use Rattle.net_reports.proofs.sinks.sinks_named.Goals as goal

pub sink_named-requires-clause-sink : goal.sink_named-requires-clause-sink
sink_named-requires-clause-sink c =
    subst (λ (x : Bor (List ℕ)). IsSinkName c.args.setting.now.store.now.design c.args.net.now x.now) (sym c.pin-item.is)
    (All-get_or (λ (x : Bor (List ℕ)). IsSinkName c.args.setting.now.store.now.design c.args.net.now x.now) c.args.pins.now c.loop-pin.pin-index c.pin-item.result
    c.loop-pin-test.true c.requires.sinks)
