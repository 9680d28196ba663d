use Rattle.std.proofs.Common.{List, ℕ, sym, subst}
use Rattle.std.specs.Prelude.{All}
use denote.Ref.{Bor}
use Rattle.net_reports.specs.Sinks.{IsSinkName}
use Rattle.net_reports.proofs.NetLaws.{each_sink, sinks_told}
use Rattle.net_reports.proofs.sinks.sinks_of.Goals as goal

pub sinks_named-requires-clause-sinks : goal.sinks_named-requires-clause-sinks
sinks_named-requires-clause-sinks c =
    subst (λ (names : List (Bor (List ℕ))). All (λ pin. IsSinkName c.args.setting.now.store.now.design c.args.net.now pin.now) names) (sym c.as_slice.ensures.value)
    (each_sink c.args.setting.now.store.now.design c.args.net.now c.in_ok-names.names.items c.in_ok-names.ensures)

pub returns : goal.returns
returns c =
    sinks_told c.args.setting.now.store.now c.laws.ensures.numbered c.laws.ensures.linked c.args.net.now c.sinks_named.result c.in_ok-names.names.items c.as_slice.result.now
    c.as_slice.ensures.value c.in_ok-names.ensures c.sinks_named.ensures
