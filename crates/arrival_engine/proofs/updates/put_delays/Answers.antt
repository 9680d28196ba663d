use Rattle.std.proofs.Common.{sym, ◌∙◌}
use Rattle.arrival_engine.proofs.TurnLaws.{set_same, delays_are}
use Rattle.arrival_engine.proofs.updates.put_delays.Goals as goal

pub returns-then-same_delays : goal.returns-then-same_delays
returns-then-same_delays c =
    let same = delays_are c.of_node.result.now c.as_slice.result.now (sym c.same_delays.ensures ∙ c.if-same_delays.true) in
    let found = c.as_slice.ensures ∙ c.get.ensures in
    set_same c.args.delays.now c.args.node _ c.args.found (sym c.of_node.ensures ∙ same ∙ found)
