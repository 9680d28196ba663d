use Rattle.std.proofs.Common.{◌∙◌, ap, sym}
use Rattle.std.specs.Prelude.{nat_eq}
use Rattle.std.specs.List.{list_any}
use Rattle.pin_graph.proofs.PullLaws.{sinks_are, no_sinks, ok_sinks}
use Rattle.pin_graph.proofs.pulls.sinks_of.Goals as goal

pub returns-in-Some : goal.returns-in-Some
returns-in-Some c =
    ok_sinks c.args.store.now c.args.pin c.pins_on.result.now c.sinks_among.result c.sinks_among.ensures
    (sinks_are c.args.store.now c.laws.ensures.numbered c.laws.ensures.linked c.args.pin c.in-Some.net c.pins_on.result.now
    (sym c.in-Some.ensures) c.pins_on.ensures.on c.pins_on.ensures.all)

pub returns-in-None : goal.returns-in-None
returns-in-None c = λ sink.
    ap (list_any (nat_eq sink)) (c.new.ensures ∙ sym (no_sinks c.args.store.now c.laws.ensures.numbered c.laws.ensures.linked c.args.pin (sym c.in-None.ensures)))
