use Rattle.std.proofs.Common.{sym, ap, ◌∙◌}
use Rattle.std.specs.List.{list_any}
use Rattle.affected_cone.specs.Bounds.{is_other_reached}
use Rattle.affected_cone.proofs.BoundLaws.{alone, port_alone, own_lows, not_true}
use Rattle.affected_cone.proofs.bounds.is_alone.Goals as goal

pub any_reached-reached-requires : goal.any_reached-reached-requires
any_reached-reached-requires c =
    own_lows c.args.search.now.store.now c.in-Some.inst c.pin_bound.result c.pin_bound.ensures.bound c.pin_bound.ensures.below c.as_slice.result.now
    (c.as_slice.ensures ∙ c.in_ok-pins-in-Some.ensures)

pub returns-in-None : goal.returns-in-None
returns-in-None c = λ yes.
    port_alone c.args.search.now.store.now c.laws.ensures.numbered c.laws.ensures.linked c.args.carried.now.nodes.keys c.args.pin (sym c.inst_of.ensures.value ∙ c.in-None.is)

pub returns-in_ok-pins-in-Some : goal.returns-in_ok-pins-in-Some
returns-in_ok-pins-in-Some c = λ yes.
    alone c.args.search.now.store.now c.laws.ensures.numbered c.laws.ensures.linked c.args.carried.now.nodes.keys c.args.pin c.in-Some.inst (sym c.inst_of.ensures.value ∙ c.in-Some.is)
    (sym (c.any_reached-reached.ensures ∙ ap (list_any (is_other_reached c.args.carried.now.nodes.keys c.args.pin)) (c.as_slice.ensures ∙ c.in_ok-pins-in-Some.ensures)) ∙ not_true c.any_reached-reached.result yes)
