use Rattle.std.proofs.Common.{◌∙◌, ◌++◌, map, filter, ap}
use Rattle.pin_graph.specs.Networks.{is_comb_arc}
use Rattle.pin_graph.specs.Pulls.{arcs_from, to_pin}
use Rattle.pin_graph.proofs.PullLaws.{heads_put}
use Rattle.pin_graph.proofs.pulls.network_heads.Goals as goal

pub returns : goal.returns
returns c = λ n.
    heads_put c.args.store.now c.args.pin n c.in_ok-pins.pins c.add_heads.new.pins (filter is_comb_arc (arcs_from c.args.store.now c.args.pin)) c.in_ok-pins.ensures
    (c.in_ok-add_heads.ensures ∙ ap (λ arcs. c.in_ok-pins.pins ++ map to_pin arcs) (c.as_slice-2.ensures ∙ c.in_ok-comb.ensures ∙ ap (filter is_comb_arc) (c.as_slice.ensures ∙ c.in_ok-arcs.ensures)))
