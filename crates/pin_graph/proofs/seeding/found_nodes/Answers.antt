use Rattle.std.proofs.Common.{◌∙◌, ◌++◌, ap}
use Rattle.std.specs.Prelude.{nat_eq}
use Rattle.std.specs.List.{list_any, flat_map}
use Rattle.pin_graph.specs.Seeds.{numbers_of, is_touched_at, is_moved}
use Rattle.pin_graph.proofs.SeedLaws.{found_as}
use Rattle.pin_graph.proofs.seeding.found_nodes.Goals as goal

pub changed_nodes-requires-clause-pins : goal.changed_nodes-requires-clause-pins
changed_nodes-requires-clause-pins c = λ pin.
    ap (list_any (nat_eq pin)) c.as_slice-2.ensures ∙ c.in_ok-pins.ensures.each pin
    ∙ ap (λ s. is_touched_at s (record { insts = c.args.touched.now.insts; nets = c.args.touched.now.nets }) pin) c.store.ensures

pub returns : goal.returns
returns c =
    found_as c.args.graph.now.stored (record { insts = c.args.touched.now.insts; nets = c.args.touched.now.nets }) c.in_ok-pins.pins c.in_ok-nodes.nodes c.add_all.new.numbers
    c.in_ok-turned.turned (is_moved c.args.base.now c.args.graph.now (record { insts = c.args.touched.now.insts; nets = c.args.touched.now.nets }))
    (λ pin. c.in_ok-pins.ensures.each pin ∙ ap (λ s. is_touched_at s (record { insts = c.args.touched.now.insts; nets = c.args.touched.now.nets }) pin) c.store.ensures)
    (c.in_ok-nodes.ensures ∙ ap (flat_map numbers_of) c.as_slice.ensures) c.in_ok-turned.ensures
    (c.in_ok-add_all.ensures ∙ ap (λ xs. c.in_ok-nodes.nodes ++ xs) c.as_slice-3.ensures)
