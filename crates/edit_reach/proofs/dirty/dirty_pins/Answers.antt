use Rattle.std.proofs.Common.{[], ◌++◌, ap, ◌∙◌}
use Rattle.std.specs.Prelude.{nat_eq}
use Rattle.std.specs.List.{filter_map, flat_map}
use Rattle.std.proofs.lemmas.Result.{IfOk-weaker}
use Rattle.indexmap.specs.IndexSet.{insert_all}
use Rattle.edit_reach.specs.Besides.{tested_under, port_under, inst_pins_at}
use Rattle.edit_reach.proofs.Beside.{all_beside}
use Rattle.edit_reach.proofs.dirty.dirty_pins.Goals as goal

pub returns : goal.returns
returns c =
    let s = c.args.store.now in
    let insts = insert_all nat_eq [] (filter_map (tested_under s) c.args.nodes.now) in
    IfOk-weaker c.number_set.result _ _
    (λ dirty put.
    all_beside s c.laws.ensures.numbered c.laws.ensures.linked c.args.seeds.now c.args.nodes.now insts c.add_tested_pins.new.pins dirty.keys
    (λ k. insts)
    (c.in_ok-add_tested_pins.ensures ∙ (λ k. (c.in_ok-add_ports.ensures ∙ ap (λ xs. xs ++ filter_map (port_under s) c.args.nodes.now) c.in_ok-pins.ensures) k ++ flat_map (inst_pins_at s) insts))
    (put ∙ ap (insert_all nat_eq []) c.as_slice.ensures))
    c.number_set.ensures
