use Rattle.std.proofs.Common.{◌≡◌, pos, false, Some, ap, sym, ◌∙◌}
use Rattle.std.specs.Prelude.{option_map}
use Rattle.sta_units.specs.Numbers.{is_within}
use Rattle.timing_defs.specs.Wires.{net_load}
use Rattle.netlist_store.specs.Numbering.{name_at}
use Rattle.node_rows.proofs.LoadForms.{bare_told, within_told}
use Rattle.node_rows.proofs.ResultLaws.{ok_more, err_more}
use Rattle.node_rows.proofs.loads.bare_load.Goals as goal

pub returns-clause-value : goal.returns-clause-value
returns-clause-value c =
    let told = bare_told c.args.store.now c.laws.ensures.numbered c.laws.ensures.linked c.args.split c.args.net c.requires.net c.pins_on.result.now c.pins_on.ensures.counts c.requires.bare
    c.pins_load.result c.pins_load.ensures.sum in
    ok_more c.in_range.result (λ v. v ≡ pos c.pins_load.result) (λ v. option_map (net_load c.args.store.now.design c.args.split) (name_at c.args.store.now.nets c.args.net) ≡ Some v)
    (λ v e. told ∙ ap Some (sym e)) c.in_range.ensures.value

pub returns-clause-err : goal.returns-clause-err
returns-clause-err c =
    let told = bare_told c.args.store.now c.laws.ensures.numbered c.laws.ensures.linked c.args.split c.args.net c.requires.net c.pins_on.result.now c.pins_on.ensures.counts c.requires.bare
    c.pins_load.result c.pins_load.ensures.sum in
    err_more c.in_range.result (λ _. is_within (pos c.pins_load.result) ≡ false)
    (λ _. option_map (λ name. is_within (net_load c.args.store.now.design c.args.split name)) (name_at c.args.store.now.nets c.args.net) ≡ Some false)
    (λ _ wrong. within_told c.args.store.now.design c.args.split (name_at c.args.store.now.nets c.args.net) (pos c.pins_load.result) told wrong) c.in_range.ensures.err
