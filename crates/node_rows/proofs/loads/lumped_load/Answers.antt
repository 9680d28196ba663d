use Rattle.std.proofs.Common.{◌≡◌, ◌+◌, pos, false, Some, ap, sym, ◌∙◌}
use Rattle.std.specs.Prelude.{option_map}
use Rattle.std.specs.List.{list_all}
use Rattle.timing_defs.specs.Documents.{is_amount}
use Rattle.sta_units.specs.Numbers.{is_within}
use Rattle.timing_defs.specs.declared.parasitics.RcCap.{RcCap}
use Rattle.timing_defs.specs.Wires.{sum_of, net_load}
use Rattle.netlist_store.specs.Numbering.{name_at}
use Rattle.node_rows.proofs.LoadForms.{lumped_told, caps_fine, within_told}
use Rattle.node_rows.proofs.ResultLaws.{ok_more, err_more}
use Rattle.node_rows.proofs.loads.lumped_load.Goals as goal

pub caps_load-caps-requires : goal.caps_load-caps-requires
caps_load-caps-requires c =
    ap (list_all (λ (x : RcCap). is_amount x.cap.0)) c.as_slice.ensures
    ∙ caps_fine c.args.store.now c.laws.ensures.numbered c.laws.ensures.linked c.args.split c.args.net c.requires.net c.pins_on.result.now c.pins_on.ensures.counts c.args.rc.now c.requires.rc

pub returns-clause-value : goal.returns-clause-value
returns-clause-value c =
    let told = lumped_told c.args.store.now c.laws.ensures.numbered c.laws.ensures.linked c.args.split c.args.net c.requires.net c.pins_on.result.now c.pins_on.ensures.counts
    c.args.rc.now c.requires.rc c.from.result c.caps_load-caps.result c.pins_load-pins.result (c.from.ensures ∙ c.amount.ensures) (c.caps_load-caps.ensures.sum ∙ ap (sum_of (λ (x : RcCap). x.cap.0)) c.as_slice.ensures) c.pins_load-pins.ensures.sum in
    ok_more c.in_range.result (λ v. v ≡ pos (c.from.result + c.caps_load-caps.result + c.pins_load-pins.result)) (λ v. option_map (net_load c.args.store.now.design c.args.split) (name_at c.args.store.now.nets c.args.net) ≡ Some v)
    (λ v e. told ∙ ap Some (sym e)) c.in_range.ensures.value

pub returns-clause-err : goal.returns-clause-err
returns-clause-err c =
    let told = lumped_told c.args.store.now c.laws.ensures.numbered c.laws.ensures.linked c.args.split c.args.net c.requires.net c.pins_on.result.now c.pins_on.ensures.counts
    c.args.rc.now c.requires.rc c.from.result c.caps_load-caps.result c.pins_load-pins.result (c.from.ensures ∙ c.amount.ensures) (c.caps_load-caps.ensures.sum ∙ ap (sum_of (λ (x : RcCap). x.cap.0)) c.as_slice.ensures) c.pins_load-pins.ensures.sum in
    err_more c.in_range.result (λ _. is_within (pos (c.from.result + c.caps_load-caps.result + c.pins_load-pins.result)) ≡ false)
    (λ _. option_map (λ name. is_within (net_load c.args.store.now.design c.args.split name)) (name_at c.args.store.now.nets c.args.net) ≡ Some false)
    (λ _ wrong. within_told c.args.store.now.design c.args.split (name_at c.args.store.now.nets c.args.net) (pos (c.from.result + c.caps_load-caps.result + c.pins_load-pins.result)) told wrong) c.in_range.ensures.err
