use Rattle.std.proofs.Common.{Some, sym, ap, ◌∙◌}
use Rattle.store_pins.proofs.OwnNames.{own_behind, own_port}
use Rattle.store_pins.proofs.pins.own_name.Goals as goal

pub after-requires : goal.after-requires
after-requires c =
    (own_behind c.args.store.now c.laws.ensures.numbered c.laws.ensures.linked c.args.pin c.requires c.in-Some.inst c.as_bytes-name.result.now c.as_bytes.result.now
    c.in-Some.ensures.value (c.pin_name.ensures ∙ ap Some (sym c.as_bytes-name.ensures.value)) (c.inst_at.ensures.name ∙ ap Some (sym c.as_bytes.ensures.value))).0

pub returns-in-Some : goal.returns-in-Some
returns-in-Some c =
    (own_behind c.args.store.now c.laws.ensures.numbered c.laws.ensures.linked c.args.pin c.requires c.in-Some.inst c.as_bytes-name.result.now c.as_bytes.result.now
    c.in-Some.ensures.value (c.pin_name.ensures ∙ ap Some (sym c.as_bytes-name.ensures.value)) (c.inst_at.ensures.name ∙ ap Some (sym c.as_bytes.ensures.value))).1
    ∙ ap Some (sym c.after.ensures)

pub returns-in-None : goal.returns-in-None
returns-in-None c =
    own_port c.args.store.now c.laws.ensures.numbered c.laws.ensures.linked c.args.pin c.requires c.as_bytes-name.result.now c.in-None.ensures.none
    (c.pin_name.ensures ∙ ap Some (sym c.as_bytes-name.ensures.value))
