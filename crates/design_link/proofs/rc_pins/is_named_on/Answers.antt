use Rattle.std.proofs.Common.{◌∙◌, ap, sym}
use Rattle.std.specs.Prelude.{is_some}
use Rattle.store_pins.proofs.PinLaws.{told_at}
use Rattle.design_link.proofs.NetPinLaws.{pins_on_net}
use Rattle.design_link.proofs.RcPinLaws.{named_among, named_on, not_named}
use Rattle.design_link.proofs.rc_pins.is_named_on.Goals as goal

pub is_on-requires : goal.is_on-requires
is_on-requires c = ap is_some (told_at c.args.store.now.pins c.args.name.now c.in-Some.pin (sym c.in-Some.ensures))

pub returns-then-pins-le-FEW : goal.returns-then-pins-le-FEW
returns-then-pins-le-FEW c = λ word here.
    c.has_name.ensures
    ∙ named_among c.args.store.now c.laws.ensures.numbered c.laws.ensures.linked c.args.net c.pins_on-pins.result.now c.args.name.now word
    (pins_on_net c.args.store.now c.args.net c.pins_on-pins.result.now c.pins_on-pins.ensures.counts c.pins_on-pins.ensures.numbers
    c.pins_on-pins.ensures.on c.pins_on-pins.ensures.all) here

pub returns-in-Some : goal.returns-in-Some
returns-in-Some c = λ word here.
    c.is_on.ensures ∙ named_on c.args.store.now c.laws.ensures.numbered c.laws.ensures.linked c.args.net c.in-Some.pin c.args.name.now word here (sym c.in-Some.ensures)

pub returns-in-None : goal.returns-in-None
returns-in-None c = λ word here. not_named c.args.store.now c.laws.ensures.numbered c.laws.ensures.linked c.args.name.now word (sym c.in-None.ensures)
