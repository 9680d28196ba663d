use Rattle.std.proofs.Common.{Some, None, ap, arith, get_or, ◌∙◌, ◌≡◌}
use Rattle.std.specs.Prelude.{true}
use Rattle.std.proofs.lemmas.List.Elements.{All-get_or}
use Rattle.netlist_store.specs.Numbering.{is_on_number}
use Rattle.store_pins.proofs.DriverLaws.{driver_is, no_driver, driver_numbered}
use Rattle.store_pins.proofs.pins.net_driver.Goals as goal

pub returns-then-drives-clause-at : goal.returns-then-drives-clause-at
returns-then-drives-clause-at c =
    driver_is c.args.store.now c.laws.ensures.numbered c.laws.ensures.linked c.requires.fault c.args.net (get_or c.pins_on-pin-items.result.now c.loop-pin.pin-index 0)
    (All-get_or (λ pin. is_on_number c.args.store.now c.args.net pin ≡ true) c.pins_on-pin-items.result.now c.loop-pin.pin-index 0 c.loop-pin-test.true
    c.pins_on-pin-items.ensures.on) (c.drives.ensures ∙ ap Some c.if-drives.true)

pub returns-then-drives-clause-driver : goal.returns-then-drives-clause-driver
returns-then-drives-clause-driver c =
    driver_numbered c.args.store.now c.laws.ensures.numbered c.laws.ensures.linked c.args.net (Some (get_or c.pins_on-pin-items.result.now c.loop-pin.pin-index 0))
    (driver_is c.args.store.now c.laws.ensures.numbered c.laws.ensures.linked c.requires.fault c.args.net (get_or c.pins_on-pin-items.result.now c.loop-pin.pin-index 0)
    (All-get_or (λ pin. is_on_number c.args.store.now c.args.net pin ≡ true) c.pins_on-pin-items.result.now c.loop-pin.pin-index 0 c.loop-pin-test.true
    c.pins_on-pin-items.ensures.on) (c.drives.ensures ∙ ap Some c.if-drives.true))

pub returns-clause-at : goal.returns-clause-at
returns-clause-at c =
    no_driver c.args.store.now c.laws.ensures.numbered c.laws.ensures.linked c.args.net c.pins_on-pin-items.result.now c.pins_on-pin-items.ensures.all
    (λ k l. c.loop-pin.invariant k (omega arith))

pub returns-clause-driver : goal.returns-clause-driver
returns-clause-driver c =
    driver_numbered c.args.store.now c.laws.ensures.numbered c.laws.ensures.linked c.args.net None
    (no_driver c.args.store.now c.laws.ensures.numbered c.laws.ensures.linked c.args.net c.pins_on-pin-items.result.now c.pins_on-pin-items.ensures.all
    (λ k l. c.loop-pin.invariant k (omega arith)))
