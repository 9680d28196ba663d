use Rattle.std.proofs.Common.{arith, ap, ◌∙◌, ◌<◌, length, map}
use Rattle.std.proofs.lemmas.Result.{on_ok_weaker}
use Rattle.netlist_store.specs.Slots.{slot_name}
use Rattle.netlist_store.proofs.NumberLaws.{slots_set}
use Rattle.netlist_store.proofs.numberings.put_slot.Goals as goal

pub returns-then-number-len : goal.returns-then-number-len
returns-then-number-len c =
    let low : c.args.number < length c.args.slots.now = omega arith in
    on_ok_weaker c.set.result (λ h. ap (map slot_name) h ∙ slots_set c.args.slots.now c.args.number c.args.name low) c.set.ensures.ok
