use Rattle.netlist_store.specs.Shards.{number_under}
use Rattle.netlist_store.specs.declared.numberings.Slot.TheVariants.{Waiting}
use Rattle.netlist_store.proofs.NumberLaws.{removed, removed_names, still_short}
use Rattle.netlist_store.proofs.numberings.Numbering.without_name.Goals as goal

pub invariant_of-result : goal.invariant_of-result
invariant_of-result c = (
  removed (number_under c.self.inside.numbers) (number_under c.take_name.new.numbers) c.self.inside.slots c.take_name.new.slots c.args.self c.args.number c.args.name.now
      c.self.invariant.0 c.self.view_is c.requires c.in-Ok.ensures.numbers c.in-Ok.ensures.slots,
  still_short c.self.inside.slots c.take_name.new.slots c.args.number Waiting c.in-Ok.ensures.slots c.self.invariant.1,
)

pub returns-in-Ok : goal.returns-in-Ok
returns-in-Ok c = removed_names c.self.inside.slots c.take_name.new.slots c.args.self c.args.number c.self.view_is c.in-Ok.ensures.slots
