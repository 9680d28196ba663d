use Rattle.std.proofs.Common.{◌∙◌}
use Rattle.netlist_store.proofs.RcLaws.{numbers_apart}
use Rattle.netlist_store.proofs.building.rc_roll.Goals as goal

pub roll_of-requires : goal.roll_of-requires
roll_of-requires c =
    numbers_apart c.args.nets.now c.args.rcs.now c.as_slice.result.now c.requires (c.as_slice.ensures ∙ c.in_ok-numbers.ensures)
