use Rattle.std.proofs.Common.{ap, ◌∙◌}
use Rattle.std.specs.Prelude.{nat_eq}
use Rattle.std.specs.List.{list_any}
use Rattle.netlist_store.proofs.PlaceLaws.{first_new}
use Rattle.netlist_store.proofs.rolls.first_roll.Goals as goal

pub with-requires : goal.with-requires
with-requires c = ap (list_any (nat_eq c.loop-number.number)) c.loop-number.invariant ∙ first_new c.loop-number.number
