use Rattle.std.proofs.Common.{ap, ◌∙◌, get_or}
use Rattle.std.specs.Prelude.{nat_eq}
use Rattle.std.specs.List.{list_any}
use Rattle.netlist_store.proofs.RcLaws.{next_number_at}
use Rattle.netlist_store.proofs.rolls.roll_of.Goals as goal

pub with-requires : goal.with-requires
with-requires c =
    ap (list_any (nat_eq (get_or c.args.numbers.now c.loop-number.number-index 0))) c.loop-number.invariant
    ∙ next_number_at c.args.numbers.now c.loop-number.number-index c.requires c.loop-number-test.true
