use Rattle.std.proofs.Common.{rules, arith, ◌≤◌, ◌*◌, ◌/◌, ◌-◌, length}
use Rattle.std.proofs.Math.Nat.{div-add-mod}
use Rattle.std.proofs.lemmas.Nat.{mul-le}
use Rattle.cow_table.proofs.writes.last_part.Goals as goal

pub overflow_mul-places : goal.overflow_mul-places
overflow_mul-places c =
    let share = length c.args.places.now / c.args.all in
    let most : share * (c.args.parts - 1) ≤ share * c.args.all = mul-le share (c.args.parts - 1) share c.args.all (omega arith) (omega (arith, c.requires.part)) in
    let whole = div-add-mod (length c.args.places.now) c.args.all in
    search (rules, most, whole)
