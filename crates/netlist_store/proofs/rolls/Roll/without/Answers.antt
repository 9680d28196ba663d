use Rattle.netlist_store.proofs.OrderLaws.{known, inside, goes, goes_placed}
use Rattle.netlist_store.proofs.rolls.Roll.without.Goals as goal

pub get-place-requires : goal.get-place-requires
get-place-requires c =
    known c.self.inside.order c.self.inside.places c.self.invariant c.args.self c.self.view_is c.args.number c.requires

pub set-requires : goal.set-requires
set-requires c =
    inside c.self.inside.order c.self.inside.places c.self.invariant c.args.self c.self.view_is c.args.number c.get-place.result.now c.requires c.get-place.ensures

pub invariant_of-result : goal.invariant_of-result
invariant_of-result c =
    goes_placed c.self.inside.order c.self.inside.places c.self.invariant c.args.self c.self.view_is c.args.number c.set.new.self c.get-place.result.now c.in_ok-set.ensures.ok
    (inside c.self.inside.order c.self.inside.places c.self.invariant c.args.self c.self.view_is c.args.number c.get-place.result.now c.requires c.get-place.ensures)

pub returns : goal.returns
returns c =
    goes c.self.inside.order c.self.inside.places c.self.invariant c.args.self c.self.view_is c.args.number c.set.new.self c.get-place.result.now c.requires c.get-place.ensures
    c.in_ok-set.ensures.ok
