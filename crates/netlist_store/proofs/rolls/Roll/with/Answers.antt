use Rattle.netlist_store.proofs.OrderLaws.{comes, comes_last}
use Rattle.netlist_store.proofs.rolls.Roll.with.Goals as goal

pub invariant_of-result : goal.invariant_of-result
invariant_of-result c =
    comes c.self.inside.order c.self.inside.places c.self.invariant c.args.self c.self.view_is c.args.number c.in_ok-places.places c.push.new.self c.len-place.result
    c.requires c.len-place.ensures c.in_ok-push.ensures.ok c.in_ok-places.ensures.placed
    c.in_ok-places.ensures.kept

pub returns : goal.returns
returns c =
    comes_last c.self.inside.order c.self.inside.places c.self.invariant c.args.self c.self.view_is c.args.number c.push.new.self c.in_ok-push.ensures.ok
