use Rattle.std.proofs.Common.{rules, ◌<◌}
use Rattle.level_cone.proofs.WaitingLaws.{no_lists, lists_rest, turn_of}
use Rattle.level_cone.proofs.queues.LevelQueue.take_level.Goals as goal

pub returns-in_default-clause-none : goal.returns-in_default-clause-none
returns-in_default-clause-none c = rw (← c.self.view_is) (no_lists c.pop_first.result c.self.inside.lists.entries c.pop_first.ensures.variant c.in_default.is)

pub invariant_of-self-2 : goal.invariant_of-self-2
invariant_of-self-2 c =
    lists_rest c.in-Some.level c.in-Some.nodes c.self.inside.lists.entries c.pop_first.new.self.entries c.in-Some.ensures.removal c.self.invariant

pub returns-clause-some : goal.returns-clause-some
returns-clause-some c =
    let fits : c.in-Some.level < 4294967296 = search rules in
    rw (← c.self.view_is) (turn_of c.in-Some.level c.in-Some.nodes c.distinct.result c.self.inside.lists.entries c.pop_first.new.self.entries
    fits c.in-Some.ensures.removal c.self.invariant c.in-Some.ensures.all_above c.distinct.ensures)
