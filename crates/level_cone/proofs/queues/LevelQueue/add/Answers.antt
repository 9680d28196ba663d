use Rattle.std.proofs.Common.{arith, ap, ◌∙◌, sym}
use Rattle.level_cone.specs.Waiting.{listed_keys}
use Rattle.level_cone.proofs.WaitingLaws.{written_lists, written_ok, written_err, opened_lists, opened_ok}
use Rattle.level_cone.proofs.queues.LevelQueue.add.Goals as goal

pub invariant_of-self : goal.invariant_of-self
invariant_of-self c =
    written_lists c.args.level c.args.node c.in-Some.nodes.now c.push.new.self c.self.inside.lists.entries (c.get_mut.follows.lender c.push.new.self).entries
    (omega (arith, c.ranges.node)) (sym c.in-Some.ensures.value) (c.get_mut.follows.holds c.push.new.self).0 c.push.result c.push.ensures.ok c.push.ensures.err c.self.invariant

pub invariant_of-self-in-None : goal.invariant_of-self-in-None
invariant_of-self-in-None c =
    opened_lists c.args.level c.args.node c.in_ok-list_of-in-None.field-0 c.self.inside.lists.entries c.get_mut.follows.lender-at-none.entries c.put_list.new.lists.entries
    (omega (arith, c.ranges.node)) (sym c.in-None.ensures.value) (ap (λ m. m.entries) c.get_mut.follows.holds-at-none) c.in_ok-list_of-in-None.ensures c.put_list.result c.put_list.ensures.ok c.put_list.ensures.err c.self.invariant

pub returns-in-Some-clause-ok : goal.returns-in-Some-clause-ok
returns-in-Some-clause-ok c =
    rw (← c.self.view_is) (written_ok c.args.level c.args.node c.in-Some.nodes.now c.push.new.self c.self.inside.lists.entries (c.get_mut.follows.lender c.push.new.self).entries
    (omega (arith, c.ranges.node)) (sym c.in-Some.ensures.value) (c.get_mut.follows.holds c.push.new.self).0 c.push.result c.push.ensures.ok)

pub returns-in-Some-clause-err : goal.returns-in-Some-clause-err
returns-in-Some-clause-err c =
    rw (← c.self.view_is) (written_err c.args.level c.args.node c.in-Some.nodes.now c.push.new.self c.self.inside.lists.entries (c.get_mut.follows.lender c.push.new.self).entries
    (omega (arith, c.ranges.node)) (sym c.in-Some.ensures.value) (c.get_mut.follows.holds c.push.new.self).0 c.push.result c.push.ensures.err)

pub returns-in_ok-list_of-in-None-clause-ok : goal.returns-in_ok-list_of-in-None-clause-ok
returns-in_ok-list_of-in-None-clause-ok c =
    rw (← c.self.view_is) (opened_ok c.args.level c.args.node c.in_ok-list_of-in-None.field-0 c.self.inside.lists.entries c.get_mut.follows.lender-at-none.entries c.put_list.new.lists.entries
    (omega (arith, c.ranges.node)) (sym c.in-None.ensures.value) (ap (λ m. m.entries) c.get_mut.follows.holds-at-none) c.in_ok-list_of-in-None.ensures c.put_list.result c.put_list.ensures.ok)
