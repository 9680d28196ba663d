use Rattle.path_search.proofs.TreeLaws.{some_of}
use Rattle.timed_paths.specs.TestNumbers.{IsKnownTest}
use Rattle.timed_paths.proofs.TestLaws.{clock_low, clock_there}
use Rattle.timed_paths.proofs.choosing.first_of.Goals as goal

pub is_not_after-requires-clause-a : goal.is_not_after-requires-clause-a
is_not_after-requires-clause-a c =
    clock_low c.args.store.now c.laws.ensures.numbered c.laws.ensures.linked c.in-Some.best
    (some_of c.args.best c.in-Some.best (IsKnownTest c.args.store.now) c.in-Some.is c.requires.best)

pub is_not_after-requires-clause-b : goal.is_not_after-requires-clause-b
is_not_after-requires-clause-b c = clock_low c.args.store.now c.laws.ensures.numbered c.laws.ensures.linked c.args.next c.requires.next

pub is_not_after-requires-clause-a_there : goal.is_not_after-requires-clause-a_there
is_not_after-requires-clause-a_there c =
    clock_there c.args.store.now c.laws.ensures.numbered c.laws.ensures.linked c.in-Some.best
    (some_of c.args.best c.in-Some.best (IsKnownTest c.args.store.now) c.in-Some.is c.requires.best)

pub is_not_after-requires-clause-b_there : goal.is_not_after-requires-clause-b_there
is_not_after-requires-clause-b_there c = clock_there c.args.store.now c.laws.ensures.numbered c.laws.ensures.linked c.args.next c.requires.next
