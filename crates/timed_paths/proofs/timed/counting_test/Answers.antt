use Rattle.std.proofs.Common.{List, sym, subst}
use Rattle.std.specs.Prelude.{All}
use Rattle.node_tests.specs.declared.node_test.NodeTest.{NodeTest}
use Rattle.timed_paths.specs.TestNumbers.{IsKnownTest}
use Rattle.timed_paths.proofs.ChoiceLaws.{some_gone, counting_is}
use Rattle.timed_paths.proofs.CourseLaws.{held_end}
use Rattle.timed_paths.proofs.timed.counting_test.Goals as goal

pub end_of-end-requires-clause-path : goal.end_of-end-requires-clause-path
end_of-end-requires-clause-path g c =
    held_end c.args.sources.now.store.now c.laws.ensures.numbered c.args.sources.now.kind c.args.path.now c.requires.path

pub choose-requires-clause-tests : goal.choose-requires-clause-tests
choose-requires-clause-tests g c =
    subst (λ (xs : List NodeTest). All (IsKnownTest c.args.sources.now.store.now) xs) (sym c.as_slice.ensures) c.in_ok-tests.ensures.known

pub unreachable-requires : goal.unreachable-requires
unreachable-requires g c =
    some_gone c.args.sources.now.store.now c.args.sources.now.kind c.args.path.now c.requires.path c.args.course.now c.requires.course c.end_of-end.result c.end_of-end.ensures.end
    c.in_ok-tests.tests c.in_ok-tests.ensures.tests c.as_slice.result.now c.as_slice.ensures _ c.in_ok-found.ensures c.in-None.is

pub returns : goal.returns
returns g c =
    counting_is c.args.sources.now.store.now c.args.sources.now.kind c.args.path.now c.requires.path c.args.course.now c.requires.course c.end_of-end.result c.end_of-end.ensures.end
    c.in_ok-tests.tests c.in_ok-tests.ensures.tests c.in_ok-tests.ensures.known c.as_slice.result.now c.as_slice.ensures _ c.in_ok-found.ensures c.in-Some.test c.in-Some.is
