use Rattle.timed_paths.proofs.PartLaws.{sort_none, sort_some}
use Rattle.timed_paths.proofs.parts.sort_of.Goals as goal

pub returns-in_default : goal.returns-in_default
returns-in_default c = sort_none c.args.store.now c.args.kind c.args.test.now.clock c.in_default.is

pub returns : goal.returns
returns c =
    sort_some c.args.store.now c.args.kind c.args.test.now.clock c.in-Some.clock c.in-Some.is c.requires.its.clock c.clocked_sort.result c.clocked_sort.ensures
